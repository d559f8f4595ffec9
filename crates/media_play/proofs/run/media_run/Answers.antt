use Rattle.media_laws.specs.Keys.{sealing_of}
use Rattle.media_play.proofs.Ending.{answered, used_up, each_of}
use Rattle.media_play.proofs.run.media_run.Goals as goal

pub returns-clause-steps : goal.returns-clause-steps
returns-clause-steps g c = answered (sealing_of g.C.SrtpCipher.meaning c.args.setup.now) c.args.setup.now c.play_all.result c.play_all.ensures.holds

pub returns-clause-used_up : goal.returns-clause-used_up
returns-clause-used_up g c = used_up (sealing_of g.C.SrtpCipher.meaning c.args.setup.now) c.args.setup.now c.play_all.result c.play_all.ensures.holds

pub returns-clause-seals : goal.returns-clause-seals
returns-clause-seals g c =
    each_of (sealing_of g.C.SrtpCipher.meaning c.args.setup.now) c.args.setup.now (λ entries h. h.seals) (λ side counter entries h. h.front.seals) c.play_all.result c.play_all.ensures.holds

pub returns-clause-nonces : goal.returns-clause-nonces
returns-clause-nonces g c =
    each_of (sealing_of g.C.SrtpCipher.meaning c.args.setup.now) c.args.setup.now (λ entries h. h.nonces) (λ side counter entries h. h.front.nonces) c.play_all.result c.play_all.ensures.holds

pub returns-clause-sendings : goal.returns-clause-sendings
returns-clause-sendings g c =
    each_of (sealing_of g.C.SrtpCipher.meaning c.args.setup.now) c.args.setup.now (λ entries h. h.sendings) (λ side counter entries h. h.front.sendings) c.play_all.result c.play_all.ensures.holds

pub returns-clause-yields : goal.returns-clause-yields
returns-clause-yields g c =
    each_of (sealing_of g.C.SrtpCipher.meaning c.args.setup.now) c.args.setup.now (λ entries h. h.yields) (λ side counter entries h. h.front.yields) c.play_all.result c.play_all.ensures.holds

pub returns-clause-once : goal.returns-clause-once
returns-clause-once g c =
    each_of (sealing_of g.C.SrtpCipher.meaning c.args.setup.now) c.args.setup.now (λ entries h. h.once) (λ side counter entries h. h.front.once) c.play_all.result c.play_all.ensures.holds

pub returns-clause-exactly : goal.returns-clause-exactly
returns-clause-exactly g c =
    each_of (sealing_of g.C.SrtpCipher.meaning c.args.setup.now) c.args.setup.now (λ entries h. h.exactly) (λ side counter entries h. h.exactly) c.play_all.result c.play_all.ensures.holds
