use Rattle.std.proofs.Common.{◌≡◌, false, sym, ap, ◌∙◌}
use Rattle.std.specs.Prelude.{◌==◌, if◌then◌else◌}
use Rattle.stream_core.specs.RxRecord.{fresh_number}
use Rattle.stream_core.specs.StreamsRecord.{accepted}
use Rattle.session_core.proofs.receiving.accepts.Goals as goal

pub returns-in-Some-accepts-clause-number : goal.returns-in-Some-accepts-clause-number
returns-in-Some-accepts-clause-number g c = λ r p h stands.
    let other : (c.args.ssrc == 0) ≡ false = sym c.is_probe.ensures ∙ c.if-is_probe.false in
    c.in-Some-accepts.ensures.number r h
    ∙ ap (λ b. if b then fresh_number c.args.remembered.now p c.args.low else accepted c.args.remembered.now r.rx c.args.ssrc c.args.low) (sym other)

pub returns-in-None-accepts-clause-number : goal.returns-in-None-accepts-clause-number
returns-in-None-accepts-clause-number g c = λ r p h stands.
    let other : (c.args.ssrc == 0) ≡ false = sym c.is_probe.ensures ∙ c.if-is_probe.false in
    c.in-None-accepts.ensures.number r h
    ∙ ap (λ b. if b then fresh_number c.args.remembered.now p c.args.low else accepted c.args.remembered.now r.rx c.args.ssrc c.args.low) (sym other)
