use Rattle.std.proofs.Common.{ℕ, List, [], refl, sym, ◌∙◌, subst}
use Rattle.std.proofs.lemmas.List.{append-nil}
use Rattle.media_model.specs.declared.step.Act.TheVariants.{Foreign}
use Rattle.media_laws.specs.Opening.{got_as}
use Rattle.media_laws.specs.Play.{Brings, foreign}
use Rattle.media_play.specs.declared.fault.StepError.TheVariants.{Memory}
use Rattle.media_play.specs.Acting.{RefusesAct}
use Rattle.media_play.proofs.Refusals.{memory_refused}
use Rattle.media_play.proofs.Steps.{handed_on}
use Rattle.media_play.proofs.acting.foreign.Goals as goal

pub returns-in_err-bytes-clause-refused : goal.returns-in_err-bytes-clause-refused
returns-in_err-bytes-clause-refused g c =
    let log = c.args.log.now in
    handed_on (RefusesAct g.C.SrtpCipher.meaning c.args.end.now c.args.end.now log log c.args.side c.args.time (Foreign c.args.kind c.args.bytes.now)) c.from_residual.result Memory
    c.from_residual.ensures.1 (memory_refused ([], sym (append-nil log)))

pub returns-in_err-receive-clause-refused : goal.returns-in_err-receive-clause-refused
returns-in_err-receive-clause-refused g c =
    handed_on (RefusesAct g.C.SrtpCipher.meaning c.args.end.now c.receive.new.end c.args.log.now c.receive.new.log c.args.side c.args.time (Foreign c.args.kind c.args.bytes.now))
    c.from_residual-in_err-receive.result Memory c.from_residual-in_err-receive.ensures.1 (memory_refused c.receive.ensures.longer)

pub returns-clause-acts : goal.returns-clause-acts
returns-clause-acts g c =
    let side = c.args.side in
    let time = c.args.time in
    let kind = c.args.kind in
    let bytes = c.args.bytes.now in
    c.in_ok-receive.ensures.acts (Foreign kind bytes) (λ setup. refl)
    (subst (λ (l : List ℕ). Brings c.args.log.now (got_as side time kind l) (Foreign kind bytes)) (sym (c.in_ok-bytes.ensures ∙ c.as_slice.ensures)) (foreign (got_as side time kind bytes)))
