use Rattle.std.proofs.Common.{ℕ, List, [], refl, sym, ◌∙◌, subst}
use Rattle.std.proofs.lemmas.List.{append-nil}
use Rattle.media_model.specs.declared.step.Act.TheVariants.{Deliver}
use Rattle.media_laws.specs.Opening.{got_as}
use Rattle.media_laws.specs.Play.{delivered, Brings}
use Rattle.media_play.specs.declared.fault.StepError.TheVariants.{Memory, Rule}
use Rattle.media_play.specs.Acting.{RefusesAct}
use Rattle.media_play.proofs.Refusals.{memory_refused, rule_refused}
use Rattle.media_play.proofs.Steps.{handed_on}
use Rattle.media_play.proofs.acting.deliver.Goals as goal

pub returns-in_err-sealed-clause-refused : goal.returns-in_err-sealed-clause-refused
returns-in_err-sealed-clause-refused g c =
    let log = c.args.log.now in
    let fault = c.in_err-sealed.field-0.0 in
    handed_on (RefusesAct g.C.SrtpCipher.meaning c.args.end.now c.args.end.now log log c.args.side c.args.time (Deliver c.args.datagram)) c.from_residual.result (Rule fault)
    c.from_residual.ensures.1 (rule_refused fault refl refl (λ setup a at. c.in_err-sealed.ensures))

pub returns-in_err-bytes-clause-refused : goal.returns-in_err-bytes-clause-refused
returns-in_err-bytes-clause-refused g c =
    let log = c.args.log.now in
    handed_on (RefusesAct g.C.SrtpCipher.meaning c.args.end.now c.args.end.now log log c.args.side c.args.time (Deliver c.args.datagram)) c.from_residual-in_err-bytes.result Memory
    c.from_residual-in_err-bytes.ensures.1 (memory_refused ([], sym (append-nil log)))

pub returns-in_err-receive-clause-refused : goal.returns-in_err-receive-clause-refused
returns-in_err-receive-clause-refused g c =
    handed_on (RefusesAct g.C.SrtpCipher.meaning c.args.end.now c.receive.new.end c.args.log.now c.receive.new.log c.args.side c.args.time (Deliver c.args.datagram))
    c.from_residual-in_err-receive.result Memory c.from_residual-in_err-receive.ensures.1 (memory_refused c.receive.ensures.longer)

pub returns-clause-acts : goal.returns-clause-acts
returns-clause-acts g c =
    let side = c.args.side in
    let time = c.args.time in
    let log = c.args.log.now in
    let sealed = c.in_ok-sealed.sealed.now in
    let known = c.in_ok-sealed.ensures in
    c.in_ok-receive.ensures.acts (Deliver c.args.datagram) (λ setup. known.0)
    (subst (λ (l : List ℕ). Brings log (got_as side time sealed.kind l) (Deliver c.args.datagram)) (sym (c.in_ok-bytes.ensures ∙ c.as_slice.ensures))
    (delivered side time c.args.datagram sealed known.1 known.2))
