use Rattle.std.proofs.Common.{[], ◌∷◌, ◌++◌, refl, sym, ap, ◌∙◌, subst}
use Rattle.std.proofs.lemmas.List.{append-nil}
use Rattle.media_model.specs.declared.entry.Call.{Call}
use Rattle.media_model.specs.declared.entry.Entry.TheVariants.{Called}
use Rattle.media_play.specs.declared.fault.StepError.TheVariants.{Memory, Rule}
use Rattle.media_play.specs.Acting.{RefusesAct}
use Rattle.media_play.specs.Requests.{call_for, act_for}
use Rattle.media_play.specs.Sessions.{EndState, ReadyAt}
use Rattle.media_play.proofs.Refusals.{memory_refused, rule_refused}
use Rattle.media_play.proofs.Requesting.{request_rule, request_entries}
use Rattle.media_play.proofs.Steps.{handed_on}
use Rattle.media_play.proofs.acting.request.Goals as goal

pub returns-in_err-place-clause-refused : goal.returns-in_err-place-clause-refused
returns-in_err-place-clause-refused g c =
    let log = c.args.log.now in
    let side = c.args.side in
    let ssrc = c.args.ssrc in
    let what = c.args.request in
    let fault = c.in_err-place.field-0.0 in
    handed_on (RefusesAct g.C.SrtpCipher.meaning c.args.end.now c.check_request.new.self log log side c.args.time (act_for ssrc what)) c.from_residual.result (Rule fault)
    c.from_residual.ensures.1
    (rule_refused fault c.check_request.ensures.same refl (λ setup a at. request_rule setup log side ssrc what ∙ c.in_err-place.ensures.rule setup side a log at.ready))

pub returns-in_err-push-clause-refused : goal.returns-in_err-push-clause-refused
returns-in_err-push-clause-refused g c =
    let log = c.args.log.now in
    handed_on (RefusesAct g.C.SrtpCipher.meaning c.args.end.now c.request.new.self log c.push.new.self c.args.side c.args.time (act_for c.args.ssrc c.args.request))
    c.from_residual-in_err-push.result Memory c.from_residual-in_err-push.ensures.1 (memory_refused ([], c.in_err-push.ensures.err ∙ sym (append-nil log)))

pub returns-clause-acts : goal.returns-clause-acts
returns-clause-acts g c setup a at index =
    let K = g.C.SrtpCipher.meaning in
    let side = c.args.side in
    let time = c.args.time in
    let ssrc = c.args.ssrc in
    let what = c.args.request in
    let log = c.args.log.now in
    let here : ReadyAt K setup side c.check_request.new.self a log time = subst (λ (e : EndState). ReadyAt K setup side e a log time) (sym c.check_request.ensures.same) at in (
      Called side time (call_for what) ∷ [],
      c.in_ok-push.ensures.ok ∙ ap (λ (k : Call). log ++ Called side time k ∷ []) c.call-call.ensures,
      record {
        valid = request_rule setup log side ssrc what ∙ c.in_ok-place.ensures.rule setup side a log at.ready;
        are_of = request_entries side time ssrc what;
        turns = c.request.ensures.turns setup side a log time here;
      },
    )
