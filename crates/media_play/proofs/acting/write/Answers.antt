use Rattle.std.proofs.Common.{◌≡◌, ◌<◌, ◌^◌, [], ◌∷◌, ◌++◌, Some, refl, sym, ap, ◌∙◌, subst, arith}
use Rattle.std.proofs.lemmas.List.{append-nil}
use Rattle.rtp_wire.specs.BytesLaws.{AreWords}
use Rattle.stream_core.specs.Tables.{place_of}
use Rattle.media_model.specs.declared.entry.Entry.TheVariants.{Wrote}
use Rattle.media_model.specs.declared.entry.Write.{Write as Writing}
use Rattle.media_model.specs.declared.step.Act.TheVariants.{Write}
use Rattle.media_laws.specs.Play.{wrote}
use Rattle.media_play.specs.declared.fault.StepError.TheVariants.{Memory, Rule}
use Rattle.media_play.specs.Acting.{RefusesAct}
use Rattle.media_play.specs.Sessions.{EndState, ReadyAt}
use Rattle.media_play.proofs.Refusals.{memory_refused, rule_refused}
use Rattle.media_play.proofs.Steps.{handed_on}
use Rattle.media_play.proofs.acting.write.Goals as goal

pub returns-in_err-place-clause-refused : goal.returns-in_err-place-clause-refused
returns-in_err-place-clause-refused g c =
    let log = c.args.log.now in
    let fault = c.in_err-place.field-0.0 in
    handed_on (RefusesAct g.C.SrtpCipher.meaning c.args.end.now c.check_write.new.self log log c.args.side c.args.time (Write c.args.write.now)) c.from_residual.result (Rule fault)
    c.from_residual.ensures.1 (rule_refused fault c.check_write.ensures.same refl (λ setup a at. c.in_err-place.ensures.rule setup c.args.side a log at.ready))

pub returns-in_err-put-clause-refused : goal.returns-in_err-put-clause-refused
returns-in_err-put-clause-refused g c =
    let log = c.args.log.now in
    handed_on (RefusesAct g.C.SrtpCipher.meaning c.args.end.now c.put.new.self log log c.args.side c.args.time (Write c.args.write.now)) c.from_residual-in_err-put.result Memory
    c.from_residual-in_err-put.ensures.1 (memory_refused ([], sym (append-nil log)))

pub returns-in_err-clone-clause-refused : goal.returns-in_err-clone-clause-refused
returns-in_err-clone-clause-refused g c =
    let log = c.args.log.now in
    handed_on (RefusesAct g.C.SrtpCipher.meaning c.args.end.now c.put.new.self log log c.args.side c.args.time (Write c.args.write.now)) c.from_residual-in_err-clone.result Memory
    c.from_residual-in_err-clone.ensures.1 (memory_refused ([], sym (append-nil log)))

pub returns-in_err-push-clause-refused : goal.returns-in_err-push-clause-refused
returns-in_err-push-clause-refused g c =
    let log = c.args.log.now in
    handed_on (RefusesAct g.C.SrtpCipher.meaning c.args.end.now c.put.new.self log c.push.new.self c.args.side c.args.time (Write c.args.write.now)) c.from_residual-in_err-push.result Memory
    c.from_residual-in_err-push.ensures.1 (memory_refused ([], c.in_err-push.ensures.err ∙ sym (append-nil log)))

pub returns-clause-acts : goal.returns-clause-acts
returns-clause-acts g c setup a at index =
    let K = g.C.SrtpCipher.meaning in
    let side = c.args.side in
    let time = c.args.time in
    let write = c.args.write.now in
    let log = c.args.log.now in
    let same = sym c.check_write.ensures.same in
    let valid = c.in_ok-place.ensures.rule setup side a log at.ready in
    let here : ReadyAt K setup side c.check_write.new.self a log time = subst (λ (e : EndState). ReadyAt K setup side e a log time) same at in
    let place : place_of write.ssrc c.check_write.new.self.session.state.tx ≡ Some c.in_ok-place.place = ap (λ (e : EndState). place_of write.ssrc e.session.state.tx) (sym same) ∙ c.in_ok-place.ensures.place in
    let small : write.ssrc < 2 ^ 32 = omega arith in
    let early : write.rtp_time < 2 ^ 32 = omega arith in
    let words = subst AreWords c.as_slice.ensures c.are_words.ensures in (
      Wrote side time write ∷ [],
      c.in_ok-push.ensures.ok ∙ ap (λ (w : Writing). log ++ Wrote side time w ∷ []) c.in_ok-clone.ensures,
      record {
        valid = valid;
        are_of = wrote side time write small early words;
        turns = c.in_ok-put.ensures setup side a log here place valid (small, early, words);
      },
    )
