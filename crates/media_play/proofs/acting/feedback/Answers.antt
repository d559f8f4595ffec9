use Rattle.std.proofs.Common.{ℕ, List, [], ◌∷◌, ◌++◌, refl, sym, ap, ◌∙◌, subst, append_assoc}
use Rattle.std.proofs.lemmas.List.{append-nil}
use Rattle.media_model.specs.declared.entry.Call.TheVariants as call
use Rattle.media_model.specs.declared.entry.Entry.{Entry}
use Rattle.media_model.specs.declared.entry.Entry.TheVariants.{Called, Sealed}
use Rattle.media_model.specs.declared.step.Act.TheVariants.{Feedback}
use Rattle.media_laws.specs.Feedback.{application_packet, IsSealOfPacket}
use Rattle.media_laws.specs.Keys.{sealing_of}
use Rattle.media_laws.specs.Play.{called}
use Rattle.media_play.specs.declared.fault.StepError.TheVariants.{Memory}
use Rattle.media_play.specs.Acting.{RefusesAct}
use Rattle.media_play.specs.Packets.{sealed_from}
use Rattle.media_play.proofs.Refusals.{memory_refused, stop_refused, feedback_refused}
use Rattle.media_play.proofs.Steps.{handed_on}
use Rattle.media_play.proofs.acting.feedback.Goals as goal

pub returns-in_err-from_slice-clause-refused : goal.returns-in_err-from_slice-clause-refused
returns-in_err-from_slice-clause-refused g c =
    let log = c.args.log.now in
    handed_on (RefusesAct g.C.SrtpCipher.meaning c.args.end.now c.args.end.now log log c.args.side c.args.time (Feedback c.args.sender c.args.media c.args.payload.now)) c.from_residual.result Memory
    c.from_residual.ensures.1 (memory_refused ([], sym (append-nil log)))

pub returns-in_err-push-clause-refused : goal.returns-in_err-push-clause-refused
returns-in_err-push-clause-refused g c =
    let log = c.args.log.now in
    handed_on (RefusesAct g.C.SrtpCipher.meaning c.args.end.now c.args.end.now log c.push.new.self c.args.side c.args.time (Feedback c.args.sender c.args.media c.args.payload.now))
    c.from_residual-in_err-push.result Memory c.from_residual-in_err-push.ensures.1 (memory_refused ([], c.in_err-push.ensures.err ∙ sym (append-nil log)))

pub returns-in_err-datagram-clause-refused : goal.returns-in_err-datagram-clause-refused
returns-in_err-datagram-clause-refused g c =
    let K = g.C.SrtpCipher.meaning in
    let side = c.args.side in
    let time = c.args.time in
    let log = c.args.log.now in
    let e = c.in_err-datagram.field-0.0 in
    handed_on (RefusesAct K c.args.end.now c.send_application.new.self log c.push.new.self side time (Feedback c.args.sender c.args.media c.args.payload.now)) c.from_residual-in_err-datagram.result e
    c.from_residual-in_err-datagram.ensures.1
    (stop_refused e c.in_err-datagram.ensures.stops
    (λ setup a at index. feedback_refused K setup side a log c.push.new.self time c.args.sender c.args.media c.args.payload.now e (c.in_err-datagram.ensures.refused setup a log at index) c.in_ok-push.ensures.ok))

pub returns-in_err-push_sealed-clause-refused : goal.returns-in_err-push_sealed-clause-refused
returns-in_err-push_sealed-clause-refused g c =
    let log = c.args.log.now in
    handed_on (RefusesAct g.C.SrtpCipher.meaning c.args.end.now c.send_application.new.self log c.push_sealed.new.self c.args.side c.args.time (Feedback c.args.sender c.args.media c.args.payload.now))
    c.from_residual-in_err-push_sealed.result Memory c.from_residual-in_err-push_sealed.ensures.1
    (memory_refused (Called c.args.side c.args.time call.Application ∷ [], c.in_err-push_sealed.ensures.err ∙ c.in_ok-push.ensures.ok))

pub returns-clause-acts : goal.returns-clause-acts
returns-clause-acts g c setup a at index =
    let K = g.C.SrtpCipher.meaning in
    let side = c.args.side in
    let time = c.args.time in
    let sender = c.args.sender in
    let media = c.args.media in
    let log = c.args.log.now in
    let s = sealed_from side c.in_ok-datagram.datagram in
    let h = c.in_ok-datagram.ensures.sealed setup a log at index in
    let same = c.in_ok-from_slice.ensures ∙ c.as_slice.ensures.bytes in (
      Called side time call.Application ∷ Sealed s ∷ [],
      c.in_ok-push_sealed.ensures.ok ∙ ap (λ (l : List Entry). l ++ Sealed s ∷ []) c.in_ok-push.ensures.ok ∙ append_assoc log (Called side time call.Application ∷ []) (Sealed s ∷ []),
      record {
        valid = refl;
        are_of = called side time sender media c.args.payload.now s
            (subst (λ (l : List ℕ). IsSealOfPacket (sealing_of K setup) setup side log (application_packet sender media l) s) same h.0);
        turns = h.1;
      },
    )
