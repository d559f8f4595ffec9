use Rattle.std.proofs.Common.{◌≡◌, false, [], ◌∷◌, Option, Some, ap, subst, refl, ◌∙◌}
use Rattle.session_core.specs.Sending.{NextDatagram}
use Rattle.session_core.specs.SessionRecord.{SessionState}
use Rattle.session_core.specs.declared.datagram.Datagram.{Datagram}
use Rattle.session_turns.specs.Reading.{event_of}
use Rattle.media_model.specs.declared.entry.Call.TheVariants as call
use Rattle.media_model.specs.declared.entry.Entry.TheVariants.{Called, Sealed}
use Rattle.run_model.specs.Events.{called}
use Rattle.media_laws.specs.Config.{config_of}
use Rattle.media_laws.specs.Keys.{sealing_of}
use Rattle.media_play.specs.Ends.{SessionStands}
use Rattle.media_play.specs.Packets.{sealed_from}
use Rattle.media_play.specs.Sessions.{EndState}
use Rattle.media_play.proofs.Calls.{application_fits, calling_record, calling_stands, fails_used_up}
use Rattle.media_play.proofs.Rightly.{call_read, right_call}
use Rattle.media_play.proofs.Turned.{turned_quiet}
use Rattle.media_play.proofs.end.End.send_application.Goals.{in-Ok-Some, in-Err-KeyExhausted, in-Ok-None}
use Rattle.media_play.proofs.end.End.send_application.Goals as goal

pub returns-clause-sealed : goal.returns-clause-sealed
returns-clause-sealed g c =
    elim c.match-poll_datagram.branch [
      | in-Err-KeyExhausted w ↦ rw w.result-is tt
      | in-Ok-None w ↦ rw w.result-is tt
      | in-Ok-Some w ↦ rw (w.result-is, w.in-Ok-Some.field-0-is) (λ setup a entries at counts.
          let K = g.C.SrtpCipher.meaning in
          let side = c.args.side in
          let time = c.args.time in
          let f = c.args.feedback in
          let d = w.in-Ok-Some.datagram in
          let ready = at.ready in
          let r = ready.session in
          let C = config_of (sealing_of K setup) setup in
          let view : c.deref_mut-session.result.now ≡ c.args.self.now.session = c.deref_mut-session.ensures.value ∙ ap (λ (e : EndState). e.session) c.self.view_is in
          let waits : SessionStands c.send_app_specific_feedback.new.self (calling_record at f) =
          calling_stands at f c.send_app_specific_feedback.new.self c.deref_mut-session.result.now c.in-Ok.ensures.ok view in
          let next = (rw w.in-Ok-Some.is at c.poll_datagram.ensures.polled) (calling_record at f) waits in
          let leaves : NextDatagram K time (calling_record at f) next.0 (Some d) = subst (λ (o : Option Datagram). NextDatagram K time (calling_record at f) next.0 o) w.in-Ok-Some.field-0-is next.1 in
          let fits = application_fits f c.items_fit_by_lengths.ensures c.requires.whole c.requires.few in
          let turn = c.calls_turn.ensures K C side r next.0 a time f d ready.fit ready.mirrors at.late at.some fits leaves in
          let right = c.calls_are_right.ensures K C side r next.0 a ready.mirrors.own time f d ready.fit ready.mirrors ready.mirrors.seals at.some fits leaves in (
            right_call ready.mirrors ready.exts f d entries counts right,
            turned_quiet ready _ next.0 (Called side time call.Application ∷ Sealed (sealed_from side d) ∷ []) (called time ∷ event_of r.state.transport.exts d ∷ [])
                (call_read setup r.state.transport.exts side time d (Called side time call.Application) ready.exts (λ x. refl)) (λ q. refl) refl next.2
                (ap (λ (e : EndState). e.written) c.self.view_is) turn,
          ))
    ]

pub returns-clause-refused : goal.returns-clause-refused
returns-clause-refused g c =
    elim c.match-poll_datagram.branch [
      | in-Ok-Some w ↦ rw w.result-is tt
      | in-Ok-None w ↦ rw w.result-is (λ setup a entries at counts. tt)
      | in-Err-KeyExhausted w ↦ rw w.result-is (λ setup a entries at counts.
          let f = c.args.feedback in
          let view : c.deref_mut-session.result.now ≡ c.args.self.now.session = c.deref_mut-session.ensures.value ∙ ap (λ (e : EndState). e.session) c.self.view_is in
          let between = c.send_app_specific_feedback.new.self in
          let waits : SessionStands between (calling_record at f) = calling_stands at f between c.deref_mut-session.result.now c.in-Ok.ensures.ok view in
          let runs : between.state.stopped ≡ false = ap (λ (s : SessionState). s.stopped) waits.state ∙ at.ready.runs in
          let failed = (rw w.in-Err-KeyExhausted.is at (c.poll_datagram.ensures.failed runs)) (calling_record at f) waits in
          (refl, refl, fails_used_up at f failed.0 w.in-Err-KeyExhausted.field-0 _ w.in-Err-KeyExhausted.field-0-is failed.1 counts))
    ]
