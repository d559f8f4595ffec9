use Rattle.std.proofs.Common.{[], ◌∷◌, Option, Some, None, refl, sym, ap, ◌∙◌, subst}
use Rattle.rtp_base.specs.declared.kind.Kind.TheVariants.{Rtcp}
use Rattle.session_core.specs.declared.datagram.Opened.{Opened as Opening}
use Rattle.session_core.specs.Calls.{after_events}
use Rattle.session_core.specs.Hearing.{ReceivesRtcp}
use Rattle.session_turns.specs.Reading.{events_opened}
use Rattle.media_model.specs.declared.entry.Entry.TheVariants.{Got}
use Rattle.run_model.specs.Events.{got}
use Rattle.media_laws.specs.Config.{config_of}
use Rattle.media_laws.specs.Keys.{sealing_of}
use Rattle.media_laws.specs.Opening.{got_as}
use Rattle.media_play.specs.Ends.{EndSession, SessionStands}
use Rattle.media_play.specs.Sessions.{EndState, received_entries}
use Rattle.media_play.proofs.Rightly.{received_of, opened_read, no_writes_received, right_rtcp_opening}
use Rattle.media_play.proofs.Turned.{turned_quiet}
use Rattle.media_play.proofs.end.End.receive_rtcp.Goals as goal

pub returns-in_default : goal.returns-in_default
returns-in_default g c = λ setup side a entries at.
    let K = g.C.SrtpCipher.meaning in
    let time = c.args.time in
    let bytes = c.args.bytes.now in
    let ready = at.ready in
    let r = ready.session in
    let C = config_of (sealing_of K setup) setup in
    let view = c.deref_mut-session.ensures.value ∙ ap (λ (e : EndState). e.session) c.self.view_is in
    let stands : SessionStands c.deref_mut-session.result.now r = subst (λ (v : EndSession). SessionStands v r) (sym view) ready.stands in
    let h = c.in-Ok.ensures.received r stands in
    let received : ReceivesRtcp K r bytes time h.0 None = subst (λ (o : Option Opening). ReceivesRtcp K r bytes time h.0 o) c.in_default.is h.1 in
    let turn = c.hears_turn.ensures K C side r h.0 a time bytes None ready.fit ready.mirrors at.late at.early received in
    record {
      turns = turned_quiet ready _ (after_events h.0) (Got (got_as side time Rtcp bytes) ∷ []) (got time Rtcp bytes ∷ []) refl (λ q. refl) refl
          (c.take_packet.ensures.after h.0 h.2) (ap (λ (e : EndState). e.written) c.self.view_is) turn;
      brought = tt;
    }

pub returns : goal.returns
returns g c = λ setup side a entries at.
    let K = g.C.SrtpCipher.meaning in
    let time = c.args.time in
    let bytes = c.args.bytes.now in
    let ready = at.ready in
    let r = ready.session in
    let C = config_of (sealing_of K setup) setup in
    let o = c.in-Some.heard in
    let view = c.deref_mut-session.ensures.value ∙ ap (λ (e : EndState). e.session) c.self.view_is in
    let stands : SessionStands c.deref_mut-session.result.now r = subst (λ (v : EndSession). SessionStands v r) (sym view) ready.stands in
    let h = c.in-Ok.ensures.received r stands in
    let received : ReceivesRtcp K r bytes time h.0 (Some o) = subst (λ (x : Option Opening). ReceivesRtcp K r bytes time h.0 x) c.in-Some.is h.1 in
    let turn = c.hears_turn.ensures K C side r h.0 a time bytes (Some o) ready.fit ready.mirrors at.late at.early received in
    let right = c.rtcp_openings_are_right.ensures K r h.0 ready.mirrors.other time bytes o ready.mirrors.opens received in
    record {
      turns = turned_quiet ready _ (after_events h.0) (Got (got_as side time Rtcp bytes) ∷ received_entries side (Some (received_of o Rtcp None)))
          (got time Rtcp bytes ∷ events_opened r.state.transport.exts (Some o) None)
          (opened_read setup r.state.transport.exts side time Rtcp bytes o None ready.exts right.rtcp) (λ q. no_writes_received side side q (Some (received_of o Rtcp None))) refl
          (c.take_packet.ensures.after h.0 h.2) (ap (λ (e : EndState). e.written) c.self.view_is) turn;
      brought = right_rtcp_opening ready.mirrors ready.exts time bytes o right;
    }
