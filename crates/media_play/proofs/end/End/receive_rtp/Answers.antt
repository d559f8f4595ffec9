use Rattle.std.proofs.Common.{◌≡◌, [], ◌∷◌, Option, Some, None, refl, sym, ap, ◌∙◌, subst}
use Rattle.std.specs.Option.{option_map}
use Rattle.rtp_base.specs.declared.kind.Kind.TheVariants.{Rtp}
use Rattle.stream_core.specs.declared.packet.RtpPacket.{RtpPacket}
use Rattle.session_core.specs.declared.datagram.Opened.{Opened as Opening}
use Rattle.session_core.specs.Calls.{after_events}
use Rattle.session_core.specs.Receiving.{Receives}
use Rattle.session_turns.specs.Reading.{events_opened, packet_told}
use Rattle.media_model.specs.declared.entry.Packet.{Packet}
use Rattle.media_model.specs.declared.entry.Entry.TheVariants.{Got}
use Rattle.run_model.specs.Events.{got}
use Rattle.media_laws.specs.Config.{config_of}
use Rattle.media_laws.specs.Keys.{sealing_of}
use Rattle.media_laws.specs.Opening.{got_as}
use Rattle.media_play.specs.Ends.{EndSession, SessionStands}
use Rattle.media_play.specs.Sessions.{EndState, TakesIn, received_entries}
use Rattle.media_play.proofs.Cutting.{keeps, told_packet}
use Rattle.media_play.proofs.Rightly.{received_of, opened_read, no_writes_received, right_opening}
use Rattle.media_play.proofs.Turned.{turned_quiet}
use Rattle.media_play.proofs.end.End.receive_rtp.Goals as goal

pub returns-in_default : goal.returns-in_default
returns-in_default g c = λ setup side a entries at.
    let K = g.C.SrtpCipher.meaning in
    let time = c.args.time in
    let bytes = c.args.bytes.now in
    let ready = at.ready in
    let r = ready.session in
    let C = config_of (sealing_of K setup) setup in
    let view = c.deref_mut-session.ensures.value ∙ ap (λ (e : EndState). e.session) c.self.view_is in
    let stands : SessionStands c.deref_mut-session.result.now r = subst (λ (v : EndSession). SessionStands v r) (sym view) ready.stands in
    let h = c.in-Ok.ensures.received r stands in
    let received : Receives K r bytes time h.0 None = subst (λ (o : Option Opening). Receives K r bytes time h.0 o) c.in_default.is h.1 in
    let turn = c.opens_turn.ensures K C side r h.0 a time bytes None ready.fit ready.mirrors at.late at.early c.are_bytes.ensures received in
    record {
      turns = turned_quiet ready _ (after_events h.0) (Got (got_as side time Rtp bytes) ∷ []) (got time Rtp bytes ∷ []) refl (λ q. refl) refl
          (c.take_packet-told.ensures.after h.0 h.2) (ap (λ (e : EndState). e.written) c.self.view_is) turn;
      brought = tt;
    }

pub returns : goal.returns
returns g c = λ setup side a entries at.
    let K = g.C.SrtpCipher.meaning in
    let time = c.args.time in
    let bytes = c.args.bytes.now in
    let ready = at.ready in
    let r = ready.session in
    let C = config_of (sealing_of K setup) setup in
    let o = c.in-Some.opened in
    let view = c.deref_mut-session.ensures.value ∙ ap (λ (e : EndState). e.session) c.self.view_is in
    let stands : SessionStands c.deref_mut-session.result.now r = subst (λ (v : EndSession). SessionStands v r) (sym view) ready.stands in
    let h = c.in-Ok.ensures.received r stands in
    let received : Receives K r bytes time h.0 (Some o) = subst (λ (x : Option Opening). Receives K r bytes time h.0 x) c.in-Some.is h.1 in
    let turn = c.opens_turn.ensures K C side r h.0 a time bytes (Some o) ready.fit ready.mirrors at.late at.early c.are_bytes.ensures received in
    let right = c.openings_are_right.ensures K C side r h.0 a ready.mirrors.other time bytes o ready.mirrors ready.mirrors.opens c.are_bytes.ensures received in
    let k = keeps received in
    let waits = told_packet h.0 (k.sealing ∙ ready.mirrors.seals) (k.opening ∙ ready.mirrors.opens) (k.application ∙ ready.mirrors.application) in
    let told : c.take_packet-told.result ≡ h.0.state.packet = c.take_packet-told.ensures.packet h.0 h.2 ∙ waits in
    let packet : c.in_ok-packet_of.field-0 ≡ option_map packet_told h.0.state.packet =
    c.in_ok-packet_of.ensures ∙ ap {A = Option RtpPacket} {B = Option Packet} (λ p. option_map packet_told p) told in
    let new : EndState = record { session = c.take_packet-told.new.session; written = c.self.inside.written.items } in
    let here : TakesIn K setup side a new entries (got_as side time Rtp bytes) (Some (received_of o Rtp h.0.state.packet)) = record {
      turns = turned_quiet ready new (after_events h.0) (Got (got_as side time Rtp bytes) ∷ received_entries side (Some (received_of o Rtp h.0.state.packet)))
          (got time Rtp bytes ∷ events_opened r.state.transport.exts (Some o) h.0.state.packet)
          (opened_read setup r.state.transport.exts side time Rtp bytes o h.0.state.packet ready.exts right.rtp) (λ q. no_writes_received side side q (Some (received_of o Rtp h.0.state.packet))) refl
          (c.take_packet-told.ensures.after h.0 h.2) (ap (λ (e : EndState). e.written) c.self.view_is) turn;
      brought = right_opening ready.mirrors ready.exts time bytes o h.0.state.packet right;
    } in
    subst (λ (p : Option Packet). TakesIn K setup side a new entries (got_as side time Rtp bytes) (Some (record { kind = Rtp; ssrc = o.ssrc; number = o.index; plain = o.plain; packet = p }))) (sym packet) here
