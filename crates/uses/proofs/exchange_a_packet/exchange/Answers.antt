use Rattle.std.proofs.Common.{◌≡◌, true, false, None, refl, sym, ap, ◌∙◌, subst}
use Rattle.mask_register.specs.MaskRegister.{Remembers}
use Rattle.queue_store.specs.Queue.{StandsFor as Holds}
use Rattle.stream_core.specs.Tables.{with_new}
use Rattle.stream_core.specs.TxRecord.{declared}
use Rattle.session_core.specs.SessionRecord.{SessionState, SessionView, StandsFor}
use Rattle.uses.specs.Exchange.{end_of}
use Rattle.uses.proofs.Ending.{at_end, expects, writes, ticked, holds_one, write_is}
use Rattle.uses.proofs.exchange_a_packet.exchange.Goals as goal

-- the end has the stream that was declared
pub write-requires : goal.write-requires
write-requires c =
    holds_one c.from-ssrc.result (declared c.from-ssrc.result None c.args.mid None) c.streams.result.now.tx c.declare_stream_tx.new.self.tx
    (c.streams.ensures.tx ∙ ap (λ (s : SessionView _ _). s.state.tx) c.deref_mut-a.ensures.value ∙ ap (λ (s : SessionState). s.tx) c.in_ok-sending.ensures.made.state)
    c.in_ok-declare_stream_tx.ensures.tx

-- what is told second is what was written
pub returns : goal.returns
returns c =
    let material = c.args.material.now in
    let mid = c.args.mid in
    let payload = c.args.payload.now in
    let now = c.from_nanos-now.result in
    let ssrc = c.from-ssrc.result in
    let written_is = c.new-packet.ensures ∙ write_is c.from.result c.from-2.result now c.in_ok-payload.payload payload c.from.ensures c.from-2.ensures c.in_ok-payload.ensures in
    let said = c.in_ok-declare_stream_tx.ensures in
    let added : c.declare_stream_tx.new.self ≡ record c.streams.result.now { tx = with_new ssrc (declared ssrc None mid None) c.streams.result.now.tx } =
    λ j. record { threshold = said.threshold j; rx = said.rx j; known = said.known j; tx = said.tx j; repairs = said.plain refl j } in
    let made_a = subst (λ (s : SessionView _ _). StandsFor Remembers Holds s (end_of material mid true)) (sym c.deref_mut-a.ensures.value) c.in_ok-sending.ensures.made in
    let made_b = subst (λ (s : SessionView _ _). StandsFor Remembers Holds s (end_of material mid false)) (sym c.deref_mut-b.ensures.value) c.in_ok-receiving.ensures.made in
    let sends = writes material mid payload Remembers Holds now ssrc c.new-packet.result c.deref_mut-a.result.now c.write.new.end c.streams.result.now c.declare_stream_tx.new.self c.from-ssrc.ensures written_is
    made_a c.streams.ensures.rx c.streams.ensures.tx c.streams.ensures.threshold c.streams.ensures.known c.streams.ensures.repairs added c.in_ok-write.ensures.ok in
    let waits = expects material mid payload Remembers Holds c.deref_mut-b.result.now c.streams-2.result.now c.expect_stream_rx.new.self ssrc c.from-ssrc.ensures
    made_b c.streams-2.ensures.rx c.streams-2.ensures.tx c.streams-2.ensures.threshold c.streams-2.ensures.known c.streams-2.ensures.repairs c.in_ok-expect_stream_rx.ensures.ok in
    at_end material mid payload Remembers Holds now c.handle_timeout.new.self c.poll_datagram.new.self _ c.handle_rtp_receive.new.self c.poll_event-unpaused.new.self
    c.in-Some.sent c.as_slice.result.now c.in_ok-handle_rtp_receive.field-0 c.poll_event-unpaused.result c.poll_event.result
    c.written_header_is_read_again.ensures c.rtp_seal_keeps_header.ensures c.rtp_seals_apart.ensures
    (ticked material mid payload Remembers Holds now c.write.new.end c.handle_timeout.new.self sends c.in_ok-handle_timeout.ensures.ok)
    (rw c.in-Some.is at c.in_ok-sent.ensures.polled) c.as_slice.ensures waits
    c.in_ok-handle_rtp_receive.ensures.received c.poll_event-unpaused.ensures.told c.poll_event-unpaused.ensures.after c.poll_event.ensures.told
