use Rattle.std.proofs.Common.{◌∙◌, sym, ap, length}
use Rattle.stream_core.specs.declared.packet.RtpPacket.{RtpPacket}
use Rattle.stream_core.proofs.Totals.{popped_so}
use Rattle.stream_core.proofs.send_queue.SendQueue.pop.Goals as goal

pub invariant_of-self-2 : goal.invariant_of-self-2
invariant_of-self-2 c =
    let q = c.self.inside in
    popped_so q.packets.items c.pop_front.new.self.items c.in_ok-front.field-0.now c.in_ok-front-2.front q.stamped q.bytes q.stamps q.last_tick c.in_ok-stamp.stamp c.len.result c.from.result q.rising
    c.self.invariant c.in_ok-front-2.ensures.items c.in_ok-front.ensures.lookup
    (ap (λ (p : RtpPacket). p.timestamp) (sym c.branch.view_is) ∙ c.in_ok-stamp.was)
    (c.len.ensures ∙ ap (λ (p : RtpPacket). length p.payload) c.front-2.view_is)
    (c.from.ensures ∙ c.as_nanos.ensures)
