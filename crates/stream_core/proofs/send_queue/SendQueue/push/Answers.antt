use Rattle.std.proofs.Common.{◌≤◌, List, length, sym, ap, subst}
use Rattle.stream_core.specs.declared.packet.RtpPacket.{RtpPacket}
use Rattle.stream_core.specs.Totals.{Totals}
use Rattle.stream_core.proofs.Totals.{pushed}
use Rattle.stream_core.proofs.send_queue.SendQueue.push.Goals as goal

pub invariant_of-self-2 : goal.invariant_of-self-2
invariant_of-self-2 c =
    let q = c.self.inside in
    subst (λ l. Totals l q.stamped q.bytes q.stamps q.last_tick q.rising) (sym {A = List RtpPacket} c.in_ok-push_back.ensures.items)
    (pushed q.packets.items q.stamped q.bytes q.stamps q.last_tick q.rising c.new.result c.self.invariant
    (ap (λ p. p.timestamp) c.new.ensures) (subst (λ p. length p.payload ≤ 1400) (sym c.new.ensures) c.requires.payload))
