use Rattle.std.proofs.Common.{◌≡◌, ◌≤◌, ◌<◌, ◌-◌, ◌^◌, List, length, map, ◌∙◌, arith}
use Rattle.std.proofs.lemmas.List.{length-map}
use Rattle.stream_core.specs.declared.packet.RtpPacket.{RtpPacket}
use Rattle.stream_core.specs.Queue.{with_stamp}
use Rattle.stream_core.proofs.Stamps.{stamped_length, stamped_again}
use Rattle.stream_core.proofs.Totals.{ticked, ticked_so, bytes_fit, stamps_fit}
use Rattle.stream_core.proofs.send_queue.SendQueue.stamp_fresh.Goals as goal

pub stamp_from-requires-clause-within : goal.stamp_from-requires-clause-within
stamp_from-requires-clause-within c = stamped_length c.self.inside.stamped c.self.inside.packets.items c.self.invariant.in_front

pub stamp_from-requires-clause-before : goal.stamp_from-requires-clause-before
stamp_from-requires-clause-before c = stamped_again c.args.now c.self.inside.stamped c.self.inside.packets.items c.self.invariant.in_front

pub overflow_sub-fresh : goal.overflow_sub-fresh
overflow_sub-fresh c = let le = stamped_length c.self.inside.stamped c.self.inside.packets.items c.self.invariant.in_front in omega (arith, c.self.inside.packets.ok.0)

pub overflow_add-self : goal.overflow_add-self
overflow_add-self c =
    let q = c.self.inside in
    let items : List RtpPacket = q.packets.items in
    let le : q.stamped ≤ length items = stamped_length q.stamped items c.self.invariant.in_front in
    let many : c.len.result ≡ length items = c.len.ensures ∙ q.packets.ok.0 in
    let few : length (map (with_stamp c.args.now) items) < 2 ^ 64 = omega (arith, length-map items (with_stamp c.args.now)) in
    let fit = bytes_fit _ _ _ _ _ _ (ticked items q.stamped q.bytes q.stamps q.last_tick c.args.now (length items - q.stamped) q.rising c.self.invariant (omega arith) (omega arith)) few in
    omega (arith, c.stamp_from.ensures.bytes)

pub overflow_add-self-2 : goal.overflow_add-self-2
overflow_add-self-2 c =
    let q = c.self.inside in
    let items : List RtpPacket = q.packets.items in
    let le : q.stamped ≤ length items = stamped_length q.stamped items c.self.invariant.in_front in
    let many : c.len.result ≡ length items = c.len.ensures ∙ q.packets.ok.0 in
    let few : length (map (with_stamp c.from-moment.result) items) < 2 ^ 64 = omega (arith, length-map items (with_stamp c.from-moment.result)) in
    let fit = stamps_fit _ _ _ _ _ _ (ticked items q.stamped q.bytes q.stamps q.last_tick c.from-moment.result (c.len.result - q.stamped) q.rising c.self.invariant (omega arith) (omega arith)) few in
    omega arith

pub invariant_of-self : goal.invariant_of-self
invariant_of-self c =
    let q = c.self.inside in
    let items : List RtpPacket = q.packets.items in
    let le : q.stamped ≤ length items = stamped_length q.stamped items c.self.invariant.in_front in
    let many : c.len.result ≡ length items = c.len.ensures ∙ q.packets.ok.0 in
    ticked_so items c.stamp_from.new.packets.items q.stamped q.bytes q.stamps q.last_tick c.args.now (c.len.result - q.stamped) c.from-moment.result c.len-self-inside.result c.stamp_from.result q.rising c.goes_on-self-inside.result
    c.self.invariant (omega arith) (omega arith) c.stamp_from.ensures.stamped (c.len-self-inside.ensures ∙ c.stamp_from.new.packets.ok.0) c.stamp_from.ensures.bytes (c.from-moment.ensures ∙ c.as_nanos.ensures) c.goes_on-self-inside.ensures
