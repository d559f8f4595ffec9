use Rattle.std.proofs.Common.{◌≡◌, ◌-◌, ◌+◌, length, arith, ◌∙◌, ◌∷◌, refl}
use Rattle.rtcp_wire.proofs.Writing.{first_and_rest, write_more, write_stops, is_done}
use Rattle.rtcp_wire.proofs.packet.Rtcp.write_packet.Goals as goal

pub returns-in-None-clause-bytes : goal.returns-in-None-clause-bytes
returns-in-None-clause-bytes c =
    let e = first_and_rest c.loop.items.items c.in-Some.item.now (omega (arith, c.loop.invariant.count, c.loop-test.true)) c.in-Some.ensures.lookup in
    rw c.in-None.ensures.behind ((is_done _ _ _ _ _ _ (write_stops _ c.loop.items.items _ c.in-Some.item.now _ c.loop.out c.write.new.out _ _ e c.in-None.ensures.text c.loop.invariant) c.loop.invariant).bytes)

pub loop-preserved : goal.loop-preserved
loop-preserved c =
    let e = first_and_rest c.loop.items.items c.in-Some.item.now (omega (arith, c.loop.invariant.count, c.loop-test.true)) c.in-Some.ensures.lookup in
    let e' : c.loop.items.items ≡ c.in-Some.item.now ∷ c.pop_front.new.self.items = e ∙ rw c.pop_front.ensures.rest refl in
    let left : length c.args.items.now.items - (c.loop.counter + 1) ≡ length c.args.items.now.items - c.loop.counter - 1 = omega arith in
    rw left (write_more _ c.loop.items.items c.pop_front.new.self.items c.in-Some.item.now _ c.loop.out c.write.new.out _ c.in-Some-write.end _ e' c.in-Some-write.ensures.text c.in-Some-write.ensures.behind c.write.auto.out c.loop.invariant)
