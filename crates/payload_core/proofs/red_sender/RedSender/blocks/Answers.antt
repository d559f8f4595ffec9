use Rattle.std.proofs.Common.{◌≡◌, ◌<◌, ◌≤◌, ◌∷◌, [], length, arith, length-append, get_or, refl, sym}
use Rattle.payload_core.proofs.Choosing.{chosen_one, chosen_none, chosen_ends}
use Rattle.payload_core.proofs.red_sender.RedSender.blocks.Goals as goal
use Rattle.payload_core.proofs.red_sender.RedSender.blocks.Goals.{then-is_taken, else-is_taken}

pub loop-i-preserved : goal.loop-i-preserved
loop-i-preserved c =
    let lt : c.loop-i.i < length c.args.self.now.sent = rw (← c.self.view_is) (omega (arith, c.self.inside.sent.ok.0, c.len-count.ensures, c.loop-i-test.true)) in
    let at : c.index-sent.result.now ≡ get_or c.args.self.now.sent c.loop-i.i c.index-sent.result.now = rw (← c.self.view_is) c.index-sent.ensures in
    elim c.if-is_taken.branch [
      | then-is_taken w ↦ (
        rw (w.blocks-is, w.room-is)
            (chosen_one _ _ _ _ _ _ _ _ _ _ _ _ lt at w.push_reserved-then-is_taken.ensures.items (rw (← c.self.view_is) w.older_block.ensures)
            (rw (← c.self.view_is, ← c.deref.ensures.value) (sym w.if-is_taken.ensures.value)) (rw w.len.ensures refl) c.loop-i.invariant.0),
        rw (w.blocks-is, w.push_reserved-then-is_taken.ensures.items) (omega (arith, length-append c.loop-i.blocks.items (w.older_block.result ∷ []), c.loop-i.invariant.1)),
        rw w.blocks-is (omega (arith, w.push_reserved-then-is_taken.ensures.capacity, c.loop-i.invariant.2)),
      )
      | else-is_taken w ↦ (
        rw (w.blocks-is, w.room-is)
            (chosen_none _ _ _ _ _ _ _ _ _ lt at (rw (← c.self.view_is, ← c.deref.ensures.value) (sym w.if-is_taken.ensures.value)) c.loop-i.invariant.0),
        rw w.blocks-is (omega (arith, c.loop-i.invariant.1)),
        rw w.blocks-is c.loop-i.invariant.2,
      )
    ]

pub returns : goal.returns
returns c =
    let le : length c.args.self.now.sent ≤ c.loop-i.i = rw (← c.self.view_is) (omega (arith, c.self.inside.sent.ok.0, c.len-count.ensures, c.loop-i-test.false)) in
    chosen_ends c.loop-i.blocks.items c.reverse.new.self.items _ _ _ _ _ _ _ le c.reverse.ensures.items c.loop-i.invariant.0
