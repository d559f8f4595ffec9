use Rattle.std.specs.Cmp.Lexicographic.{pointwise}
use Rattle.twcc_core.specs.Runs.{left_of}
use Rattle.twcc_core.specs.contracts.status.PacketStatusPartialEq.TheImpl.{ghosts}
use Rattle.twcc_core.proofs.Runs.{IsCompared}
use Rattle.twcc_core.proofs.status_list.are_same.Given as goal

abbrev pub invariant-loop-row : goal.invariant-loop-row
invariant-loop-row l =
    (goal.iterator-loop-row).can_next l.left × (goal.iterator-loop-row).is_finite l.left
    × IsCompared ghosts.eq (left_of l.left) (left_of l.right) (pointwise ghosts.eq (left_of l.fn.left) (left_of l.fn.right))
