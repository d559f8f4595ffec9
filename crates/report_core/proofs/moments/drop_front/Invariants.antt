use Rattle.std.proofs.Common.{◌≡◌, ◌≤◌, length, drop}
use Rattle.report_core.proofs.moments.drop_front.Given as goal

abbrev pub invariant-loop-turn : goal.invariant-loop-turn
invariant-loop-turn l =
    (l.waiting.items ≡ drop l._turn l.fn.waiting.items) × (length l.waiting.items ≤ length l.fn.waiting.items)
