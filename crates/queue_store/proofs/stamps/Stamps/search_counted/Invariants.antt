use Rattle.std.proofs.Common.{ℕ, ◌+◌, ◌-◌, ◌*◌, ◌^◌, ◌<◌, ◌≤◌, length}
use Rattle.queue_store.specs.Stamps.{stamp_at}
use Rattle.queue_store.proofs.stamps.Stamps.search_counted.Given as goal

abbrev pub invariant-loop-low : goal.invariant-loop-low
invariant-loop-low g l = record {
  ordered : l.low ≤ l.high;
  within : l.high ≤ length l.self-inside.all.items;
  later : l.fn.steps ≤ l.steps;
  halves : 2 ^ (l.steps - l.fn.steps) * (l.high - l.low) ≤ length l.self-inside.all.items;
  counted : length l.self-inside.all.items + 2 ≤ 2 ^ (l.steps - l.fn.steps) * (l.high - l.low + 2);
  cost : 2 ^ (l.steps - l.fn.steps) ≤ 2 * length l.self-inside.all.items + 1;
  below : (k : ℕ) → k < l.low → (stamp_at l.self-inside.all.items k).position < l.position;
  above : (k : ℕ) → l.high ≤ k → k < length l.self-inside.all.items → l.position < (stamp_at l.self-inside.all.items k).position;
}

abbrev pub decreases-loop-low : goal.decreases-loop-low
decreases-loop-low g l = l.high - l.low
