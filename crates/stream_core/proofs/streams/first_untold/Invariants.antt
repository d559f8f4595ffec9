use Rattle.std.proofs.Common.{◌≡◌, None, take}
use Rattle.stream_core.specs.Pauses.{first_where, view_untold}
use Rattle.stream_core.proofs.streams.first_untold.Given as goal

abbrev pub invariant-loop-place : goal.invariant-loop-place
invariant-loop-place g l = record {
  before : first_where view_untold (take l.place l.streams) ≡ None;
}
