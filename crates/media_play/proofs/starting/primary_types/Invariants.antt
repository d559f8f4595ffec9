use Rattle.std.proofs.Common.{◌≡◌, map, take}
use Rattle.media_play.proofs.starting.primary_types.Given as goal

abbrev pub invariant-loop-row : goal.invariant-loop-row
invariant-loop-row l = l.types ≡ map (λ t. t.pt) (take l.row-index l.row-items)
