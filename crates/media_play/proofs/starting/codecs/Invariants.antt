use Rattle.std.proofs.Common.{take}
use Rattle.std.specs.List.{AllZip}
use Rattle.media_play.specs.Starting.{IsParams}
use Rattle.media_play.proofs.starting.codecs.Given as goal

abbrev pub invariant-loop-row : goal.invariant-loop-row
invariant-loop-row l = AllZip IsParams l.params.items (take l.row-index l.row-items)
