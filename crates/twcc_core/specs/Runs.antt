-- Rows in runs.
use Rattle.std.specs.Prelude.{suc, List, [], ◌∷◌, ◌++◌, replicate}
use Rattle.std.specs.List.{flat_map}
use Rattle.twcc_core.specs.declared.status.PacketStatus.{PacketStatus}
use Rattle.twcc_core.specs.declared.status.PacketStatus.TheVariants.{NotReceived, Received}
use Rattle.twcc_core.specs.declared.status_list.Run.{Run}
use Rattle.twcc_core.specs.declared.status_list.Run.TheVariants.{Gap, Arrival}
use Rattle.twcc_core.specs.declared.status_list.StatusIter.{StatusIter}

-- the rows that a run stands for
abbrev pub rows_of_run : Run → List PacketStatus
rows_of_run (Gap more) = replicate (suc more) NotReceived
rows_of_run (Arrival delta) = Received delta ∷ []

-- the rows that runs stand for
abbrev pub rows_of : List Run → List PacketStatus
rows_of runs = flat_map rows_of_run runs

-- the rows that are still to come: what is left of the run begun, and the other runs
abbrev pub left_of : StatusIter → List PacketStatus
left_of s = replicate s.gap NotReceived ++ rows_of s.runs.now
