-- What is seen of the clusters of a pacer.
use Rattle.std.specs.Prelude.{ℕ, List, Option}
use Rattle.pace_units.specs.declared.cluster.ProbeClusterState.{ProbeClusterState}

-- those that run or wait, and the number of the last that ended and was not told
pub record Probes : Type 0 where
  pub running : List ProbeClusterState
  pub ended : Option ℕ
