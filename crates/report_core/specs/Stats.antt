-- What is counted of a stream. A count that a u64 cannot hold is the greatest u64.
use Rattle.report_core.specs.declared.stats.StreamStats.{StreamStats}
use Rattle.report_core.specs.Traffic.{more, no_traffic, joined}

abbrev pub no_stats : StreamStats
no_stats = record { traffic = no_traffic; nacks = 0; plis = 0; firs = 0 }

-- what two streams had
abbrev pub stats_joined : StreamStats → StreamStats → StreamStats
stats_joined one other = record {
  traffic = joined one.traffic other.traffic;
  nacks = more one.nacks other.nacks;
  plis = more one.plis other.plis;
  firs = more one.firs other.firs;
}
