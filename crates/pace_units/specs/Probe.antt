-- What a cluster of probes is to be.
use Rattle.std.specs.Prelude.{ℕ, ◌-◌, ◌*◌, ◌/◌, ◌^◌, min, Bool, true, false}
use Rattle.pace_units.specs.declared.probe.ProbeKind.{ProbeKind}
use Rattle.pace_units.specs.declared.probe.ProbeKind.TheVariants.{Initial, Exponential, Allocation, PeriodicAlr, LargeDrop, Stagnant}
use Rattle.pace_units.specs.declared.probe.ProbeClusterConfig.{ProbeClusterConfig}
use Rattle.pace_units.specs.declared.probe.TheConstants.{DEFAULT_DURATION_MILLIS, DEFAULT_DELTA_MILLIS, DEFAULT_PACKETS}

-- the application sends less than it may
abbrev pub is_alr : ProbeKind → Bool
is_alr PeriodicAlr = true
is_alr (Allocation in_alr) = in_alr
is_alr Initial = false
is_alr Exponential = false
is_alr LargeDrop = false
is_alr Stagnant = false

-- a cluster of 15 ms and at least 5 packets, with padding every 2 ms
abbrev pub new_config : ℕ → ℕ → ProbeKind → ProbeClusterConfig
new_config cluster rate kind = record {
  cluster = cluster;
  target_bitrate = rate;
  target_duration = DEFAULT_DURATION_MILLIS * 1000000;
  min_packet_count = DEFAULT_PACKETS;
  min_probe_delta = DEFAULT_DELTA_MILLIS * 1000000;
  kind = kind;
}

-- the whole bytes of some time at a rate, at most 2^64 - 1
abbrev pub bytes_of : ℕ → ℕ → ℕ
bytes_of rate time = min (rate * time / 8000000000) (2 ^ 64 - 1)

abbrev pub target_bytes : ProbeClusterConfig → ℕ
target_bytes config = bytes_of config.target_bitrate config.target_duration
