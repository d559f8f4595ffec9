-- What a cluster of probes asks for and when.
use Rattle.std.specs.Prelude.{ℕ, ◌+◌, ◌-◌, ◌*◌, ◌^◌, ◌==◌, ◌&&◌, not, nat_lt, nat_le, min, max, Bool, if◌then◌else◌, Option, Some, None, is_some, unwrap_or}
use Rattle.media_units.specs.declared.time.TheConstants.{NOT_HAPPENING_SECONDS}
use Rattle.pace_units.specs.Moments.{moved, drain_time}
use Rattle.pace_units.specs.Probe.{bytes_of, target_bytes}
use Rattle.pace_units.specs.declared.probe.ProbeClusterConfig.{ProbeClusterConfig}
use Rattle.pace_units.specs.declared.cluster.ProbeClusterState.{ProbeClusterState}
use Rattle.pace_units.specs.declared.cluster.TheConstants.{MAX_PADDING_PACKET_SIZE}

-- a cluster of which nothing was sent
abbrev pub new_cluster : ProbeClusterConfig → ProbeClusterState
new_cluster config = record {
  config = config;
  bytes_sent = 0;
  packets_sent = 0;
  started_at = None;
  last_padding_at = 0;
}

-- complete where it was started, and the bytes and the packets are met
abbrev pub is_complete : ProbeClusterState → Bool
is_complete c =
    is_some c.started_at
    && (nat_le (target_bytes c.config) c.bytes_sent && nat_le c.config.min_packet_count c.packets_sent)

-- the earliest moment of the next padding
abbrev pub next_padding_time : ProbeClusterState → ℕ
next_padding_time c = moved c.last_padding_at c.config.min_probe_delta

-- when the next packet is due: at once before the cluster is started, never at rate 0
abbrev pub time_from : ProbeClusterState → Option ℕ → ℕ
time_from c None = 0
time_from c (Some started) =
    if c.config.target_bitrate == 0 then NOT_HAPPENING_SECONDS * 1000000000
    else max (moved started (drain_time (c.bytes_sent * 8000000000) c.config.target_bitrate)) (next_padding_time c)

abbrev pub next_time : ProbeClusterState → ℕ
next_time c = time_from c c.started_at

abbrev pub should_send : ProbeClusterState → ℕ → Bool
should_send c now = nat_le (next_time c) now && nat_le (next_padding_time c) now

-- the size that is asked for next: at least 240 bytes and the bytes of a delta at the rate, cut to the bytes
-- that are left; 240 where only packets are missing
abbrev pub next_size : ProbeClusterState → ℕ
next_size c =
    if target_bytes c.config - c.bytes_sent == 0 && nat_lt c.packets_sent c.config.min_packet_count then MAX_PADDING_PACKET_SIZE
    else min (target_bytes c.config - c.bytes_sent) (max MAX_PADDING_PACKET_SIZE (bytes_of c.config.target_bitrate c.config.min_probe_delta))

abbrev pub started_now : ProbeClusterState → ℕ → ProbeClusterState
started_now c now = record c { started_at = Some (unwrap_or c.started_at now) }

-- padding is asked for where a packet is due, once at a moment
abbrev pub is_asking : ProbeClusterState → ℕ → Bool
is_asking c now = should_send (started_now c now) now && nat_lt c.last_padding_at now

abbrev pub after_ask : ProbeClusterState → ℕ → ProbeClusterState
after_ask c now = if is_asking c now then record (started_now c now) { last_padding_at = now } else started_now c now

abbrev pub asked_size : ProbeClusterState → ℕ → Option ℕ
asked_size c now = if is_asking c now && not (next_size c == 0) then Some (next_size c) else None

-- after a packet of that size
abbrev pub recorded : ProbeClusterState → ℕ → ℕ → ProbeClusterState
recorded c now size = record (started_now c now) {
  bytes_sent = min (c.bytes_sent + size) (2 ^ 64 - 1);
  packets_sent = min (c.packets_sent + 1) (2 ^ 64 - 1);
}
