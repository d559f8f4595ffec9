-- Packets that wait, in the order in which they were written.
use Rattle.std.specs.Prelude.{◌≡◌, ◌==◌, ℕ, zero, suc, ◌-◌, ◌%◌, ◌<◌, ◌≤◌, ◌^◌, min, Bool, true, false, ◌&&◌, if◌then◌else◌, is_some, is_none, Option, Some, None, List, [], ◌∷◌, length}
use Rattle.std.specs.List.{list_any, filter, filter_map, sum_by}
use Rattle.pace_units.specs.declared.queue.QueuePriority.TheVariants.{Media, Empty}
use Rattle.pace_units.specs.declared.queue.QueueSnapshot.{QueueSnapshot}
use Rattle.media_units.specs.Soonest.{earlier}
use Rattle.rtp_base.specs.declared.number.TheConstants.{NUMBER_LIMIT}
use Rattle.rtp_wire.specs.declared.header.TheConstants.{MAX_SOURCES}
use Rattle.stream_core.specs.declared.packet.RtpPacket.{RtpPacket}
use Rattle.stream_core.specs.declared.stream_tx.TheConstants.{MAX_PAYLOAD_LEN}

-- a packet that may wait to be sealed: it has a number of 48 bits, whose low 16 bits are in its header, at most 1,400
-- bytes of payload, and at most 15 contributing sources
pub record IsSendable (p : RtpPacket) : Type 0 where
  pub number : p.seq_no < NUMBER_LIMIT
  pub low : p.header.sequence_number ≡ p.seq_no % 65536
  pub payload : length p.payload ≤ MAX_PAYLOAD_LEN
  pub sources : p.header.csrc_count ≤ MAX_SOURCES

-- the moment of the first tick since the write
abbrev pub stamp_of : ℕ → Option ℕ → Option ℕ
stamp_of now None = Some now
stamp_of now (Some t) = Some t

abbrev pub with_stamp : ℕ → RtpPacket → RtpPacket
with_stamp now p = record p { timestamp = stamp_of now p.timestamp }

-- a packet before the first tick since its write
abbrev pub unstamped : RtpPacket → RtpPacket
unstamped p = record p { timestamp = None }

-- some packet was written since the last tick
abbrev pub needs_tick : List RtpPacket → Bool
needs_tick ps = list_any (λ p. is_none p.timestamp) ps

abbrev pub if_stamped : RtpPacket → Option ℕ → Option RtpPacket
if_stamped p None = None
if_stamped p (Some t) = Some p

-- the packet at the front, if there was a tick since it was written
abbrev pub next_of : List RtpPacket → Option RtpPacket
next_of [] = None
next_of (p ∷ ps) = if_stamped p p.timestamp

abbrev pub rest_after : RtpPacket → List RtpPacket → Option ℕ → List RtpPacket
rest_after p ps None = p ∷ ps
rest_after p ps (Some t) = ps

-- those that wait after that packet was taken
abbrev pub rest_of : List RtpPacket → List RtpPacket
rest_of [] = []
rest_of (p ∷ ps) = rest_after p ps p.timestamp

-- of these packets the first so many have a stamp, and the others none
abbrev pub are_stamped : ℕ → List RtpPacket → Bool
are_stamped zero [] = true
are_stamped (suc n) [] = false
are_stamped zero (p ∷ ps) = is_none p.timestamp && are_stamped zero ps
are_stamped (suc n) (p ∷ ps) = is_some p.timestamp && are_stamped n ps

-- the packets that have a stamp, in order
abbrev pub stamped : List RtpPacket → List RtpPacket
stamped ps = filter (λ p. is_some p.timestamp) ps

-- their stamps
abbrev pub stamps_of : List RtpPacket → List ℕ
stamps_of ps = filter_map (λ p. p.timestamp) ps

abbrev pub payload_bytes : List RtpPacket → ℕ
payload_bytes ps = sum_by (λ p. length p.payload) ps

-- how long it is from these moments to now, all together; from a later one it is no time
abbrev pub waits : ℕ → List ℕ → ℕ
waits now ts = sum_by (λ t. now - t) ts

-- the earliest of these moments
abbrev pub earliest_of : List ℕ → Option ℕ
earliest_of [] = None
earliest_of (t ∷ ts) = earlier (Some t) (earliest_of ts)

-- what a pacer is told at a moment of packets that wait, of which one was sent last at a moment. It counts those that
-- have a stamp. A number that its type cannot hold is the type's greatest
abbrev pub snapshot_of : ℕ → Option ℕ → List RtpPacket → QueueSnapshot
snapshot_of now last_emitted ps = record {
  created_at = now;
  byte_size = min (payload_bytes (stamped ps)) (2 ^ 64 - 1);
  packet_count = min (length (stamped ps)) (2 ^ 32 - 1);
  total_queue_time_origin = min (waits now (stamps_of ps)) (2 ^ 64 - 1);
  last_emitted = last_emitted;
  first_unsent = earliest_of (stamps_of ps);
  priority = if length (stamped ps) == 0 then Empty else Media;
}
