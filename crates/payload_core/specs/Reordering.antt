-- What the calls of the reordering buffer do.
use Rattle.std.specs.Prelude.{ℕ, ◌+◌, min, nat_lt, nat_le, Bool, true, false, ◌||◌, if◌then◌else◌, Option, Some, None, is_some, Result, Ok, Err, List, [], ◌∷◌, length, slice_get}
use Rattle.std.specs.Ordering.{nat_cmp}
use Rattle.std.specs.Map.{lookup}
use Rattle.std.specs.BTreeMap.{is_at, insert_entry}
use Rattle.std.specs.BTreeSet.{insert_key}
use Rattle.std.specs.List.{list_any}
use Rattle.std.specs.Option.{option_map, option_and_then}
use Rattle.payload_core.specs.declared.buffer.Arrival.{Arrival}
use Rattle.payload_core.specs.declared.buffer.Depacketized.{Depacketized}
use Rattle.payload_core.specs.declared.error.PacketError.{PacketError}
use Rattle.payload_core.specs.declared.payload.CodecDepacketizer.{CodecDepacketizer}
use Rattle.payload_core.specs.declared.payload.CodecExtra.{CodecExtra}
use Rattle.payload_core.specs.Buffer.{settled, is_next, is_past, timed_out}
use Rattle.media_units.specs.Soonest.{earlier}
use Rattle.payload_core.specs.Packets.{extra_of}
use Rattle.payload_core.specs.Waiting.{Waiting}

-- a buffer in which nothing waits, and of which nothing was given
abbrev pub nothing_waits : {I : Type 0} → CodecDepacketizer → ℕ → Waiting I
nothing_waits depack hold_back = record {
  depack = depack;
  hold_back = hold_back;
  packets = [];
  paddings = [];
  last = None;
  deadline = None;
}

-- the number is at or below the last that was given
abbrev pub is_passed : Option ℕ → ℕ → Bool
is_passed None n = false
is_passed (Some l) n = nat_le n l

-- the number was passed, or waits already
abbrev pub is_known : {I : Type 0} → Waiting I → ℕ → Bool
is_known b n =
    is_passed b.last n
    || (is_some (lookup (is_at (nat_cmp n)) b.packets) || list_any (is_at (nat_cmp n)) b.paddings)

-- a packet was pushed: it waits, unless its number is known
abbrev pub with_packet : {I : Type 0} → Waiting I → Arrival I → Waiting I
with_packet b a =
    if is_known b a.meta.seq_no then b
    else record b { packets = insert_entry nat_cmp b.packets a.meta.seq_no a }

-- a padding number was pushed: it counts as given once it is next, unless it is known
abbrev pub with_padding : {I : Type 0} → Waiting I → ℕ → Waiting I
with_padding b n =
    if is_known b n then b
    else (let s = settled b.last (insert_key nat_cmp b.paddings n) in record b { last = s.0; paddings = s.1 })

-- the packet that waits with the lowest number
abbrev pub front : {I : Type 0} → Waiting I → Option (ℕ × Arrival I)
front b = slice_get b.packets 0

-- a front behind a gap is given where more packets wait than are held back, the deadline of the gap has
-- come, or the packet has waited for the timeout
abbrev pub is_late : {I : Type 0} → Waiting I → ℕ → ℕ → Option ℕ → Bool
is_late b received now timeout =
    nat_lt b.hold_back (length b.packets) || is_past b.deadline now || is_past (timed_out received timeout) now

-- whether the front is given now, and then whether nothing is missing before it
abbrev pub turn_of : {I : Type 0} → Waiting I → ℕ → Option ℕ → ℕ × Arrival I → Option Bool
turn_of b now timeout e =
    if is_next b.last e.0 then Some true
    else (if is_late b e.1.meta.received now timeout then Some false else None)

abbrev pub turn : {I : Type 0} → Waiting I → ℕ → Option ℕ → Option Bool
turn b now timeout = option_and_then (turn_of b now timeout) (front b)

-- the frame of a packet, or why there is none
abbrev pub frame_with : {I : Type 0} → Arrival I → Bool → Result CodecExtra PacketError → Result (Depacketized I) PacketError
frame_with a contiguous (Ok extra) = Ok (record { meta = a.meta; contiguous = contiguous; codec_extra = extra; payload = a.payload })
frame_with a contiguous (Err e) = Err e

abbrev pub frame_of : {I : Type 0} → CodecDepacketizer → Arrival I → Bool → Result (Depacketized I) PacketError
frame_of depack a contiguous = frame_with a contiguous (extra_of depack.codec depack.clock_rate a.payload)

-- what is given: the front, where it is its turn
abbrev pub popped : {I : Type 0} → Waiting I → ℕ → Option ℕ → Option (Result (Depacketized I) PacketError)
popped b now timeout = option_and_then (λ e. option_map (frame_of b.depack e.1) (turn_of b now timeout e)) (front b)

-- the first of these packets was given
abbrev pub without_first : {I : Type 0} → Waiting I → List (ℕ × Arrival I) → Waiting I
without_first b [] = b
without_first b (e ∷ rest) = let s = settled (Some e.0) b.paddings in record b { packets = rest; last = s.0; paddings = s.1 }

-- a front that is given is gone, also where it has no frame
abbrev pub after_pop : {I : Type 0} → Waiting I → ℕ → Option ℕ → Waiting I
after_pop b now timeout = if is_some (turn b now timeout) then without_first b b.packets else b

-- the number and the arrival of a front that stands behind a gap, and is not given for the packets that wait
abbrev pub blocked : {I : Type 0} → Waiting I → Option (ℕ × ℕ)
blocked b =
    option_and_then
    (λ e. if is_next b.last e.0 || nat_lt b.hold_back (length b.packets) then None else Some (e.0, e.1.meta.received))
    (front b)

-- when a front that is blocked is given
abbrev pub next_moment : {I : Type 0} → Waiting I → Option ℕ → Option ℕ
next_moment b timeout = option_and_then (λ f. earlier b.deadline (timed_out f.1 timeout)) (blocked b)

-- the numbers that are missing before a front that is blocked, from one to before another, and its arrival
abbrev pub candidate : {I : Type 0} → Waiting I → Option (ℕ × ℕ × ℕ)
candidate b =
    option_and_then (λ l. option_map (λ f. (min (l + 1) 18446744073709551615, f.0, f.1)) (blocked b)) b.last
