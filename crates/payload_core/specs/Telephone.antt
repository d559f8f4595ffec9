-- Telephone events (RFC 4733).
use Rattle.std.specs.Prelude.{◌≡◌, ℕ, ◌+◌, ◌-◌, ◌*◌, ◌/◌, ◌%◌, ◌<◌, ◌≤◌, Bool, ◌==◌, nat_lt, if◌then◌else◌, Option, Some, None, List, ◌∷◌, ◌++◌, length, slice_index}
use Rattle.std.specs.Int.{w16, to_be_bytes}
use Rattle.rtp_base.specs.Wire.{half_at}
use Rattle.payload_core.specs.declared.telephone.TelephoneEvent.{TelephoneEvent}
use Rattle.payload_core.specs.declared.telephone.TheConstants.{TELE_EVENT_LEN, TELE_VOLUME_MAX}

-- the whole ticks of a clock in a length of time, in nanoseconds
abbrev pub units_of : ℕ → ℕ → ℕ
units_of clock duration = duration * clock / 1000000000

-- how long so many ticks are, in nanoseconds, rounded up
abbrev pub duration_of : ℕ → ℕ → ℕ
duration_of clock units = (units * 1000000000 + (clock - 1)) / clock

-- an event of 8 bits, whether it has ended, a reserved bit, the volume of 6 bits, and the duration of 16
-- (RFC 4733 section 2.3)
abbrev pub event_of : ℕ → List ℕ → Option TelephoneEvent
event_of clock bytes =
    if nat_lt (length bytes) TELE_EVENT_LEN then None
    else Some (record {
      event = slice_index bytes 0;
      end = slice_index bytes 1 / 128 == 1;
      volume = slice_index bytes 1 % 64;
      duration = duration_of clock (half_at bytes 2);
    })

abbrev pub end_bit : Bool → ℕ
end_bit b = if b then 128 else 0

abbrev pub bytes_of : ℕ → TelephoneEvent → Option (List ℕ)
bytes_of clock e =
    if nat_lt 65535 (units_of clock e.duration) then None
    else Some (e.event ∷ (end_bit e.end + e.volume) ∷ to_be_bytes w16 (units_of clock e.duration))

-- an event as it is read again: of its duration the whole ticks
abbrev pub held_event : ℕ → TelephoneEvent → TelephoneEvent
held_event clock e = record e { duration = duration_of clock (units_of clock e.duration) }

-- an event in bytes is read again, whatever follows it
abbrev pub EventReadsBack : Type 0
EventReadsBack = (clock : ℕ) (e : TelephoneEvent) (bytes rest : List ℕ) → e.volume ≤ TELE_VOLUME_MAX → bytes_of clock e ≡ Some bytes → event_of clock (bytes ++ rest) ≡ Some (held_event clock e)

-- ticks of a clock of at most a nanosecond are the same again
abbrev pub UnitsComeBack : Type 0
UnitsComeBack = (clock units : ℕ) → 0 < clock → clock ≤ 1000000000 → units_of clock (duration_of clock units) ≡ units
