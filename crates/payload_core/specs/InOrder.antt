-- Packets that come in order are given as they came.
use Rattle.std.specs.Prelude.{◌≡◌, ℕ, true, Option, Some, []}
use Rattle.payload_core.specs.declared.buffer.Arrival.{Arrival}
use Rattle.payload_core.specs.declared.payload.CodecDepacketizer.{CodecDepacketizer}
use Rattle.payload_core.specs.Buffer.{is_next}
use Rattle.payload_core.specs.Reordering.{with_packet, popped, after_pop, frame_of}
use Rattle.payload_core.specs.Waiting.{Waiting}

-- a buffer in which nothing waits, after a number was given
abbrev pub empty_after : {I : Type 0} → CodecDepacketizer → ℕ → Option ℕ → Option ℕ → Waiting I
empty_after depack hold_back deadline last = record {
  depack = depack;
  hold_back = hold_back;
  packets = [];
  paddings = [];
  last = last;
  deadline = deadline;
}

-- a packet with the next number, or the first one, is given at once, as it came and contiguous, and then nothing
-- waits
abbrev pub ComesOutAsIn : (I : Type 0) → Type 0
ComesOutAsIn I =
    (depack : CodecDepacketizer) (hold_back : ℕ) (deadline last : Option ℕ) (a : Arrival I) (now : ℕ) (timeout : Option ℕ) → is_next last a.meta.seq_no ≡ true
    → (popped (with_packet (empty_after depack hold_back deadline last) a) now timeout ≡ Some (frame_of depack a true))
    × (after_pop (with_packet (empty_after depack hold_back deadline last) a) now timeout ≡ empty_after depack hold_back deadline (Some a.meta.seq_no))
