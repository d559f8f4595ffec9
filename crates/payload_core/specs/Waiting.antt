-- What a reordering buffer holds.
use Rattle.std.specs.Prelude.{ℕ, Option, List}
use Rattle.payload_core.specs.declared.payload.CodecDepacketizer.{CodecDepacketizer}
use Rattle.payload_core.specs.declared.buffer.Arrival.{Arrival}

-- the packets that wait, under their numbers, the lowest first; the padding numbers above the last number
-- that was given; how many packets may wait before a gap is passed over, and when it is
pub record Waiting (I : Type 0) : Type 0 where
  pub depack : CodecDepacketizer
  pub hold_back : ℕ
  pub packets : List (ℕ × Arrival I)
  pub paddings : List ℕ
  pub last : Option ℕ
  pub deadline : Option ℕ
