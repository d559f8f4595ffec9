-- Laws of frames that are sent again beside later ones.
use Rattle.std.specs.Prelude.{◌≡◌, ℕ, ◌+◌, ◌<◌, ◌≤◌, Some, List, length}
use Rattle.payload_core.specs.Red.{red_of}
use Rattle.payload_core.specs.RedWriting.{red_bytes}
use Rattle.payload_core.specs.Remembered.{Remembered}
use Rattle.payload_core.specs.Sending.{frame_blocks}

-- What a sender of RED makes of a frame is read again as those blocks, where its type fits 7 bits; and it is within the
-- limit, where the frame with its own header is.
pub record IsSentAgain (s : Remembered) (time : ℕ) (frame : List ℕ) (limit : ℕ) : Type 0 where
  pub reads : s.pt < 128 → red_of (red_bytes (frame_blocks s time frame limit)) ≡ Some (frame_blocks s time frame limit)
  pub within : 1 + length frame ≤ limit → length (red_bytes (frame_blocks s time frame limit)) ≤ limit

abbrev pub FramesAreSentAgain : Type 0
FramesAreSentAgain = (s : Remembered) (time : ℕ) (frame : List ℕ) (limit : ℕ) → IsSentAgain s time frame limit
