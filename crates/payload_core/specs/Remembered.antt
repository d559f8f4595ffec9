-- What a sender of RED remembers.
use Rattle.std.specs.Prelude.{ℕ, List}
use Rattle.payload_core.specs.declared.red_sender.SentFrame.{SentFrame}

-- the type of RED and that of the frames, how many packets back the frames are that are sent again, and
-- the frames that were sent, the last one first
pub record Remembered : Type 0 where
  pub red_pt : ℕ
  pub pt : ℕ
  pub distances : List ℕ
  pub sent : List SentFrame
