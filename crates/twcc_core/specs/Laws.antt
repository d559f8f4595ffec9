-- What the definitions of reading and writing owe each other.
use Rattle.std.specs.Prelude.{◌≡◌, ◌%◌, ◌^◌, ◌<◌, length, Some, FitsSigned}
use Rattle.std.specs.Int.{w16}
use Rattle.std.specs.List.{AllByRecursion}
use Rattle.rtp_base.specs.Fields.{IsSigned24}
use Rattle.twcc_core.specs.declared.status.PacketStatus.{PacketStatus}
use Rattle.twcc_core.specs.declared.status.PacketStatus.TheVariants.{NotReceived, Received}
use Rattle.twcc_core.specs.declared.feedback.Twcc.{Twcc}
use Rattle.twcc_core.specs.declared.feedback.TheConstants.{BODY_LIMIT}
use Rattle.twcc_core.specs.Feedback.{twcc_of, twcc_bytes}

-- the fields fit their places on the wire
abbrev pub IsStatus : PacketStatus → Type 0
IsStatus NotReceived = Unit {0}
IsStatus (Received delta) = FitsSigned w16 delta

pub record IsFeedback (t : Twcc) : Type 0 where
  pub sender : t.sender_ssrc < 2 ^ 32
  pub media : t.ssrc < 2 ^ 32
  pub base : t.base_seq < 2 ^ 16
  pub reference : IsSigned24 t.reference_time
  pub count : t.feedback_count < 256
  pub few : length t.rows < 65536
  pub statuses : AllByRecursion IsStatus t.rows

-- written feedback is read again as it was
abbrev pub FeedbackReadsBack : Type 0
FeedbackReadsBack = (t : Twcc) → IsFeedback t → twcc_of (twcc_bytes t) ≡ Some t

-- written feedback has whole words, and fits an item of RTCP
abbrev pub FeedbackIsWhole : Type 0
FeedbackIsWhole = (t : Twcc) → length t.rows < 65536 → (length (twcc_bytes t) % 4 ≡ 0) × (length (twcc_bytes t) < BODY_LIMIT)
