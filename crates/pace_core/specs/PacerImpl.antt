-- What a pacer of either kind stands for, and what it answers.
use Rattle.std.specs.Prelude.{ℕ, if◌then◌else◌, List, Option, None}
use Rattle.rtp_base.specs.declared.ids.MidRid.{MidRid}
use Rattle.pace_units.specs.declared.queue.QueueState.{QueueState}
use Rattle.pace_units.specs.declared.queue.PaddingRequest.{PaddingRequest}
use Rattle.pace_units.specs.declared.reason.Reason.{Reason}
use Rattle.pace_core.specs.declared.pacer.PacerImpl.{PacerImpl}
use Rattle.pace_core.specs.declared.pacer.PacerImpl.TheVariants.{Null, LeakyBucket}
use Rattle.pace_core.specs.Leaky.{StandsFor as LeakyStandsFor}
use Rattle.pace_core.specs.NullPacer.{StandsFor as NullStandsFor}
use Rattle.pace_core.specs.Null.{given_in as polled_in, wake_in as unsent_wake}
use Rattle.pace_core.specs.Past.{Past, is_leaky, asked_at, given_in, wake_in, active_in, number_of, ended_in}

abbrev pub StandsFor : PacerImpl → Past → Type 0
StandsFor (Null p) past = NullStandsFor p past
StandsFor (LeakyBucket p) past = LeakyStandsFor p past

-- the padding that a timeout asks for
abbrev pub padding_at : Past → ℕ → List QueueState → Option PaddingRequest
padding_at past now queues = if is_leaky past then asked_at past now queues else None

-- what a poll gives
abbrev pub queue_in : Past → Option (MidRid × Option ℕ)
queue_in past = if is_leaky past then given_in past else polled_in past

-- when the next timeout is wanted, and why
abbrev pub timeout_in : Past → Option ℕ × Reason
timeout_in past = if is_leaky past then wake_in past else unsent_wake past

-- the cluster that runs, and the one that a question whether one ended is answered by: a null pacer has none
abbrev pub cluster_in : Past → Option ℕ
cluster_in past = if is_leaky past then number_of (active_in past) else None

abbrev pub complete_in : Past → Option ℕ
complete_in past = if is_leaky past then ended_in past else None
