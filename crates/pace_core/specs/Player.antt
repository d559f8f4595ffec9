-- What plays a run.
use Rattle.std.specs.Prelude.{◌≡◌, ◌&&◌, nat_le, is_some, Bool, true}
use Rattle.pace_core.specs.declared.run.PaceCall.{PaceCall}
use Rattle.pace_core.specs.declared.run.PaceCall.TheVariants.{Pacing, Padding, Timeout, Poll, Send}
use Rattle.pace_core.specs.declared.run.Player.{Player}
use Rattle.pace_core.specs.Leaky.{StandsFor}
use Rattle.pace_core.specs.Past.{Past, latest_in, waiting_in, sends_in}

-- the player played this
pub record Plays (p : Player) (past : Past) : Type 0 where
  pub paces : StandsFor p.pacer past
  pub sent : p.sends ≡ sends_in past
  pub moment : p.latest ≡ latest_in past
  pub waits : p.waiting ≡ waiting_in past

-- a call may come next
abbrev pub may_play : Player → PaceCall → Bool
may_play p (Pacing rate) = true
may_play p (Padding rate) = true
may_play p (Timeout now queues) = nat_le p.latest now
may_play p Poll = true
may_play p (Send now size) = nat_le p.latest now && is_some p.waiting
