-- What holds of an outgoing stream over a whole run.
use Rattle.std.specs.Prelude.{◌≡◌, ◌≤◌, ◌+◌, ℕ, map, length, List, ◌++◌}
use Rattle.media_model.specs.declared.entry.Write.{Write}
use Rattle.run_model.specs.Events.{Plain, Event, Types, Outgoing}
use Rattle.run_model.specs.Listing.{IsIn, NoRepeat}
use Rattle.run_model.specs.Capping.{IsCapped}
use Rattle.run_model.specs.Sending.{number_of, sendings, sending_of, cached, Carries, first_sendings, repairs, writes_on, Answers, AnswersPartly}
use Rattle.run_model.specs.Seals.{Sealing}
use Rattle.run_model.specs.TxPlay.{TxRecord, IsApart, IsTick, IsCutTick, TxPlays, TxEnds}

-- each tick answers
abbrev pub TicksAnswer : Type 0
TicksAnswer =
    (T : Types) (L : Outgoing) (seal : Sealing) (t u : TxRecord) (events : List Event) (time : ℕ) (new : List Event) → IsApart L → TxPlays T L seal t events
    → (sendings L.ssrc events).now ≤ time → IsTick T L seal time t u new → Answers T L (IsCapped L events time) (sendings L.ssrc events) new

-- each tick that is cut off answers in part
abbrev pub CutTicksAnswer : Type 0
CutTicksAnswer =
    (T : Types) (L : Outgoing) (seal : Sealing) (t u : TxRecord) (events : List Event) (time : ℕ) (new : List Event) → IsApart L → TxPlays T L seal t events
    → (sendings L.ssrc events).now ≤ time → IsCutTick T L seal time t u new → AnswersPartly T L (sendings L.ssrc events) new

-- the first sendings are those of the writes, in order, up to those that wait, and no number is sealed twice; each repair carries
-- a write that was sent, under a number of its own
pub record SendsWrites (T : Types) (L : Outgoing) (t : TxRecord) (events : List Event) : Type 0 where
  pub in_order : writes_on L.ssrc events ≡ map (λ x. x.1) (sendings L.ssrc events).sent ++ (sendings L.ssrc events).waiting
  pub sent : first_sendings L.ssrc events ≡ map (λ x. (x.1.number, sending_of x.1)) (sendings L.ssrc events).sent
  pub once : NoRepeat (map number_of (map (λ x. x.1) (sendings L.ssrc events).sent))
  pub carried : (x : ℕ × Plain) → IsIn x (repairs L events) → (y : ℕ × Write) × IsIn y (cached T L (sendings L.ssrc events).sent) × Carries T x.1 y.1
  pub apart : NoRepeat (map (λ x. x.0) (repairs L events))
  pub counted : t.next_rtx ≡ L.start + length (repairs L events)

abbrev pub StreamsSendWrites : Type 0
StreamsSendWrites =
    (T : Types) (L : Outgoing) (seal : Sealing) (t : TxRecord) (events : List Event) → IsApart L → TxEnds T L seal t events → SendsWrites T L t events
