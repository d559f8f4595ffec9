-- The moments of receivers that wait for an answer (RFC 3611 sections 4.4 and 4.5).
use Rattle.std.specs.Prelude.{◌≢◌, ℕ, ◌-◌, ◌==◌, List, [], ◌∷◌, ◌++◌, length, take, drop, map, position, slice_set, Option, Some, None}
use Rattle.std.specs.List.{AllPairs, Contains}
use Rattle.rtcp_items.specs.declared.extended.Rrtr.{Rrtr}
use Rattle.rtcp_items.specs.declared.extended.DlrrItem.{DlrrItem}
use Rattle.rtcp_items.specs.declared.extended.ReportBlock.TheVariants.{Dlrr}
use Rattle.rtcp_items.specs.declared.extended.ExtendedReport.{ExtendedReport}
use Rattle.report_core.specs.declared.moments.ReceiverMoment.{ReceiverMoment}
use Rattle.report_core.specs.declared.moments.TheConstants.{MAX_WAITING_MOMENTS, MAX_ANSWERED_MOMENTS}
use Rattle.report_core.specs.LastReport.{compact_of, delay_units}

-- the moment of a receiver, come at a moment
abbrev pub moment_of : (ssrc : ℕ) → Rrtr → (now : ℕ) → ReceiverMoment
moment_of ssrc moment now =
    record { ssrc = ssrc; last_rr_time = compact_of moment.ntp_time; received_at = now }

-- the last n
abbrev pub last_of : ℕ → List ReceiverMoment → List ReceiverMoment
last_of n ms = drop (length ms - n) ms

-- behind the others, the last 300 of all
abbrev pub held_behind : ReceiverMoment → List ReceiverMoment → List ReceiverMoment
held_behind latest waiting = last_of MAX_WAITING_MOMENTS (waiting ++ latest ∷ [])

-- at its place, or behind the others where it has none
abbrev pub held_at : Option ℕ → ReceiverMoment → List ReceiverMoment → List ReceiverMoment
held_at None latest waiting = held_behind latest waiting
held_at (Some place) latest waiting = slice_set waiting place latest

-- and a moment, at the place of its SSRC
abbrev pub with_moment : ReceiverMoment → List ReceiverMoment → List ReceiverMoment
with_moment latest waiting = held_at (position (λ m. m.ssrc == latest.ssrc) waiting) latest waiting

-- the answer to one: its moment, and how long ago it came
abbrev pub item_of : (now : ℕ) → ReceiverMoment → DlrrItem
item_of now m =
    record { ssrc = m.ssrc; last_rr_time = m.last_rr_time; last_rr_delay = delay_units (now - m.received_at) }

-- the answers to the first 50
abbrev pub items_of : (now : ℕ) → List ReceiverMoment → List DlrrItem
items_of now waiting = map (item_of now) (take MAX_ANSWERED_MOMENTS waiting)

-- the report that holds them, where some moment waits
abbrev pub answer_of : (sender_ssrc now : ℕ) → List ReceiverMoment → Option ExtendedReport
answer_of sender_ssrc now [] = None
answer_of sender_ssrc now (m ∷ ms) =
    Some (record { ssrc = sender_ssrc; blocks = Dlrr (record { items = items_of now (m ∷ ms) }) ∷ [] })

-- what waits after that
abbrev pub unanswered : List ReceiverMoment → List ReceiverMoment
unanswered waiting = drop MAX_ANSWERED_MOMENTS waiting

-- no two are of one receiver
abbrev pub IsOneOfEach : List ReceiverMoment → Type 0
IsOneOfEach ms = AllPairs (λ x y. x.ssrc ≢ y.ssrc) ms

-- of one receiver each, they stay so when a moment comes, which then waits, and when some are answered
abbrev pub MomentsStayOne : Type 0
MomentsStayOne =
    (latest : ReceiverMoment) (ms : List ReceiverMoment) → IsOneOfEach ms
    → IsOneOfEach (with_moment latest ms) × Contains (with_moment latest ms) latest × IsOneOfEach (unanswered ms)
