-- What incoming streams ask for (RFC 4585 section 6.2.1).
use Rattle.std.specs.Prelude.{ℕ, ◌&&◌, ◌||◌, Bool, false, not, is_some, if◌then◌else◌, List, [], ◌∷◌, Option, Some, None}
use Rattle.std.specs.List.{list_any}
use Rattle.repair_core.specs.Entries.{packed}
use Rattle.repair_core.specs.Rounds.{Heard, round, due, is_pending, wait_of}
use Rattle.rtp_base.specs.declared.nack_entry.NackEntry.{NackEntry}
use Rattle.rtcp_wire.specs.declared.packet.Rtcp.{Rtcp}
use Rattle.rtcp_wire.specs.declared.packet.Rtcp.TheVariants.{Nack}
use Rattle.stream_core.specs.Arrivals.{nacked_of}
use Rattle.stream_core.specs.RxRecord.{RxState, RxRecord}

abbrev pub pending_in : Option Heard → Bool
pending_in None = false
pending_in (Some past) = is_pending past

-- the stream asks for what is missing: it is not suppressed, and it is not paused, or some missing number was asked for
-- fewer than five times
abbrev pub is_enabled : RxRecord → Bool
is_enabled r = not r.state.suppressed && (is_some r.state.pause_at || pending_in r.numbers)

abbrev pub any_enabled : List (ℕ × RxRecord) → Bool
any_enabled rs = list_any (λ e. is_enabled e.1) rs

-- the missing numbers for which a round asks at a moment, where the round trip may be known
abbrev pub due_in : ℕ → Option ℕ → Option Heard → List ℕ
due_in now trip None = []
due_in now trip (Some past) = due past now (wait_of trip)

abbrev pub asked_in : ℕ → Option ℕ → Option Heard → Option Heard
asked_in now trip None = None
asked_in now trip (Some past) = Some (round past now (wait_of trip))

-- what a stream asks for in a round, rising
abbrev pub due_of : ℕ → RxRecord → List ℕ
due_of now r = if is_enabled r then due_in now r.state.trip r.numbers else []

-- the stream after a round: an item that asks counts
abbrev pub with_nacked : List NackEntry → RxState → RxState
with_nacked entries s = record s { reports = record s.reports { stats = nacked_of entries s.reports.stats } }

abbrev pub after_round : ℕ → RxRecord → RxRecord
after_round now r =
    if is_enabled r then record r {
      state = with_nacked (packed None (due_in now r.state.trip r.numbers)) r.state;
      numbers = asked_in now r.state.trip r.numbers;
    } else r

-- the item that asks for what these entries name, if there are some
abbrev pub nack_with : ℕ → ℕ → List NackEntry → List Rtcp
nack_with sender ssrc [] = []
nack_with sender ssrc (x ∷ xs) = Nack (record { sender_ssrc = sender; ssrc = ssrc; reports = x ∷ xs }) ∷ []

abbrev pub nack_of : ℕ → ℕ → ℕ × RxRecord → List Rtcp
nack_of sender now e = nack_with sender e.1.state.ssrc (packed None (due_of now e.1))
