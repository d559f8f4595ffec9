-- The record of an incoming stream, and what each call makes of it.
use Rattle.std.specs.Prelude.{◌≡◌, ℕ, ◌+◌, ◌-◌, ◌*◌, ◌^◌, ◌||◌, Bool, false, min, is_none, if◌then◌else◌, List, [], Option, Some, None, unwrap_or, option_and_then}
use Rattle.std.specs.Option.{option_map_or}
use Rattle.red_core.specs.Known.{Known, with_known}
use Rattle.red_core.specs.Placing.{place_of}
use Rattle.rtp_base.specs.Widen.{widen16}
use Rattle.repair_core.specs.Fresh.{is_fresh, greatest_of}
use Rattle.rtp_base.specs.declared.window.SeqNoWindow.{SeqNoWindow}
use Rattle.repair_core.specs.Rounds.{Heard, started_at, came, taken}
use Rattle.rtx_core.specs.Repairs.{RepairPast, Remembers as RepairsRemember}
use Rattle.stream_core.specs.declared.reports.Arrival.{Arrival}
use Rattle.stream_core.specs.declared.reports.RxReports.{RxReports}
use Rattle.stream_core.specs.declared.requests.RxRequests.{RxRequests}
use Rattle.rtp_base.specs.declared.media_time.MediaTime.{MediaTime}
use Rattle.stream_core.specs.Arrivals.{no_rx_reports, rx_reports_anew, with_arrival, with_time, time_of, forgotten}
use Rattle.stream_core.specs.Requests.{no_requests}

-- all of an incoming stream but its window: its SSRC and that of its repairs, the media section and the stream in it; the
-- rollover count that the next datagram is taken to have, if one was set; whether it asks for nothing that is missing; how
-- long nothing comes on it until it is paused; from which moment on it is paused unless something comes, None while it is
-- paused; whether it was paused or unpaused since that was told; the round trip to its sender, where one is known; the name of
-- its source, once that was told; what it keeps for its reports; and what it asks of its sender at the next tick
pub record RxState : Type 0 where
  pub ssrc : ℕ
  pub rtx : Option ℕ
  pub mid : List ℕ
  pub rid : Option (List ℕ)
  pub roc : Option ℕ
  pub suppressed : Bool
  pub threshold : ℕ
  pub pause_at : Option ℕ
  pub untold : Bool
  pub trip : Option ℕ
  pub cname : Option (List ℕ)
  pub reports : RxReports
  pub requests : RxRequests

-- an incoming stream as its callers see it: the windows of its packets and of its repairs; and the last 32 numbers that were
-- taken, each with the RTP time of its packet, the last one first
pub record RxView (W : Type 0) : Type 0 where
  pub state : RxState
  pub window : Option W
  pub repairs : Option SeqNoWindow
  pub recent : List Known

-- an incoming stream: what its window was told is None before the first number was taken, and what is known of its repairs
-- before the first one opened
pub record RxRecord : Type 0 where
  pub state : RxState
  pub numbers : Option Heard
  pub repairs : Option RepairPast
  pub recent : List Known

-- a stream on which nothing was opened: it is paused
abbrev pub expected : ℕ → Option ℕ → List ℕ → Option (List ℕ) → Bool → ℕ → RxRecord
expected ssrc rtx mid rid suppressed threshold = record {
  state = record {
    ssrc = ssrc;
    rtx = rtx;
    mid = mid;
    rid = rid;
    roc = None;
    suppressed = suppressed;
    threshold = threshold;
    pause_at = None;
    untold = false;
    trip = None;
    cname = None;
    reports = no_rx_reports;
    requests = no_requests;
  };
  numbers = None;
  repairs = None;
  recent = [];
}

-- what a window was told, or will have been told once the first number is taken: a window begins with the greatest number
-- that is remembered of the SSRC by then
abbrev pub heard : Option ℕ → RxRecord → Heard
heard remembered r = unwrap_or r.numbers (started_at remembered)

abbrev pub taken_of : Option ℕ → RxRecord → List ℕ
taken_of remembered r = taken (heard remembered r)

-- the number with these low 16 bits: with the rollover count that was set, else near the greatest that was taken
abbrev pub number_with : Option ℕ → List ℕ → ℕ → ℕ
number_with None l low = widen16 (greatest_of l) low
number_with (Some roc) l low = roc * 65536 + low

abbrev pub number_for : Option ℕ → RxRecord → ℕ → ℕ
number_for remembered r low = number_with r.state.roc (taken_of remembered r) low

-- that number, where it is fresh
abbrev pub fresh_number : Option ℕ → RxRecord → ℕ → Option ℕ
fresh_number remembered r low =
    if is_fresh (taken_of remembered r) (number_for remembered r low) then Some (number_for remembered r low) else None

-- something opened at a moment: the stream is not paused until its threshold has passed
abbrev pub unpaused : ℕ → RxState → RxState
unpaused now s = record s {
  pause_at = Some (min (now + s.threshold) (2 ^ 64 - 1));
  untold = s.untold || is_none s.pause_at;
}

-- the RTP time of a packet that is taken as it came, and that of one that is restored from a repair that so came: the second
-- is no stream's last time, and a pause before it does not count
abbrev pub taken_time : Arrival → RxState → MediaTime
taken_time a s = time_of (is_none s.pause_at) a s.reports

abbrev pub restored_time : Arrival → RxState → MediaTime
restored_time a s = time_of false a s.reports

-- a packet opened under this number: a rollover count that was set is used up
abbrev pub came_at : Arrival → ℕ → RxState → RxState
came_at a n s =
    record (unpaused a.now s) { roc = None; reports = with_time (is_none s.pause_at) a (with_arrival a n s.reports) }

-- one more number was taken, with the time of its packet
abbrev pub remembered_at : ℕ → ℕ → List Known → List Known
remembered_at n time recent = with_known recent (record { number = n; time = time })

abbrev pub opened_as : Option ℕ → Arrival → ℕ → RxRecord → RxRecord
opened_as remembered a n r = record r {
  state = came_at a n r.state;
  numbers = Some (came (heard remembered r) n);
  recent = remembered_at n (taken_time a r.state).numer r.recent;
}

-- the number of a redundant block (RFC 2198) of a time that came in a datagram that was taken under a number: the place among
-- the numbers that may still be taken that the times of the last 32 tell
abbrev pub placed : (datagram time : ℕ) → RxRecord → Option ℕ
placed datagram time r = option_and_then (λ past. place_of r.recent (taken past) datagram time) r.numbers

-- a block was recovered: its number is taken, and counts as none that came
abbrev pub recovered_as : (number time : ℕ) → RxRecord → RxRecord
recovered_as n time r =
    option_map_or (λ past. record r { numbers = Some (came past n); recent = remembered_at n time r.recent }) r.numbers r

-- the numbers are forgotten, those of the repairs too, with their times and what was counted, and a rollover count was set
abbrev pub restarted : ℕ → RxRecord → RxRecord
restarted roc r = record {
  state = record r.state { roc = Some roc; reports = forgotten r.state.reports };
  numbers = None;
  repairs = None;
  recent = [];
}

-- the packets of a stream come under another SSRC: what was taken of them and their times, how they came, what their sender
-- reported and what it is asked are forgotten, and the next report is due as that of a stream that never reported; what was taken
-- of repairs, and the statistics, stay
abbrev pub moved_to : ℕ → RxRecord → RxRecord
moved_to ssrc r = record r {
  state = record r.state { ssrc = ssrc; roc = None; reports = rx_reports_anew r.state.reports; requests = no_requests };
  numbers = None;
  recent = [];
}

-- the repairs of a stream come under another SSRC, or for the first time under one: what was taken of them is forgotten
abbrev pub repaired_under : ℕ → RxRecord → RxRecord
repaired_under rtx r = record r { state = record r.state { rtx = Some rtx }; repairs = None }

-- there is a window exactly where the record says so, and it remembers what it was told
abbrev pub Remembers : {W : Type 0} → (W → Heard → Type 0) → Option W → Option Heard → Type 0
Remembers remembers None None = Unit {0}
Remembers remembers None (Some past) = ⊥
Remembers remembers (Some w) None = ⊥
Remembers remembers (Some w) (Some past) = remembers w past

pub record StandsFor {W : Type 0} (remembers : W → Heard → Type 0) (s : RxView W) (r : RxRecord) : Type 0 where
  pub state : s.state ≡ r.state
  pub window : Remembers remembers s.window r.numbers
  pub repairs : RepairsRemember s.repairs r.repairs
  pub recent : s.recent ≡ r.recent
