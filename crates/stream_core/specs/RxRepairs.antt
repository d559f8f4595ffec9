-- What the repairs of an incoming stream (RFC 4588) make of it.
use Rattle.std.specs.Prelude.{ℕ, if◌then◌else◌, Option, Some, None}
use Rattle.rtp_base.specs.Widen.{widen16}
use Rattle.repair_core.specs.Fresh.{is_fresh, greatest_of}
use Rattle.repair_core.specs.Rounds.{came}
use Rattle.rtx_core.specs.Repairs.{repair_number, is_fresh_repair, repair_opened}
use Rattle.stream_core.specs.declared.reports.Arrival.{Arrival}
use Rattle.stream_core.specs.Arrivals.{with_arrival, with_late}
use Rattle.stream_core.specs.RxRecord.{RxRecord, heard, taken_of, unpaused, restored_time, remembered_at}

-- a repair's own number with these low 16 bits: near the greatest repair that was taken, before the first one near the
-- greatest number that was seen on the SSRC of its datagram
abbrev pub own_number : Option ℕ → RxRecord → ℕ → ℕ
own_number seen r low = repair_number seen r.repairs low

-- that number, where it is fresh among the repairs
abbrev pub fresh_repair : Option ℕ → RxRecord → ℕ → Option ℕ
fresh_repair seen r low = if is_fresh_repair seen r.repairs (own_number seen r low) then Some (own_number seen r low) else None

-- a repair with this own number opened at a moment: a rollover count that was set stays for the next packet
abbrev pub repair_came : Option ℕ → ℕ → ℕ → RxRecord → RxRecord
repair_came seen now n r = record r { state = unpaused now r.state; repairs = repair_opened seen n r.repairs }

-- the number of the packet that is repaired, where a repair has these low 16 bits of it in front of its payload: near the
-- greatest that was taken
abbrev pub restored_for : Option ℕ → RxRecord → ℕ → ℕ
restored_for remembered r low = widen16 (greatest_of (taken_of remembered r)) low

-- that number, where it is fresh
abbrev pub restored : Option ℕ → RxRecord → ℕ → Option ℕ
restored remembered r low =
    if is_fresh (taken_of remembered r) (restored_for remembered r low) then Some (restored_for remembered r low) else None

-- a number is taken
abbrev pub with_number : Option ℕ → ℕ → RxRecord → RxRecord
with_number remembered n r = record r { numbers = Some (came (heard remembered r) n) }

-- a packet came in a repair: its number is taken and its time remembered, if it is fresh, and else it enters the jitter alone
abbrev pub with_packet : Option ℕ → Arrival → Option ℕ → RxRecord → RxRecord
with_packet remembered a None r = record r { state = record r.state { reports = with_late a r.state.reports } }
with_packet remembered a (Some n) r =
    with_number remembered n (record r {
      state = record r.state { reports = with_arrival a n r.state.reports };
      recent = remembered_at n (restored_time a r.state).numer r.recent;
    })

-- the stream after the packet was restored
abbrev pub after_restored : Option ℕ → Arrival → ℕ → RxRecord → RxRecord
after_restored remembered a low r = with_packet remembered a (restored remembered r low) r
