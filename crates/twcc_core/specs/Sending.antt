-- Packets sent, and what reports say of them.
use Rattle.std.specs.Prelude.{◌≡◌, ℕ, ◌+◌, ◌-◌, ◌^◌, ◌<◌, ◌≤◌, ◌&&◌, Bool, true, false, All, Contains, List, [], ◌∷◌, ◌++◌, length, drop, map, filter, fold, slice_get, count_by, nat_lt, nat_le, is_some, is_none, unwrap_or, Option, Some, None, if◌then◌else◌}
use Rattle.std.specs.List.{filter_map, AllWithin}
use Rattle.std.specs.List.Sorted.{IsNonDecreasingBy}
use Rattle.std.specs.Option.{option_map, option_map_or}
use Rattle.rtp_base.specs.Widen.{widen16}
use Rattle.twcc_core.specs.declared.feedback.Twcc.{Twcc}
use Rattle.twcc_core.specs.declared.share.Share.{Share}
use Rattle.twcc_core.specs.declared.send.TwccSendRecord.{TwccSendRecord}
use Rattle.twcc_core.specs.declared.send.TheConstants.{MAX_RECORDS}
use Rattle.rtp_base.specs.declared.number.TheConstants.{NUMBER_LIMIT}
use Rattle.twcc_core.specs.Feedback.{twcc_of, twcc_bytes}
use Rattle.twcc_core.specs.Reports.{Receiving, unreported, arrival_of, reference_of, report_of}
use Rattle.twcc_core.specs.Times.{moments_of, held, AreMoments}

-- the last packets sent, in order, each with what the last report of it said; and the round trip that the
-- last report told, if it told one
pub record Sending : Type 0 where
  pub records : List TwccSendRecord
  pub trip : Option ℕ

-- one more packet; of all the last 1,000 are kept
abbrev pub last_of : ℕ → List TwccSendRecord → List TwccSendRecord
last_of n records = drop (length records - n) records

abbrev pub with_sent : Sending → TwccSendRecord → Sending
with_sent s sent = record { records = last_of MAX_RECORDS (s.records ++ sent ∷ []); trip = s.trip }

-- the number of the last packet sent, and the one that a report begins with
abbrev pub last_number : List TwccSendRecord → Option ℕ
last_number records = option_map (λ r. r.id.seq) (slice_get records (length records - 1))

abbrev pub first_told : List TwccSendRecord → Twcc → ℕ
first_told records t = widen16 (last_number records) t.base_seq

-- so many records at the end are in order of their numbers
unfoldable pub IsRising : List TwccSendRecord → ℕ → Type 0
IsRising records n = IsNonDecreasingBy (λ r. r.id.seq) (drop (length records - n) records)

-- whether a record is of one of n numbers in a row
abbrev pub is_among : ℕ → ℕ → TwccSendRecord → Bool
is_among first n r = nat_le first r.id.seq && nat_lt r.id.seq (first + n)

-- the records of n numbers in a row stand between two places
pub record IsWithin (first n : ℕ) (records : List TwccSendRecord) (start end : ℕ) : Type 0 where
  pub order : start ≤ end
  pub bound : end ≤ length records
  pub before : AllWithin (λ r. is_among first n r ≡ false) records 0 start
  pub after : AllWithin (λ r. is_among first n r ≡ false) records end (length records)

-- what is told of a number by the moments of the numbers from a first one on, if it is among them
abbrev pub moment_told : ℕ → List (Option ℕ) → ℕ → Option (Option ℕ)
moment_told first moments number = if nat_lt number first then None else slice_get moments (number - first)

-- the record of a number that is told
abbrev pub with_report : ℕ → TwccSendRecord → Option ℕ → TwccSendRecord
with_report now r received = record { id = r.id; size = r.size; sent = r.sent; reported = Some now; received = received }

abbrev pub record_told : ℕ → List (Option ℕ) → ℕ → TwccSendRecord → Option TwccSendRecord
record_told first moments now r = option_map (with_report now r) (moment_told first moments r.id.seq)

-- each record, those that are told as they are told
abbrev pub after_told : ℕ → List (Option ℕ) → ℕ → TwccSendRecord → TwccSendRecord
after_told first moments now r = unwrap_or (record_told first moments now r) r

-- the records that a report tells, in order of sending
unfoldable pub told_by : Sending → ℕ → Twcc → List TwccSendRecord
told_by s now t = filter_map (record_told (first_told s.records t) (moments_of t) now) s.records

-- the record of the greatest number; of two of one number, as where a number was sent twice, the one sent
-- last
abbrev pub greater_of : Option TwccSendRecord → TwccSendRecord → Option TwccSendRecord
greater_of None r = Some r
greater_of (Some best) r = if nat_lt r.id.seq best.id.seq then Some best else Some r

abbrev pub greatest_sent : List TwccSendRecord → Option TwccSendRecord
greatest_sent records = fold greater_of None records

-- whether the last report of a packet says that it came
abbrev pub came : TwccSendRecord → Bool
came r = is_some r.received

-- from sending to the report, for the packet of the greatest number among those that came
abbrev pub trip_of : ℕ → List TwccSendRecord → Option ℕ
trip_of now records = option_map (λ r. now - r.sent) (greatest_sent (filter came records))

-- there is no round trip exactly where none of the packets came; and one is that of a packet that came,
-- whose number is at least that of each other that came
abbrev pub RoundTripIsOfTheGreatest : Type 0
RoundTripIsOfTheGreatest =
    (now : ℕ) (records : List TwccSendRecord)
    → (trip_of now records ≡ None → All (λ r. r.received ≡ None) records)
    × (All (λ r. r.received ≡ None) records → trip_of now records ≡ None)
    × ((trip : ℕ) → trip_of now records ≡ Some trip
    → (r : TwccSendRecord) × Contains records r × (came r ≡ true) × (trip ≡ now - r.sent) × All (λ other. came other ≡ true → other.id.seq ≤ r.id.seq) records)

unfoldable pub after_applied : Sending → ℕ → Twcc → Sending
after_applied s now t = record {
  records = map (after_told (first_told s.records t) (moments_of t) now) s.records;
  trip = trip_of now (told_by s now t);
}

-- the records that a report told at a moment or later, and those of them that are missing
abbrev pub is_told_from : ℕ → TwccSendRecord → Bool
is_told_from start r = option_map_or (λ moment. nat_le start moment) r.reported false

abbrev pub is_missing_from : ℕ → TwccSendRecord → Bool
is_missing_from start r = is_told_from start r && is_none r.received

abbrev pub share_of : ℕ → List TwccSendRecord → Share
share_of start records = record { missing = count_by (is_missing_from start) records; total = count_by (is_told_from start) records }

unfoldable pub sent_loss : ℕ → List TwccSendRecord → Option Share
sent_loss start records = if nat_lt 0 (count_by (is_told_from start) records) then Some (share_of start records) else None

-- a record with what was received of it put down
abbrev pub with_arrival_of : List (ℕ × ℕ) → ℕ → TwccSendRecord → TwccSendRecord
with_arrival_of arrivals now r = with_report now r (option_map held (arrival_of arrivals r.id.seq))

-- a report that was built, written, read again and taken in tells, of the packets sent with the numbers
-- from the lowest unreported on, which came, and when, as the wire holds it, where the last packet sent
-- is fewer than 32,768 numbers further, and the first reported arrival was before the reference time
-- comes round, after about 12 days
abbrev pub ReportsComeBack : Type 0
ReportsComeBack =
    (s : Sending) (r : Receiving) (sender ssrc limit now last : ℕ) (t : Twcc) (first : ℕ × ℕ) → sender < 2 ^ 32 → ssrc < 2 ^ 32 → r.reports < 256 → AreMoments r.arrivals
    → slice_get (unreported r) 0 ≡ Some first → reference_of first.1 < 2 ^ 24 → report_of r sender ssrc limit ≡ Some t
    → last_number s.records ≡ Some last → first.0 ≤ last → last < first.0 + 32768 → last < NUMBER_LIMIT
    → (twcc_of (twcc_bytes t) ≡ Some t) × (told_by s now t ≡ map (with_arrival_of r.arrivals now) (filter (is_among first.0 (length t.rows)) s.records))
