-- Reports of packets received.
use Rattle.std.specs.Prelude.{◌≡◌, ℕ, ℤ, pos, negsuc, zero, suc, ◌+◌, ◌-◌, ◌*◌, ◌/◌, ◌%◌, min, max, ◌&&◌, Bool, List, [], ◌∷◌, length, take, filter, slice_get, nat_eq, nat_lt, nat_le, is_some, unwrap_or, Option, Some, None, if◌then◌else◌}
use Rattle.std.specs.List.{flat_map, list_any}
use Rattle.std.specs.Option.{option_map, option_map_or, option_and_then}
use Rattle.std.specs.Ordering.{nat_cmp}
use Rattle.std.specs.Map.{lookup}
use Rattle.std.specs.BTreeMap.{insert_entry, is_at}
use Rattle.twcc_core.specs.declared.status.PacketStatus.{PacketStatus}
use Rattle.twcc_core.specs.declared.status.PacketStatus.TheVariants.{NotReceived, Received}
use Rattle.twcc_core.specs.declared.feedback.Twcc.{Twcc}
use Rattle.twcc_core.specs.declared.share.Share.{Share}
use Rattle.twcc_core.specs.declared.moments.TheConstants.{DELTA_NANOS, REFERENCE_NANOS}
use Rattle.twcc_core.specs.declared.receive.TheConstants.{SPAN, REPORT_SPAN, LOSS_SPAN}
use Rattle.twcc_core.specs.Statuses.{delta_text}
use Rattle.twcc_core.specs.Chunks.{chunks_of}
use Rattle.twcc_core.specs.Feedback.{fill_of}
use Rattle.rtp_base.specs.Fields.{signed24}

-- what was received and reported: each number that counts with the moment of its first arrival, in order of
-- numbers; the numbers that came and that no report covered since; and how many reports were made, modulo 256
pub record Receiving : Type 0 where
  pub arrivals : List (ℕ × ℕ)
  pub pending : List ℕ
  pub reports : ℕ

abbrev pub nothing_received : Receiving
nothing_received = record { arrivals = []; pending = []; reports = 0 }

-- when a number came, if it did
abbrev pub arrival_of : List (ℕ × ℕ) → ℕ → Option ℕ
arrival_of arrivals number = lookup (is_at (nat_cmp number)) arrivals

-- the greatest and the lowest number
abbrev pub greatest_of : List (ℕ × ℕ) → Option ℕ
greatest_of arrivals = option_map (λ e. e.0) (slice_get arrivals (length arrivals - 1))

abbrev pub lowest_of : List (ℕ × ℕ) → Option ℕ
lowest_of arrivals = option_map (λ e. e.0) (slice_get arrivals 0)

-- the numbers that count: those not more than 32,768 below the greatest, as far as 16 bits tell numbers
-- apart on either side
abbrev pub first_counted : List (ℕ × ℕ) → ℕ
first_counted arrivals = unwrap_or (greatest_of arrivals) 0 - SPAN

-- a number that does not count is passed over, and of two arrivals of a number the first counts
abbrev pub with_arrival : Receiving → ℕ → ℕ → Receiving
with_arrival r number now =
    if nat_lt number (first_counted r.arrivals) then r
    else (if is_some (arrival_of r.arrivals number) then r
    else record { arrivals = insert_entry nat_cmp r.arrivals number now; pending = number ∷ r.pending; reports = r.reports })

-- the numbers to report
abbrev pub is_pending : List ℕ → ℕ → Bool
is_pending pending number = list_any (nat_eq number) pending

abbrev pub is_unreported : Receiving → ℕ → Bool
is_unreported r number = nat_le (first_counted r.arrivals) number && is_pending r.pending number

abbrev pub unreported : Receiving → List (ℕ × ℕ)
unreported r = filter (λ e. is_unreported r e.0) r.arrivals

-- what a register keeps of it: the arrivals of the numbers that count, those of them that are to be
-- reported, and the lowest number of all
pub record Kept : Type 0 where
  pub arrivals : List (ℕ × ℕ)
  pub pending : List (ℕ × ℕ)
  pub lowest : Option ℕ
  pub reports : ℕ

abbrev pub recent : List (ℕ × ℕ) → List (ℕ × ℕ)
recent arrivals = filter (λ e. nat_le (first_counted arrivals) e.0) arrivals

abbrev pub kept_of : Receiving → Kept
kept_of r = record { arrivals = recent r.arrivals; pending = unreported r; lowest = lowest_of r.arrivals; reports = r.reports }

abbrev pub least_of : Option ℕ → ℕ → ℕ
least_of lowest number = option_map_or (λ other. min other number) lowest number

-- with another number, and without those that do not count
abbrev pub with_put : Kept → ℕ → ℕ → Kept
with_put k number now = record {
  arrivals = insert_entry nat_cmp k.arrivals number now;
  pending = insert_entry nat_cmp k.pending number now;
  lowest = Some (least_of k.lowest number);
  reports = k.reports;
}

abbrev pub with_recent : Kept → Kept
with_recent k = record {
  arrivals = recent k.arrivals;
  pending = filter (λ e. nat_le (first_counted k.arrivals) e.0) k.pending;
  lowest = k.lowest;
  reports = k.reports;
}

-- a register stands for what was received and reported
unfoldable pub StandsFor : Kept → Receiving → Type 0
StandsFor kept r = kept ≡ kept_of r

-- a moment in steps of 250 us, and in steps of 64 ms
abbrev pub steps_of : ℕ → ℕ
steps_of moment = moment / DELTA_NANOS

abbrev pub reference_of : ℕ → ℕ
reference_of moment = moment / REFERENCE_NANOS

-- the steps from the last arrival to the next, where 16 bits signed can tell them
abbrev pub delta_of : ℕ → ℕ → Option ℤ
delta_of now last =
    if nat_le last now then (if nat_lt (now - last) 32768 then Some (pos (now - last)) else None)
    else (if nat_le (last - now) 32768 then Some (negsuc (last - now - 1)) else None)

-- what is said of a number, and the last arrival after it
abbrev pub row_of : Option ℕ → ℕ → Option PacketStatus
row_of None last = Some NotReceived
row_of (Some moment) last = option_map Received (delta_of (steps_of moment) last)

abbrev pub last_after : Option ℕ → ℕ → ℕ
last_after None last = last
last_after (Some moment) last = steps_of moment

abbrev pub with_last : Option ℕ → ℕ → PacketStatus → PacketStatus × ℕ
with_last arrival last row = (row, last_after arrival last)

-- what is said of n numbers in a row, up to the first whose delta leaves 16 bits signed
abbrev pub rows_from : List (ℕ × ℕ) → ℕ → ℕ → ℕ → List PacketStatus
rows_from arrivals zero number last = []
rows_from arrivals (suc n) number last =
    option_map_or (λ row. row ∷ rows_from arrivals n (number + 1) (last_after (arrival_of arrivals number) last)) (row_of (arrival_of arrivals number) last) []

-- how many bytes feedback of rows takes, with its header
abbrev pub len_of : List PacketStatus → ℕ
len_of rows = 20 + 2 * length (chunks_of rows) + length (flat_map delta_text rows)

unfoldable pub size_of : List PacketStatus → ℕ
size_of rows = len_of rows + fill_of (len_of rows)

-- the greatest number of rows at the front, of n, that fit so many bytes
abbrev pub fitting : ℕ → List PacketStatus → ℕ → ℕ
fitting limit rows zero = 0
fitting limit rows (suc n) = if nat_le (size_of (take (suc n) rows)) limit then suc n else fitting limit rows n

abbrev pub rows_within : ℕ → List PacketStatus → List PacketStatus
rows_within limit rows = take (fitting limit rows (length rows)) rows

-- the rows of a report from a number on, which came at a moment: up to the greatest number, at most
-- 65,535
abbrev pub report_rows : List (ℕ × ℕ) → ℕ → ℕ × ℕ → List PacketStatus
report_rows arrivals limit e =
    rows_within limit (rows_from arrivals (min REPORT_SPAN (unwrap_or (greatest_of arrivals) 0 - e.0) + 1) e.0 (256 * reference_of e.1))

-- the report of some rows, if there are any
abbrev pub report_with : ℕ → ℕ → ℕ → ℕ × ℕ → List PacketStatus → Twcc
report_with reports sender ssrc e rows = record {
  sender_ssrc = sender;
  ssrc = ssrc;
  base_seq = e.0 % 65536;
  reference_time = signed24 (reference_of e.1 % 16777216);
  feedback_count = reports;
  rows = rows;
}

abbrev pub report_if : Receiving → ℕ → ℕ → ℕ × ℕ → List PacketStatus → Option Twcc
report_if r sender ssrc e rows = if nat_lt 0 (length rows) then Some (report_with r.reports sender ssrc e rows) else None

-- the report that fits so many bytes, from the lowest unreported number on; none where nothing is
-- unreported or not one number fits
unfoldable pub report_of : Receiving → ℕ → ℕ → ℕ → Option Twcc
report_of r sender ssrc limit = option_and_then (λ e. report_if r sender ssrc e (report_rows r.arrivals limit e)) (slice_get (unreported r) 0)

-- what is left to report behind it: nothing that it covers, nor a number below
abbrev pub after_rows : Receiving → ℕ × ℕ → List PacketStatus → Receiving
after_rows r e rows =
    if nat_lt 0 (length rows) then record { arrivals = r.arrivals; pending = filter (nat_le (e.0 + length rows)) r.pending; reports = (r.reports + 1) % 256 } else r

unfoldable pub after_report : Receiving → ℕ → Receiving
after_report r limit = option_map_or (λ e. after_rows r e (report_rows r.arrivals limit e)) (slice_get (unreported r) 0) r

-- how many of n numbers in a row are missing
abbrev pub missing_from : List (ℕ × ℕ) → ℕ → ℕ → ℕ
missing_from arrivals number zero = 0
missing_from arrivals number (suc n) = missing_from arrivals number n + (if is_some (arrival_of arrivals (number + n)) then 0 else 1)

abbrev pub share_from : List (ℕ × ℕ) → ℕ → ℕ → Share
share_from arrivals number n = record { missing = missing_from arrivals number n; total = n }

-- what is missing of the last 100 numbers, of which none is below the lowest that came
abbrev pub share_between : List (ℕ × ℕ) → ℕ → ℕ → Share
share_between arrivals lowest greatest = share_from arrivals (max (greatest - LOSS_SPAN) lowest) (greatest - max (greatest - LOSS_SPAN) lowest + 1)

unfoldable pub loss_of : List (ℕ × ℕ) → Option Share
loss_of arrivals = option_and_then (λ lowest. option_map (λ greatest. share_between arrivals lowest greatest) (greatest_of arrivals)) (lowest_of arrivals)
