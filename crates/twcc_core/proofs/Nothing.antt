-- When there is no report.
use Rattle.std.proofs.Common.{◌≡◌, ℕ, zero, suc, ◌+◌, ◌-◌, ◌*◌, ◌/◌, ◌<◌, ◌≤◌, true, false, cond, leb, ltb, List, [], ◌∷◌, length, take, Some, None, refl, sym, ◌∙◌, arith}
use Rattle.std.specs.Prelude.{pos, min, slice_get, unwrap_or}
use Rattle.std.proofs.lemmas.Bool.{lt-ltb, le-leb}
use Rattle.std.proofs.lemmas.List.{length-take}
use Rattle.twcc_core.specs.declared.status.PacketStatus.{PacketStatus}
use Rattle.twcc_core.specs.declared.status.PacketStatus.TheVariants.{Received}
use Rattle.twcc_core.specs.declared.feedback.Twcc.{Twcc}
use Rattle.twcc_core.specs.declared.size.Size.{Size}
use Rattle.twcc_core.specs.Chunks.{chunks_of}
use Rattle.twcc_core.specs.Feedback.{twcc_bytes}
use Rattle.twcc_core.specs.Reports.{Receiving, unreported, is_unreported, arrival_of, steps_of, reference_of, rows_from, size_of, fitting, greatest_of, report_rows, report_with, report_of}
use Rattle.twcc_core.specs.Sizes.{after_row, IsCounted}
use Rattle.twcc_core.proofs.ReadBack.{bytes_len, fields_len}
use Rattle.twcc_core.proofs.Sizes.{next_counted, counted_chunks, size_grows}
use Rattle.twcc_core.proofs.Keeping.{first_found}
use Rattle.twcc_core.proofs.Receiving.{fit_down}
use Rattle.twcc_core.proofs.Reporting.{nothing_due, something_due, no_rows, some_rows}

-- the length that is counted is the one that is written, with the header
pub size_written : (t : Twcc) → size_of t.rows ≡ length (twcc_bytes t) + 4
unfolding size_of
size_written t =
    let fields = fields_len t in
    let bytes = bytes_len t in
    omega (arith, fields, bytes)

abbrev empty : Size
empty = record { chunks = 0; told = 0; symbol = 0; is_run = false; deltas = 0 }

first_counted : (row : PacketStatus) → (after_row empty row).chunks ≡ 1
first_counted row = refl

one_chunk_of : (row : PacketStatus) → length (chunks_of (row ∷ [])) ≡ 1
one_chunk_of row =
    let c = counted_chunks (after_row empty row) (row ∷ []) (next_counted empty row [] (refl, refl, refl)) in
    sym c ∙ first_counted row

-- one row of a small delta takes 24 bytes
one_row : (steps : ℕ) → steps < 256 → size_of (Received (pos steps) ∷ []) ≡ 24
unfolding size_of
one_row steps lt =
    let small : ltb steps 256 ≡ true = lt-ltb _ _ lt in
    let counted : length (chunks_of (Received (pos steps) ∷ [])) ≡ 1 = one_chunk_of (Received (pos steps)) in
    rw (small, counted) refl

fit_some : (limit : ℕ) (rows : List PacketStatus) (n : ℕ) → size_of (take 1 rows) ≤ limit → 0 < n → 0 < fitting limit rows n
fit_some limit rows zero le some = absurd (omega (arith, some))
fit_some limit rows (suc zero) le some = let t : leb (size_of (take 1 rows)) limit ≡ true = le-leb _ _ le in rw t (omega arith)
fit_some limit rows (suc (suc n)) le some =
    elim (leb (size_of (take (suc (suc n)) rows)) limit) as (λ b. 0 < cond b (suc (suc n)) (fitting limit rows (suc n))) [
      | true ↦ omega arith
      | false ↦ fit_some limit rows (suc n) le (omega arith)
    ]

-- nothing fits where the first row does not
fit_none : (limit : ℕ) (row : PacketStatus) (rows : List PacketStatus) (s : Size) → IsCounted s (row ∷ []) → limit < size_of (row ∷ []) → fitting limit (row ∷ rows) (length (row ∷ rows)) ≡ 0
fit_none limit row rows s counted more =
    fit_down limit (row ∷ rows) 0 (length (row ∷ rows)) (omega arith) (λ j low high. above j low)
  where
    above : (j : ℕ) → 0 < j → limit < size_of (take j (row ∷ rows))
    above zero low = absurd (omega (arith, low))
    above (suc j) low = omega (arith, more, size_grows (take j rows) s (row ∷ []) counted)

-- the first row tells an arrival by a small delta
first_row : (arrivals : List (ℕ × ℕ)) (n number moment : ℕ) → arrival_of arrivals number ≡ Some moment
    → rows_from arrivals (suc n) number (256 * reference_of moment) ≡ Received (pos (steps_of moment - 256 * reference_of moment)) ∷ rows_from arrivals n (number + 1) (steps_of moment)
first_row arrivals n number moment e =
    let order : leb (256 * (moment / 64000000)) (moment / 250000) ≡ true = le-leb _ _ (omega arith) in
    let small : ltb (moment / 250000 - 256 * (moment / 64000000)) 32768 ≡ true = lt-ltb _ _ (omega arith) in
    rw (e, order, small) refl

abbrev all_rows : Receiving → ℕ × ℕ → List PacketStatus
all_rows r first = rows_from r.arrivals (min 65534 (unwrap_or (greatest_of r.arrivals) 0 - first.0) + 1) first.0 (256 * reference_of first.1)

-- one row fits 24 bytes, and nothing fits less
row_fits : (r : Receiving) (first : ℕ × ℕ) (limit : ℕ) → slice_get (unreported r) 0 ≡ Some first
    → (limit < 24 → fitting limit (all_rows r first) (length (all_rows r first)) ≡ 0)
    × (24 ≤ limit → (0 < fitting limit (all_rows r first) (length (all_rows r first))) × (0 < length (all_rows r first)))
row_fits r first limit due =
    let found = (first_found (is_unreported r) r.arrivals first due).1 in
    let m : ℕ = min 65534 (unwrap_or (greatest_of r.arrivals) 0 - first.0) in
    let k : m + 1 ≡ suc m = omega arith in
    let is : all_rows r first ≡ Received (pos (steps_of first.1 - 256 * reference_of first.1)) ∷ rows_from r.arrivals m (first.0 + 1) (steps_of first.1) = rw k (first_row r.arrivals m first.0 first.1 found) in
    let one = one_row (steps_of first.1 - 256 * reference_of first.1) (omega arith) in
    let row : PacketStatus = Received (pos (steps_of first.1 - 256 * reference_of first.1)) in
    let counted : IsCounted (after_row empty row) (row ∷ []) = next_counted empty row [] (refl, refl, refl) in
    rw is (
      λ few. fit_none limit row (rows_from r.arrivals m (first.0 + 1) (steps_of first.1)) (after_row empty row) counted (omega (arith, one, few)),
      λ room. (fit_some limit (row ∷ rows_from r.arrivals m (first.0 + 1) (steps_of first.1)) (suc (length (rows_from r.arrivals m (first.0 + 1) (steps_of first.1)))) (omega (arith, one, room)) (omega arith), omega arith),
    )

pub none_exactly : (r : Receiving) (sender ssrc limit : ℕ)
    → (slice_get (unreported r) 0 ≡ None → report_of r sender ssrc limit ≡ None)
    × (limit < 24 → report_of r sender ssrc limit ≡ None)
    × ((first : ℕ × ℕ) → slice_get (unreported r) 0 ≡ Some first → 24 ≤ limit → (t : Twcc) × (report_of r sender ssrc limit ≡ Some t))
none_exactly r sender ssrc limit = (
  λ none. (nothing_due r sender ssrc limit (sym none)).0,
  λ few.
      elim (slice_get (unreported r) 0) as (λ o. (slice_get (unreported r) 0 ≡ o) → report_of r sender ssrc limit ≡ None) [
        | None ↦ λ due. (nothing_due r sender ssrc limit (sym due)).0
        | Some first ↦ λ due.
            let len = length-take (fitting limit (all_rows r first) (length (all_rows r first))) (all_rows r first) in
            let zero' = (row_fits r first limit due).0 few in
            (something_due r sender ssrc limit first (report_rows r.arrivals limit first) (sym due) refl).0 ∙ (no_rows r sender ssrc first (report_rows r.arrivals limit first) (omega (arith, len, zero'))).0
      ] refl,
  λ first due room.
      let len = length-take (fitting limit (all_rows r first) (length (all_rows r first))) (all_rows r first) in
      let some' = (row_fits r first limit due).1 room in
      let some0 = some'.0 in
      let some1 = some'.1 in (
        report_with r.reports sender ssrc first (report_rows r.arrivals limit first),
        (something_due r sender ssrc limit first (report_rows r.arrivals limit first) (sym due) refl).0 ∙ some_rows r sender ssrc first (report_rows r.arrivals limit first) (omega (arith, len, some0, some1)),
      ),
)
