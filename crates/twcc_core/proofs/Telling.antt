-- Reports tell which numbers came, and when.
use Rattle.std.proofs.Common.{◌≡◌, ℕ, zero, suc, ◌+◌, ◌-◌, ◌*◌, ◌%◌, ◌^◌, ◌<◌, ◌≤◌, true, false, cond, leb, ltb, List, [], ◌∷◌, length, take, Option, Some, None, refl, sym, ap, ◌∙◌, arith}
use Rattle.std.specs.Prelude.{ℤ, pos, negsuc, min, slice_get, unwrap_or, FitsSigned}
use Rattle.std.specs.Int.{w16}
use Rattle.std.specs.Option.{option_map, option_map_or}
use Rattle.std.specs.List.{AllByRecursion}
use Rattle.std.proofs.lemmas.Bool.{lt-ltb, leb-true, leb-false, ltb-true, ltb-false}
use Rattle.std.proofs.lemmas.List.{length-take}
use Rattle.twcc_core.specs.declared.status.PacketStatus.{PacketStatus}
use Rattle.twcc_core.specs.declared.status.PacketStatus.TheVariants.{NotReceived, Received}
use Rattle.twcc_core.specs.declared.feedback.Twcc.{Twcc}
use Rattle.twcc_core.specs.Feedback.{twcc_of, twcc_bytes}
use Rattle.rtp_base.specs.Fields.{signed24, bits24}
use Rattle.twcc_core.specs.Laws.{IsStatus, IsFeedback}
use Rattle.rtp_base.specs.Fields.{IsSigned24}
use Rattle.twcc_core.specs.Reports.{Receiving, unreported, arrival_of, steps_of, reference_of, delta_of, row_of, last_after, rows_from, fitting, greatest_of, report_rows, report_with, report_if, report_of}
use Rattle.twcc_core.specs.Times.{moment_after, moments_from, moments_of, held, held_from, AreMoments}
use Rattle.twcc_core.proofs.ReadBack.{twcc_again}
use Rattle.twcc_core.proofs.Reporting.{something_due}

some_is : {A : Type 0} (x y : A) → Some x ≡ Some y → x ≡ y
some_is x y e = cc

-- a delta leads to the arrival that it was made of
pub delta_back : (now last : ℕ) (d : ℤ) → delta_of now last ≡ Some d → now * 250000 < 2 ^ 64 → moment_after (last * 250000) d ≡ now * 250000
delta_back now last d =
    elim (leb last now) as (λ b. (leb last now ≡ b)
    → cond b (cond (ltb (now - last) 32768) (Some (pos (now - last))) None) (cond (leb (last - now) 32768) (Some (negsuc (last - now - 1))) None) ≡ Some d
    → now * 250000 < 2 ^ 64 → moment_after (last * 250000) d ≡ now * 250000) [
      | true ↦ λ order. elim (ltb (now - last) 32768) as (λ b. cond b (Some (pos (now - last))) None ≡ Some d → now * 250000 < 2 ^ 64 → moment_after (last * 250000) d ≡ now * 250000) [
        | true ↦ λ e small. let is = some_is (pos (now - last)) d e in rw (← is) (omega (arith, leb-true _ _ order, small))
        | false ↦ λ e small. absurd cc
      ]
      | false ↦ λ order. elim (leb (last - now) 32768) as (λ b. cond b (Some (negsuc (last - now - 1))) None ≡ Some d → now * 250000 < 2 ^ 64 → moment_after (last * 250000) d ≡ now * 250000) [
        | true ↦ λ e small. let is = some_is (negsuc (last - now - 1)) d e in rw (← is) (omega (arith, leb-false _ _ order, small))
        | false ↦ λ e small. absurd cc
      ]
    ] refl

-- and fits 16 bits
pub delta_fits : (now last : ℕ) (d : ℤ) → delta_of now last ≡ Some d → FitsSigned w16 d
delta_fits now last d =
    elim (leb last now) as (λ b. (leb last now ≡ b)
    → cond b (cond (ltb (now - last) 32768) (Some (pos (now - last))) None) (cond (leb (last - now) 32768) (Some (negsuc (last - now - 1))) None) ≡ Some d
    → FitsSigned w16 d) [
      | true ↦ λ order. elim (ltb (now - last) 32768) as (λ b. (ltb (now - last) 32768 ≡ b) → cond b (Some (pos (now - last))) None ≡ Some d → FitsSigned w16 d) [
        | true ↦ λ low e. let is = some_is (pos (now - last)) d e in rw (← is) (record { sfits = omega (arith, ltb-true _ _ low) })
        | false ↦ λ low e. absurd cc
      ] refl
      | false ↦ λ order. elim (leb (last - now) 32768) as (λ b. (leb (last - now) 32768 ≡ b) → cond b (Some (negsuc (last - now - 1))) None ≡ Some d → FitsSigned w16 d) [
        | true ↦ λ low e. let is = some_is (negsuc (last - now - 1)) d e in rw (← is) (record { sfits = omega (arith, leb-true _ _ low, leb-false _ _ order) })
        | false ↦ λ low e. absurd cc
      ] refl
    ] refl

-- the rows of numbers tell when they came
pub rows_tell : (arrivals : List (ℕ × ℕ)) (n number last : ℕ) → AreMoments arrivals
    → moments_from (last * 250000) (rows_from arrivals n number last) ≡ held_from arrivals number (length (rows_from arrivals n number last))
rows_tell arrivals zero number last w = refl
rows_tell arrivals (suc n) number last w =
    elim (arrival_of arrivals number) as (λ a. (arrival_of arrivals number ≡ a)
    → moments_from (last * 250000) (option_map_or (λ row. row ∷ rows_from arrivals n (number + 1) (last_after a last)) (row_of a last) [])
    ≡ held_from arrivals number (length (option_map_or (λ row. row ∷ rows_from arrivals n (number + 1) (last_after a last)) (row_of a last) []))) [
      | None ↦ λ e. rw (e, rows_tell arrivals n (number + 1) last w) refl
      | Some m ↦ λ e.
          let later : List PacketStatus = rows_from arrivals n (number + 1) (steps_of m) in
          let small = w number m e in
          elim (delta_of (steps_of m) last) as (λ o. (delta_of (steps_of m) last ≡ o)
          → moments_from (last * 250000) (option_map_or (λ row. row ∷ later) (option_map Received o) []) ≡ held_from arrivals number (length (option_map_or (λ row. row ∷ later) (option_map Received o) []))) [
            | None ↦ λ d. refl
            | Some z ↦ λ d.
                let back = delta_back (steps_of m) last z d (omega (arith, small)) in
                let others = rows_tell arrivals n (number + 1) (steps_of m) w in
                rw (e, back, others) refl
          ] refl
    ] refl

pub rows_are_statuses : (arrivals : List (ℕ × ℕ)) (n number last k : ℕ) → AllByRecursion IsStatus (take k (rows_from arrivals n number last))
rows_are_statuses arrivals n number last zero = tt
rows_are_statuses arrivals zero number last (suc k) = tt
rows_are_statuses arrivals (suc n) number last (suc k) =
    elim (arrival_of arrivals number) as (λ a. AllByRecursion IsStatus (take (suc k) (option_map_or (λ row. row ∷ rows_from arrivals n (number + 1) (last_after a last)) (row_of a last) []))) [
      | None ↦ (tt, rows_are_statuses arrivals n (number + 1) last k)
      | Some m ↦
          elim (delta_of (steps_of m) last) as (λ o. (delta_of (steps_of m) last ≡ o)
          → AllByRecursion IsStatus (take (suc k) (option_map_or (λ row. row ∷ rows_from arrivals n (number + 1) (steps_of m)) (option_map Received o) []))) [
            | None ↦ λ d. tt
            | Some z ↦ λ d. (delta_fits (steps_of m) last z d, rows_are_statuses arrivals n (number + 1) (steps_of m) k)
          ] refl
    ]

pub rows_few : (arrivals : List (ℕ × ℕ)) (n number last : ℕ) → length (rows_from arrivals n number last) ≤ n
rows_few arrivals zero number last = omega arith
rows_few arrivals (suc n) number last =
    elim (row_of (arrival_of arrivals number) last) as (λ o. length (option_map_or (λ row. row ∷ rows_from arrivals n (number + 1) (last_after (arrival_of arrivals number) last)) o []) ≤ suc n) [
      | None ↦ omega arith
      | Some row ↦ omega (arith, rows_few arrivals n (number + 1) (last_after (arrival_of arrivals number) last))
    ]

-- fewer rows tell the same of fewer numbers
moments_take : (k : ℕ) (rows : List PacketStatus) (start : ℕ) → moments_from start (take k rows) ≡ take k (moments_from start rows)
moments_take zero rows start = refl
moments_take (suc k) [] start = refl
moments_take (suc k) (NotReceived ∷ rows) start = ap (λ (t : List (Option ℕ)). None ∷ t) (moments_take k rows start)
moments_take (suc k) (Received d ∷ rows) start = ap (λ (t : List (Option ℕ)). Some (moment_after start d) ∷ t) (moments_take k rows (moment_after start d))

held_take : (arrivals : List (ℕ × ℕ)) (k number n : ℕ) → take k (held_from arrivals number n) ≡ held_from arrivals number (min k n)
held_take arrivals zero number n = let z : min 0 n ≡ 0 = omega arith in rw z refl
held_take arrivals (suc k) number zero = let z : min (suc k) 0 ≡ 0 = omega arith in rw z refl
held_take arrivals (suc k) number (suc n) =
    let m : min (suc k) (suc n) ≡ suc (min k n) = omega arith in
    rw m (ap (λ (t : List (Option ℕ)). option_map held (arrival_of arrivals number) ∷ t) (held_take arrivals k (number + 1) n))

pub taken_tell : (arrivals : List (ℕ × ℕ)) (n number last k : ℕ) → AreMoments arrivals
    → moments_from (last * 250000) (take k (rows_from arrivals n number last)) ≡ held_from arrivals number (length (take k (rows_from arrivals n number last)))
taken_tell arrivals n number last k w =
    let rows : List PacketStatus = rows_from arrivals n number last in
    moments_take k rows (last * 250000) ∙ ap (take k) (rows_tell arrivals n number last w) ∙ held_take arrivals k number (length rows)
    ∙ ap (held_from arrivals number) (sym (length-take k rows))

-- ---- the reference time

pub reference_fits : (n : ℕ) → n < 16777216 → IsSigned24 (signed24 n) × (bits24 (signed24 n) ≡ n)
reference_fits n lt =
    elim (ltb n 8388608) as (λ b. (ltb n 8388608 ≡ b) → IsSigned24 (signed24 n) × (bits24 (signed24 n) ≡ n)) [
      | true ↦ λ e.
          let is : signed24 n ≡ pos n = rw e refl in
          let back : bits24 (pos n) ≡ n = omega arith in
          rw is (ltb-true _ _ e, back)
      | false ↦ λ e.
          let high = ltb-false _ _ e in
          let low : ltb n 16777216 ≡ true = lt-ltb _ _ lt in
          let is : signed24 n ≡ negsuc (16777216 - suc n) = rw (e, low) refl in
          let back : bits24 (negsuc (16777216 - suc n)) ≡ n = omega (arith, high, lt) in
          rw is (omega (arith, high, lt), back)
    ] refl

-- ---- reports

pub made_of : (r : Receiving) (sender ssrc : ℕ) (first : ℕ × ℕ) (rows : List PacketStatus) (t : Twcc) → report_if r sender ssrc first rows ≡ Some t → report_with r.reports sender ssrc first rows ≡ t
made_of r sender ssrc first rows t =
    elim (ltb 0 (length rows)) as (λ b. cond b (Some (report_with r.reports sender ssrc first rows)) None ≡ Some t → report_with r.reports sender ssrc first rows ≡ t) [
      | true ↦ λ e. some_is (report_with r.reports sender ssrc first rows) t e
      | false ↦ λ e. absurd cc
    ]

pub reports_tell : (r : Receiving) (sender ssrc limit : ℕ) (t : Twcc) (first : ℕ × ℕ) → sender < 2 ^ 32 → ssrc < 2 ^ 32 → r.reports < 256 → AreMoments r.arrivals
    → slice_get (unreported r) 0 ≡ Some first → reference_of first.1 < 2 ^ 24 → report_of r sender ssrc limit ≡ Some t
    → (twcc_of (twcc_bytes t) ≡ Some t) × (moments_of t ≡ held_from r.arrivals first.0 (length t.rows))
reports_tell r sender ssrc limit t first s m count w due early e =
    let rows : List PacketStatus = report_rows r.arrivals limit first in
    let is = made_of r sender ssrc first rows t (sym (something_due r sender ssrc limit first rows (sym due) refl).0 ∙ e) in
    let reference = reference_fits (reference_of first.1 % 16777216) (omega arith) in
    let n : ℕ = min 65534 (unwrap_or (greatest_of r.arrivals) 0 - first.0) + 1 in
    let all : List PacketStatus = rows_from r.arrivals n first.0 (256 * reference_of first.1) in
    let len = length-take (fitting limit all (length all)) all in
    let few = rows_few r.arrivals n first.0 (256 * reference_of first.1) in
    let fits : IsFeedback (report_with r.reports sender ssrc first rows) = record {
      sender = s;
      media = m;
      base = omega arith;
      reference = reference.0;
      count = count;
      few = omega (arith, len, few);
      statuses = rows_are_statuses r.arrivals n first.0 (256 * reference_of first.1) (fitting limit all (length all));
    } in
    let start : bits24 (signed24 (reference_of first.1 % 16777216)) * 64000000 ≡ 256 * reference_of first.1 * 250000 = omega (arith, reference.1, early) in
    let tells : moments_of (report_with r.reports sender ssrc first rows) ≡ held_from r.arrivals first.0 (length rows) =
    ap (λ (x : ℕ). moments_from x rows) start ∙ taken_tell r.arrivals n first.0 (256 * reference_of first.1) (fitting limit all (length all)) w in
    rw (← is) (twcc_again (report_with r.reports sender ssrc first rows) fits, tells)
