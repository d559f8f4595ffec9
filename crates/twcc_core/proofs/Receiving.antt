-- The loops over the numbers of a report.
use Rattle.std.proofs.Common.{◌≡◌, ℕ, zero, suc, ◌+◌, ◌-◌, ◌^◌, ◌<◌, ◌≤◌, true, false, leb, List, [], ◌∷◌, ◌++◌, length, take, Option, Some, None, refl, sym, ap, ◌∙◌, append_assoc, arith, length-append}
use Rattle.std.specs.Option.{option_map, option_map_or}
use Rattle.std.proofs.lemmas.Bool.{le-leb, lt-leb, leb-true, leb-false}
use Rattle.std.proofs.lemmas.List.{take_at}
use Rattle.std.proofs.Math.Seq.{take-append-add}
use Rattle.twcc_core.specs.declared.status.PacketStatus.{PacketStatus}
use Rattle.twcc_core.specs.declared.size.Size.{Size}
use Rattle.twcc_core.specs.Chunks.{chunks_of}
use Rattle.twcc_core.specs.Reports.{arrival_of, row_of, last_after, with_last, rows_from, size_of, fitting, rows_within}
use Rattle.twcc_core.specs.Sizes.{after_row, bytes_of, IsCounted}
use Rattle.twcc_core.proofs.ReadBack.{chunks_len, deltas_len}
use Rattle.twcc_core.proofs.Sizes.{counted_chunks, counted_deltas, counted_size, next_counted, size_grows}

-- the rows so far are the first of all, and all of them fit
pub record IsRowed (arrivals : List (ℕ × ℕ)) (all : List PacketStatus) (limit count i base last : ℕ) (rows : List PacketStatus) (size : Size) : Type 0 where
  pub split : rows ++ rows_from arrivals (count - i) (base + i) last ≡ all
  pub counted : IsCounted size rows
  pub fits : 0 < length rows → size_of rows ≤ limit
  pub long : length rows ≡ i

pub rows_start : (arrivals : List (ℕ × ℕ)) (limit count base last : ℕ) (size : Size) → IsCounted size []
    → IsRowed arrivals (rows_from arrivals count base last) limit count 0 base last [] size
rows_start arrivals limit count base last size h =
    let k : count - 0 ≡ count = omega arith in
    let b : base + 0 ≡ base = omega arith in
    record { split = rw (k, b) refl; counted = h; fits = λ lt. absurd (omega (arith, lt)); long = refl }

-- the next row of all
next_row : (arrivals : List (ℕ × ℕ)) (n number last after : ℕ) (row : PacketStatus) → Some (row, after) ≡ option_map (with_last (arrival_of arrivals number) last) (row_of (arrival_of arrivals number) last)
    → rows_from arrivals (suc n) number last ≡ row ∷ rows_from arrivals n (number + 1) after
next_row arrivals n number last after row e = next_at (row_of (arrival_of arrivals number) last) (λ r. r) e
  where
    next_at : (o : Option PacketStatus) → (PacketStatus → PacketStatus) → Some (row, after) ≡ option_map (with_last (arrival_of arrivals number) last) o
        → option_map_or (λ r. r ∷ rows_from arrivals n (number + 1) (last_after (arrival_of arrivals number) last)) o [] ≡ row ∷ rows_from arrivals n (number + 1) after
    next_at None f e = absurd cc
    next_at (Some r) f e =
        let both : with_last (arrival_of arrivals number) last r ≡ (row, after) = cc in
        let a : r ≡ row = ap (λ (t : PacketStatus × ℕ). t.0) both in
        let b : last_after (arrival_of arrivals number) last ≡ after = ap (λ (t : PacketStatus × ℕ). t.1) both in
        rw (a, b) refl

pub rows_more : (arrivals : List (ℕ × ℕ)) (all : List PacketStatus) (limit count i base last after : ℕ) (row : PacketStatus) (rows : List PacketStatus) (size : Size) → i < count
    → Some (row, after) ≡ option_map (with_last (arrival_of arrivals (base + i)) last) (row_of (arrival_of arrivals (base + i)) last) → bytes_of (after_row size row) ≤ limit
    → IsRowed arrivals all limit count i base last rows size → IsRowed arrivals all limit count (i + 1) base after (rows ++ row ∷ []) (after_row size row)
rows_more arrivals all limit count i base last after row rows size lt e fits h =
    let k : count - i ≡ suc (count - (i + 1)) = omega arith in
    let b : base + i + 1 ≡ base + (i + 1) = omega arith in
    let one = next_row arrivals (count - (i + 1)) (base + i) last after row e in
    let split = rw (k, one, b) at h.split in
    let counted = next_counted size row rows h.counted in
    record {
      split = append_assoc rows (row ∷ []) (rows_from arrivals (count - (i + 1)) (base + (i + 1)) after) ∙ split;
      counted = counted;
      fits = λ lt. omega (arith, counted_size (after_row size row) (rows ++ row ∷ []) counted, fits);
      long = omega (arith, h.long, length-append rows (row ∷ []));
    }

-- ---- what fits

fit_all : (limit : ℕ) (rows : List PacketStatus) (n : ℕ) → (0 < n → size_of (take n rows) ≤ limit) → fitting limit rows n ≡ n
fit_all limit rows zero le = refl
fit_all limit rows (suc n) le = let t : leb (size_of (take (suc n) rows)) limit ≡ true = le-leb _ _ (le (omega arith)) in rw t refl

pub fit_down : (limit : ℕ) (rows : List PacketStatus) (i n : ℕ) → i ≤ n → ((j : ℕ) → i < j → j ≤ n → limit < size_of (take j rows)) → fitting limit rows n ≡ fitting limit rows i
fit_down limit rows i zero le more = let z : i ≡ 0 = omega arith in rw z refl
fit_down limit rows i (suc n) le more =
    elim (leb (suc n) i) as (λ b. (leb (suc n) i ≡ b) → fitting limit rows (suc n) ≡ fitting limit rows i) [
      | true ↦ λ e. let same : i ≡ suc n = omega (arith, leb-true _ _ e) in rw same refl
      | false ↦ λ e.
          let lt = leb-false _ _ e in
          let t : leb (size_of (take (suc n) rows)) limit ≡ false = lt-leb _ _ (more (suc n) (omega (arith, lt)) (omega arith)) in
          rw t (fit_down limit rows i n (omega (arith, lt)) (λ j low high. more j low (omega (arith, high))))
    ] refl

-- the rows so far fit, and with the next they do not
pub some_within : (limit : ℕ) (rows later : List PacketStatus) (row : PacketStatus) (size : Size) → IsCounted size rows → (0 < length rows → size_of rows ≤ limit) → limit < bytes_of (after_row size row)
    → rows ≡ rows_within limit (rows ++ (row ∷ later))
some_within limit rows later row size h le more =
    let all : List PacketStatus = rows ++ (row ∷ later) in
    let front : List PacketStatus = rows ++ row ∷ [] in
    let assoc : front ++ later ≡ all = append_assoc rows (row ∷ []) later in
    let len = length-append rows (row ∷ []) in
    let len' = length-append rows (row ∷ later) in
    let counted = next_counted size row rows h in
    let large = counted_size (after_row size row) front counted in
    let take' : take (length rows) all ≡ rows = take_at rows (row ∷ later) (length rows) refl in
    let above : (j : ℕ) → length rows < j → j ≤ length all → limit < size_of (take j all) = λ j low high.
    let k : j ≡ length front + (j - length front) = omega (arith, len) in
    let t : take j all ≡ front ++ take (j - length front) later = ap (λ (x : ℕ). take x all) k ∙ ap (take (length front + (j - length front))) (sym assoc) ∙ take-append-add front later (j - length front) in
    let grows = size_grows (take (j - length front) later) (after_row size row) front counted in
    rw t (omega (arith, grows, large, more)) in
    let down = fit_down limit all (length rows) (length all) (omega (arith, len')) above in
    let n = down ∙ fit_all limit all (length rows) (rw take' le) in
    rw (n, take') refl

pub rows_full : (arrivals : List (ℕ × ℕ)) (all : List PacketStatus) (limit count i base last after : ℕ) (row : PacketStatus) (rows : List PacketStatus) (size : Size) → i < count
    → Some (row, after) ≡ option_map (with_last (arrival_of arrivals (base + i)) last) (row_of (arrival_of arrivals (base + i)) last) → limit < bytes_of (after_row size row)
    → IsRowed arrivals all limit count i base last rows size → rows ≡ rows_within limit all
rows_full arrivals all limit count i base last after row rows size lt e more h =
    let k : count - i ≡ suc (count - (i + 1)) = omega arith in
    let one = next_row arrivals (count - (i + 1)) (base + i) last after row e in
    let split = rw (k, one) at h.split in
    rw (← split) (some_within limit rows (rows_from arrivals (count - (i + 1)) (base + i + 1) after) row size h.counted h.fits more)

-- what was counted is not large
pub counted_bounds : (s : Size) (rows : List PacketStatus) → IsCounted s rows → length rows ≤ 65536 → (s.chunks < 2 ^ 32) × (s.deltas < 2 ^ 32)
unfolding chunks_of
counted_bounds s rows h few =
    let c = counted_chunks s rows h in
    let d = counted_deltas s rows h in
    (omega (arith, c, chunks_len (length rows) rows (omega arith), few), omega (arith, d, deltas_len rows, few))
