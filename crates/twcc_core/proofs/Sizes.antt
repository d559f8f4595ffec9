-- How the size of rows is counted.
use Rattle.std.proofs.Common.{◌≡◌, ℕ, zero, suc, ◌+◌, ◌-◌, ◌*◌, ◌<◌, ◌≤◌, Bool, true, false, cond, eqb, ltb, leb, List, [], ◌∷◌, ◌++◌, length, take, drop, refl, sym, ap, ◌∙◌, append_assoc, arith, length-append, length-drop, inl, inr}
use Rattle.std.specs.Prelude.{min, ◌&&◌, ◌||◌, ◌⊎◌}
use Rattle.std.specs.List.{flat_map, prefix_len}
use Rattle.std.proofs.lemmas.Bool.{le-ltb, lt-ltb, ltb-true, ltb-false, leb-true, leb-false, eqb-true, eq-eqb}
use Rattle.std.proofs.lemmas.List.{append-nil, drop_at}
use Rattle.std.proofs.lemmas.List.Concat.{flat_map-append}
use Rattle.twcc_core.specs.declared.status.PacketStatus.{PacketStatus}
use Rattle.twcc_core.specs.declared.size.Size.{Size}
use Rattle.twcc_core.specs.Statuses.{symbol_of, delta_text}
use Rattle.twcc_core.specs.Chunks.{symbol_at, run_of, chunk_of, told_by, chunks_within, chunks_of}
use Rattle.twcc_core.specs.Reports.{len_of, size_of}
use Rattle.twcc_core.specs.Sizes.{takes_on, after_row, bytes_of, IsParted, IsCounted}
use Rattle.twcc_core.proofs.Chunks.{one_chunk, run_first, vector_first}
use Rattle.twcc_core.proofs.ReadBack.{run_is, tells}

abbrev has : ℕ → PacketStatus → Bool
has s row = eqb (symbol_of row) s

-- ---- runs

prefix_take : (p : PacketStatus → Bool) (n : ℕ) (rows : List PacketStatus) → prefix_len p (take n rows) ≡ min n (prefix_len p rows)
prefix_take p zero rows = omega arith
prefix_take p (suc n) [] = omega arith
prefix_take p (suc n) (row ∷ rows) =
    let h = prefix_take p n rows in
    elim (p row) as (λ b. cond b (1 + prefix_len p (take n rows)) 0 ≡ min (suc n) (cond b (1 + prefix_len p rows) 0)) [ true ↦ omega (arith, h) | false ↦ omega arith ]

prefix_most : (p : PacketStatus → Bool) (rows : List PacketStatus) → prefix_len p rows ≤ length rows
prefix_most p [] = omega arith
prefix_most p (row ∷ rows) =
    let h = prefix_most p rows in
    elim (p row) as (λ b. cond b (1 + prefix_len p rows) 0 ≤ suc (length rows)) [ true ↦ omega (arith, h) | false ↦ omega arith ]

prefix_short : (p : PacketStatus → Bool) (xs ys : List PacketStatus) → prefix_len p xs < length xs → prefix_len p (xs ++ ys) ≡ prefix_len p xs
prefix_short p [] ys = λ lt. absurd (omega (arith, lt))
prefix_short p (x ∷ xs) ys =
    elim (p x) as (λ b. cond b (1 + prefix_len p xs) 0 < suc (length xs) → cond b (1 + prefix_len p (xs ++ ys)) 0 ≡ cond b (1 + prefix_len p xs) 0) [
      | true ↦ λ lt. let h = prefix_short p xs ys (omega (arith, lt)) in omega (arith, h)
      | false ↦ λ lt. refl
    ]

prefix_long : (p : PacketStatus → Bool) (xs ys : List PacketStatus) → prefix_len p xs ≡ length xs → prefix_len p (xs ++ ys) ≡ length xs + prefix_len p ys
prefix_long p [] ys = λ e. omega arith
prefix_long p (x ∷ xs) ys =
    elim (p x) as (λ b. cond b (1 + prefix_len p xs) 0 ≡ suc (length xs) → cond b (1 + prefix_len p (xs ++ ys)) 0 ≡ suc (length xs) + prefix_len p ys) [
      | true ↦ λ e. let h = prefix_long p xs ys (omega (arith, e)) in omega (arith, h)
      | false ↦ λ e. absurd (omega (arith, e))
    ]

symbol_first : (xs ys : List PacketStatus) → 0 < length xs → symbol_at (xs ++ ys) 0 ≡ symbol_at xs 0
symbol_first [] ys lt = absurd (omega arith)
symbol_first (x ∷ xs) ys lt = refl

run_min : (xs ys : List PacketStatus) (s : ℕ) → 0 < length xs → s ≡ symbol_at xs 0 → run_of (xs ++ ys) ≡ min 8191 (prefix_len (has s) (xs ++ ys))
run_min xs ys s some e =
    run_is (xs ++ ys) ∙ prefix_take (has (symbol_at (xs ++ ys) 0)) 8191 (xs ++ ys)
    ∙ ap (λ (x : ℕ). min 8191 (prefix_len (has x) (xs ++ ys))) (symbol_first xs ys some ∙ sym e)

-- ---- chunks

any_fuel : (n m : ℕ) (rows : List PacketStatus) → length rows ≤ n → length rows ≤ m → chunks_within n rows ≡ chunks_within m rows
any_fuel zero zero [] le le' = refl
any_fuel zero (suc m) [] le le' = refl
any_fuel (suc n) zero [] le le' = refl
any_fuel (suc n) (suc m) [] le le' = refl
any_fuel zero m (row ∷ rows) le le' = absurd (omega arith)
any_fuel (suc n) zero (row ∷ rows) le le' = absurd (omega arith)
any_fuel (suc n) (suc m) (row ∷ rows) le le' =
    let all : List PacketStatus = row ∷ rows in
    let t = tells all (omega arith) in
    let len = length-drop (told_by all) all in
    ap (λ (x : List ℕ). chunk_of all ∷ x) (any_fuel n m (drop (told_by all) all) (omega (arith, len, t.some)) (omega (arith, len, t.some)))

count_more : (rows : List PacketStatus) → 0 < length rows → length (chunks_of rows) ≡ 1 + length (chunks_of (drop (told_by rows) rows))
unfolding chunks_of
count_more rows some =
    let one = one_chunk (length rows) rows some (omega arith) in
    let t = tells rows some in
    let len = length-drop (told_by rows) rows in
    let same = any_fuel (length rows - 1) (length (drop (told_by rows) rows)) (drop (told_by rows) rows) (omega (arith, len, t.some)) (omega arith) in
    ap length one ∙ omega (arith, ap length same)

none_counted : length (chunks_of []) ≡ 0
unfolding chunks_of
none_counted = refl

-- the last chunk tells just these, whatever comes
closes : (xs ys : List PacketStatus) → 0 < length xs → told_by (xs ++ ys) ≡ length xs → length (chunks_of (xs ++ ys)) ≡ 1 + length (chunks_of ys)
closes xs ys some told =
    let len = length-append xs ys in
    count_more (xs ++ ys) (omega (arith, len)) ∙ ap (λ (n : ℕ). 1 + length (chunks_of (drop n (xs ++ ys)))) told ∙ ap (λ (t : List PacketStatus). 1 + length (chunks_of t)) (drop_at xs ys (length xs) refl)

-- seven that have not one symbol are told by a vector, which tells no more
vector_closes : (xs ys : List PacketStatus) (s : ℕ) → s ≡ symbol_at xs 0 → length xs ≡ 7 → prefix_len (has s) xs < length xs → told_by (xs ++ ys) ≡ length xs
vector_closes xs ys s e seven mixed =
    let r = run_min xs ys s (omega arith) e in
    let p = prefix_short (has s) xs ys mixed in
    let v = (vector_first (xs ++ ys) (omega (arith, r, p, mixed, seven))).1 in
    omega (arith, v, seven, length-append xs ys)

-- a run of seven at least ends before another symbol, or at its greatest length
run_closes : (xs ys : List PacketStatus) (s : ℕ) → s ≡ symbol_at xs 0 → 7 ≤ length xs → length xs ≤ 8191 → prefix_len (has s) xs ≡ length xs → min 8191 (length xs + prefix_len (has s) ys) ≡ length xs
    → told_by (xs ++ ys) ≡ length xs
run_closes xs ys s e long most same ends =
    let r = run_min xs ys s (omega (arith, long)) e in
    let p = prefix_long (has s) xs ys same in
    let v = (run_first (xs ++ ys) (omega (arith, r, p, ends, long))).1 in
    omega (arith, v, r, p, ends)

-- fewer than seven are told by one chunk
few_close : (xs : List PacketStatus) → 0 < length xs → length xs < 7 → told_by (xs ++ []) ≡ length xs
few_close xs some few =
    let len = length-append xs (let none : List PacketStatus = [] in none) in
    let r = run_is (xs ++ []) ∙ prefix_take (has (symbol_at (xs ++ []) 0)) 8191 (xs ++ []) in
    let m = prefix_most (has (symbol_at (xs ++ []) 0)) (xs ++ []) in
    let v = (vector_first (xs ++ []) (omega (arith, r, m, len, few))).1 in
    omega (arith, v, len, few)

-- ---- counting

pub counted_deltas : (s : Size) (rows : List PacketStatus) → IsCounted s rows → s.deltas ≡ length (flat_map delta_text rows)
counted_deltas s [] h = h.2
counted_deltas s (row ∷ rows) h = h.1

last_told : (s : Size) (rows : List PacketStatus) (p : IsParted s rows) → told_by (p.last ++ []) ≡ length p.last
last_told s rows p =
    let some : 0 < length p.last = omega (arith, p.told, p.some) in
    let most : length p.last ≤ 8191 = omega (arith, p.told, p.most) in
    elim (leb 7 (length p.last)) as (λ b. (leb 7 (length p.last) ≡ b) → told_by (p.last ++ []) ≡ length p.last) [
      | true ↦ λ e.
          elim s.is_run as (λ r. (s.is_run ≡ r) → told_by (p.last ++ []) ≡ length p.last) [
            | true ↦ λ r. run_closes p.last [] s.symbol p.symbol (leb-true _ _ e) most (p.run r) (omega (arith, most))
            | false ↦ λ r. let m = p.mixed r in vector_closes p.last [] s.symbol p.symbol (omega (arith, m.1, leb-true _ _ e)) m.0
          ] refl
      | false ↦ λ e. few_close p.last some (leb-false _ _ e)
    ] refl

-- the chunks of rows that were counted
pub counted_chunks : (s : Size) (rows : List PacketStatus) → IsCounted s rows → s.chunks ≡ length (chunks_of rows)
counted_chunks s [] h = h.0 ∙ sym none_counted
counted_chunks s (row ∷ rows) h =
    let p = h.0 in
    let all : List PacketStatus = row ∷ rows in
    let whole : length (chunks_of (all ++ [])) ≡ length (chunks_of all) = ap (λ (t : List PacketStatus). length (chunks_of t)) (append-nil all) in
    let one : length (chunks_of (p.last ++ [])) ≡ 1 + length (chunks_of []) = closes p.last [] (omega (arith, p.told, p.some)) (last_told s all p) in
    omega (arith, p.chunks [], whole, one, none_counted)

pub counted_size : (s : Size) (rows : List PacketStatus) → IsCounted s rows → bytes_of s ≡ size_of rows
unfolding size_of
counted_size s rows h =
    let c = counted_chunks s rows h in
    let d = counted_deltas s rows h in
    let len : 20 + 2 * s.chunks + s.deltas ≡ len_of rows = omega (arith, c, d) in
    rw len refl

-- the tests of the last chunk
true_of : (a b : Bool) → (a && b) ≡ true → (a ≡ true) × (b ≡ true)
true_of true b e = (refl, e)
true_of false b e = absurd cc

mixed_prefix : (s : Size) (row : PacketStatus) (last : List PacketStatus) → (s.is_run ≡ true → prefix_len (has s.symbol) last ≡ length last) → (s.is_run ≡ false → prefix_len (has s.symbol) last < length last)
    → (s.is_run && eqb (symbol_of row) s.symbol) ≡ false → prefix_len (has s.symbol) (last ++ row ∷ []) < length (last ++ row ∷ [])
mixed_prefix s row last run mixed e =
    let len = length-append last (row ∷ []) in
    elim s.is_run as (λ r. (s.is_run ≡ r) → prefix_len (has s.symbol) (last ++ row ∷ []) < length (last ++ row ∷ [])) [
      | true ↦ λ r.
          let other : eqb (symbol_of row) s.symbol ≡ false = rw r at e in
          let one : prefix_len (has s.symbol) (row ∷ []) ≡ 0 = rw other refl in
          omega (arith, prefix_long (has s.symbol) last (row ∷ []) (run r), one, len)
      | false ↦ λ r. omega (arith, prefix_short (has s.symbol) last (row ∷ []) (mixed r), mixed r, len)
    ] refl

mixed_few : (s : Size) (row : PacketStatus) (last : List PacketStatus) → length last ≡ s.told → (s.told < 7) ⊎ ((s.is_run ≡ true) × (symbol_of row ≡ s.symbol))
    → (s.is_run && eqb (symbol_of row) s.symbol) ≡ false → length (last ++ row ∷ []) ≤ 7
mixed_few s row last told (inl few) e = omega (arith, length-append last (row ∷ []), told, few)
mixed_few s row last told (inr both) e =
    let same : eqb (symbol_of row) s.symbol ≡ true = eq-eqb _ _ both.1 in
    let no = rw (both.0, same) at e in
    absurd cc

-- the last chunk tells the next row too
extended : (s : Size) (row : PacketStatus) (rows : List PacketStatus) (p : IsParted s rows) → s.told < 8191 → (s.told < 7) ⊎ ((s.is_run ≡ true) × (symbol_of row ≡ s.symbol))
    → IsParted (record { chunks = s.chunks; told = s.told + 1; symbol = s.symbol; is_run = s.is_run && eqb (symbol_of row) s.symbol; deltas = s.deltas + length (delta_text row) }) (rows ++ row ∷ [])
extended s row rows p most h =
    let last : List PacketStatus = p.last ++ row ∷ [] in
    let len = length-append p.last (row ∷ []) in
    let some : 0 < length p.last = omega (arith, p.told, p.some) in
    record {
      front = p.front;
      last = last;
      split = ap (λ (t : List PacketStatus). t ++ row ∷ []) p.split ∙ append_assoc p.front p.last (row ∷ []);
      told = omega (arith, len, p.told);
      some = omega arith;
      most = omega (arith, most);
      symbol = p.symbol ∙ sym (symbol_first p.last (row ∷ []) some);
      run = λ e.
          let both = true_of s.is_run (eqb (symbol_of row) s.symbol) e in
          let one : prefix_len (has s.symbol) (row ∷ []) ≡ 1 = rw both.1 refl in
          prefix_long (has s.symbol) p.last (row ∷ []) (p.run both.0) ∙ omega (arith, one, len);
      mixed = λ e. (mixed_prefix s row p.last p.run (λ r. (p.mixed r).0) e, mixed_few s row p.last p.told h e);
      chunks = λ later.
          let a : (rows ++ row ∷ []) ++ later ≡ rows ++ (row ∷ later) = append_assoc rows (row ∷ []) later in
          let b : last ++ later ≡ p.last ++ (row ∷ later) = append_assoc p.last (row ∷ []) later in
          rw (a, b) (p.chunks (row ∷ later));
    }

-- the next row begins a chunk
closed : (s : Size) (row : PacketStatus) (rows : List PacketStatus) (p : IsParted s rows) → ((later : List PacketStatus) → told_by (p.last ++ row ∷ later) ≡ length p.last)
    → IsParted (record { chunks = s.chunks + 1; told = 1; symbol = symbol_of row; is_run = true; deltas = s.deltas + length (delta_text row) }) (rows ++ row ∷ [])
closed s row rows p told =
    let same : eqb (symbol_of row) (symbol_of row) ≡ true = eq-eqb _ _ refl in
    record {
      front = rows;
      last = row ∷ [];
      split = refl;
      told = refl;
      some = omega arith;
      most = omega arith;
      symbol = refl;
      run = λ e. rw same refl;
      mixed = λ e. absurd cc;
      chunks = λ later.
          let a : (rows ++ row ∷ []) ++ later ≡ rows ++ (row ∷ later) = append_assoc rows (row ∷ []) later in
          let c = closes p.last (row ∷ later) (omega (arith, p.told, p.some)) (told later) in
          rw a (omega (arith, p.chunks (row ∷ later), c));
    }

-- a run ends before another symbol, or at its greatest length
run_ends : (s : Size) (row : PacketStatus) (last later : List PacketStatus) → length last ≡ s.told → s.told ≤ 8191 → (eqb (symbol_of row) s.symbol && ltb s.told 8191) ≡ false
    → min 8191 (length last + prefix_len (has s.symbol) (row ∷ later)) ≡ length last
run_ends s row last later told most e =
    elim (eqb (symbol_of row) s.symbol) as (λ b. (eqb (symbol_of row) s.symbol ≡ b) → min 8191 (length last + prefix_len (has s.symbol) (row ∷ later)) ≡ length last) [
      | false ↦ λ other. let none : prefix_len (has s.symbol) (row ∷ later) ≡ 0 = rw other refl in omega (arith, none, told, most)
      | true ↦ λ same. let full = rw same at e in omega (arith, ltb-false _ _ full, told, most)
    ] refl

-- where the last chunk does not tell the next row, it ends
ends : (s : Size) (row : PacketStatus) (rows : List PacketStatus) (p : IsParted s rows) → takes_on s (symbol_of row) ≡ false → (later : List PacketStatus) → told_by (p.last ++ row ∷ later) ≡ length p.last
ends s row rows p e later =
    let some : ltb 0 s.told ≡ true = lt-ltb _ _ p.some in
    let e' = rw some at e in
    elim (ltb s.told 7) as (λ b. (ltb s.told 7 ≡ b) → told_by (p.last ++ row ∷ later) ≡ length p.last) [
      | true ↦ λ few. let no = rw few at e' in absurd cc
      | false ↦ λ few.
          let long : 7 ≤ length p.last = omega (arith, ltb-false _ _ few, p.told) in
          let e'' = rw few at e' in
          elim s.is_run as (λ r. (s.is_run ≡ r) → told_by (p.last ++ row ∷ later) ≡ length p.last) [
            | false ↦ λ r. let m = p.mixed r in vector_closes p.last (row ∷ later) s.symbol p.symbol (omega (arith, m.1, long)) m.0
            | true ↦ λ r.
                let e3 = rw r at e'' in
                run_closes p.last (row ∷ later) s.symbol p.symbol long (omega (arith, p.told, p.most)) (p.run r) (run_ends s row p.last later p.told p.most e3)
          ] refl
    ] refl

goes_on : (s : Size) (symbol : ℕ) → takes_on s symbol ≡ true → s.told ≤ 8191 → (s.told < 8191) × ((s.told < 7) ⊎ ((s.is_run ≡ true) × (symbol ≡ s.symbol)))
goes_on s symbol e most =
    let a = true_of (ltb 0 s.told) (ltb s.told 7 || ((s.is_run && eqb symbol s.symbol) && ltb s.told 8191)) e in
    elim (ltb s.told 7) as (λ b. (ltb s.told 7 ≡ b) → (s.told < 8191) × ((s.told < 7) ⊎ ((s.is_run ≡ true) × (symbol ≡ s.symbol)))) [
      | true ↦ λ few. (omega (arith, ltb-true _ _ few), inl (ltb-true _ _ few))
      | false ↦ λ few.
          let rest = rw few at a.1 in
          let b = true_of (s.is_run && eqb symbol s.symbol) (ltb s.told 8191) rest in
          let c = true_of s.is_run (eqb symbol s.symbol) b.0 in
          (ltb-true _ _ b.1, inr (c.0, eqb-true _ _ c.1))
    ] refl

deltas_added : (s : Size) (row : PacketStatus) → (after_row s row).deltas ≡ s.deltas + length (delta_text row)
deltas_added s row =
    elim (takes_on s (symbol_of row)) as (λ b. (takes_on s (symbol_of row) ≡ b) → (after_row s row).deltas ≡ s.deltas + length (delta_text row)) [ true ↦ λ e. rw e refl | false ↦ λ e. rw e refl ] refl

chunks_rise : (s : Size) (row : PacketStatus) → s.chunks ≤ (after_row s row).chunks
chunks_rise s row =
    elim (takes_on s (symbol_of row)) as (λ b. (takes_on s (symbol_of row) ≡ b) → s.chunks ≤ (after_row s row).chunks) [ true ↦ λ e. rw e (omega arith) | false ↦ λ e. rw e (omega arith) ] refl

-- a row after those that were counted
next_part : (s : Size) (row : PacketStatus) (rows : List PacketStatus) → IsParted s rows → IsParted (after_row s row) (rows ++ row ∷ [])
next_part s row rows p =
    elim (takes_on s (symbol_of row)) as (λ b. (takes_on s (symbol_of row) ≡ b) → IsParted (after_row s row) (rows ++ row ∷ [])) [
      | true ↦ λ e. let on = goes_on s (symbol_of row) e p.most in rw e (extended s row rows p on.0 on.1)
      | false ↦ λ e. rw e (closed s row rows p (ends s row rows p e))
    ] refl

pub next_counted : (s : Size) (row : PacketStatus) (rows : List PacketStatus) → IsCounted s rows → IsCounted (after_row s row) (rows ++ row ∷ [])
next_counted s row [] h =
    let none : ltb 0 s.told ≡ false = le-ltb _ _ (omega (arith, h.1)) in
    let same : eqb (symbol_of row) (symbol_of row) ≡ true = eq-eqb _ _ refl in
    let d : flat_map delta_text (row ∷ []) ≡ delta_text row = append-nil (delta_text row) in
    rw none (
      record {
        front = [];
        last = row ∷ [];
        split = refl;
        told = refl;
        some = omega arith;
        most = omega arith;
        symbol = refl;
        run = λ e. rw same refl;
        mixed = λ e. absurd cc;
        chunks = λ later. omega (arith, h.0);
      },
      rw d (omega (arith, h.2)),
    )
next_counted s row (first ∷ rows) h =
    let d : flat_map delta_text ((first ∷ rows) ++ row ∷ []) ≡ flat_map delta_text (first ∷ rows) ++ delta_text row = flat_map-append delta_text (first ∷ rows) (row ∷ []) ∙ ap (λ (t : List ℕ). flat_map delta_text (first ∷ rows) ++ t) (append-nil (delta_text row)) in
    let len = length-append (flat_map delta_text (first ∷ rows)) (delta_text row) in
    (next_part s row (first ∷ rows) h.0, deltas_added s row ∙ omega (arith, ap length d, len, h.1))

-- a row more takes no fewer bytes
pub size_rises : (s : Size) (row : PacketStatus) (rows : List PacketStatus) → IsCounted s rows → size_of rows ≤ size_of (rows ++ row ∷ [])
size_rises s row rows h =
    let a = counted_size s rows h in
    let b = counted_size (after_row s row) (rows ++ row ∷ []) (next_counted s row rows h) in
    let d = deltas_added s row in
    let c = chunks_rise s row in
    omega (arith, a, b, c, d)

-- nor do more rows
pub size_grows : (later : List PacketStatus) (s : Size) (rows : List PacketStatus) → IsCounted s rows → size_of rows ≤ size_of (rows ++ later)
size_grows [] s rows h = let e = append-nil rows in rw e (omega arith)
size_grows (row ∷ later) s rows h =
    let one = size_rises s row rows h in
    let e : (rows ++ row ∷ []) ++ later ≡ rows ++ (row ∷ later) = append_assoc rows (row ∷ []) later in
    let others = rw e at (size_grows later (after_row s row) (rows ++ row ∷ []) (next_counted s row rows h)) in
    omega (arith, one, others)
