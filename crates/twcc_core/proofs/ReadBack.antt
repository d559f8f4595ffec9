-- What was written is read again.
use Rattle.std.proofs.Common.{◌≡◌, ℕ, zero, suc, ◌+◌, ◌-◌, ◌*◌, ◌/◌, ◌%◌, ◌^◌, ◌<◌, ◌≤◌, Bool, true, false, cond, eqb, ltb, leb, List, [], ◌∷◌, ◌++◌, length, take, drop, replicate, Option, Some, refl, sym, ap, ◌∙◌, append_assoc, arith, length-append, length-drop}
use Rattle.std.specs.Prelude.{map, ℤ, pos, negsuc, min, FitsSigned}
use Rattle.std.specs.List.{flat_map, AllByRecursion, take_while, prefix_len}
use Rattle.std.specs.Int.{w16, to_be_bytes, cast_unsigned}
use Rattle.std.specs.Option.{option_map, option_and_then}
use Rattle.std.proofs.lemmas.Bool.{le-ltb, lt-ltb, ltb-true, leb-true, leb-false, eqb-true}
use Rattle.std.proofs.lemmas.List.{take-append-drop, map-append}
use Rattle.std.proofs.lemmas.Int.{to_z-of_z}
use Rattle.std.proofs.Math.Facts.{Fits-of_z}
use Rattle.std.proofs.lemmas.Nat.{from_be_bytes-to_be_bytes_2, from_be_bytes-to_be_bytes_4}
use Rattle.twcc_core.specs.declared.status.PacketStatus.{PacketStatus}
use Rattle.twcc_core.specs.declared.status.PacketStatus.TheVariants.{NotReceived, Received}
use Rattle.twcc_core.specs.declared.feedback.Twcc.{Twcc}
use Rattle.rtp_base.specs.Wire.{half_at, word_at, halves, words}
use Rattle.twcc_core.specs.Statuses.{symbol_of, delta_text, status_at, statuses_of}
use Rattle.twcc_core.specs.Chunks.{two_bit_symbols, chunk_symbols, with_symbols, symbols_within, symbols_of, symbol_at, run_of, vector_of, chunk_of, told_by, chunks_within, chunks_of}
use Rattle.twcc_core.specs.Feedback.{with_rows, twcc_of, twcc_fields, fill_of, twcc_bytes}
use Rattle.rtp_base.specs.Fields.{signed24, bits24}
use Rattle.twcc_core.specs.Laws.{IsStatus, IsFeedback}
use Rattle.rtp_base.specs.Fields.{IsSigned24}
use Rattle.twcc_core.proofs.Symbols.{some_left, none_left}

-- ---- symbols and deltas

pub symbol_small : (row : PacketStatus) → symbol_of row < 3
symbol_small NotReceived = omega arith
symbol_small (Received (pos n)) = elim (ltb n 256) as (λ b. cond b 1 2 < 3) [ true ↦ omega arith | false ↦ omega arith ]
symbol_small (Received (negsuc n)) = omega arith

pub symbol_at_small : (rows : List PacketStatus) (i : ℕ) → symbol_at rows i < 3
symbol_at_small [] i = omega arith
symbol_at_small (row ∷ rows) zero = symbol_small row
symbol_at_small (row ∷ rows) (suc i) = symbol_at_small rows i

large_again : (delta : ℤ) (rest : List ℕ) → FitsSigned w16 delta → status_at 2 (to_be_bytes w16 (cast_unsigned w16 delta) ++ rest) ≡ Some (Received delta, rest)
unfolding status_at
large_again delta rest fits =
    let small : cast_unsigned w16 delta < 2 ^ 16 = omega (arith, Fits-of_z {w = w16} {z = delta} fits) in
    let bytes = from_be_bytes-to_be_bytes_2 (cast_unsigned w16 delta) small in
    let long : ltb (length (to_be_bytes w16 (cast_unsigned w16 delta) ++ rest)) 2 ≡ false = le-ltb _ _ (omega arith) in
    rw (long, bytes, to_z-of_z w16 delta fits) refl

status_again : (row : PacketStatus) (rest : List ℕ) → IsStatus row → status_at (symbol_of row) (delta_text row ++ rest) ≡ Some (row, rest)
unfolding status_at
status_again NotReceived rest whole = refl
status_again (Received (negsuc n)) rest whole = large_again (negsuc n) rest whole
status_again (Received (pos n)) rest whole =
    elim (ltb n 256) as (λ b. (ltb n 256 ≡ b) → status_at (symbol_of (Received (pos n))) (delta_text (Received (pos n)) ++ rest) ≡ Some (Received (pos n), rest)) [
      | true ↦ λ e.
          let low : cast_unsigned w16 (pos n) ≡ n = omega (arith, ltb-true _ _ e) in
          let long : ltb (suc (length rest)) 1 ≡ false = le-ltb _ _ (omega arith) in
          rw (e, low, long) refl
      | false ↦ λ e. rw e (large_again (pos n) rest whole)
    ] refl

statuses_again : (rows : List PacketStatus) (rest : List ℕ) → AllByRecursion IsStatus rows → statuses_of (map symbol_of rows) (flat_map delta_text rows ++ rest) ≡ Some rows
statuses_again [] rest whole = refl
statuses_again (row ∷ rows) rest whole =
    let e : flat_map delta_text (row ∷ rows) ++ rest ≡ delta_text row ++ (flat_map delta_text rows ++ rest) = append_assoc (delta_text row) (flat_map delta_text rows) rest in
    let one = status_again row (flat_map delta_text rows ++ rest) whole.0 in
    let others = statuses_again rows rest whole.1 in
    rw (e, one, others) refl

-- ---- runs

same_symbols : (s n : ℕ) (rows : List PacketStatus)
    → map symbol_of (take (prefix_len (λ row. eqb (symbol_of row) s) (take n rows)) rows) ≡ replicate (prefix_len (λ row. eqb (symbol_of row) s) (take n rows)) s
same_symbols s zero rows = refl
same_symbols s (suc n) [] = refl
same_symbols s (suc n) (row ∷ rows) =
    elim (eqb (symbol_of row) s) as (λ b. (eqb (symbol_of row) s ≡ b)
    → map symbol_of (take (cond b (1 + prefix_len (λ row. eqb (symbol_of row) s) (take n rows)) 0) (row ∷ rows)) ≡ replicate (cond b (1 + prefix_len (λ row. eqb (symbol_of row) s) (take n rows)) 0) s) [
      | true ↦ λ e.
          let k : 1 + prefix_len (λ row. eqb (symbol_of row) s) (take n rows) ≡ suc (prefix_len (λ row. eqb (symbol_of row) s) (take n rows)) = omega arith in
          let is : symbol_of row ≡ s = eqb-true _ _ e in
          rw (k, is, same_symbols s n rows) refl
      | false ↦ λ e. refl
    ] refl

prefix_within : (p : PacketStatus → Bool) (n : ℕ) (rows : List PacketStatus) → (prefix_len p (take n rows) ≤ length rows) × (prefix_len p (take n rows) ≤ n)
prefix_within p zero rows = (omega arith, omega arith)
prefix_within p (suc n) [] = (omega arith, omega arith)
prefix_within p (suc n) (row ∷ rows) =
    let h = prefix_within p n rows in
    elim (p row) as (λ b. (cond b (1 + prefix_len p (take n rows)) 0 ≤ suc (length rows)) × (cond b (1 + prefix_len p (take n rows)) 0 ≤ suc n)) [
      | true ↦ (omega (arith, h.0), omega (arith, h.1))
      | false ↦ (omega arith, omega arith)
    ]

prefix_whole : (p : PacketStatus → Bool) (rows : List PacketStatus) → length (take_while p rows) ≡ prefix_len p rows
prefix_whole p [] = refl
prefix_whole p (row ∷ rows) =
    elim (p row) as (λ b. length (take (cond b (1 + prefix_len p rows) 0) (row ∷ rows)) ≡ cond b (1 + prefix_len p rows) 0) [
      | true ↦ let k : 1 + prefix_len p rows ≡ suc (prefix_len p rows) = omega arith in rw k (omega (arith, prefix_whole p rows))
      | false ↦ refl
    ]

pub run_is : (rows : List PacketStatus) → run_of rows ≡ prefix_len (λ row. eqb (symbol_of row) (symbol_at rows 0)) (take 8191 rows)
run_is rows = prefix_whole (λ row. eqb (symbol_of row) (symbol_at rows 0)) (take 8191 rows)

pub run_within : (rows : List PacketStatus) → (run_of rows ≤ length rows) × (run_of rows ≤ 8191)
run_within rows = rw (run_is rows) (prefix_within (λ row. eqb (symbol_of row) (symbol_at rows 0)) 8191 rows)

run_symbols : (rows : List PacketStatus) → map symbol_of (take (run_of rows) rows) ≡ replicate (run_of rows) (symbol_at rows 0)
run_symbols rows = rw (run_is rows) (same_symbols (symbol_at rows 0) 8191 rows)

-- ---- chunks

take_none : (n : ℕ) → take n (let none : List ℕ = [] in none) ≡ []
take_none zero = refl
take_none (suc n) = refl

replicate_len : (n s : ℕ) → length (replicate n s) ≡ n
replicate_len zero s = refl
replicate_len (suc n) s = omega (arith, replicate_len n s)

take_all : (m n s : ℕ) → n ≤ m → take m (replicate n s) ≡ replicate n s
take_all zero zero s le = refl
take_all zero (suc n) s le = absurd (omega arith)
take_all (suc m) zero s le = refl
take_all (suc m) (suc n) s le = ap (λ (t : List ℕ). s ∷ t) (take_all m n s (omega arith))

pairs_again : (a b c d e f g : ℕ) → a < 3 → b < 3 → c < 3 → d < 3 → e < 3 → f < 3 → g < 3
    → two_bit_symbols (49152 + a * 4096 + b * 1024 + c * 256 + d * 64 + e * 16 + f * 4 + g) ≡ a ∷ b ∷ c ∷ d ∷ e ∷ f ∷ g ∷ []
pairs_again a b c d e f g la lb lc ld le lf lg =
    let n : ℕ = 49152 + a * 4096 + b * 1024 + c * 256 + d * 64 + e * 16 + f * 4 + g in
    let ea : n / 4096 % 4 ≡ a = omega arith in
    let eb : n / 1024 % 4 ≡ b = omega arith in
    let ec : n / 256 % 4 ≡ c = omega arith in
    let ed : n / 64 % 4 ≡ d = omega arith in
    let ee : n / 16 % 4 ≡ e = omega arith in
    let ef : n / 4 % 4 ≡ f = omega arith in
    let eg : n % 4 ≡ g = omega arith in
    rw (ea, eb, ec, ed, ee, ef, eg) refl

first_seven : (rows : List PacketStatus)
    → take (length rows) (symbol_at rows 0 ∷ symbol_at rows 1 ∷ symbol_at rows 2 ∷ symbol_at rows 3 ∷ symbol_at rows 4 ∷ symbol_at rows 5 ∷ symbol_at rows 6 ∷ []) ≡ map symbol_of (take (min 7 (length rows)) rows)
first_seven [] = refl
first_seven (a ∷ []) = refl
first_seven (a ∷ b ∷ []) = refl
first_seven (a ∷ b ∷ c ∷ []) = refl
first_seven (a ∷ b ∷ c ∷ d ∷ []) = refl
first_seven (a ∷ b ∷ c ∷ d ∷ e ∷ []) = refl
first_seven (a ∷ b ∷ c ∷ d ∷ e ∷ f ∷ []) = refl
first_seven (a ∷ b ∷ c ∷ d ∷ e ∷ f ∷ g ∷ rows) =
    let k : min 7 (length (a ∷ b ∷ c ∷ d ∷ e ∷ f ∷ g ∷ rows)) ≡ 7 = omega arith in
    rw (k, take_none (length rows)) refl

-- what a chunk that is written tells: the symbols of the rows that it stands for
pub record Tells (rows : List PacketStatus) : Type 0 where
  pub fits : chunk_of rows < 65536
  pub some : 0 < told_by rows
  pub within : told_by rows ≤ length rows
  pub most : min 7 (length rows) ≤ told_by rows
  pub symbols : take (length rows) (chunk_symbols (chunk_of rows)) ≡ map symbol_of (take (told_by rows) rows)
  pub left : length rows - length (chunk_symbols (chunk_of rows)) ≡ length rows - told_by rows

pub tells : (rows : List PacketStatus) → 0 < length rows → Tells rows
unfolding chunk_of told_by chunk_symbols
tells rows some =
    let w = run_within rows in
    let s0 = symbol_at_small rows 0 in
    elim (leb 7 (run_of rows)) as (λ b. (leb 7 (run_of rows) ≡ b) → Tells rows) [
      | true ↦ λ e.
          let long : 7 ≤ run_of rows = leb-true _ _ e in
          let n : ℕ = symbol_at rows 0 * 8192 + run_of rows in
          let low : ltb (symbol_at rows 0 * 8192 + run_of rows) 32768 ≡ true = lt-ltb _ _ (omega (arith, s0, w.1)) in
          let sym' : (symbol_at rows 0 * 8192 + run_of rows) / 8192 ≡ symbol_at rows 0 = omega (arith, w.1) in
          let len' : (symbol_at rows 0 * 8192 + run_of rows) % 8192 ≡ run_of rows = omega (arith, w.1) in
          record {
            fits = rw e (omega (arith, s0, w.1));
            some = rw e (omega (arith, long));
            within = rw e w.0;
            most = rw e (omega (arith, long));
            symbols = rw (e, low, sym', len') (take_all (length rows) (run_of rows) (symbol_at rows 0) w.0 ∙ sym (run_symbols rows));
            left = rw (e, low, sym', len') (omega (arith, replicate_len (run_of rows) (symbol_at rows 0)));
          }
      | false ↦ λ e.
          let again = pairs_again (symbol_at rows 0) (symbol_at rows 1) (symbol_at rows 2) (symbol_at rows 3) (symbol_at rows 4) (symbol_at rows 5) (symbol_at rows 6)
          s0 (symbol_at_small rows 1) (symbol_at_small rows 2) (symbol_at_small rows 3) (symbol_at_small rows 4) (symbol_at_small rows 5) (symbol_at_small rows 6) in
          let high : ltb (vector_of rows) 32768 ≡ false = le-ltb _ _ (omega arith) in
          let high' : ltb (vector_of rows) 49152 ≡ false = le-ltb _ _ (omega arith) in
          record {
            fits = rw e (omega (arith, s0, symbol_at_small rows 1, symbol_at_small rows 2, symbol_at_small rows 3, symbol_at_small rows 4, symbol_at_small rows 5, symbol_at_small rows 6));
            some = rw e (omega (arith, some));
            within = rw e (omega arith);
            most = rw e (omega arith);
            symbols = rw (e, high, high', again) (first_seven rows);
            left = rw (e, high, high') (omega arith);
          }
    ] refl

symbols_again : (n m : ℕ) (rows : List PacketStatus) (rest : List ℕ) → length rows ≤ m → length (chunks_within m rows) ≤ n
    → symbols_within n (length rows) (halves (chunks_within m rows) ++ rest) ≡ Some (map symbol_of rows, rest)
symbols_again n zero [] rest enough fuel = none_left n rest
symbols_again n (suc m) [] rest enough fuel = none_left n rest
symbols_again n zero (row ∷ rows) rest enough fuel = absurd (omega arith)
symbols_again zero (suc m) (row ∷ rows) rest enough fuel = absurd (omega arith)
symbols_again (suc n) (suc m) (row ∷ rows) rest enough fuel =
    let all : List PacketStatus = row ∷ rows in
    let t = tells all (omega arith) in
    let after : List PacketStatus = drop (told_by all) all in
    let later : List ℕ = halves (chunks_within m after) ++ rest in
    let len : length after ≡ length all - told_by all = length-drop (told_by all) all in
    let half : half_at (to_be_bytes w16 (chunk_of all) ++ later) 0 ≡ chunk_of all = from_be_bytes-to_be_bytes_2 (chunk_of all) t.fits in
    let e : halves (chunks_within (suc m) all) ++ rest ≡ to_be_bytes w16 (chunk_of all) ++ later = append_assoc (to_be_bytes w16 (chunk_of all)) (halves (chunks_within m after)) rest in
    let others = symbols_again n m after rest (omega (arith, len, t.some)) (omega arith) in
    let left : length all - length (chunk_symbols (chunk_of all)) ≡ length after = t.left ∙ sym len in
    let front = t.symbols in
    let whole : map symbol_of (take (told_by all) all) ++ map symbol_of after ≡ map symbol_of all = sym (map-append symbol_of (take (told_by all) all) after) ∙ ap (map symbol_of) (take-append-drop (told_by all) all) in
    let bytes : List ℕ = to_be_bytes w16 (chunk_of all) ++ later in
    ap (symbols_within (suc n) (length all)) e
    ∙ some_left n (length all) bytes (omega arith)
    ∙ ap (λ (c : ℕ). option_map (with_symbols (take (length all) (chunk_symbols c))) (symbols_within n (length all - length (chunk_symbols c)) later)) half
    ∙ ap (λ (k : ℕ). option_map (with_symbols (take (length all) (chunk_symbols (chunk_of all)))) (symbols_within n k later)) left
    ∙ ap (option_map (with_symbols (take (length all) (chunk_symbols (chunk_of all))))) others
    ∙ ap (λ (x : List ℕ). let y : List ℕ × List ℕ = (x ++ map symbol_of after, rest) in Some y) front
    ∙ ap (λ (x : List ℕ). let y : List ℕ × List ℕ = (x, rest) in Some y) whole

-- ---- feedback

reference_again : (z : ℤ) → IsSigned24 z → signed24 (bits24 z) ≡ z
reference_again (pos n) whole =
    let e : bits24 (pos n) ≡ n = omega arith in
    ap signed24 e ∙ rw (lt-ltb n 8388608 whole) refl
reference_again (negsuc n) whole =
    let e : bits24 (negsuc n) ≡ 16777215 - n = omega arith in
    let high : ltb (16777215 - n) 8388608 ≡ false = le-ltb _ _ (omega arith) in
    let low : ltb (16777215 - n) 16777216 ≡ true = lt-ltb _ _ (omega arith) in
    let back : 16777216 - suc (16777215 - n) ≡ n = omega arith in
    ap signed24 e ∙ rw (high, low, back) refl

pub halves_len : (cs : List ℕ) → length (halves cs) ≡ length cs * 2
halves_len [] = omega arith
halves_len (c ∷ cs) = omega (arith, length-append (to_be_bytes w16 c) (halves cs), halves_len cs)

len_none : (m : ℕ) (rows : List PacketStatus) → length rows ≡ 0 → length (chunks_within m rows) ≡ 0
len_none zero rows e = refl
len_none (suc m) [] e = refl
len_none (suc m) (row ∷ rows) e = absurd (omega arith)

-- each chunk but the last tells seven at least
pub chunks_len : (m : ℕ) (rows : List PacketStatus) → length rows ≤ m → length (chunks_within m rows) * 7 ≤ length rows + 6
chunks_len zero rows enough = omega arith
chunks_len (suc m) [] enough = omega arith
chunks_len (suc m) (row ∷ rows) enough =
    let all : List PacketStatus = row ∷ rows in
    let t = tells all (omega arith) in
    let after : List PacketStatus = drop (told_by all) all in
    let len : length after ≡ length all - told_by all = length-drop (told_by all) all in
    let others = chunks_len m after (omega (arith, len, t.some)) in
    elim (leb 7 (length all)) as (λ b. (leb 7 (length all) ≡ b) → length (chunks_within (suc m) all) * 7 ≤ length all + 6) [
      | true ↦ λ e. omega (arith, leb-true _ _ e, others, len, t.most, t.within)
      | false ↦ λ e. let none : length after ≡ 0 = omega (arith, leb-false _ _ e, len, t.most) in omega (arith, len_none m after none)
    ] refl

pub deltas_len : (rows : List PacketStatus) → length (flat_map delta_text rows) ≤ length rows * 2
deltas_len [] = omega arith
deltas_len (NotReceived ∷ rows) = omega (arith, deltas_len rows)
deltas_len (Received (negsuc n) ∷ rows) = omega (arith, deltas_len rows)
deltas_len (Received (pos n) ∷ rows) =
    elim (ltb n 256) as (λ b. length ((cond b (cast_unsigned w16 (pos n) ∷ []) (to_be_bytes w16 (cast_unsigned w16 (pos n)))) ++ flat_map delta_text rows) ≤ suc (length rows) * 2) [
      | true ↦ omega (arith, deltas_len rows)
      | false ↦ omega (arith, deltas_len rows)
    ]

-- the length of the fields
pub fields_len : (t : Twcc) → length (twcc_fields t) ≡ 16 + length (chunks_of t.rows) * 2 + length (flat_map delta_text t.rows)
unfolding twcc_fields
fields_len t =
    let head : List ℕ = words (t.sender_ssrc ∷ t.ssrc ∷ (t.base_seq * 65536 + length t.rows) ∷ (bits24 t.reference_time * 256 + t.feedback_count) ∷ []) in
    let one = length-append (head ++ halves (chunks_of t.rows)) (flat_map delta_text t.rows) in
    let two = length-append head (halves (chunks_of t.rows)) in
    let sixteen : length head ≡ 16 = refl in
    omega (arith, one, two, sixteen, halves_len (chunks_of t.rows))

pub bytes_len : (t : Twcc) → length (twcc_bytes t) ≡ length (twcc_fields t) + fill_of (length (twcc_fields t))
unfolding twcc_bytes
bytes_len t = length-append (twcc_fields t) (replicate (fill_of (length (twcc_fields t))) 0) ∙ omega (arith, replicate_len (fill_of (length (twcc_fields t))) 0)

pub twcc_whole : (t : Twcc) → length t.rows < 65536 → (length (twcc_bytes t) % 4 ≡ 0) × (length (twcc_bytes t) < 2 ^ 18)
unfolding chunks_of
twcc_whole t few =
    let len = bytes_len t in
    let fields = fields_len t in
    let chunks = chunks_len (length t.rows) t.rows (omega arith) in
    let deltas = deltas_len t.rows in
    (omega (arith, len), omega (arith, len, fields, chunks, deltas, few))

twcc_is : (body : List ℕ) → 16 ≤ length body → twcc_of body ≡ option_map (with_rows body) (option_and_then (λ s. statuses_of s.0 s.1) (symbols_of (half_at body 10) (drop 16 body)))
unfolding twcc_of
twcc_is body long = let t : ltb (length body) 16 ≡ false = le-ltb _ _ long in rw t refl

-- the chunks and the deltas of rows are read again
rows_again : (rows : List PacketStatus) (rest : List ℕ) → AllByRecursion IsStatus rows
    → option_and_then (λ s. statuses_of s.0 s.1) (symbols_of (length rows) (halves (chunks_of rows) ++ (flat_map delta_text rows ++ rest))) ≡ Some rows
unfolding symbols_of chunks_of
rows_again rows rest whole =
    let later : List ℕ = flat_map delta_text rows ++ rest in
    let bytes : List ℕ = halves (chunks_within (length rows) rows) ++ later in
    let len = length-append (halves (chunks_within (length rows) rows)) later in
    let again = symbols_again (length bytes / 2) (length rows) rows later (omega arith) (omega (arith, len, halves_len (chunks_within (length rows) rows))) in
    rw again (statuses_again rows rest whole)

pub twcc_again : (t : Twcc) → IsFeedback t → twcc_of (twcc_bytes t) ≡ Some t
unfolding twcc_bytes twcc_fields
twcc_again t w =
    let body : List ℕ = twcc_bytes t in
    let first : ℕ = t.base_seq * 65536 + length t.rows in
    let last : ℕ = bits24 t.reference_time * 256 + t.feedback_count in
    let zeros : List ℕ = replicate (fill_of (length (twcc_fields t))) 0 in
    let deltas : List ℕ = flat_map delta_text t.rows in
    let chunks : List ℕ = halves (chunks_of t.rows) in
    let long : 16 ≤ length body = omega (arith, bytes_len t, fields_len t) in
    let sender : word_at body 0 ≡ t.sender_ssrc = from_be_bytes-to_be_bytes_4 t.sender_ssrc w.sender in
    let media : word_at body 4 ≡ t.ssrc = from_be_bytes-to_be_bytes_4 t.ssrc w.media in
    let small : bits24 t.reference_time < 16777216 = omega arith in
    let word : word_at body 12 ≡ last = from_be_bytes-to_be_bytes_4 last (omega (arith, small, w.count)) in
    let both : word_at body 8 ≡ first = from_be_bytes-to_be_bytes_4 first (omega (arith, w.base, w.few)) in
    let base : half_at body 8 ≡ t.base_seq = omega (arith, w.base, w.few) in
    let count : half_at body 10 ≡ length t.rows = omega (arith, w.base, w.few) in
    let upper : last / 256 ≡ bits24 t.reference_time = omega (arith, w.count) in
    let reference : signed24 (word_at body 12 / 256) ≡ t.reference_time = ap (λ (n : ℕ). signed24 (n / 256)) word ∙ ap signed24 upper ∙ reference_again t.reference_time w.reference in
    let number : word_at body 12 % 256 ≡ t.feedback_count = omega (arith, word, w.count) in
    let rest : drop 16 body ≡ chunks ++ (deltas ++ zeros) = append_assoc chunks deltas zeros in
    let make : ℕ → ℕ → ℕ → ℤ → ℕ → Option Twcc = λ a b c d e. Some (record { sender_ssrc = a; ssrc = b; base_seq = c; reference_time = d; feedback_count = e; rows = t.rows }) in
    twcc_is body long
    ∙ ap (λ (n : ℕ). option_map (with_rows body) (option_and_then (λ s. statuses_of s.0 s.1) (symbols_of n (drop 16 body)))) count
    ∙ ap (λ (x : List ℕ). option_map (with_rows body) (option_and_then (λ s. statuses_of s.0 s.1) (symbols_of (length t.rows) x))) rest
    ∙ ap (option_map (with_rows body)) (rows_again t.rows zeros w.statuses)
    ∙ ap (λ (a : ℕ). make a (word_at body 4) (half_at body 8) (signed24 (word_at body 12 / 256)) (word_at body 12 % 256)) sender
    ∙ ap (λ (b : ℕ). make t.sender_ssrc b (half_at body 8) (signed24 (word_at body 12 / 256)) (word_at body 12 % 256)) media
    ∙ ap (λ (c : ℕ). make t.sender_ssrc t.ssrc c (signed24 (word_at body 12 / 256)) (word_at body 12 % 256)) base
    ∙ ap (λ (d : ℤ). make t.sender_ssrc t.ssrc t.base_seq d (word_at body 12 % 256)) reference
    ∙ ap (λ (e : ℕ). make t.sender_ssrc t.ssrc t.base_seq t.reference_time e) number
