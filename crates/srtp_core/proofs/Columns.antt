-- The columns of the toy cipher's tag.
use Rattle.std.proofs.Common.{◌≡◌, ℕ, ◌+◌, ◌-◌, ◌*◌, ◌<◌, ◌≤◌, List, ◌++◌, length, get_or, take, drop, [], ◌∷◌, zero, suc, ◌%◌, ◌⊎◌, inl, inr, refl, sym, ap, ◌∙◌, arith, add-zero}
use Rattle.std.specs.Int.{w32, to_be_bytes}
use Rattle.std.specs.Prelude.{slice_index, bit_xor, ◌==◌, if◌then◌else◌}
use Rattle.std.specs.Int.Bits.{xor_assoc, xor_zero_r}
use Rattle.std.specs.Simd.Lanes.{zip2, chunk, put_chunk}
use Rattle.std.proofs.lemmas.Bool.{eq-eqb, ne_eqb}
use Rattle.std.proofs.lemmas.Nat.{xor_comm}
use Rattle.std.proofs.lemmas.Simd.{get_or-zip2, get_or-chunk, length-chunk, length-zip2, get_or-put_chunk_below, get_or-put_chunk_at, get_or-put_chunk_above}
use Rattle.std.proofs.lemmas.List.{length-append, length-drop, length-take-le, take-append-drop, drop-drop, get_or-take, get_or-drop, get_or_past}
use Rattle.srtp_core.specs.Toy.{toy_block, toy_block_byte, column, toy_tag}
use Rattle.srtp_core.proofs.SimulatedLaws.{made}

pub column-append : (j i : ℕ) (xs ys : List ℕ) → column j i (xs ++ ys) ≡ bit_xor (column j i xs) (column j (i + length xs) ys)
column-append j i [] ys = ap (λ n. column j n ys) (sym (add-zero i))
column-append j i (x ∷ xs) ys =
    ap (bit_xor (if i % 16 == j then x else 0)) (column-append j (i + 1) xs ys ∙ ap (λ n. bit_xor (column j (i + 1) xs) (column j n ys)) (omega arith))
    ∙ sym (xor_assoc (if i % 16 == j then x else 0) (column j (i + 1) xs) (column j (i + suc (length xs)) ys))

-- places count modulo 16
pub column_mod : (j a b : ℕ) (xs : List ℕ) → a % 16 ≡ b % 16 → column j a xs ≡ column j b xs
column_mod j a b [] e = refl
column_mod j a b (x ∷ xs) e =
    ap (λ n. bit_xor (if n == j then x else 0) (column j (a + 1) xs)) e
    ∙ ap (bit_xor (if b % 16 == j then x else 0)) (column_mod j (a + 1) (b + 1) xs (omega arith))

-- three parts, XORed into a block one after another
pub three_mixed : (k iv a b c t : List ℕ) (m n : ℕ) → length t ≡ 16 → m % 16 ≡ length a % 16 → n % 16 ≡ (length a + length b) % 16 → ((j : ℕ) → j < 16 → slice_index t j ≡ bit_xor (bit_xor (bit_xor (slice_index (toy_block k (iv ++ to_be_bytes w32 1)) j) (column j 0 a)) (column j m b)) (column j n c)) → t ≡ toy_tag k iv (a ++ b) c
unfolding toy_tag
three_mixed k iv a b c t m n long at_b at_c each =
    made (λ j. bit_xor (slice_index (toy_block k (iv ++ to_be_bytes w32 1)) j) (column j 0 (a ++ b ++ c))) t 16 long
    (λ j h.
    let s = slice_index (toy_block k (iv ++ to_be_bytes w32 1)) j in
    let x = column j 0 a in
    let y = column j m b in
    let z = column j n c in
    let second : column j (0 + length a) b ≡ y = column_mod j (0 + length a) m b (omega arith) in
    let third : column j (0 + length (a ++ b)) c ≡ z = column_mod j (0 + length (a ++ b)) n c (omega (arith, length-append a b)) in
    let all : column j 0 (a ++ b ++ c) ≡ bit_xor (bit_xor x y) z =
    column-append j 0 (a ++ b) c ∙ ap (bit_xor (column j 0 (a ++ b))) third
    ∙ ap (λ w. bit_xor w z) (column-append j 0 a b ∙ ap (bit_xor x) second) in
    each j h ∙ ap (λ w. bit_xor w z) (xor_assoc s x y) ∙ xor_assoc s (bit_xor x y) z ∙ ap (bit_xor s) (sym all))

-- at a place that is no column's, a list's column is that of its byte
xor_zero_l : (x : ℕ) → bit_xor 0 x ≡ x
xor_zero_l x = xor_comm 0 x ∙ xor_zero_r x

other_byte : (j n x rest : ℕ) → (n ≡ j → ⊥) → bit_xor (if n == j then x else 0) rest ≡ rest
other_byte j n x rest h = ap (λ b. bit_xor (if b then x else 0) rest) (ne_eqb n j h) ∙ xor_zero_l rest

own_byte : (j n x rest : ℕ) → n ≡ j → bit_xor (if n == j then x else 0) rest ≡ bit_xor x rest
own_byte j n x rest h = ap (λ b. bit_xor (if b then x else 0) rest) (eq-eqb n j h)

column_past : (j p i : ℕ) (xs : List ℕ) → p % 16 ≡ 0 → j < i → i + length xs ≤ 16 → column j (p + i) xs ≡ 0
column_past j p i [] at h room = refl
column_past j p i (x ∷ xs) at h room =
    other_byte j ((p + i) % 16) x (column j (p + i + 1) xs) (λ e. omega arith)
    ∙ ap (λ n. column j n xs) (omega arith) ∙ column_past j p (i + 1) xs at (omega arith) (omega arith)

-- in a part of a block, from column i on
column_here : (d j p i : ℕ) (xs : List ℕ) → p % 16 ≡ 0 → j ≡ i + d → i + length xs ≤ 16 → column j (p + i) xs ≡ get_or xs d 0
column_here d j p i [] at is room = refl
column_here zero j p i (x ∷ xs) at is room =
    own_byte j ((p + i) % 16) x (column j (p + i + 1) xs) (omega arith)
    ∙ ap (bit_xor x) (ap (λ n. column j n xs) (omega arith) ∙ column_past j p (i + 1) xs at (omega arith) (omega arith)) ∙ xor_zero_r x
column_here (suc d) j p i (x ∷ xs) at is room =
    other_byte j ((p + i) % 16) x (column j (p + i + 1) xs) (λ e. omega arith)
    ∙ ap (λ n. column j n xs) (omega arith) ∙ column_here d j p (i + 1) xs at (omega arith) (omega arith)

-- behind a part of a block
column_before : (j i : ℕ) (xs : List ℕ) → i + length xs ≤ j → j < 16 → column j i xs ≡ 0
column_before j i [] h small = refl
column_before j i (x ∷ xs) h small =
    other_byte j (i % 16) x (column j (i + 1) xs) (λ e. omega arith) ∙ column_before j (i + 1) xs (omega arith) small

-- what is XORed into a part of a block
mixed_at : (j p : ℕ) (tag part lanes : List ℕ) → j < 16 → length tag ≡ 16 → p + length part ≤ 16 → length lanes ≡ length part → ((k : ℕ) → k < length part → get_or lanes k 0 ≡ bit_xor (get_or tag (p + k) 0) (get_or part k 0))
    → (j < p) ⊎ ((p ≤ j) × ((j - p < length part) ⊎ (length part ≤ j - p))) → get_or (put_chunk p tag lanes) j 0 ≡ bit_xor (get_or tag j 0) (column j p part)
mixed_at j p tag part lanes small long room same each (inl h) =
    let none : column j p part ≡ 0 = ap (λ n. column j n part) (omega arith) ∙ column_past j 0 p part refl h room in
    get_or-put_chunk_below p tag lanes j 0 h ∙ sym (ap (bit_xor (get_or tag j 0)) none ∙ xor_zero_r (get_or tag j 0))
mixed_at j p tag part lanes small long room same each (inr (h, inl lt)) =
    let k = j - p in
    let e : p + k ≡ j = omega arith in
    let own : column j p part ≡ get_or part k 0 = ap (λ n. column j n part) (omega arith) ∙ column_here k j 0 p part refl (omega arith) room in
    ap (λ n. get_or (put_chunk p tag lanes) n 0) (sym e) ∙ get_or-put_chunk_at p tag lanes k 0 (omega arith) (omega arith) ∙ each k lt
    ∙ ap (λ n. bit_xor (get_or tag n 0) (get_or part k 0)) e ∙ ap (bit_xor (get_or tag j 0)) (sym own)
mixed_at j p tag part lanes small long room same each (inr (h, inr le)) =
    get_or-put_chunk_above p tag lanes j 0 (omega arith) ∙ sym (ap (bit_xor (get_or tag j 0)) (column_before j p part (omega arith) small) ∙ xor_zero_r (get_or tag j 0))

-- a step of a sum by fours
pub four_mixed : (j at i : ℕ) (tag xs : List ℕ) → j < 16 → length tag ≡ 16 → 4 * i + 4 ≤ length xs → at + length xs ≤ 16
    → bit_xor (slice_index (put_chunk (at + 4 * i) tag (zip2 bit_xor (chunk (at + 4 * i) 4 tag) (chunk (4 * i) 4 xs))) j) (column j (at + 4 * (i + 1)) (drop (4 * (i + 1)) xs)) ≡ bit_xor (slice_index tag j) (column j (at + 4 * i) (drop (4 * i) xs))
four_mixed j at i tag xs small long room fits =
    let p = at + 4 * i in
    let ys = drop (4 * i) xs in
    let old = chunk p 4 tag in
    let part = chunk (4 * i) 4 xs in
    let rest = column j (at + 4 * (i + 1)) (drop (4 * (i + 1)) xs) in
    let is_4 : length part ≡ 4 = length-chunk (4 * i) 4 xs room in
    let was_4 : length old ≡ 4 = length-chunk p 4 tag (omega arith) in
    let lanes_4 : length (zip2 bit_xor old part) ≡ length part = length-zip2 bit_xor old part (was_4 ∙ sym is_4) ∙ was_4 ∙ sym is_4 in
    let each : (k : ℕ) → k < length part → get_or (zip2 bit_xor old part) k 0 ≡ bit_xor (get_or tag (p + k) 0) (get_or part k 0) =
    λ k h. get_or-zip2 bit_xor old part k 0 0 0 (omega arith) h ∙ ap (λ b. bit_xor b (get_or part k 0)) (get_or-chunk p 4 tag k 0 (omega arith)) in
    let byte : get_or (put_chunk p tag (zip2 bit_xor old part)) j 0 ≡ bit_xor (get_or tag j 0) (column j p part) =
    mixed_at j p tag part (zip2 bit_xor old part) small long (omega arith) lanes_4 each (grind arith) in
    let next : column j p ys ≡ bit_xor (column j p part) rest =
    ap (column j p) (sym (take-append-drop 4 ys)) ∙ column-append j p part (drop 4 ys)
    ∙ ap (bit_xor (column j p part)) (ap (λ n. column j n (drop 4 ys)) (omega arith) ∙ ap (column j (at + 4 * (i + 1))) (drop-drop 4 (4 * i) xs ∙ ap (λ n. drop n xs) (omega arith))) in
    ap (λ b. bit_xor b rest) byte ∙ xor_assoc (get_or tag j 0) (column j p part) rest ∙ ap (bit_xor (get_or tag j 0)) (sym next)

-- a text in two parts, XORed into a byte one after the other
pub two_mixed : (j at : ℕ) (xs ys all : List ℕ) (t one new : ℕ) → xs ++ ys ≡ all → one ≡ bit_xor t (column j at xs) → new ≡ bit_xor one (column j (at + length xs) ys) → new ≡ bit_xor t (column j at all)
two_mixed j at xs ys all t one new e p q =
    q ∙ ap (λ b. bit_xor b (column j (at + length xs) ys)) p ∙ xor_assoc t (column j at xs) (column j (at + length xs) ys)
    ∙ ap (bit_xor t) (sym (column-append j at xs ys) ∙ ap (column j at) e)

column-block : (j p : ℕ) (xs : List ℕ) → j < 16 → p % 16 ≡ 0 → 16 ≤ length xs → column j p xs ≡ bit_xor (get_or xs j 0) (column j (p + 16) (drop 16 xs))
column-block j p xs small at room =
    let long : length (take 16 xs) ≡ 16 = length-take-le 16 xs room in
    ap (column j p) (sym (take-append-drop 16 xs)) ∙ column-append j p (take 16 xs) (drop 16 xs)
    ∙ ap (λ c. bit_xor c (column j (p + length (take 16 xs)) (drop 16 xs))) (ap (λ n. column j n (take 16 xs)) (sym (add-zero p)) ∙ column_here j j p 0 (take 16 xs) at (omega arith) (omega (arith, long)) ∙ get_or-take 16 xs j 0 small)
    ∙ ap (λ n. bit_xor (get_or xs j 0) (column j (p + n) (drop 16 xs))) long

-- a step of a sum over blocks
pub block_mixed : (j i : ℕ) (lanes xs : List ℕ) → j < 16 → length lanes ≡ 16 → 16 * i + 16 ≤ length xs
    → bit_xor (slice_index (zip2 bit_xor lanes (chunk (16 * i) 16 xs)) j) (column j (16 * (i + 1)) (drop (16 * (i + 1)) xs)) ≡ bit_xor (slice_index lanes j) (column j (16 * i) (drop (16 * i) xs))
block_mixed j i lanes xs small long room =
    let here = get_or xs (16 * i + j) 0 in
    let rest = column j (16 * (i + 1)) (drop (16 * (i + 1)) xs) in
    let lane : slice_index (zip2 bit_xor lanes (chunk (16 * i) 16 xs)) j ≡ bit_xor (slice_index lanes j) here =
    get_or-zip2 bit_xor lanes (chunk (16 * i) 16 xs) j 0 0 0 (omega arith) (omega (arith, length-chunk (16 * i) 16 xs room)) ∙ ap (bit_xor (slice_index lanes j)) (get_or-chunk (16 * i) 16 xs j 0 small) in
    let next : column j (16 * i) (drop (16 * i) xs) ≡ bit_xor here rest =
    column-block j (16 * i) (drop (16 * i) xs) small (omega arith) (omega (arith, length-drop (16 * i) xs))
    ∙ ap (λ b. bit_xor b (column j (16 * i + 16) (drop 16 (drop (16 * i) xs)))) (get_or-drop (16 * i) xs j 0)
    ∙ ap (λ l. bit_xor here (column j (16 * i + 16) l)) (drop-drop 16 (16 * i) xs) ∙ ap (λ n. bit_xor here (column j n (drop n xs))) (omega arith) in
    ap (λ b. bit_xor b rest) lane ∙ xor_assoc (slice_index lanes j) here rest ∙ ap (bit_xor (slice_index lanes j)) (sym next)

column_at : (j a : ℕ) (xs : List ℕ) → (length xs ≡ 0) ⊎ (a % 16 ≡ 0) → column j a xs ≡ column j 0 xs
column_at j a [] h = refl
column_at j a (x ∷ xs) (inl e) = absurd (omega arith)
column_at j a (x ∷ xs) (inr e) = column_mod j a 0 (x ∷ xs) e

begins_at : (at n len a b : ℕ) → (n ≡ len) ⊎ ((at + n) % 16 ≡ 0) → a ≡ n → b ≡ len - n → (b ≡ 0) ⊎ ((at + a) % 16 ≡ 0)
begins_at at n len a b (inl e) p q = inl (omega arith)
begins_at at n len a b (inr e) p q = inr (omega arith)

-- a text in three parts, of which the second begins in column 0 and is whole blocks
pub column-parts : (j at n m : ℕ) (xs first rest blocks last : List ℕ) → first ≡ take n xs → rest ≡ drop n xs → blocks ≡ take m rest → last ≡ drop m rest
    → (n ≡ length xs) ⊎ ((at + n) % 16 ≡ 0) → n ≤ length xs → m % 16 ≡ 0 → m ≤ length rest
    → column j at xs ≡ bit_xor (bit_xor (column j at first) (column j 0 blocks)) (column j 0 last)
column-parts j at n m xs first rest blocks last is_first is_rest is_blocks is_last place room whole within =
    let len : length first ≡ n = ap length is_first ∙ length-take-le n xs room in
    let back : length rest ≡ length xs - n = ap length is_rest ∙ length-drop n xs in
    let mid : length blocks ≡ m = ap length is_blocks ∙ length-take-le m rest within in
    let two : first ++ rest ≡ xs = ap (λ l. l ++ rest) is_first ∙ ap (λ l. take n xs ++ l) is_rest ∙ take-append-drop n xs in
    let three : blocks ++ last ≡ rest = ap (λ l. l ++ last) is_blocks ∙ ap (λ l. take m rest ++ l) is_last ∙ take-append-drop m rest in
    let parts : column j 0 rest ≡ bit_xor (column j 0 blocks) (column j 0 last) =
    ap (column j 0) (sym three) ∙ column-append j 0 blocks last ∙ ap (bit_xor (column j 0 blocks)) (column_at j (0 + length blocks) last (inr (omega arith))) in
    ap (column j at) (sym two) ∙ column-append j at first rest
    ∙ ap (bit_xor (column j at first)) (column_at j (at + length first) rest (begins_at at n (length xs) (length first) (length rest) place len back) ∙ parts)
    ∙ sym (xor_assoc (column j at first) (column j 0 blocks) (column j 0 last))

-- three parts, XORed into a byte one after another
pub three_parts : (t a b c all one two new : ℕ) → one ≡ bit_xor t a → two ≡ bit_xor one b → new ≡ bit_xor two c → all ≡ bit_xor (bit_xor a b) c → new ≡ bit_xor t all
three_parts t a b c all one two new p q r s =
    r ∙ ap (λ x. bit_xor x c) (q ∙ ap (λ x. bit_xor x b) p ∙ xor_assoc t a b) ∙ xor_assoc t (bit_xor a b) c ∙ ap (bit_xor t) (sym s)

-- a block XOR the key
pub one_half : (k x : List ℕ) → length k ≡ 16 → length x ≡ 16 → zip2 bit_xor x (chunk 0 16 k) ≡ toy_block k x
unfolding toy_block
one_half k x hk hx =
    let key : length (chunk 0 16 k) ≡ 16 = length-chunk 0 16 k (omega arith) in
    made (toy_block_byte k x) (zip2 bit_xor x (chunk 0 16 k)) 16 (length-zip2 bit_xor x (chunk 0 16 k) (hx ∙ sym key) ∙ hx)
    (λ j h. get_or-zip2 bit_xor x (chunk 0 16 k) j 0 0 0 (omega arith) (omega arith) ∙ ap (bit_xor (get_or x j 0)) (get_or-take 16 k j 0 h)
    ∙ sym (ap (bit_xor (bit_xor (get_or x j 0) (get_or k j 0))) (get_or_past k (16 + j) 0 (omega arith)) ∙ xor_zero_r (bit_xor (get_or x j 0) (get_or k j 0))))

pub both_halves : (k x : List ℕ) → length k ≡ 32 → length x ≡ 16 → zip2 bit_xor (zip2 bit_xor x (chunk 0 16 k)) (chunk 16 16 k) ≡ toy_block k x
unfolding toy_block
both_halves k x hk hx =
    let first : length (chunk 0 16 k) ≡ 16 = length-chunk 0 16 k (omega arith) in
    let second : length (chunk 16 16 k) ≡ 16 = length-chunk 16 16 k (omega arith) in
    let one : length (zip2 bit_xor x (chunk 0 16 k)) ≡ 16 = length-zip2 bit_xor x (chunk 0 16 k) (hx ∙ sym first) ∙ hx in
    made (toy_block_byte k x) (zip2 bit_xor (zip2 bit_xor x (chunk 0 16 k)) (chunk 16 16 k)) 16 (length-zip2 bit_xor (zip2 bit_xor x (chunk 0 16 k)) (chunk 16 16 k) (one ∙ sym second) ∙ one)
    (λ j h. get_or-zip2 bit_xor (zip2 bit_xor x (chunk 0 16 k)) (chunk 16 16 k) j 0 0 0 (omega arith) (omega arith)
    ∙ ap (λ b. bit_xor b (get_or (chunk 16 16 k) j 0)) (get_or-zip2 bit_xor x (chunk 0 16 k) j 0 0 0 (omega arith) (omega arith) ∙ ap (bit_xor (get_or x j 0)) (get_or-take 16 k j 0 h))
    ∙ ap (bit_xor (bit_xor (get_or x j 0) (get_or k j 0))) (get_or-chunk 16 16 k j 0 h))
