-- The blocks of the toy cipher's stream.
use Rattle.std.proofs.Common.{◌≡◌, ℕ, ◌+◌, ◌-◌, ◌*◌, ◌/◌, ◌<◌, ◌≤◌, ◌^◌, ◌%◌, ◌⊎◌, List, ◌++◌, [], ◌∷◌, length, get_or, suc, refl, sym, ap, ◌∙◌, inl, inr, arith}
use Rattle.std.specs.Int.{w32, w128, to_be_bytes, swap_bytes}
use Rattle.std.specs.Prelude.{slice_index, bit_xor, replicate}
use Rattle.std.specs.Int.Bits.{xor_assoc, xor_zero_r}
use Rattle.std.specs.Simd.Lanes.{zip2, digits_l, number_l}
use Rattle.std.proofs.lemmas.Nat.{xor_comm}
use Rattle.std.proofs.lemmas.Simd.{get_or-zip2, length-zip2, get_or-replicate}
use Rattle.std.proofs.lemmas.List.{get_or_append_left, get_or-append_right}
use Rattle.srtp_core.specs.Streams.{streamed, blocks_at}
use Rattle.srtp_core.specs.Simulated.{nonce_stream}
use Rattle.srtp_core.specs.Toy.{toy_block, toy_block_byte, word_block}
use Rattle.srtp_core.proofs.SimulatedLaws.{made, length-bytes_by, slice_index-bytes_by}

abbrev zeros_and : List ℕ → List ℕ
zeros_and w = 0 ∷ 0 ∷ 0 ∷ 0 ∷ 0 ∷ 0 ∷ 0 ∷ 0 ∷ 0 ∷ 0 ∷ 0 ∷ 0 ∷ w

-- a word of 4 bytes, as a number of 16
wide_word : (w : ℕ) → w < 2 ^ 32 → to_be_bytes w128 w ≡ zeros_and (to_be_bytes w32 w)
wide_word w h = grind arith

-- 4 low bytes that are 0
low_zeros : (n y : ℕ) → digits_l 256 (suc (suc (suc (suc n)))) (0 + 4294967296 * y) ≡ 0 ∷ 0 ∷ 0 ∷ 0 ∷ digits_l 256 n y
low_zeros n y =
    let a : (0 + 4294967296 * y) % 256 ≡ 0 = omega arith in
    let b : (0 + 4294967296 * y) / 256 % 256 ≡ 0 = omega arith in
    let c : (0 + 4294967296 * y) / 256 / 256 % 256 ≡ 0 = omega arith in
    let d : (0 + 4294967296 * y) / 256 / 256 / 256 % 256 ≡ 0 = omega arith in
    let e : (0 + 4294967296 * y) / 256 / 256 / 256 / 256 ≡ y = omega arith in
    λ t. a t ∷ b t ∷ c t ∷ d t ∷ digits_l 256 n (e t)

-- the low bytes of a word whose bytes are swapped
swapped_digits : (w : ℕ) → w < 2 ^ 32 → digits_l 256 4 (swap_bytes w32 w + 4294967296 * 0) ≡ to_be_bytes w32 w
swapped_digits w h = let s = swap_bytes w32 w + 4294967296 * 0 in
    let a : s % 256 ≡ w / 256 ^ 3 % 256 = omega arith in
    let b : s / 256 % 256 ≡ w / 256 ^ 2 % 256 = omega arith in
    let c : s / 256 / 256 % 256 ≡ w / 256 ^ 1 % 256 = omega arith in
    let d : s / 256 / 256 / 256 % 256 ≡ w % 256 = omega arith in
    λ t. a t ∷ b t ∷ c t ∷ d t ∷ []

pub word_digits : (w : ℕ) → w < 2 ^ 32 → digits_l 256 16 (number_l 4294967296 (0 ∷ 0 ∷ 0 ∷ swap_bytes w32 w ∷ [])) ≡ to_be_bytes w128 w
word_digits w h =
    low_zeros 12 _
    ∙ ap (λ l. 0 ∷ 0 ∷ 0 ∷ 0 ∷ l) (low_zeros 8 _ ∙ ap (λ l. 0 ∷ 0 ∷ 0 ∷ 0 ∷ l) (low_zeros 4 _ ∙ ap (λ l. 0 ∷ 0 ∷ 0 ∷ 0 ∷ l) (swapped_digits w h)))
    ∙ sym (wide_word w h)

zero_before : (j : ℕ) (w : List ℕ) → j < 12 → get_or (zeros_and w) j 0 ≡ 0
zero_before j w h = get_or_append_left (replicate 12 0) w 0 j h ∙ get_or-replicate 12 j 0 0 h

xor_zero_left : (x : ℕ) → bit_xor 0 x ≡ x
xor_zero_left x = xor_comm 0 x ∙ xor_zero_r x

-- a byte of the nonce and a word
own_byte : (iv w : List ℕ) (j : ℕ) → length iv ≡ 12 → j < 16 → (j < 12) ⊎ (12 ≤ j) → bit_xor (get_or (iv ++ to_be_bytes w32 0) j 0) (get_or (zeros_and w) j 0) ≡ get_or (iv ++ w) j 0
own_byte iv w j long small (inl h) =
    ap (bit_xor (get_or (iv ++ to_be_bytes w32 0) j 0)) (zero_before j w h) ∙ xor_zero_r (get_or (iv ++ to_be_bytes w32 0) j 0)
    ∙ get_or_append_left iv (to_be_bytes w32 0) 0 j (omega arith) ∙ sym (get_or_append_left iv w 0 j (omega arith))
own_byte iv w j long small (inr h) =
    ap (λ v. bit_xor v (get_or (zeros_and w) j 0)) (get_or-append_right iv (to_be_bytes w32 0) 12 j 0 long h ∙ get_or-replicate 4 (j - 12) 0 0 (omega arith))
    ∙ xor_zero_left (get_or (zeros_and w) j 0)
    ∙ get_or-append_right (replicate 12 0) w 12 j 0 refl h ∙ sym (get_or-append_right iv w 12 j 0 long h)

xor_swapped : (a k l z : ℕ) → bit_xor (bit_xor (bit_xor a k) l) z ≡ bit_xor (bit_xor (bit_xor a z) k) l
xor_swapped a k l z =
    xor_assoc (bit_xor a k) l z ∙ ap (bit_xor (bit_xor a k)) (xor_comm l z) ∙ sym (xor_assoc (bit_xor a k) z l)
    ∙ ap (λ v. bit_xor v l) (xor_assoc a k z ∙ ap (bit_xor a) (xor_comm k z) ∙ sym (xor_assoc a z k))

-- the block of the nonce and the word 0, XOR a word
pub nonce_block : (k iv : List ℕ) (w : ℕ) → length iv ≡ 12 → w < 2 ^ 32 → zip2 bit_xor (toy_block k (iv ++ to_be_bytes w32 0)) (to_be_bytes w128 w) ≡ toy_block k (iv ++ to_be_bytes w32 w)
unfolding toy_block
nonce_block k iv w long small =
    let none = iv ++ to_be_bytes w32 0 in
    let first = toy_block k none in
    let word = to_be_bytes w128 w in
    let len : length first ≡ 16 = length-bytes_by (toy_block_byte k none) 16 in
    made (toy_block_byte k (iv ++ to_be_bytes w32 w)) (zip2 bit_xor first word) 16 (length-zip2 bit_xor first word len ∙ len)
    (λ j h.
    let side : (j < 12) ⊎ (12 ≤ j) = grind arith in
    get_or-zip2 bit_xor first word j 0 0 0 (omega arith) h
    ∙ ap (λ v. bit_xor v (get_or word j 0)) (slice_index-bytes_by (toy_block_byte k none) 16 j h)
    ∙ xor_swapped (get_or none j 0) (get_or k j 0) (get_or k (16 + j) 0) (get_or word j 0)
    ∙ ap (λ v. bit_xor (bit_xor v (get_or k j 0)) (get_or k (16 + j) 0)) (ap (λ l. bit_xor (get_or none j 0) (get_or l j 0)) (wide_word w small) ∙ own_byte iv (to_be_bytes w32 w) j long h side))

pub words_are_nonces : (k iv first text : List ℕ) → length iv ≡ 12 → first ≡ toy_block k (iv ++ to_be_bytes w32 0) → streamed (blocks_at (word_block first)) text ≡ streamed (nonce_stream toy_block k iv) text
words_are_nonces k iv first text long e =
    let same : (n : ℕ) → word_block first n ≡ toy_block k (iv ++ to_be_bytes w32 ((n + 2) % 2 ^ 32)) = λ n. ap (λ f. word_block f n) e ∙ nonce_block k iv ((n + 2) % 2 ^ 32) long (omega arith) in
    λ t. streamed (blocks_at (λ n. same n t)) text

-- a byte of block q, which is XORed into the bytes from 16 * q on
pub in_block : (out input block : List ℕ) (blocks : ℕ → List ℕ) (q k : ℕ) → block ≡ blocks q → 16 * q ≤ k → k < 16 * q + 16 → k < length input
    → ((m : ℕ) → m < 16 → 16 * q + m < length input → slice_index out (16 * q + m) ≡ bit_xor (slice_index input (16 * q + m)) (slice_index block m))
    → get_or out k 0 ≡ bit_xor (slice_index input k) (blocks_at blocks k)
in_block out input block blocks q k is low high within each =
    let m = k - 16 * q in
    let e : 16 * q + m ≡ k = omega arith in
    let d : q ≡ k / 16 = omega arith in
    let r : m ≡ k % 16 = omega arith in
    sym (ap (λ i. slice_index out i) e) ∙ each m (omega arith) (omega arith)
    ∙ ap (λ i. bit_xor (slice_index input i) (slice_index block m)) e
    ∙ ap (λ b. bit_xor (slice_index input k) (slice_index b m)) (is ∙ ap blocks d)
    ∙ ap (λ i. bit_xor (slice_index input k) (slice_index (blocks (k / 16)) i)) r
