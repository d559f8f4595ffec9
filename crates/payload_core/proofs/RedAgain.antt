-- What is written as RED is read again.
use Rattle.std.proofs.Common.{◌≡◌, ℕ, suc, ◌+◌, ◌*◌, ◌%◌, ◌<◌, ◌≤◌, List, [], ◌∷◌, ◌++◌, length, take, drop, Some, refl, ap, ◌∙◌, append_assoc, arith, rules, length-append, ltb, false, get_or}
use Rattle.std.specs.List.{flat_map}
use Rattle.std.specs.Int.{w32, to_be_bytes}
use Rattle.std.specs.Option.{option_map}
use Rattle.std.proofs.lemmas.Bool.{le-ltb}
use Rattle.std.proofs.lemmas.List.{take_at, drop_at}
use Rattle.std.proofs.lemmas.Nat.{from_be_bytes-to_be_bytes_4}
use Rattle.payload_core.specs.Red.{Block, redundant_count, header_of, type_in, offset_in, length_in, first_block, blocks_from, red_of}
use Rattle.payload_core.specs.RedWriting.{header_word, header_bytes, red_bytes, IsRedundant, IsRed}
use Rattle.payload_core.proofs.RedCount.{count_next, count_here}

abbrev heads : List Block → List ℕ
heads bs = flat_map header_bytes bs

abbrev payloads : List Block → List ℕ
payloads bs = flat_map (λ b. b.payload) bs

word_head : (b : Block) → IsRedundant b → header_bytes b ≡ to_be_bytes w32 (header_word b)
word_head b w = rw w.redundant refl

-- the word of a redundant block fits 32 bits, and its first bit is set
word_fits : (b : Block) → header_word b < 4294967296
word_fits b = omega arith

word_high : (b : Block) (rest : List ℕ) → 128 ≤ get_or (to_be_bytes w32 (header_word b) ++ rest) 0 0
word_high b rest = omega (arith, word_fits b)

-- as many headers are counted as there are redundant blocks
count_again : (b : Block) (bs : List Block) (rest : List ℕ) → IsRed (b ∷ bs) → redundant_count (heads (b ∷ bs) ++ rest) ≡ Some (length bs)
count_again b [] rest w =
    let e : heads (b ∷ []) ++ rest ≡ b.pt % 128 ∷ rest = rw w.primary refl in
    let low : get_or (b.pt % 128 ∷ rest) 0 0 < 128 = omega arith in
    ap redundant_count e ∙ count_here (b.pt % 128 ∷ rest) (omega arith) low
count_again b (c ∷ bs) rest w =
    let later : List ℕ = heads (c ∷ bs) ++ rest in
    let word : List ℕ = to_be_bytes w32 (header_word b) in
    let e : heads (b ∷ c ∷ bs) ++ rest ≡ word ++ later = rw (word_head b w.0) (append_assoc word (heads (c ∷ bs)) rest) in
    let next : redundant_count (word ++ later) ≡ option_map suc (redundant_count (drop 4 (word ++ later))) = count_next (word ++ later) (omega (arith, length-append word later)) (word_high b later) in
    let one : redundant_count later ≡ Some (length bs) = count_again c bs rest w.1 in
    ap redundant_count e ∙ next ∙ rw one refl

-- the fields of a header
header_again : (b : Block) (later : List ℕ) → header_of (to_be_bytes w32 (header_word b) ++ later) ≡ header_word b
header_again b later = from_be_bytes-to_be_bytes_4 (header_word b) (word_fits b)

block_again : (b : Block) (head rest : List ℕ) → IsRedundant b → header_of head ≡ header_word b → first_block head (b.payload ++ rest) ≡ Some (b, rest)
unfolding first_block
block_again b head rest w h =
    let kind : type_in head ≡ b.pt = rw h (omega (arith, w.pt, w.offset, w.length)) in
    let offset : offset_in head ≡ b.offset = rw h (omega (arith, w.pt, w.offset, w.length)) in
    let len : length_in head ≡ length b.payload = rw h (omega (arith, w.pt, w.offset, w.length)) in
    let t : ltb (length (b.payload ++ rest)) (length b.payload) ≡ false = le-ltb _ _ (omega (arith, length-append b.payload rest)) in
    let front : take (length b.payload) (b.payload ++ rest) ≡ b.payload = take_at b.payload rest (length b.payload) refl in
    let back : drop (length b.payload) (b.payload ++ rest) ≡ rest = drop_at b.payload rest (length b.payload) refl in
    let flag = w.redundant in
    rw (len, t, kind, offset, front, back, ← flag) refl

blocks_again : (b : Block) (bs : List Block) (rest : List ℕ) → IsRed (b ∷ bs) → blocks_from (length bs) (heads (b ∷ bs) ++ rest) (payloads (b ∷ bs)) ≡ Some (b ∷ bs)
blocks_again b [] rest w =
    let e : heads (b ∷ []) ++ rest ≡ b.pt % 128 ∷ rest = rw w.primary refl in
    let small : b.pt % 128 % 128 ≡ b.pt = omega (arith, w.pt) in
    let flag = w.primary in
    let zero = w.offset in
    let whole : b.payload ++ [] ≡ b.payload = search rules in
    rw (e, small, whole, ← flag, ← zero) refl
blocks_again b (c ∷ bs) rest w =
    let later : List ℕ = heads (c ∷ bs) ++ rest in
    let word : List ℕ = to_be_bytes w32 (header_word b) in
    let e : heads (b ∷ c ∷ bs) ++ rest ≡ word ++ later = rw (word_head b w.0) (append_assoc word (heads (c ∷ bs)) rest) in
    let one : first_block (word ++ later) (b.payload ++ payloads (c ∷ bs)) ≡ Some (b, payloads (c ∷ bs)) = block_again b (word ++ later) (payloads (c ∷ bs)) w.0 (header_again b later) in
    let others : blocks_from (length bs) later (payloads (c ∷ bs)) ≡ Some (c ∷ bs) = blocks_again c bs rest w.1 in
    rw (e, one, others) refl

heads_long : (b : Block) (bs : List Block) → IsRed (b ∷ bs) → length (heads (b ∷ bs)) ≡ 4 * length bs + 1
heads_long b [] w = rw w.primary refl
heads_long b (c ∷ bs) w = rw (word_head b w.0) (omega (arith, length-append (to_be_bytes w32 (header_word b)) (heads (c ∷ bs)), heads_long c bs w.1))

pub red_again : (blocks : List Block) → IsRed blocks → red_of (red_bytes blocks) ≡ Some blocks
unfolding red_of red_bytes
red_again [] w = absurd w
red_again (b ∷ bs) w =
    let count = count_again b bs (payloads (b ∷ bs)) w in
    let back : drop (4 * length bs + 1) (heads (b ∷ bs) ++ payloads (b ∷ bs)) ≡ payloads (b ∷ bs) = drop_at (heads (b ∷ bs)) (payloads (b ∷ bs)) (4 * length bs + 1) (heads_long b bs w) in
    let again = blocks_again b bs (payloads (b ∷ bs)) w in
    rw (count, back, again) refl
