-- Words written one after another are read again, and a word more is read behind the others.
use Rattle.std.proofs.Common.{◌≡◌, ℕ, zero, suc, ◌+◌, ◌-◌, ◌*◌, ◌<◌, ◌≤◌, ◌^◌, List, [], ◌∷◌, ◌++◌, length, take, drop, get_or, replicate, refl, sym, ap, ◌∙◌, append_assoc, arith, length-take, length-drop}
use Rattle.std.specs.List.{flat_map}
use Rattle.std.specs.Int.{w32, from_be_bytes, to_be_bytes}
use Rattle.std.proofs.lemmas.Nat.{from_be_bytes-to_be_bytes_4}
use Rattle.rtp_base.specs.Wire.{half_at, word_at}
use Rattle.rtp_wire.specs.Bytes.{words_of}
use Rattle.std.proofs.lemmas.List.{take_at, drop_at, drop-drop, set_at, take_more, drop-take, take-take, get_or-take}
use Rattle.rtp_wire.specs.Header.{sources}
use Rattle.std.proofs.lemmas.Grind.{flat_map-append}
use Rattle.std.proofs.Math.ListN.{set}
use Rattle.rtp_base.specs.Wire.{half_at, word_at}
use Rattle.rtp_wire.specs.BytesLaws.{AreWords}

-- the same bytes at the front hold the same numbers
pub same_piece : (n at k : ℕ) (a b : List ℕ) → take n a ≡ take n b → at + k ≤ n → take k (drop at a) ≡ take k (drop at b)
same_piece n at k a b e h =
    sym (drop-take at k a) ∙ ap (drop at) (sym (take-take (at + k) n a h) ∙ ap (take (at + k)) e ∙ take-take (at + k) n b h) ∙ drop-take at k b

pub same_byte : (n i : ℕ) (a b : List ℕ) → take n a ≡ take n b → i < n → get_or a i 0 ≡ get_or b i 0
same_byte n i a b e h = sym (get_or-take n a i 0 h) ∙ ap (λ (l : List ℕ). get_or l i 0) e ∙ get_or-take n b i 0 h

-- a number is read off its own bytes
pub half_cut : (bytes : List ℕ) → half_at (take 2 bytes) 0 ≡ half_at bytes 0
half_cut [] = refl
half_cut (a ∷ []) = refl
half_cut (a ∷ b ∷ rest) = refl

pub word_cut : (bytes : List ℕ) → word_at (take 4 bytes) 0 ≡ word_at bytes 0
word_cut [] = refl
word_cut (a ∷ []) = refl
word_cut (a ∷ b ∷ []) = refl
word_cut (a ∷ b ∷ c ∷ []) = refl
word_cut (a ∷ b ∷ c ∷ d ∷ rest) = refl

pub words_more : (i m n : ℕ) (bs : List ℕ) → m ≡ 4 * i → n ≡ m + 4 → n ≤ length bs → words_of (take n bs) ≡ words_of (take m bs) ++ word_at bs m ∷ []
words_more i m n [] e f h = absurd (omega arith)
words_more i m n (a ∷ []) e f h = absurd (omega arith)
words_more i m n (a ∷ b ∷ []) e f h = absurd (omega arith)
words_more i m n (a ∷ b ∷ c ∷ []) e f h = absurd (omega arith)
words_more zero m n (a ∷ b ∷ c ∷ d ∷ rest) e f h =
    let m_is : m ≡ 0 = omega arith in
    let n_is : n ≡ 4 = omega arith in
    rw (m_is, n_is) refl
words_more (suc i) m n (a ∷ b ∷ c ∷ d ∷ rest) e f h =
    let m_is : m ≡ suc (suc (suc (suc (4 * i)))) = omega arith in
    let n_is : n ≡ suc (suc (suc (suc (4 * i + 4)))) = omega arith in
    rw (m_is, n_is) (ap (λ (l : List ℕ). from_be_bytes w32 (a ∷ b ∷ c ∷ d ∷ []) ∷ l) (words_more i (4 * i) (4 * i + 4) rest refl refl (omega arith)))

pub length-words_of : (i n : ℕ) (bs : List ℕ) → n ≡ 4 * i → n ≤ length bs → length (words_of (take n bs)) ≡ i
length-words_of zero n bs e h = let n_is : n ≡ 0 = omega arith in rw n_is refl
length-words_of (suc i) n [] e h = absurd (omega arith)
length-words_of (suc i) n (a ∷ []) e h = absurd (omega arith)
length-words_of (suc i) n (a ∷ b ∷ []) e h = absurd (omega arith)
length-words_of (suc i) n (a ∷ b ∷ c ∷ []) e h = absurd (omega arith)
length-words_of (suc i) n (a ∷ b ∷ c ∷ d ∷ rest) e h =
    let n_is : n ≡ suc (suc (suc (suc (4 * i)))) = omega arith in
    rw n_is (ap suc (length-words_of i (4 * i) rest refl (omega arith)))

pub are_words : (words : List ℕ) → ((k : ℕ) → get_or words k 0 < 2 ^ 32) → AreWords words
are_words [] h = tt
are_words (w ∷ ws) h = (h 0, are_words ws (λ k. h (suc k)))

pub words_again : (words : List ℕ) → AreWords words → words_of (flat_map (to_be_bytes w32) words) ≡ words
words_again [] h = refl
words_again (w ∷ ws) h = rw (words_again ws h.1, from_be_bytes-to_be_bytes_4 w h.0) refl

pub length-flat_words : (words : List ℕ) → length (flat_map (to_be_bytes w32) words) ≡ 4 * length words
length-flat_words [] = refl
length-flat_words (w ∷ ws) = omega (arith, length-flat_words ws)

-- one word more in an array of 15
pub words_put : (xs : List ℕ) (i v : ℕ) → length xs ≡ i → i < 15 → set (xs ++ replicate (15 - i) 0) i v ≡ (xs ++ v ∷ []) ++ replicate (15 - (i + 1)) 0
words_put xs i v e h =
    let one_less : 15 - i ≡ suc (15 - (i + 1)) = omega arith in
    rw one_less (set_at xs 0 (replicate (15 - (i + 1)) 0) v i e ∙ sym (append_assoc xs (v ∷ []) (replicate (15 - (i + 1)) 0)))

put_behind : (front rest word old : List ℕ) (m : ℕ) → length front ≡ m → rest ≡ drop m old → take m (front ++ rest) ++ word ++ drop (m + 4) (front ++ rest) ≡ front ++ word ++ drop (m + 4) old
put_behind front rest word old m e d =
    rw (take_at front rest m e) (ap (λ (l : List ℕ). front ++ word ++ l) (sym (drop-drop 4 m (front ++ rest)) ∙ ap (drop 4) (drop_at front rest m e ∙ d) ∙ drop-drop 4 m old))

flat_more : (words : List ℕ) (i : ℕ) → i < length words → flat_map (to_be_bytes w32) (take (i + 1) words) ≡ flat_map (to_be_bytes w32) (take i words) ++ to_be_bytes w32 (get_or words i 0)
flat_more words i h = ap (flat_map (to_be_bytes w32)) (take_more words i 0 h) ∙ flat_map-append (to_be_bytes w32) (take i words) (get_or words i 0 ∷ [])

-- one word more behind those that were written
pub put_more : (bytes old words : List ℕ) (i : ℕ) → i < length words → bytes ≡ flat_map (to_be_bytes w32) (take i words) ++ drop (4 * i) old → take (4 * i) bytes ++ to_be_bytes w32 (get_or words i 0) ++ drop (4 * i + 4) bytes ≡ flat_map (to_be_bytes w32) (take (i + 1) words) ++ drop (4 * (i + 1)) old
put_more bytes old words i h e =
    let front : List ℕ = flat_map (to_be_bytes w32) (take i words) in
    let word : List ℕ = to_be_bytes w32 (get_or words i 0) in
    let long : length front ≡ 4 * i = omega (arith, length-flat_words (take i words), length-take i words) in
    let next : 4 * (i + 1) ≡ 4 * i + 4 = omega arith in
    ap (λ (b : List ℕ). take (4 * i) b ++ word ++ drop (4 * i + 4) b) e
    ∙ put_behind front (drop (4 * i) old) word old (4 * i) long refl
    ∙ ap (λ (l : List ℕ). l ++ drop (4 * i + 4) old) (sym (flat_more words i h))
    ∙ ap (λ (n : ℕ). flat_map (to_be_bytes w32) (take (i + 1) words) ++ drop n old) (sym next)

-- one source more in the array
pub source_put : (bytes sources : List ℕ) (i v : ℕ) → i < 15 → 12 + 4 * i + 4 ≤ length bytes → v ≡ word_at bytes (12 + 4 * i) → sources ≡ words_of (take (4 * i) (drop 12 bytes)) ++ replicate (15 - i) 0
    → set sources i v ≡ words_of (take (4 * (i + 1)) (drop 12 bytes)) ++ replicate (15 - (i + 1)) 0
source_put bytes sources i v lt h e inv =
    let xs : List ℕ = words_of (take (4 * i) (drop 12 bytes)) in
    let long : length xs ≡ i = length-words_of i (4 * i) (drop 12 bytes) refl (omega (arith, length-drop 12 bytes)) in
    let more = words_more i (4 * i) (4 * (i + 1)) (drop 12 bytes) refl (omega arith) (omega (arith, length-drop 12 bytes)) in
    let same : word_at (drop 12 bytes) (4 * i) ≡ v = ap (from_be_bytes w32) (drop-drop (4 * i) 12 bytes) ∙ sym e in
    ap (λ (s : List ℕ). set s i v) inv
    ∙ words_put xs i v long lt
    ∙ ap (λ (l : List ℕ). l ++ replicate (15 - (i + 1)) 0) (sym (more ∙ ap (λ (n : ℕ). xs ++ n ∷ []) same))
