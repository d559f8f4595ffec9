-- A loop over rows, read or put one after another.
use Rattle.std.proofs.Common.{◌≡◌, ℕ, suc, ◌+◌, ◌-◌, ◌*◌, ◌<◌, ◌≤◌, List, [], ◌∷◌, ◌++◌, length, get_or, take, drop, Some, None, ap, ◌∙◌, append_assoc, arith, length-append, length-drop}
use Rattle.std.specs.List.{flat_map}
use Rattle.std.proofs.lemmas.List.{take_more, append-nil}
use Rattle.std.proofs.lemmas.List.Concat.{length-flat_map, flat_map-append}
use Rattle.std.proofs.lemmas.List.Sums.{sum_by-take-le}
use Rattle.rtp_base.specs.Wire.{Puts}
use Rattle.rtcp_wire.specs.Wire.{rows_of}

pub rows_more : {T : Type 0} (row : List ℕ → T) (size count i : ℕ) (front : List T) (rest : List ℕ) (all : List T) → i < count
    → front ++ rows_of row size (count - i) rest ≡ all → (front ++ row rest ∷ []) ++ rows_of row size (count - (i + 1)) (drop size rest) ≡ all
rows_more row size count i front rest all lt so_far =
    let k : count - i ≡ suc (count - (i + 1)) = omega arith in
    append_assoc front (row rest ∷ []) (rows_of row size (count - (i + 1)) (drop size rest)) ∙ rw k at so_far

pub row_fits : (size count i len : ℕ) → i < count → (count - i) * size ≤ len → size ≤ len
row_fits size count i len lt long =
    let k : count - i ≡ suc (count - (i + 1)) = omega arith in
    let long' = rw k at long in
    omega (arith, long')

pub rows_fit : (size count i : ℕ) (rest : List ℕ) → i < count → (count - i) * size ≤ length rest → (count - (i + 1)) * size ≤ length (drop size rest)
rows_fit size count i rest lt long =
    let k : count - i ≡ suc (count - (i + 1)) = omega arith in
    let long' = rw k at long in
    omega (arith, long', length-drop size rest)

flat_map_next : {T : Type 0} (text : T → List ℕ) (rows : List T) (i : ℕ) (x : T) → i < length rows → x ≡ get_or rows i x
    → flat_map text (take (i + 1) rows) ≡ flat_map text (take i rows) ++ text x
flat_map_next text rows i x lt is =
    rw (take_more rows i x lt, flat_map-append, ← is) (ap (λ (t : List ℕ). flat_map text (take i rows) ++ t) (append-nil (text x)))

-- a row's text and those before it, which are no longer than all
pub len_more : {T : Type 0} (text : T → List ℕ) (rows : List T) (i : ℕ) (x : T) → i < length rows → x ≡ get_or rows i x
    → (length (flat_map text (take (i + 1) rows)) ≡ length (flat_map text (take i rows)) + length (text x)) × (length (flat_map text (take (i + 1) rows)) ≤ length (flat_map text rows))
len_more {T} text rows i x lt is =
    let e = flat_map_next text rows i x lt is in
    let whole = length-flat_map text rows in
    let front = length-flat_map text (take (i + 1) rows) in
    let le = sum_by-take-le (λ (y : T). length (text y)) rows (i + 1) in
    (omega (arith, ap length e, length-append (flat_map text (take i rows)) (text x)), omega (arith, whole, front, le))

pub puts_more : {T : Type 0} (text : T → List ℕ) (rows : List T) (i : ℕ) (x : T) (old : List ℕ) (at : ℕ) (now new : List ℕ) (end end' : ℕ) → i < length rows → x ≡ get_or rows i x
    → Puts old at (flat_map text (take i rows)) now (Some end) → Puts now end (text x) new (Some end')
    → Puts old at (flat_map text (take (i + 1) rows)) new (Some end')
puts_more text rows i x old at now new end end' lt is p q =
    rw (flat_map_next text rows i x lt is) (omega (arith, p.0, q.0, length-append (flat_map text (take i rows)) (text x)), q.1 ∙ rw p.1 (append_assoc (take at old) (flat_map text (take i rows)) (text x)), q.2)

pub puts_none : {T : Type 0} (text : T → List ℕ) (rows : List T) (i : ℕ) (x : T) (old : List ℕ) (at : ℕ) (now new : List ℕ) (end : ℕ) → i < length rows → x ≡ get_or rows i x → length now ≡ length old
    → Puts old at (flat_map text (take i rows)) now (Some end) → Puts now end (text x) new None
    → Puts old at (flat_map text rows) new None
puts_none {T} text rows i x old at now new end lt is same p q =
    let e = flat_map_next text rows i x lt is in
    let whole = length-flat_map text rows in
    let front = length-flat_map text (take (i + 1) rows) in
    let le = sum_by-take-le (λ (y : T). length (text y)) rows (i + 1) in
    omega (arith, p.0, q, same, ap length e, length-append (flat_map text (take i rows)) (text x), whole, front, le)
