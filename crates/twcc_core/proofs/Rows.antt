-- A loop over rows that are put one after another.
use Rattle.std.proofs.Common.{◌≡◌, ℕ, zero, suc, refl, sym, ◌+◌, ◌<◌, List, [], ◌∷◌, ◌++◌, length, get_or, take, drop, drop-drop, replicate, Option, Some, None, ap, ◌∙◌, append_assoc, arith, length-append}
use Rattle.std.specs.List.{flat_map}
use Rattle.std.proofs.lemmas.List.{take_more, append-nil}
use Rattle.std.proofs.lemmas.List.Concat.{length-flat_map, flat_map-append}
use Rattle.std.proofs.lemmas.List.Sums.{sum_by-take-le}
use Rattle.rtp_base.specs.Wire.{Puts, LeavesBehind}

flat_map_next : {T : Type 0} (text : T → List ℕ) (rows : List T) (i : ℕ) (x : T) → i < length rows → x ≡ get_or rows i x
    → flat_map text (take (i + 1) rows) ≡ flat_map text (take i rows) ++ text x
flat_map_next text rows i x lt is =
    rw (take_more rows i x lt, flat_map-append, ← is) (ap (λ (t : List ℕ). flat_map text (take i rows) ++ t) (append-nil (text x)))

get_or_any : {T : Type 0} (rows : List T) (i : ℕ) (d e : T) → i < length rows → get_or rows i d ≡ get_or rows i e
get_or_any [] i d e lt = absurd (omega arith)
get_or_any (row ∷ rows) zero d e lt = refl
get_or_any (row ∷ rows) (suc i) d e lt = get_or_any rows i d e (omega arith)

pub puts_more : {T : Type 0} (text : T → List ℕ) (rows : List T) (i : ℕ) (d : T) (old : List ℕ) (at : ℕ) (now new : List ℕ) (end end' : ℕ) → i < length rows
    → Puts old at (flat_map text (take i rows)) now (Some end) → Puts now end (text (get_or rows i d)) new (Some end')
    → Puts old at (flat_map text (take (i + 1) rows)) new (Some end')
puts_more {T} text rows i d old at now new end end' lt p q =
    let x : T = get_or rows i d in
    let is = get_or_any rows i d (get_or rows i d) lt in
    rw (flat_map_next text rows i x lt is) (omega (arith, p.0, q.0, length-append (flat_map text (take i rows)) (text x)), q.1 ∙ rw p.1 (append_assoc (take at old) (flat_map text (take i rows)) (text x)), q.2)

pub puts_none : {T : Type 0} (text : T → List ℕ) (rows : List T) (i : ℕ) (d : T) (old : List ℕ) (at : ℕ) (now new : List ℕ) (end : ℕ) → i < length rows → length now ≡ length old
    → Puts old at (flat_map text (take i rows)) now (Some end) → Puts now end (text (get_or rows i d)) new None
    → Puts old at (flat_map text rows) new None
puts_none {T} text rows i d old at now new end lt same p q =
    let x : T = get_or rows i d in
    let is = get_or_any rows i d (get_or rows i d) lt in
    let e = flat_map_next text rows i x lt is in
    let whole = length-flat_map text rows in
    let front = length-flat_map text (take (i + 1) rows) in
    let le = sum_by-take-le (λ (y : T). length (text y)) rows (i + 1) in
    omega (arith, p.0, q, same, ap length e, length-append (flat_map text (take i rows)) (text x), whole, front, le)

-- of three zeros the first n
pub zeros_are : (n : ℕ) → n < 4 → take {A = ℕ} n (0 ∷ 0 ∷ 0 ∷ []) ≡ replicate n 0
zeros_are zero lt = refl
zeros_are (suc zero) lt = refl
zeros_are (suc (suc zero)) lt = refl
zeros_are (suc (suc (suc zero))) lt = refl
zeros_are (suc (suc (suc (suc n)))) lt = absurd (omega arith)

-- a text after another
pub puts_on : (a b old : List ℕ) (at : ℕ) (now new : List ℕ) (end : ℕ) (r : Option ℕ) → length now ≡ length old → Puts old at a now (Some end) → Puts now end b new r → Puts old at (a ++ b) new r
puts_on a b old at now new end None same p q = omega (arith, p.0, q, same, length-append a b)
puts_on a b old at now new end (Some e) same p q = (omega (arith, p.0, q.0, length-append a b), q.1 ∙ rw p.1 (append_assoc (take at old) a b), q.2)

-- what stands behind a text after another stays
pub behind_more : (old now new : List ℕ) (end n end' : ℕ) → end' ≡ end + n → drop end now ≡ drop end old → drop end' new ≡ drop end' now → drop end' new ≡ drop end' old
behind_more old now new end n end' on p q =
    q ∙ ap (λ (m : ℕ). drop m now) on ∙ sym (drop-drop n end now) ∙ ap (drop n) p ∙ drop-drop n end old ∙ ap (λ (m : ℕ). drop m old) (sym on)

pub behind_on : (b old now new : List ℕ) (end : ℕ) (r : Option ℕ) → drop end now ≡ drop end old → Puts now end b new r → LeavesBehind now new r → LeavesBehind old new r
behind_on b old now new end None p q h = h
behind_on b old now new end (Some e) p q h = behind_more old now new end (length b) e q.0 p h
