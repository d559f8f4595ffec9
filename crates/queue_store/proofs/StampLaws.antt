-- Positions that rise stay in order.
use Rattle.std.proofs.Common.{◌≡◌, ◌≢◌, ℕ, zero, suc, ◌+◌, ◌-◌, ◌<◌, ◌≤◌, List, [], ◌∷◌, sym, ap, ◌∙◌, subst, arith, length, drop, ⊎_elim}
use Rattle.std.specs.Prelude.{slice_set}
use Rattle.std.specs.Option.{IfSome}
use Rattle.std.specs.List.{insert}
use Rattle.std.proofs.lemmas.Bool.{cases_lt, cases_eq}
use Rattle.std.proofs.lemmas.List.{get_or-set_same, get_or-set_other, length-set}
use Rattle.std.proofs.lemmas.List.Edits.{length-insert, get_or-insert_at, get_or-insert_below, get_or-insert_above}
use Rattle.queue_store.specs.declared.stamps.Stamp.{Stamp}
use Rattle.queue_store.specs.Stamps.{Rises, AreEnds, no_stamp, stamp_at, first_of, IsFound, IsPlace, AllAbove, IsGreatest}

pub rises_weaker : (m n : ℕ) (l : List Stamp) → m ≤ n → Rises n l → Rises m l
rises_weaker m n [] le h = tt
rises_weaker m n (s ∷ ss) le h = (omega (arith, h.0), h.1)

-- each is at least the number that they rise from
rises_from : (n : ℕ) (l : List Stamp) (k : ℕ) → Rises n l → k < length l → n ≤ (stamp_at l k).position
rises_from n [] k h lt = absurd (omega arith)
rises_from n (s ∷ ss) zero h lt = h.0
rises_from n (s ∷ ss) (suc k) h lt = omega (arith, h.0, rises_from (s.position + 1) ss k h.1 (omega arith))

-- a later one is greater
pub rises_order : (n : ℕ) (l : List Stamp) (i j : ℕ) → Rises n l → i < j → j < length l → (stamp_at l i).position < (stamp_at l j).position
rises_order n [] i j h lt within = absurd (omega arith)
rises_order n (s ∷ ss) i zero h lt within = absurd (omega arith)
rises_order n (s ∷ ss) zero (suc j) h lt within = omega (arith, rises_from (s.position + 1) ss j h.1 (omega arith))
rises_order n (s ∷ ss) (suc i) (suc j) h lt within = rises_order (s.position + 1) ss i j h.1 (omega arith) (omega arith)

pub rises_drop : (n : ℕ) (l : List Stamp) → Rises n l → Rises n (drop 1 l)
rises_drop n [] h = tt
rises_drop n (s ∷ ss) h = rises_weaker n (s.position + 1) ss (omega (arith, h.0)) h.1

pub rises_set : (n : ℕ) (l : List Stamp) (i : ℕ) (s : Stamp) → Rises n l → i < length l → (stamp_at l i).position ≡ s.position → Rises n (slice_set l i s)
rises_set n [] i s h lt same = absurd (omega arith)
rises_set n (a ∷ l) zero s h lt same = (omega (arith, h.0, same), subst (λ (p : ℕ). Rises (p + 1) l) same h.1)
rises_set n (a ∷ l) (suc i) s h lt same = (h.0, rises_set (a.position + 1) l i s h.1 (omega arith) same)

pub place_rest : (a : Stamp) (l : List Stamp) (p i : ℕ) → IsPlace (a ∷ l) p (suc i) → IsPlace l p i
place_rest a l p i h = record {
  within = omega (arith, h.within);
  below = λ k lt. h.below (suc k) (omega arith);
  above = λ k le lt. h.above (suc k) (omega arith) (omega arith);
}

rises_above : (n p : ℕ) (l : List Stamp) → Rises n l → ((k : ℕ) → 0 ≤ k → k < length l → p < (stamp_at l k).position) → Rises (p + 1) l
rises_above n p [] h above = tt
rises_above n p (a ∷ l) h above = let first : p < a.position = above zero (omega arith) (omega arith) in (omega arith, h.1)

rises_insert : (n : ℕ) (l : List Stamp) (i : ℕ) (s : Stamp) → Rises n l → n ≤ s.position → IsPlace l s.position i → Rises n (insert l i s)
rises_insert n [] zero s h from place = (from, tt)
rises_insert n [] (suc i) s h from place = absurd (omega (arith, place.within))
rises_insert n (a ∷ l) zero s h from place = (from, rises_above n s.position (a ∷ l) h place.above)
rises_insert n (a ∷ l) (suc i) s h from place =
    let first : a.position < s.position = place.below zero (omega arith) in
    (h.0, rises_insert (a.position + 1) l i s h.1 (omega arith) (place_rest a l s.position i place))

pub last_is : (l : List Stamp) (s : Stamp) → Rises 0 l → 0 < length l → s ≡ stamp_at l (length l - 1) → IsGreatest l s
last_is l s h some is = record {
  some = some;
  last = sym is;
  greatest = λ k lt. greatest k lt;
} where
  greatest : (k : ℕ) → k < length l → (stamp_at l k).position ≤ s.position
  greatest k lt =
      ⊎_elim
      (λ (less : k < length l - 1). let order : (stamp_at l k).position < (stamp_at l (length l - 1)).position = rises_order 0 l k (length l - 1) h less (omega arith) in let same : s.position ≡ (stamp_at l (length l - 1)).position = ap (λ (x : Stamp). x.position) is in omega arith)
      (λ (last : length l - 1 ≤ k). let at : k ≡ length l - 1 = omega arith in let same : s.position ≡ (stamp_at l (length l - 1)).position = ap (λ (x : Stamp). x.position) is in let eq : (stamp_at l k).position ≡ (stamp_at l (length l - 1)).position = ap (λ (i : ℕ). (stamp_at l i).position) at in omega arith)
      (cases_lt k (length l - 1))

-- one look of a search
pub goes_up : (l : List Stamp) (p low middle : ℕ) → Rises 0 l → middle < length l → (stamp_at l middle).position < p → (k : ℕ) → k < middle + 1 → (stamp_at l k).position < p
goes_up l p low middle h within less k lt =
    ⊎_elim
    (λ (below : k < middle). let order = rises_order 0 l k middle h below within in omega arith)
    (λ (from : middle ≤ k). let at : k ≡ middle = omega arith in subst (λ (i : ℕ). (stamp_at l i).position < p) (sym at) less)
    (cases_lt k middle)

pub goes_down : (l : List Stamp) (p middle : ℕ) → Rises 0 l → p < (stamp_at l middle).position → (k : ℕ) → middle ≤ k → k < length l → p < (stamp_at l k).position
goes_down l p middle h more k from lt =
    ⊎_elim
    (λ (above : middle < k). let order = rises_order 0 l middle k h above lt in omega arith)
    (λ (to : k ≤ middle). let at : k ≡ middle = omega arith in subst (λ (i : ℕ). p < (stamp_at l i).position) (sym at) more)
    (cases_lt middle k)

-- all after the first are above it
pub above_first : (n : ℕ) (l : List Stamp) → Rises n l → IfSome (first_of l) (λ s. AllAbove s.position (drop 1 l))
above_first n [] h = tt
above_first n (s ∷ ss) h = λ k lt. let from : s.position + 1 ≤ (stamp_at ss k).position = rises_from (s.position + 1) ss k h.1 lt in omega arith

-- a position is found where it stands
pub found_at : (l : List Stamp) (p i : ℕ) → Rises 0 l → i < length l → (stamp_at l i).position ≡ p → IsFound l p i
found_at l p i h lt here = record { within = lt; here = here; below = λ k at. let order = rises_order 0 l k i h at lt in omega arith }

-- each is so far above the number that they rise from as its index
rises_up : (n : ℕ) (l : List Stamp) (k : ℕ) → Rises n l → k < length l → n + k ≤ (stamp_at l k).position
rises_up n [] k h lt = absurd (omega arith)
rises_up n (s ∷ ss) zero h lt = omega (arith, h.0)
rises_up n (s ∷ ss) (suc k) h lt = omega (arith, h.0, rises_up (s.position + 1) ss k h.1 (omega arith))

rises_gap : (n : ℕ) (l : List Stamp) (i j : ℕ) → Rises n l → i ≤ j → j < length l → (stamp_at l i).position + (j - i) ≤ (stamp_at l j).position
rises_gap n [] i j h le lt = absurd (omega arith)
rises_gap n (s ∷ ss) zero zero h le lt = omega arith
rises_gap n (s ∷ ss) (suc i) zero h le lt = absurd (omega arith)
rises_gap n (s ∷ ss) zero (suc j) h le lt = omega (arith, rises_up (s.position + 1) ss j h.1 (omega arith))
rises_gap n (s ∷ ss) (suc i) (suc j) h le lt = omega (arith, rises_gap (s.position + 1) ss i j h.1 (omega arith) (omega arith))

-- where none is left out each stands at once where it is looked for
pub row_found : (l : List Stamp) (low high p : ℕ) → Rises 0 l → AreEnds l low high → 0 < length l → low ≤ p → p ≤ high → high - low ≡ length l - 1 → IsFound l p (p - low)
row_found l low high p h ends some from to whole = found_at l p (p - low) h (omega arith) here where
  here : (stamp_at l (p - low)).position ≡ p
  here = omega (arith, ends.first some, ends.last some, rises_gap 0 l 0 (p - low) h (omega arith) (omega arith), rises_gap 0 l (p - low) (length l - 1) h (omega arith) (omega arith))

-- a position above the last has its place at the end
pub end_place : (l : List Stamp) (low high p : ℕ) → Rises 0 l → AreEnds l low high → (0 < length l → high < p) → IsPlace l p (length l)
end_place l low high p h ends above = record {
  within = omega arith;
  below = λ k lt. below k lt;
  above = λ k le lt. absurd (omega arith);
} where
  below : (k : ℕ) → k < length l → (stamp_at l k).position < p
  below k lt = omega (arith, above (omega arith), ends.last (omega arith), rises_gap 0 l k (length l - 1) h (omega arith) (omega arith))

-- the ends after a stamp was put in
pub ends_insert : (l : List Stamp) (i : ℕ) (s : Stamp) (low high low' high' : ℕ) → i ≤ length l → AreEnds l low high → (i ≡ 0 → low' ≡ s.position) → (i ≢ 0 → low' ≡ low) → (i ≡ length l → high' ≡ s.position) → (i ≢ length l → high' ≡ high) → AreEnds (insert l i s) low' high'
ends_insert l i s low high low' high' within ends zero_low more_low end_high more_high = record {
  first = λ some. ⊎_elim
      (λ (z : i ≡ 0). ap (λ (k : ℕ). (stamp_at (insert l i s) k).position) (sym z) ∙ ap (λ (x : Stamp). x.position) (get_or-insert_at l i s no_stamp within) ∙ sym (zero_low z))
      (λ (nz : i ≢ 0). ap (λ (x : Stamp). x.position) (get_or-insert_below l i s no_stamp 0 (omega arith) within) ∙ ends.first (omega arith) ∙ sym (more_low nz))
      (cases_eq i 0);
  last = λ some. ⊎_elim
      (λ (z : i ≡ length l). ap (λ (k : ℕ). (stamp_at (insert l i s) k).position) (at_end z) ∙ ap (λ (x : Stamp). x.position) (get_or-insert_at l i s no_stamp within) ∙ sym (end_high z))
      (λ (nz : i ≢ length l). ap (λ (k : ℕ). (stamp_at (insert l i s) k).position) (at_more nz) ∙ ap (λ (x : Stamp). x.position) (get_or-insert_above l i s no_stamp (length l - 1) (omega arith) within) ∙ ends.last (omega arith) ∙ sym (more_high nz))
      (cases_eq i (length l));
} where
  at_end : i ≡ length l → length (insert l i s) - 1 ≡ i
  at_end z = omega (arith, length-insert l i s within)

  at_more : i ≢ length l → length (insert l i s) - 1 ≡ length l - 1 + 1
  at_more nz = omega (arith, length-insert l i s within)

-- after the first was dropped
pub ends_drop : (l : List Stamp) (low high low' : ℕ) → AreEnds l low high → (0 < length (drop 1 l) → (stamp_at (drop 1 l) 0).position ≡ low') → AreEnds (drop 1 l) low' high
ends_drop [] low high low' ends first = record { first = first; last = λ some. absurd (omega arith) }
ends_drop (a ∷ l) low high low' ends first = record {
  first = first;
  last = λ some. sym (ap (λ (k : ℕ). (stamp_at (a ∷ l) k).position) (next some)) ∙ ends.last (omega arith);
} where
  next : 0 < length l → length (a ∷ l) - 1 ≡ suc (length l - 1)
  next some = omega arith

-- after a moment was changed
pub ends_set : (l : List Stamp) (i : ℕ) (s : Stamp) (low high : ℕ) → AreEnds l low high → i < length l → (stamp_at l i).position ≡ s.position → AreEnds (slice_set l i s) low high
ends_set l i s low high ends within same = record {
  first = λ some. at 0 ∙ ends.first (rw (← length-set l i s) some);
  last = λ some. ap (λ (n : ℕ). (stamp_at (slice_set l i s) (n - 1)).position) (length-set l i s) ∙ at (length l - 1) ∙ ends.last (rw (← length-set l i s) some);
} where
  at : (k : ℕ) → (stamp_at (slice_set l i s) k).position ≡ (stamp_at l k).position
  at k =
      ⊎_elim
      (λ (e : k ≡ i). ap (λ (j : ℕ). (stamp_at (slice_set l i s) j).position) e ∙ ap (λ (x : Stamp). x.position) (get_or-set_same l i s no_stamp within) ∙ sym same ∙ ap (λ (j : ℕ). (stamp_at l j).position) (sym e))
      (λ (ne : k ≢ i). ap (λ (x : Stamp). x.position) (get_or-set_other l i k s no_stamp ne))
      (cases_eq k i)

-- what holds of positions and their ends after a stamp was put at its place
pub put_keeps : (old new : List Stamp) (i : ℕ) (s : Stamp) (low high low' high' : ℕ) → Rises 0 old → AreEnds old low high → IsPlace old s.position i → new ≡ insert old i s → (i ≡ 0 → low' ≡ s.position) → (i ≢ 0 → low' ≡ low) → (i ≡ length old → high' ≡ s.position) → (i ≢ length old → high' ≡ high) → Rises 0 new × AreEnds new low' high'
put_keeps old new i s low high low' high' h ends place is zero_low more_low end_high more_high = (
  subst (λ (l : List Stamp). Rises 0 l) (sym is) (rises_insert 0 old i s h (omega arith) place),
  subst (λ (l : List Stamp). AreEnds l low' high') (sym is) (ends_insert old i s low high low' high' place.within ends zero_low more_low end_high more_high),
)
