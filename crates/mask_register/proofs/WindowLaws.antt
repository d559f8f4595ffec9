-- A window answers what the list says that it keeps.
use Rattle.std.proofs.Common.{◌≡◌, ℕ, ◌+◌, ◌-◌, ◌<◌, ◌≤◌, Bool, true, false, List, [], ◌∷◌, ◌++◌, refl, sym, ap, ◌∙◌, arith, ⊎_elim, inl, inr, ◌⊎◌, Some}
use Rattle.std.specs.Prelude.{not, ◌&&◌, ◌||◌, nat_eq, nat_lt, nat_le, max}
use Rattle.std.specs.List.{list_any}
use Rattle.std.proofs.lemmas.Bool.Decides.{nat_tests}
use Rattle.std.proofs.lemmas.Bool.{cases_lt}
use Rattle.repair_core.specs.Fresh.{greatest, is_fresh}
use Rattle.repair_core.specs.Rounds.{in_gap, lowest}
use Rattle.mask_register.specs.declared.window.Window.{Window}
use Rattle.mask_register.specs.Mask.{has}
use Rattle.mask_register.specs.Window.{is_missing, accepts_number, lowest_in, Holds, Takes}
use Rattle.mask_register.specs.MaskRegister.{IsKept}

pub any_push : (k n : ℕ) (l : List ℕ) → list_any (nat_eq k) (l ++ n ∷ []) ≡ (list_any (nat_eq k) l || nat_eq k n)
any_push k n [] = grind arith
any_push k n (x ∷ xs) = grind (arith, any_push k n xs)

pub greatest-push : (l : List ℕ) (n : ℕ) → greatest (l ++ n ∷ []) ≡ max (greatest l) n
greatest-push [] n = omega arith
greatest-push (x ∷ xs) n = omega (arith, greatest-push xs n)

none_above : (k : ℕ) (l : List ℕ) → greatest l < k → list_any (nat_eq k) l ≡ false
none_above k [] h = refl
none_above k (x ∷ xs) h = grind (arith, nat_tests, none_above k xs (omega arith))

-- the greatest of some numbers is one of them
pub greatest_among : (x : ℕ) (xs : List ℕ) → list_any (nat_eq (greatest (x ∷ xs))) (x ∷ xs) ≡ true
greatest_among x [] = grind (arith, nat_tests)
greatest_among x (y ∷ ys) = either (greatest_among y ys) where
  -- by the greatest of the rest
  either : list_any (nat_eq (greatest (y ∷ ys))) (y ∷ ys) ≡ true → (nat_eq (max x (greatest (y ∷ ys))) x || list_any (nat_eq (max x (greatest (y ∷ ys)))) (y ∷ ys)) ≡ true
  either rest =
      ⊎_elim
      (λ (lt : x < greatest (y ∷ ys)).
      let same : max x (greatest (y ∷ ys)) ≡ greatest (y ∷ ys) = omega arith in
      ap (λ (m : ℕ). nat_eq m x || list_any (nat_eq m) (y ∷ ys)) same ∙ ap (λ (c : Bool). nat_eq (greatest (y ∷ ys)) x || c) rest ∙ or_true (nat_eq (greatest (y ∷ ys)) x))
      (λ (le : greatest (y ∷ ys) ≤ x).
      let same : max x (greatest (y ∷ ys)) ≡ x = omega arith in
      ap (λ (m : ℕ). nat_eq m x || list_any (nat_eq m) (y ∷ ys)) same ∙ ap (λ (c : Bool). c || list_any (nat_eq x) (y ∷ ys)) (itself x))
      (cases_lt x (greatest (y ∷ ys))) where
        or_true : (b : Bool) → (b || true) ≡ true
        or_true true = refl
        or_true false = refl

        itself : (a : ℕ) → nat_eq a a ≡ true
        itself a = grind (arith, nat_tests)

pub accepts_is : (w : Window) (x n : ℕ) (xs : List ℕ) → Holds w x (x ∷ xs) → accepts_number w n ≡ is_fresh (x ∷ xs) n
accepts_is w x n xs h =
    ap (λ (f : ℕ). nat_lt w.greatest n || (nat_le f n && (nat_le w.greatest (n + 100) && is_missing w n))) h.low
    ∙ ap (λ (g : ℕ). nat_lt g n || (nat_le x n && (nat_le g (n + 100) && not (has w.taken (g - n))))) h.high
    ∙ tests (greatest (x ∷ xs)) (has w.taken (greatest (x ∷ xs) - n)) (list_any (nat_eq n) (x ∷ xs)) (h.window n) where
      tests : (g : ℕ) (a b : Bool) → (n ≤ g → g ≤ n + 100 → a ≡ b) → (nat_lt g n || (nat_le x n && (nat_le g (n + 100) && not a))) ≡ (nat_lt g n || (not b && (nat_le x n && nat_le g (n + 100))))
      tests g a b same = grind (arith, nat_tests, same)

pub takes_holds : (old new : Window) (x n : ℕ) (l : List ℕ) → Holds old x l → Takes old new n → Holds new x (l ++ n ∷ [])
takes_holds old new x n l h t = record {
  low = t.first ∙ h.low;
  high = high;
  window = λ k le near. window k (omega (arith, high)) (omega (arith, high));
} where
  high : new.greatest ≡ greatest (l ++ n ∷ [])
  high = t.greatest ∙ ap (λ (g : ℕ). max g n) h.high ∙ sym (greatest-push l n)

  window : (k : ℕ) → k ≤ new.greatest → new.greatest ≤ k + 100 → has new.taken (greatest (l ++ n ∷ []) - k) ≡ list_any (nat_eq k) (l ++ n ∷ [])
  window k le near =
      ap (λ (g : ℕ). has new.taken (g - k)) (sym high) ∙ t.taken k le near
      ∙ ap (λ (g : ℕ). nat_eq k n || (nat_le k g && has old.taken (g - k))) h.high
      ∙ tests (nat_eq k n) (has old.taken (greatest l - k)) (list_any (nat_eq k) l) (λ low. h.window k low (omega (arith, high, greatest-push l n))) (none_above k l)
      ∙ sym (any_push k n l) where
        tests : (e a b : Bool) → (k ≤ greatest l → a ≡ b) → (greatest l < k → b ≡ false) → (e || (nat_le k (greatest l) && a)) ≡ (b || e)
        tests e a b same none = grind (arith, nat_tests, same, none)

-- what a window tells of the missing numbers
pub record Sees (w : Window) (l : List ℕ) : Type 0 where
  pub low : lowest l ≡ lowest_in w
  pub high : greatest l ≡ w.greatest
  pub ordered : lowest_in w ≤ w.greatest
  pub inside : (k : ℕ) → lowest_in w ≤ k → k < w.greatest → in_gap l k ≡ is_missing w k
  pub outside : (k : ℕ) → in_gap l k ≡ true → (lowest_in w ≤ k) × (k < w.greatest)

pub record InGap (x : ℕ) (l : List ℕ) (k : ℕ) : Type 0 where
  pub above : x ≤ k
  pub near : greatest l ≤ k + 100
  pub below : k < greatest l
  pub free : list_any (nat_eq k) l ≡ false

pub gap_facts : (x : ℕ) (xs : List ℕ) (k : ℕ) → in_gap (x ∷ xs) k ≡ true → InGap x (x ∷ xs) k
gap_facts x xs k h =
    record {
      above = first (greatest (x ∷ xs)) (list_any (nat_eq k) (x ∷ xs)) h;
      near = second (greatest (x ∷ xs)) (list_any (nat_eq k) (x ∷ xs)) h;
      below = third (greatest (x ∷ xs)) (list_any (nat_eq k) (x ∷ xs)) h;
      free = fourth (greatest (x ∷ xs)) (list_any (nat_eq k) (x ∷ xs)) h;
    } where
      first : (g : ℕ) (b : Bool) → (nat_le x k && (nat_le g (k + 100) && (nat_lt k g && not b))) ≡ true → x ≤ k
      first g b t = grind (arith, nat_tests)

      second : (g : ℕ) (b : Bool) → (nat_le x k && (nat_le g (k + 100) && (nat_lt k g && not b))) ≡ true → g ≤ k + 100
      second g b t = grind (arith, nat_tests)

      third : (g : ℕ) (b : Bool) → (nat_le x k && (nat_le g (k + 100) && (nat_lt k g && not b))) ≡ true → k < g
      third g b t = grind (arith, nat_tests)

      fourth : (g : ℕ) (b : Bool) → (nat_le x k && (nat_le g (k + 100) && (nat_lt k g && not b))) ≡ true → b ≡ false
      fourth g b t = grind (arith, nat_tests)

-- a missing number after one more number came was missing before, or is above all that came
pub gap_push : (l : List ℕ) (n k : ℕ) → in_gap (l ++ n ∷ []) k ≡ true → (in_gap l k ≡ true) ⊎ (greatest l < k)
gap_push [] n k h = let f = gap_facts n [] k h in absurd (omega (arith, f.above, f.below))
gap_push (x ∷ xs) n k h = ⊎_elim (λ (lt : greatest (x ∷ xs) < k). inr lt) (λ (le : k ≤ greatest (x ∷ xs)). inl (old le)) (cases_lt (greatest (x ∷ xs)) k) where
  f : InGap x (x ∷ (xs ++ n ∷ [])) k
  f = gap_facts x (xs ++ n ∷ []) k h

  near : greatest (x ∷ xs) ≤ k + 100
  near = omega (arith, f.near, greatest-push (x ∷ xs) n)

  free : list_any (nat_eq k) (x ∷ xs) ≡ false
  free = left (list_any (nat_eq k) (x ∷ xs)) (nat_eq k n) (sym (any_push k n (x ∷ xs)) ∙ f.free) where
    left : (a b : Bool) → (a || b) ≡ false → a ≡ false
    left true b t = t
    left false b t = refl

  old : k ≤ greatest (x ∷ xs) → in_gap (x ∷ xs) k ≡ true
  old le = tests (greatest (x ∷ xs)) (list_any (nat_eq k) (x ∷ xs)) f.above near (λ e. no_top (sym free ∙ ap (λ (i : ℕ). list_any (nat_eq i) (x ∷ xs)) e ∙ greatest_among x xs)) le free where
    no_top : false ≡ true → ⊥
    no_top t = cc

    tests : (g : ℕ) (b : Bool) → x ≤ k → g ≤ k + 100 → (k ≡ g → ⊥) → k ≤ g → b ≡ false → (nat_le x k && (nat_le g (k + 100) && (nat_lt k g && not b))) ≡ true
    tests g b one two three four five = let less : k < g = ⊎_elim (λ (lt : k < g). lt) (λ (ge : g ≤ k). absurd (three (omega arith))) (cases_lt k g) in grind (arith, nat_tests)

pub sees : (w : Window) (l : List ℕ) → IsKept (Some w) l → Sees w l
sees w [] h = absurd h
sees w (x ∷ xs) h = record {
  low = low;
  high = sym h.high;
  ordered = omega (arith, h.low, h.high, low);
  inside = λ k from to. inside k (omega (arith, low)) (omega (arith, h.high));
  outside = λ k g. let f = gap_facts x xs k g in (omega (arith, f.above, f.near, h.low, h.high), omega (arith, f.below, h.high));
} where
  low : lowest (x ∷ xs) ≡ lowest_in w
  low = sym (ap (λ (f : ℕ). max f (w.greatest - 100)) h.low ∙ ap (λ (g : ℕ). max x (g - 100)) h.high)

  inside : (k : ℕ) → lowest (x ∷ xs) ≤ k → k < greatest (x ∷ xs) → in_gap (x ∷ xs) k ≡ is_missing w k
  inside k from to =
      tests (greatest (x ∷ xs)) (list_any (nat_eq k) (x ∷ xs)) (omega arith) (omega arith) to
      ∙ ap not (sym (h.window k (omega arith) (omega arith)))
      ∙ ap (λ (g : ℕ). not (has w.taken (g - k))) (sym h.high) where
        tests : (g : ℕ) (b : Bool) → x ≤ k → g ≤ k + 100 → k < g → (nat_le x k && (nat_le g (k + 100) && (nat_lt k g && not b))) ≡ not b
        tests g b one two three = grind (arith, nat_tests)
