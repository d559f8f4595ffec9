-- What a register answers is what the list says that it stands for.
use Rattle.std.proofs.Common.{◌≡◌, ◌≢◌, ℕ, ◌+◌, ◌%◌, ◌<◌, ◌≤◌, Bool, true, false, List, [], ◌∷◌, ◌++◌, refl, sym, ap, ◌∙◌, arith, length, replicate, ⊎_elim, Option, Some, None}
use Rattle.std.specs.Prelude.{not, ◌&&◌, ◌||◌, nat_eq, nat_lt, nat_le, max, slice_set, if◌then◌else◌}
use Rattle.std.specs.List.{list_any}
use Rattle.std.proofs.lemmas.Bool.Decides.{nat_tests}
use Rattle.std.proofs.lemmas.List.{get_or-set_other, get_or-set_same, get_or-replicate, length-set}
use Rattle.std.proofs.lemmas.Bool.{cases_eq, cases_lt}
use Rattle.repair_core.specs.declared.slots.Slot.{Slot}
use Rattle.repair_core.specs.RegisterState.{RegisterState}
use Rattle.repair_core.specs.Fresh.{greatest, greatest_of, is_fresh, with_number, started_from}
use Rattle.repair_core.specs.NackRegister.{Keeps, StandsFor, accepts_number, put_number, started}
use Rattle.repair_core.specs.Slots.{no_slot, taken_slot, holds}

kept_is : (r : RegisterState) (x n : ℕ) (l : List ℕ) → Keeps r x l → accepts_number r n ≡ (nat_lt (greatest l) n || (not (list_any (nat_eq n) l) && (nat_le x n && nat_le (greatest l) (n + 100))))
kept_is r x n l k = rw (k.begun, k.low, k.high) (grind (arith, nat_tests, k.window n, k.below n))

pub accepts_number_is : (r : RegisterState) (l : List ℕ) (n : ℕ) → StandsFor r l → accepts_number r n ≡ is_fresh l n
unfolding StandsFor
accepts_number_is r [] n h = rw h.1.0 refl
accepts_number_is r (x ∷ xs) n h = kept_is r x n (x ∷ xs) h.1

-- two numbers at most 100 apart have different slots
pub apart : (k n : ℕ) → k ≢ n → k ≤ n + 100 → n ≤ k + 100 → k % 101 ≢ n % 101
apart k n ne a b e = absurd (omega arith)

put_in : List Slot → ℕ → List Slot
put_in slots n = slice_set slots (n % 101) (taken_slot n)

-- what is in the slots after a number was put
holds_far : (slots : List Slot) (k n : ℕ) → k % 101 ≢ n % 101 → holds (put_in slots n) k ≡ holds slots k
unfolding put_in
holds_far slots k n far = rw (get_or-set_other slots (n % 101) (k % 101) (taken_slot n) no_slot far)

holds_same : (slots : List Slot) (n : ℕ) → length slots ≡ 101 → holds (put_in slots n) n ≡ true
unfolding put_in
holds_same slots n long = let within : n % 101 < length slots = omega arith in rw (get_or-set_same slots (n % 101) (taken_slot n) no_slot within) (grind (arith, nat_tests))

holds_none : (slots : List Slot) (k n : ℕ) → length slots ≡ 101 → k ≢ n → holds slots k ≡ false → holds (put_in slots n) k ≡ false
unfolding put_in
holds_none slots k n long ne h =
    ⊎_elim
    (λ (e : k % 101 ≡ n % 101). rw (e, get_or-set_same slots (n % 101) (taken_slot n) no_slot (omega arith)) (grind (arith, nat_tests)))
    (λ (far : k % 101 ≢ n % 101). holds_far slots k n far ∙ h)
    (cases_eq (k % 101) (n % 101))

-- what is known of a number in the window, after another was put
holds_put : (slots : List Slot) (k n : ℕ) (old : Bool) → length slots ≡ 101 → k ≤ n + 100 → n ≤ k + 100 → holds slots k ≡ old → holds (put_in slots n) k ≡ (old || nat_eq k n)
holds_put slots k n old long a b h =
    ⊎_elim
    (λ (e : k ≡ n). rw e (holds_same slots n long ∙ grind (arith, nat_tests)))
    (λ (ne : k ≢ n). holds_far slots k n (apart k n ne a b) ∙ h ∙ grind (arith, nat_tests))
    (cases_eq k n)

pub any_push : (k n : ℕ) (l : List ℕ) → list_any (nat_eq k) (l ++ n ∷ []) ≡ (list_any (nat_eq k) l || nat_eq k n)
any_push k n [] = grind arith
any_push k n (x ∷ xs) = grind (arith, any_push k n xs)

pub greatest-push : (l : List ℕ) (n : ℕ) → greatest (l ++ n ∷ []) ≡ max (greatest l) n
greatest-push [] n = omega arith
greatest-push (x ∷ xs) n = omega (arith, greatest-push xs n)

none_above : (k : ℕ) (l : List ℕ) → greatest l < k → list_any (nat_eq k) l ≡ false
none_above k [] h = refl
none_above k (x ∷ xs) h = grind (arith, nat_tests, none_above k xs (omega arith))

-- a number at most 100 below the greatest, or above it, is in its slot exactly where it was taken
pub kept_at : (r : RegisterState) (x : ℕ) (l : List ℕ) → Keeps r x l → (k : ℕ) → greatest l ≤ k + 100 → holds r.slots k ≡ list_any (nat_eq k) l
kept_at r x l h k b =
    ⊎_elim (λ (lt : greatest l < k). h.below k lt ∙ sym (none_above k l lt)) (λ (le : k ≤ greatest l). h.window k le b) (cases_lt (greatest l) k)

put_first : (r : RegisterState) (n : ℕ) → StandsFor r [] → StandsFor (put_number r n) (n ∷ [])
unfolding StandsFor put_in
put_first r n h = (
  length-set r.slots (n % 101) (taken_slot n) ∙ h.0,
  record {
    begun = refl;
    low = rw h.1.0 refl;
    high = rw h.1.0 (omega arith);
    window = λ k a b. holds_put r.slots k n false h.0 (omega arith) (omega arith) (h.1.1 k) ∙ grind arith;
    below = λ k a. holds_none r.slots k n h.0 (omega arith) (h.1.1 k);
  },
)

put_more : (r : RegisterState) (x n : ℕ) (l : List ℕ) → length r.slots ≡ 101 → greatest l ≤ n + 100 → Keeps r x l → Keeps (put_number r n) x (l ++ n ∷ [])
unfolding put_in
put_more r x n l long near h = record {
  begun = refl;
  low = rw h.begun h.low;
  high = rw h.begun (ap (λ m. max m n) h.high ∙ sym (greatest-push l n));
  window = λ k a b.
      holds_put r.slots k n (list_any (nat_eq k) l) long (omega (arith, greatest-push l n)) (omega (arith, greatest-push l n)) (kept_at r x l h k (omega (arith, greatest-push l n)))
      ∙ sym (any_push k n l);
  below = λ k a. holds_none r.slots k n long (omega (arith, greatest-push l n)) (h.below k (omega (arith, greatest-push l n)));
}

pub fresh_near : (x n : ℕ) (l : List ℕ) → is_fresh (x ∷ l) n ≡ true → greatest (x ∷ l) ≤ n + 100
fresh_near x n l f = grind (arith, nat_tests)

pub put_number_is : (r : RegisterState) (l : List ℕ) (n : ℕ) → StandsFor r l → is_fresh l n ≡ true → StandsFor (put_number r n) (with_number l n)
unfolding StandsFor
put_number_is r [] n h f = put_first r n h
put_number_is r (x ∷ xs) n h f =
    rw f (length-set r.slots (n % 101) (taken_slot n) ∙ h.0, put_more r x n (x ∷ xs) h.0 (fresh_near x n xs f) h.1)

blank : (m k : ℕ) → k % 101 < m → holds (replicate m no_slot) k ≡ false
blank m k h = rw (get_or-replicate m (k % 101) no_slot no_slot h) refl

pub blank_stands : (r : RegisterState) → r.started ≡ false → r.slots ≡ replicate 101 no_slot → StandsFor r []
unfolding StandsFor
blank_stands r e s = (rw s refl, (e, λ k. rw s (blank 101 k (omega arith))))

-- a blank register that starts from nothing, or from one number
pub started_stands : (r : RegisterState) (o : Option ℕ) → r.started ≡ false → r.slots ≡ replicate 101 no_slot → StandsFor (started r o) (started_from o)
started_stands r None e s = blank_stands r e s
started_stands r (Some n) e s = put_first r n (blank_stands r e s)

abbrev pub kept_greatest : RegisterState → Option ℕ
kept_greatest r = if r.started then Some r.greatest else None

pub greatest_is : (r : RegisterState) (l : List ℕ) → StandsFor r l → kept_greatest r ≡ greatest_of l
unfolding StandsFor
greatest_is r [] h = rw h.1.0 refl
greatest_is r (x ∷ xs) h = rw (h.1.begun, h.1.high) refl
