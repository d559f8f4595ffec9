-- What a window answers is what the list says that it stands for.
use Rattle.std.proofs.Common.{◌≡◌, ◌≢◌, ℕ, ◌+◌, ◌%◌, ◌<◌, ◌≤◌, Bool, true, false, Option, Some, None, List, [], ◌∷◌, ◌++◌, refl, sym, ap, ◌∙◌, arith, length, replicate, ⊎_elim}
use Rattle.std.specs.Prelude.{◌||◌, nat_eq, max, slice_set, slice_index_or}
use Rattle.std.specs.List.{list_any}
use Rattle.std.proofs.lemmas.Bool.Decides.{nat_tests}
use Rattle.std.proofs.lemmas.List.{get_or-set_other, get_or-set_same, get_or-replicate, length-set}
use Rattle.std.proofs.lemmas.Bool.{cases_eq, cases_lt}
use Rattle.rtp_base.specs.declared.window.SeqNoWindow.{SeqNoWindow}
use Rattle.rtp_base.specs.Window.{greatest, greatest_after, is_fresh_rtx, is_fresh_after, with_fresh, is_above, is_just, holds, Keeps, StandsFor, accepts_number, put_number}

pub greatest_is : (w : SeqNoWindow) (low : Option ℕ) (l : List ℕ) → StandsFor w low l → w.greatest ≡ greatest_after low l
unfolding StandsFor
greatest_is w None [] h = elim h [ ]
greatest_is w None (x ∷ xs) h = h.high
greatest_is w (Some floor) l h = h.high

kept_plain : (w : SeqNoWindow) (x n : ℕ) (xs : List ℕ) → Keeps w None (x ∷ xs) → accepts_number w n ≡ is_fresh_rtx (x ∷ xs) n
kept_plain w x n xs k = rw (k.start, k.high) (grind (arith, nat_tests, k.recent n, k.above n))

kept_floor : (w : SeqNoWindow) (floor n : ℕ) (l : List ℕ) → Keeps w (Some floor) l → accepts_number w n ≡ is_fresh_after (Some floor) l n
kept_floor w floor n [] k = rw (k.start, k.high) (grind (arith, nat_tests, k.recent n, k.above n))
kept_floor w floor n (x ∷ xs) k = rw (k.start, k.high) (grind (arith, nat_tests, k.recent n, k.above n))

pub accepts_number_is : (w : SeqNoWindow) (low : Option ℕ) (l : List ℕ) (n : ℕ) → StandsFor w low l → accepts_number w n ≡ is_fresh_after low l n
unfolding StandsFor
accepts_number_is w None [] n h = elim h [ ]
accepts_number_is w None (x ∷ xs) n h = kept_plain w x n xs h
accepts_number_is w (Some floor) l n h = kept_floor w floor n l h

-- two numbers less than 128 apart have different slots
apart : (k n : ℕ) → k ≢ n → k < n + 128 → n < k + 128 → k % 128 ≢ n % 128
apart k n ne a b e = absurd (omega arith)

put_in : List (Option ℕ) → ℕ → List (Option ℕ)
put_in slots n = slice_set slots (n % 128) (Some n)

holds_far : (slots : List (Option ℕ)) (k n : ℕ) → k % 128 ≢ n % 128 → holds (put_in slots n) k ≡ holds slots k
unfolding put_in
holds_far slots k n far = ap (is_just k) (get_or-set_other slots (n % 128) (k % 128) (Some n) None far)

holds_same : (slots : List (Option ℕ)) (n : ℕ) → length slots ≡ 128 → holds (put_in slots n) n ≡ true
unfolding put_in
holds_same slots n long = ap (is_just n) (get_or-set_same slots (n % 128) (Some n) None (omega arith)) ∙ grind (arith, nat_tests)

holds_none : (slots : List (Option ℕ)) (k n : ℕ) → length slots ≡ 128 → k ≢ n → holds slots k ≡ false → holds (put_in slots n) k ≡ false
unfolding put_in
holds_none slots k n long ne h =
    ⊎_elim
    (λ (e : k % 128 ≡ n % 128). ap (λ (m : ℕ). is_just k (slice_index_or (put_in slots n) m None)) e ∙ ap (is_just k) (get_or-set_same slots (n % 128) (Some n) None (omega arith)) ∙ grind (arith, nat_tests))
    (λ (far : k % 128 ≢ n % 128). holds_far slots k n far ∙ h)
    (cases_eq (k % 128) (n % 128))

holds_put : (slots : List (Option ℕ)) (k n : ℕ) (old : Bool) → length slots ≡ 128 → k < n + 128 → n < k + 128 → holds slots k ≡ old → holds (put_in slots n) k ≡ (old || nat_eq k n)
holds_put slots k n old long a b h =
    ⊎_elim
    (λ (e : k ≡ n). rw e (holds_same slots n long ∙ grind (arith, nat_tests)))
    (λ (ne : k ≢ n). holds_far slots k n (apart k n ne a b) ∙ h ∙ grind (arith, nat_tests))
    (cases_eq k n)

any_push : (k n : ℕ) (l : List ℕ) → list_any (nat_eq k) (l ++ n ∷ []) ≡ (list_any (nat_eq k) l || nat_eq k n)
any_push k n [] = grind arith
any_push k n (x ∷ xs) = grind (arith, any_push k n xs)

greatest-push : (l : List ℕ) (n : ℕ) → greatest (l ++ n ∷ []) ≡ max (greatest l) n
greatest-push [] n = omega arith
greatest-push (x ∷ xs) n = omega (arith, greatest-push xs n)

after-push : (low : Option ℕ) (l : List ℕ) (n : ℕ) → greatest_after low (l ++ n ∷ []) ≡ max (greatest_after low l) n
after-push None l n = greatest-push l n
after-push (Some floor) l n = omega (arith, greatest-push l n)

above_all : (low : Option ℕ) (l : List ℕ) → greatest l ≤ greatest_after low l
above_all None l = omega arith
above_all (Some floor) l = omega arith

none_above : (k : ℕ) (l : List ℕ) → greatest l < k → list_any (nat_eq k) l ≡ false
none_above k [] h = refl
none_above k (x ∷ xs) h = grind (arith, nat_tests, none_above k xs (omega arith))

kept_at : (w : SeqNoWindow) (low : Option ℕ) (l : List ℕ) → Keeps w low l → (k : ℕ) → greatest_after low l < k + 128 → is_above low k ≡ true → holds w.slots k ≡ list_any (nat_eq k) l
kept_at w low l h k b up =
    ⊎_elim (λ (lt : greatest_after low l < k). h.above k lt ∙ sym (none_above k l (omega (arith, above_all low l)))) (λ (le : k ≤ greatest_after low l). h.recent k le b up) (cases_lt (greatest_after low l) k)

put_more : (w : SeqNoWindow) (low : Option ℕ) (n : ℕ) (l : List ℕ) → greatest_after low l < n + 128 → Keeps w low l → Keeps (put_number w n) low (l ++ n ∷ [])
unfolding put_in
put_more w low n l near h =
    let push = after-push low l n in record {
      long = length-set w.slots (n % 128) (Some n) ∙ h.long;
      start = h.start;
      high = ap (λ (m : ℕ). max m n) h.high ∙ sym push;
      recent = λ k a b up. holds_put w.slots k n (list_any (nat_eq k) l) h.long (omega (arith, push)) (omega (arith, push)) (kept_at w low l h k (omega (arith, push)) up) ∙ sym (any_push k n l);
      above = λ k a. holds_none w.slots k n h.long (omega (arith, push)) (h.above k (omega (arith, push)));
    }

near_plain : (x n : ℕ) (xs : List ℕ) → is_fresh_rtx (x ∷ xs) n ≡ true → greatest (x ∷ xs) < n + 128
near_plain x n xs f = grind (arith, nat_tests)

near_floor : (floor n : ℕ) (l : List ℕ) → is_fresh_after (Some floor) l n ≡ true → max floor (greatest l) < n + 128
near_floor floor n [] f = grind (arith, nat_tests)
near_floor floor n (x ∷ xs) f = grind (arith, nat_tests)

pub put_number_is : (w : SeqNoWindow) (low : Option ℕ) (l : List ℕ) (n : ℕ) → StandsFor w low l → is_fresh_after low l n ≡ true → StandsFor (put_number w n) low (with_fresh low l n)
unfolding StandsFor
put_number_is w None [] n h f = elim h [ ]
put_number_is w None (x ∷ xs) n h f = rw f (put_more w None n (x ∷ xs) (near_plain x n xs f) h)
put_number_is w (Some floor) l n h f = rw f (put_more w (Some floor) n l (near_floor floor n l f) h)

blank : (m k : ℕ) → k % 128 < m → holds (replicate m None) k ≡ false
blank m k h = ap (is_just k) (get_or-replicate m (k % 128) None None h)

pub after_stands : (n : ℕ) → StandsFor (record { floor = Some n; greatest = n; slots = replicate 128 None }) (Some n) []
unfolding StandsFor
after_stands n = record {
  long = refl;
  start = refl;
  high = omega arith;
  recent = λ k a b up. blank 128 k (omega arith);
  above = λ k a. blank 128 k (omega arith);
}

pub new_stands : (n : ℕ) → StandsFor (record { floor = None; greatest = n; slots = slice_set (replicate 128 None) (n % 128) (Some n) }) None (n ∷ [])
unfolding StandsFor put_in
new_stands n = record {
  long = length-set (replicate 128 None) (n % 128) (Some n);
  start = refl;
  high = omega arith;
  recent = λ k a b up. holds_put (replicate 128 None) k n false refl (omega arith) (omega arith) (blank 128 k (omega arith)) ∙ grind (arith, nat_tests);
  above = λ k a. holds_none (replicate 128 None) k n refl (omega arith) (blank 128 k (omega arith));
}
