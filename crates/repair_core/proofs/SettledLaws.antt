-- Which numbers of the window are asked for no more.
use Rattle.std.proofs.Common.{◌≡◌, ◌≢◌, ℕ, zero, suc, ◌+◌, ◌-◌, ◌%◌, ◌<◌, ◌≤◌, ◌^◌, Bool, true, false, eqb, leb, ltb, List, refl, sym, ap, ◌∙◌, arith, length, max, min, ⊎_elim}
use Rattle.std.specs.Prelude.{not, ◌&&◌, ◌||◌, slice_set}
use Rattle.std.specs.List.{list_any}
use Rattle.std.proofs.lemmas.Bool.Decides.{nat_tests}
use Rattle.std.proofs.lemmas.List.{get_or-set_other, get_or-set_same}
use Rattle.std.proofs.lemmas.Bool.{cases_eq, cases_lt}
use Rattle.repair_core.specs.declared.slots.Slot.{Slot}
use Rattle.repair_core.specs.RegisterState.{RegisterState, IsQuiet, IsSettled}
use Rattle.repair_core.specs.Slots.{no_slot, taken_slot, known, known_in, slot_needs, slot_due}
use Rattle.repair_core.specs.Rounds.{numbers_up}
use Rattle.repair_core.specs.NackRegister.{needs_any}
use Rattle.repair_core.proofs.RegisterLaws.{apart}

known_far : (slots : List Slot) (k n : ℕ) (s : Slot) → k % 101 ≢ n % 101 → known (slice_set slots (n % 101) s) k ≡ known slots k
known_far slots k n s far = ap (λ (x : Slot). known_in x k) (get_or-set_other slots (n % 101) (k % 101) s no_slot far)

known_put : (slots : List Slot) (n : ℕ) → length slots ≡ 101 → slot_needs (known (slice_set slots (n % 101) (taken_slot n)) n) ≡ false
known_put slots n long = let within : n % 101 < length slots = omega arith in rw (get_or-set_same slots (n % 101) (taken_slot n) no_slot within) (grind (arith, nat_tests))

-- a number was taken
pub settled_put : (first greatest n settled : ℕ) (slots : List Slot) → length slots ≡ 101 → n < 2 ^ 48 → greatest ≤ n + 100 → IsSettled first greatest slots settled
    → IsSettled first (max greatest n) (slice_set slots (n % 101) (taken_slot n)) settled
settled_put first greatest n settled slots long small near h = record {
  small = omega (arith, h.small);
  within = omega (arith, h.within);
  quiet = λ k low high below. ⊎_elim
      (λ (at : k ≡ n). rw at (known_put slots n long))
      (λ (ne : k ≢ n). let lt : k < greatest = omega (arith, h.within) in let from : max first (greatest - 100) ≤ k = omega arith in ap slot_needs (known_far slots k n (taken_slot n) (apart k n ne (omega (arith, h.within)) (omega arith))) ∙ h.quiet k from lt below)
      (cases_eq k n);
}

pub settled_on : (first greatest settled n : ℕ) (slots : List Slot) (first' greatest' settled' : ℕ) (slots' : List Slot) → first' ≡ first → greatest' ≡ max greatest n → settled' ≡ settled → slots' ≡ slice_set slots (n % 101) (taken_slot n)
    → length slots ≡ 101 → n < 2 ^ 48 → greatest ≤ n + 100 → IsSettled first greatest slots settled → IsSettled first' greatest' slots' settled'
settled_on first greatest settled n slots first' greatest' settled' slots' a b c d long small near h = rw (a, b, c, d) (settled_put first greatest n settled slots long small near h)

pub settled_first : (first greatest settled n : ℕ) (slots : List Slot) → first ≡ n → greatest ≡ max n n → settled ≡ 0 → n < 2 ^ 48 → IsSettled first greatest slots settled
settled_first first greatest settled n slots a b c small = record { small = omega arith; within = omega arith; quiet = λ k low high below. absurd (omega arith) }

-- the lowest number that may be asked for, or none
any_at : (count low n : ℕ) (p : ℕ → Bool) → low ≤ n → n < low + count → p n ≡ true → list_any p (numbers_up count low) ≡ true
any_at zero low n p from to t = absurd (omega arith)
any_at (suc count) low n p from to t =
    ⊎_elim
    (λ (lt : low < n). ap (λ (b : Bool). p low || b) (any_at count (low + 1) n p (omega arith) (omega arith) t) ∙ right (p low))
    (λ (ge : n ≤ low). let at : low ≡ n = omega arith in ap (λ (b : Bool). b || list_any p (numbers_up count (low + 1))) (ap p at ∙ t))
    (cases_lt low n) where
      right : (b : Bool) → (b || true) ≡ true
      right true = refl
      right false = refl

any_none : (count low : ℕ) (p : ℕ → Bool) → ((k : ℕ) → low ≤ k → k < low + count → p k ≡ false) → list_any p (numbers_up count low) ≡ false
any_none zero low p none = refl
any_none (suc count) low p none =
    ap (λ (b : Bool). b || list_any p (numbers_up count (low + 1))) (none low (omega arith) (omega arith)) ∙ any_none count (low + 1) p (λ k from to. none k (omega arith) (omega arith))

pub open_is : (r : RegisterState) (n : ℕ) → n ≤ r.greatest → IsQuiet r.first r.greatest r.slots n → (n < r.greatest → (max r.first (r.greatest - 100) ≤ n) × (slot_needs (known r.slots n) ≡ true))
    → (r.started && ltb n r.greatest) ≡ needs_any r 0 r.greatest
open_is r n le quiet wanted = ap (λ (b : Bool). r.started && b) (any (max (max r.first (r.greatest - 100)) 0) (min r.greatest r.greatest) (omega arith) (omega arith)) where
  any : (low high : ℕ) → low ≡ max r.first (r.greatest - 100) → high ≡ r.greatest → ltb n r.greatest ≡ list_any (λ k. slot_needs (known r.slots k)) (numbers_up (high - low) low)
  any low high l h =
      ⊎_elim
      (λ (lt : n < r.greatest).
      let o = wanted lt in
      let test : ltb n r.greatest ≡ true = grind (arith, nat_tests) in
      test ∙ sym (any_at (high - low) low n (λ k. slot_needs (known r.slots k)) (omega (arith, o.0)) (omega (arith, o.0)) o.1))
      (λ (ge : r.greatest ≤ n).
      let test : ltb n r.greatest ≡ false = grind (arith, nat_tests) in
      test ∙ sym (any_none (high - low) low (λ k. slot_needs (known r.slots k)) (λ k from to. quiet k (omega arith) (omega arith) (omega arith))))
      (cases_lt n r.greatest)
