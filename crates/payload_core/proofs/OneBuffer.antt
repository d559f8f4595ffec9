-- What a reordering buffer stands for determines what it holds.
use Rattle.std.proofs.Common.{◌≡◌, ℕ, ◌+◌, ◌<◌, List, [], ◌∷◌, Option, Some, None, refl, sym, ap, ◌∙◌, arith, inl, inr}
use Rattle.std.proofs.lemmas.Bool.{cases_lt, cases_order}
use Rattle.payload_core.specs.History.{Event, IsPassedUpTo, IsLast, waiting_under, is_kept, Rise, NumbersRise, EventsDetermine}
use Rattle.payload_core.proofs.Entries.{under, among, under_head, under_tail, under_below, among_head, among_tail, among_below}

not_before : {I : Type 0} (events : List (Event I)) (l m : ℕ) → IsPassedUpTo events l → IsPassedUpTo events m → l < m → ⊥
not_before events l m s t lt =
    let one : s.packet ≡ t.packet = let a = s.was_given in let b = t.was_given in cc in
    let yes' = t.paddings (l + 1) (omega (arith, s.follows)) (omega arith) in
    let no' = s.ends in
    cc

one_last : {I : Type 0} (events : List (Event I)) (l m : Option ℕ) → IsLast events l → IsLast events m → l ≡ m
one_last events None None s t = refl
one_last events None (Some m) s t = absurd (let some = t.was_given in cc)
one_last events (Some l) None s t = absurd (let some = s.was_given in cc)
one_last events (Some l) (Some m) s t = elim (cases_order l m) [
  | inl same ↦ ap Some same
  | inr o ↦ elim o [
    | inl lt ↦ absurd (not_before events l m s t lt)
    | inr gt ↦ absurd (not_before events m l t s gt)
  ]
]

head_below : {X : Type 0} (e f : ℕ × X) (es fs : List (ℕ × X)) → Rise f.0 (f ∷ fs) → ((n : ℕ) → under n (e ∷ es) ≡ under n (f ∷ fs)) → e.0 < f.0 → ⊥
head_below e f es fs r same lt =
    let some = sym (under_head e.0 e es refl) ∙ same e.0 in
    let none = under_below (f ∷ fs) f.0 e.0 r lt in
    cc

tails_same : {X : Type 0} (e f : ℕ × X) (es fs : List (ℕ × X)) → e.0 ≡ f.0 → Rise (e.0 + 1) es → Rise (f.0 + 1) fs → ((n : ℕ) → under n (e ∷ es) ≡ under n (f ∷ fs))
    → (n : ℕ) → under n es ≡ under n fs
tails_same e f es fs one r t same n = elim (cases_lt e.0 n) [
  | inl later ↦
      sym (under_tail n e es (λ at. absurd (omega arith))) ∙ same n ∙ under_tail n f fs (λ at. absurd (omega arith))
  | inr below ↦ under_below es (e.0 + 1) n r (omega arith) ∙ sym (under_below fs (f.0 + 1) n t (omega arith))
]

heads_same : {X : Type 0} (e f : ℕ × X) (es fs : List (ℕ × X)) → e.0 ≡ f.0 → ((n : ℕ) → under n (e ∷ es) ≡ under n (f ∷ fs)) → e ≡ f
heads_same (n, x) (m, y) es fs one same =
    let some = sym (under_head n (n, x) es refl) ∙ same n ∙ under_head n (m, y) fs one in
    let value : x ≡ y = cc in
    cc

one_map : {X : Type 0} (es fs : List (ℕ × X)) (from from' : ℕ) → Rise from es → Rise from' fs → ((n : ℕ) → under n es ≡ under n fs) → es ≡ fs
one_map [] [] from from' r t same = refl
one_map [] (f ∷ fs) from from' r t same = absurd (let some = same f.0 ∙ under_head f.0 f fs refl in cc)
one_map (e ∷ es) [] from from' r t same = absurd (let some = sym (same e.0) ∙ under_head e.0 e es refl in cc)
one_map (e ∷ es) (f ∷ fs) from from' r t same = elim (cases_order e.0 f.0) [
  | inl one ↦
      let head = heads_same e f es fs one same in
      let tail = one_map es fs (e.0 + 1) (f.0 + 1) r.1 t.1 (tails_same e f es fs one r.1 t.1 same) in
      cc
  | inr o ↦ elim o [
    | inl lt ↦ absurd (head_below e f es fs (omega arith, t.1) same lt)
    | inr gt ↦ absurd (head_below f e fs es (omega arith, r.1) (λ n. sym (same n)) gt)
  ]
]

number_below : (a b : ℕ) (ns ms : List ℕ) → NumbersRise b (b ∷ ms) → ((n : ℕ) → among n (a ∷ ns) ≡ among n (b ∷ ms)) → a < b → ⊥
number_below a b ns ms r same lt =
    let some = sym (among_head a a ns refl) ∙ same a in
    let none = among_below (b ∷ ms) b a r lt in
    cc

numbers_same : (a b : ℕ) (ns ms : List ℕ) → a ≡ b → NumbersRise (a + 1) ns → NumbersRise (b + 1) ms → ((n : ℕ) → among n (a ∷ ns) ≡ among n (b ∷ ms))
    → (n : ℕ) → among n ns ≡ among n ms
numbers_same a b ns ms one r t same n = elim (cases_lt a n) [
  | inl later ↦
      sym (among_tail n a ns (λ at. absurd (omega arith))) ∙ same n ∙ among_tail n b ms (λ at. absurd (omega arith))
  | inr below ↦ among_below ns (a + 1) n r (omega arith) ∙ sym (among_below ms (b + 1) n t (omega arith))
]

one_set : (ns ms : List ℕ) (from from' : ℕ) → NumbersRise from ns → NumbersRise from' ms → ((n : ℕ) → among n ns ≡ among n ms) → ns ≡ ms
one_set [] [] from from' r t same = refl
one_set [] (b ∷ ms) from from' r t same = absurd (let some = same b ∙ among_head b b ms refl in cc)
one_set (a ∷ ns) [] from from' r t same = absurd (let some = sym (same a) ∙ among_head a a ns refl in cc)
one_set (a ∷ ns) (b ∷ ms) from from' r t same = elim (cases_order a b) [
  | inl one ↦
      let tail = one_set ns ms (a + 1) (b + 1) r.1 t.1 (numbers_same a b ns ms one r.1 t.1 same) in
      cc
  | inr o ↦ elim o [
    | inl lt ↦ absurd (number_below a b ns ms (omega arith, t.1) same lt)
    | inr gt ↦ absurd (number_below b a ms ns (omega arith, r.1) (λ n. sym (same n)) gt)
  ]
]

pub events_determine : {I : Type 0} → EventsDetermine I
events_determine {I} b c events s t =
    let last = one_last events b.last c.last s.last t.last in record {
      last = last;
      packets = one_map b.packets c.packets 0 0 s.in_order t.in_order (λ n. s.packets n ∙ ap (λ l. waiting_under events l n) last ∙ sym (t.packets n));
      paddings = one_set b.paddings c.paddings 0 0 s.paddings_in_order t.paddings_in_order (λ n. s.paddings n ∙ ap (λ l. is_kept events l n) last ∙ sym (t.paddings n));
    }
