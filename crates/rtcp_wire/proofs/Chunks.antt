-- The loops that read the items of a chunk, and the chunks of a description.
use Rattle.std.proofs.Common.{◌≡◌, ℕ, suc, ◌+◌, ◌-◌, ◌<◌, ◌≤◌, inl, inr, List, [], ◌∷◌, ◌++◌, length, take, drop, get_or, Option, Some, None, refl, sym, ap, ◌∙◌, append_assoc, arith, length-append, length-drop, ltb, eq-eqb, Bool, cond, false, true}
use Rattle.std.specs.Option.{option_map, option_and_then}
use Rattle.std.proofs.lemmas.Bool.{cases_lt, lt-ltb, le-ltb, ne_eqb}
use Rattle.std.proofs.lemmas.List.{append-nil, take-append-le, take_all, length-take}
use Rattle.rtcp_items.specs.declared.source.SdesItem.{SdesItem}
use Rattle.rtcp_items.specs.declared.source.Sdes.{Sdes}
use Rattle.rtcp_items.specs.SdesTypes.{sdes_type_of}
use Rattle.rtcp_wire.specs.Descriptions.{sdes_item_at, with_items, with_item, first_31, sdes_items_within, sdes_items_of, sdes_at, chunks_of}

-- the items read so far are the first of all, and those of the rest are the others
pub record IsListed (values : List SdesItem) (left : ℕ) (rest bytes : List ℕ) : Type 0 where
  pub front : List SdesItem
  pub kept : values ≡ take 31 front
  pub so_far : with_items front (sdes_items_within left rest) ≡ sdes_items_of bytes
  pub within : length rest ≤ length bytes

regroup : (front new : List SdesItem) (o : Option (List SdesItem × List ℕ)) → with_items front (with_items new o) ≡ with_items (front ++ new) o
regroup front new None = refl
regroup front new (Some x) = ap (λ (t : List SdesItem). Some (t, x.1)) (sym (append_assoc front new x.0))

unrolled : (n : ℕ) (rest : List ℕ) → 0 < length rest → (get_or rest 0 0 ≡ 0 → ⊥)
    → sdes_items_within (suc n) rest ≡ option_and_then (λ x. with_items (x.0 ∷ []) (sdes_items_within n x.1)) (sdes_item_at rest)
unrolled n [] lt e = absurd (omega arith)
unrolled n (b ∷ rest) lt e = rw (ne_eqb b 0 e) refl

at_zero : (n : ℕ) (rest : List ℕ) → 0 < length rest → get_or rest 0 0 ≡ 0 → sdes_items_within (suc n) rest ≡ Some ([], rest)
at_zero n [] lt e = absurd (omega arith)
at_zero n (b ∷ rest) lt e = rw (eq-eqb b 0 e) refl

kept_more : (front : List SdesItem) (item : SdesItem) → with_item (take 31 front) item ≡ take 31 (front ++ item ∷ [])
kept_more front item = elim (cases_lt (length front) 31) [
  | inl lt ↦
      let all : take 31 front ≡ front = take_all 31 front (omega arith) in
      let t : ltb (length front) 31 ≡ true = lt-ltb _ _ lt in
      rw (all, t) (sym (take_all 31 (front ++ item ∷ []) (omega (arith, length-append front (item ∷ [])))))
  | inr le ↦
      let t : ltb (length (take 31 front)) 31 ≡ false = le-ltb _ _ (omega (arith, length-take 31 front)) in
      rw t (sym (take-append-le 31 front (item ∷ []) le))
]

picked : (b : Bool) (x y : SdesItem × List ℕ) → cond b None (Some x) ≡ Some y → x ≡ y
picked true x y e = absurd cc
picked false x y e = cc

after_short : (bytes after : List ℕ) (item : SdesItem) → sdes_item_at bytes ≡ Some (item, after) → length after ≤ length bytes
unfolding sdes_item_at
after_short bytes after item e =
    let same = picked _ (record { kind = sdes_type_of (get_or bytes 0 0); text = drop 2 (take (2 + get_or bytes 1 0) bytes) }, drop (2 + get_or bytes 1 0) bytes) (item, after) e in
    let a : drop (2 + get_or bytes 1 0) bytes ≡ after = ap (λ (t : SdesItem × List ℕ). t.1) same in
    rw (← a) (omega (arith, length-drop (2 + get_or bytes 1 0) bytes))

pub list_more : (values : List SdesItem) (i : ℕ) (rest after bytes : List ℕ) (item : SdesItem) → i < length bytes → 0 < length rest → (get_or rest 0 0 ≡ 0 → ⊥)
    → sdes_item_at rest ≡ Some (item, after) → IsListed values (length bytes - i) rest bytes
    → IsListed (with_item values item) (length bytes - (i + 1)) after bytes
list_more values i rest after bytes item lt some other found h =
    let k : length bytes - i ≡ suc (length bytes - (i + 1)) = omega arith in
    let so_far = rw (k, unrolled (length bytes - (i + 1)) rest some other, found) at h.so_far in
    record {
      front = h.front ++ item ∷ [];
      kept = rw h.kept (kept_more h.front item);
      so_far = sym (regroup h.front (item ∷ []) (sdes_items_within (length bytes - (i + 1)) after)) ∙ so_far;
      within = omega (arith, h.within, after_short rest after item found);
    }

pub list_ends : (values : List SdesItem) (i : ℕ) (rest bytes : List ℕ) → i < length bytes → 0 < length rest → get_or rest 0 0 ≡ 0
    → IsListed values (length bytes - i) rest bytes → Some (values, rest) ≡ first_31 (sdes_items_of bytes)
list_ends values i rest bytes lt some z h =
    let k : length bytes - i ≡ suc (length bytes - (i + 1)) = omega arith in
    let so_far = rw (k, at_zero (length bytes - (i + 1)) rest some z) at h.so_far in
    let whole : take 31 (h.front ++ []) ≡ values = ap (take 31) (append-nil h.front) ∙ sym h.kept in
    ap (λ (t : List SdesItem). Some (t, rest)) (sym whole) ∙ ap first_31 so_far

-- ---- chunks

-- the chunks read so far, and those of the rest
pub record IsRead (now : List Sdes) (left : ℕ) (rest : List ℕ) (all : Option (List Sdes)) : Type 0 where
  pub so_far : option_map (λ later. now ++ later) (chunks_of left rest) ≡ all

one_more : (now : List Sdes) (new : Sdes) (o : Option (List Sdes)) → option_map (λ later. now ++ later) (option_map (λ later. new ∷ later) o) ≡ option_map (λ later. (now ++ new ∷ []) ++ later) o
one_more now new None = refl
one_more now new (Some x) = ap (λ (t : List Sdes). Some t) (sym (append_assoc now (new ∷ []) x))

pub read_more : (now : List Sdes) (new : Sdes) (count i : ℕ) (rest after : List ℕ) (all : Option (List Sdes)) → i < count → sdes_at rest ≡ Some (new, after)
    → IsRead now (count - i) rest all → IsRead (now ++ new ∷ []) (count - (i + 1)) after all
read_more now new count i rest after all lt found h =
    let k : count - i ≡ suc (count - (i + 1)) = omega arith in
    let so_far = rw (k, found) at h.so_far in
    record { so_far = sym (one_more now new (chunks_of (count - (i + 1)) after)) ∙ so_far }
