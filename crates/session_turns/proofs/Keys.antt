-- Values under keys, and where a key stands.
use Rattle.std.proofs.Common.{◌≡◌, inl, inr, ℕ, zero, suc, ◌<◌, Bool, true, false, cond, ltb, ◌||◌, List, [], ◌∷◌, ◌++◌, length, slice_get, nat_eq, Option, Some, None, is_some, refl, sym, ap, ◌∙◌, subst, arith}
use Rattle.std.specs.Prelude.{◌==◌, position, option_and_then}
use Rattle.std.specs.List.{AllByRecursion, AllZip, position_or_len}
use Rattle.std.specs.Map.{keys_of, values_of}
use Rattle.std.specs.Option.{option_map, option_map_or}
use Rattle.std.proofs.lemmas.Bool.{eqb-true, eq-eqb, lt-ltb, le-ltb, ltb-true, ltb-false, false≢true, ne_eqb}
use Rattle.std.proofs.lemmas.Option.{none-some, same_Some}
use Rattle.stream_core.specs.TxRecord.{TxRecord}
use Rattle.stream_core.specs.Tables.{value_under, change_place, change_at, place_of}
use Rattle.session_core.specs.Hearing.{is_own}
use Rattle.session_turns.proofs.Tests.{tested}

pub left_false : (a b : Bool) → (a || b) ≡ false → a ≡ false
left_false true b e = absurd cc
left_false false b e = refl

-- where a key stands

module _ (k : ℕ) where
  abbrev first : List ℕ → ℕ
  first ns = position_or_len (nat_eq k) ns

  at_place : (ns : List ℕ) → first ns < length ns → slice_get ns (first ns) ≡ Some k
  at_place [] within = absurd (omega arith)
  at_place (n ∷ ns) within =
      elim (tested (nat_eq k n)) [
        | inl t ↦ rw t (ap (λ (m : ℕ). Some m) (sym (eqb-true k n t)))
        | inr t ↦
            let rest = rw t at within in
            let more : first (n ∷ ns) ≡ suc (first ns) = rw t (omega arith) in
            subst (λ i. slice_get (n ∷ ns) i ≡ Some k) (sym more) (at_place ns (omega arith))
      ]

  pub position_first : (n : ℕ) (ns : List ℕ) → nat_eq k n ≡ true → position (nat_eq k) (n ∷ ns) ≡ Some 0
  position_first n ns t =
      let at : first (n ∷ ns) ≡ 0 = rw t refl in
      ap (λ m. cond (ltb m (length (n ∷ ns))) (Some m) None) at ∙ ap (λ b. cond b (Some 0) None) (lt-ltb 0 (length (n ∷ ns)) (omega arith))

  pub position_next : (n : ℕ) (ns : List ℕ) → nat_eq k n ≡ false → position (nat_eq k) (n ∷ ns) ≡ option_map suc (position (nat_eq k) ns)
  position_next n ns t =
      let at : first (n ∷ ns) ≡ suc (first ns) = rw t (omega arith) in
      ap (λ m. cond (ltb m (length (n ∷ ns))) (Some m) None) at
      ∙ elim (tested (ltb (first ns) (length ns))) [
        | inl u ↦
            let less = ltb-true (first ns) (length ns) u in
            ap (λ b. cond b (Some (suc (first ns))) None) (lt-ltb (suc (first ns)) (length (n ∷ ns)) (omega (arith, less)))
            ∙ sym (ap (λ b. option_map suc (cond b (Some (first ns)) None)) u)
        | inr u ↦
            let more = ltb-false (first ns) (length ns) u in
            ap (λ b. cond b (Some (suc (first ns))) None) (le-ltb (suc (first ns)) (length (n ∷ ns)) (omega (arith, more)))
            ∙ sym (ap (λ b. option_map suc (cond b (Some (first ns)) None)) u)
      ]

  pub key_at : (ns : List ℕ) (i : ℕ) → position (nat_eq k) ns ≡ Some i → slice_get ns i ≡ Some k
  key_at ns i e =
      elim (tested (ltb (first ns) (length ns))) [
        | inl t ↦
            let found = rw t at e in
            let is : first ns ≡ i = same_Some (first ns) i found in
            subst (λ j. slice_get ns j ≡ Some k) is (at_place ns (ltb-true _ _ t))
        | inr t ↦ let found = rw t at e in absurd (none-some i found)
      ]

-- a value changes at its place, and under its key

module _ {X : Type 0} where
  pub keys_changed : (f : X → X) (es : List (ℕ × X)) (i : ℕ) → keys_of (change_place f es i) ≡ keys_of es
  keys_changed f [] i = refl
  keys_changed f (e ∷ es) zero = refl
  keys_changed f (e ∷ es) (suc i) = ap (λ ns. e.0 ∷ ns) (keys_changed f es i)

  pub keys_changed_at : (f : X → X) (es : List (ℕ × X)) (o : Option ℕ) → keys_of (option_map_or (change_place f es) o es) ≡ keys_of es
  keys_changed_at f es None = refl
  keys_changed_at f es (Some i) = keys_changed f es i

  value_first : (k : ℕ) (e : ℕ × X) (es : List (ℕ × X)) → nat_eq k e.0 ≡ true → value_under k (e ∷ es) ≡ Some e.1
  value_first k e es t = ap (option_and_then (slice_get (values_of (e ∷ es)))) (position_first k e.0 (keys_of es) t)

  through : (e : ℕ × X) (es : List (ℕ × X)) (o : Option ℕ) → option_and_then (slice_get (values_of (e ∷ es))) (option_map suc o) ≡ option_and_then (slice_get (values_of es)) o
  through e es None = refl
  through e es (Some i) = refl

  value_next : (k : ℕ) (e : ℕ × X) (es : List (ℕ × X)) → nat_eq k e.0 ≡ false → value_under k (e ∷ es) ≡ value_under k es
  value_next k e es t = ap (option_and_then (slice_get (values_of (e ∷ es)))) (position_next k e.0 (keys_of es) t) ∙ through e es (place_of k es)

  change_first : (k : ℕ) (f : X → X) (e : ℕ × X) (es : List (ℕ × X)) → nat_eq k e.0 ≡ true → change_at k f (e ∷ es) ≡ (e.0, f e.1) ∷ es
  change_first k f e es t = ap (λ (o : Option ℕ). option_map_or (change_place f (e ∷ es)) o (e ∷ es)) (position_first k e.0 (keys_of es) t)

  change_through : (f : X → X) (e : ℕ × X) (es : List (ℕ × X)) (o : Option ℕ)
      → option_map_or (change_place f (e ∷ es)) (option_map suc o) (e ∷ es) ≡ e ∷ option_map_or (change_place f es) o es
  change_through f e es None = refl
  change_through f e es (Some i) = refl

  change_next : (k : ℕ) (f : X → X) (e : ℕ × X) (es : List (ℕ × X)) → nat_eq k e.0 ≡ false → change_at k f (e ∷ es) ≡ e ∷ change_at k f es
  change_next k f e es t =
      ap (λ (o : Option ℕ). option_map_or (change_place f (e ∷ es)) o (e ∷ es)) (position_next k e.0 (keys_of es) t) ∙ change_through f e es (place_of k es)

  pub value_changed_here : (k : ℕ) (f : X → X) (es : List (ℕ × X)) (x : X) → value_under k es ≡ Some x → value_under k (change_at k f es) ≡ Some (f x)
  value_changed_here k f [] x h = absurd (none-some x h)
  value_changed_here k f (e ∷ es) x h =
      elim (tested (nat_eq k e.0)) [
        | inl t ↦
            ap (value_under k) (change_first k f e es t) ∙ value_first k (e.0, f e.1) es t
            ∙ ap (λ (y : X). Some (f y)) (same_Some e.1 x (sym (value_first k e es t) ∙ h))
        | inr t ↦
            ap (value_under k) (change_next k f e es t) ∙ value_next k e (change_at k f es) t
            ∙ value_changed_here k f es x (sym (value_next k e es t) ∙ h)
      ]

  pub value_changed_other : (j k : ℕ) (f : X → X) (es : List (ℕ × X)) → (j == k) ≡ false → value_under k (change_at j f es) ≡ value_under k es
  value_changed_other j k f [] other = refl
  value_changed_other j k f (e ∷ es) other =
      elim (tested (nat_eq j e.0)) [
        | inl t ↦
            let apart : nat_eq k e.0 ≡ false = elim (tested (nat_eq k e.0)) [
              | inl u ↦ absurd (false≢true (sym other ∙ eq-eqb j k (eqb-true j e.0 t ∙ sym (eqb-true k e.0 u))))
              | inr u ↦ u
            ] in
            ap (value_under k) (change_first j f e es t) ∙ value_next k (e.0, f e.1) es apart ∙ sym (value_next k e es apart)
        | inr t ↦
            ap (value_under k) (change_next j f e es t)
            ∙ elim (tested (nat_eq k e.0)) [
              | inl u ↦ value_first k e (change_at j f es) u ∙ sym (value_first k e es u)
              | inr u ↦ value_next k e (change_at j f es) u ∙ value_changed_other j k f es other ∙ sym (value_next k e es u)
            ]
      ]

-- the value that was written over is the new one, and those under other keys are as they were
pub changed_value : {X : Type 0} (k : ℕ) (new x : X) (es : List (ℕ × X)) → value_under k es ≡ Some x → value_under k (change_at k (λ old. new) es) ≡ Some new
changed_value k new x es h = value_changed_here k (λ old. new) es x h

pub other_value : {X : Type 0} (k j : ℕ) (f : X → X) (es : List (ℕ × X)) → (j ≡ k → ⊥) → value_under j (change_at k f es) ≡ value_under j es
other_value k j f es apart = value_changed_other k j f es (ne_eqb k j (λ e. apart (sym e)))

-- which SSRCs are a session's own depends on the keys of its streams alone
abbrev own_keys : ℕ → List ℕ → ℕ → Bool
own_keys local ks ssrc = ssrc == local || is_some (position (nat_eq ssrc) ks)

pub same_owns : (local : ℕ) (xs ys : List (ℕ × TxRecord)) → keys_of xs ≡ keys_of ys → is_own local xs ≡ is_own local ys
same_owns local xs ys same = ap {A = List ℕ} {B = ℕ → Bool} (own_keys local) same

-- lists
pub all_push : {X : Type 0} (P : X → Type 0) (xs : List X) (x : X) → AllByRecursion P xs → P x → AllByRecursion P (xs ++ x ∷ [])
all_push P [] x h p = (p, tt)
all_push P (y ∷ xs) x h p = (h.0, all_push P xs x h.1 p)

-- a value that changes keeps what its table stands for
pub zip_changed : {X Y : Type 0} (R : ℕ × X → Y → Type 0) (f : X → X) → ((e : ℕ × X) (y : Y) → R e y → R (e.0, f e.1) y)
    → (es : List (ℕ × X)) (ys : List Y) (i : ℕ) → AllZip R es ys → AllZip R (change_place f es i) ys
zip_changed R f keeps [] ys i h = h
zip_changed R f keeps (e ∷ es) [] i h = absurd h
zip_changed R f keeps (e ∷ es) (y ∷ ys) zero h = (keeps e y h.0, h.1)
zip_changed R f keeps (e ∷ es) (y ∷ ys) (suc i) h = (h.0, zip_changed R f keeps es ys i h.1)

pub zip_changed_at : {X Y : Type 0} (R : ℕ × X → Y → Type 0) (f : X → X) → ((e : ℕ × X) (y : Y) → R e y → R (e.0, f e.1) y)
    → (es : List (ℕ × X)) (ys : List Y) (o : Option ℕ) → AllZip R es ys → AllZip R (option_map_or (change_place f es) o es) ys
zip_changed_at R f keeps es ys None h = h
zip_changed_at R f keeps es ys (Some i) h = zip_changed R f keeps es ys i h

pub zip_weaker : {A B : Type 0} (R S : A → B → Type 0) → ((x : A) (y : B) → R x y → S x y) → (xs : List A) (ys : List B) → AllZip R xs ys → AllZip S xs ys
zip_weaker R S says [] [] h = h
zip_weaker R S says [] (y ∷ ys) h = absurd h
zip_weaker R S says (x ∷ xs) [] h = absurd h
zip_weaker R S says (x ∷ xs) (y ∷ ys) h = (says x y h.0, zip_weaker R S says xs ys h.1)
