-- Lists that a loop goes over, and tables to which a value is added.
use Rattle.std.proofs.Common.{◌≡◌, inl, inr, ℕ, suc, ◌+◌, ◌<◌, Bool, true, false, ◌||◌, List, [], ◌∷◌, ◌++◌, length, map, get_or, take, drop, slice_get, Option, Some, None, is_some, nat_eq, refl, sym, ap, ◌∙◌, subst, append_assoc}
use Rattle.std.specs.Prelude.{◌==◌, option_to_list, option_and_then, position}
use Rattle.std.specs.List.{flat_map, filter_map, cons_option, list_any, AllByRecursion, AllZip}
use Rattle.std.specs.Map.{keys_of, values_of}
use Rattle.std.specs.Option.{option_map, option_map_or}
use Rattle.std.proofs.lemmas.Bool.{eqb-true, eqb-false, eq-eqb, ne_eqb}
use Rattle.std.proofs.lemmas.List.{append-nil, map-append, take_more, take-append-drop}
use Rattle.std.proofs.lemmas.List.Concat.{flat_map-append}
use Rattle.std.proofs.lemmas.List.Elements.{filter_map-append}
use Rattle.indexmap.specs.IndexMap.{insert_entry}
use Rattle.stream_core.specs.Tables.{place_of, value_under, with_new, change_place, change_at}
use Rattle.run_model.specs.Listing.{IsIn, NoRepeat}
use Rattle.media_play.proofs.Keys.{position_first, position_next}
use Rattle.media_play.proofs.Lists.{IsIn-left, IsIn-right, IsIn-append, tested}
use Rattle.run_model.specs.Events.{Outgoing}
use Rattle.media_laws.specs.Rules.{has}
use Rattle.media_play.specs.Starting.{ssrcs_in, AreOnce}

pub NoRepeat-left : {X : Type 0} (xs ys : List X) → NoRepeat (xs ++ ys) → NoRepeat xs
NoRepeat-left [] ys h = tt
NoRepeat-left (x ∷ xs) ys h = (λ i. h.0 (IsIn-left x xs ys i), NoRepeat-left xs ys h.1)

pub NoRepeat-right : {X : Type 0} (xs ys : List X) → NoRepeat (xs ++ ys) → NoRepeat ys
NoRepeat-right [] ys h = h
NoRepeat-right (x ∷ xs) ys h = NoRepeat-right xs ys h.1

pub all_push : {X : Type 0} (P : X → Type 0) (xs : List X) (x : X) → AllByRecursion P xs → P x → AllByRecursion P (xs ++ x ∷ [])
all_push P [] x h p = (p, tt)
all_push P (y ∷ xs) x h p = (h.0, all_push P xs x h.1 p)

pub apart_ends : {X : Type 0} (xs ys : List X) (x : X) → NoRepeat (xs ++ ys) → IsIn x xs → IsIn x ys → ⊥
apart_ends [] ys x h i j = i
apart_ends (z ∷ xs) ys x h (inl e) j = h.0 (IsIn-right z xs ys (subst (λ w. IsIn w ys) e j))
apart_ends (z ∷ xs) ys x h (inr i) j = apart_ends xs ys x h.1 i j

once_left : (xs ys : List Outgoing) → AreOnce (xs ++ ys) → AreOnce xs
once_left xs ys h = NoRepeat-left (flat_map ssrcs_in xs) (flat_map ssrcs_in ys) (subst NoRepeat (flat_map-append ssrcs_in xs ys) h)

-- what a loop has made of the first elements of a list, and makes of one more
module _ {X : Type 0} (made : List X → List Outgoing) (joins : (xs ys : List X) → made (xs ++ ys) ≡ made xs ++ made ys) where
  made_more : (a : List Outgoing) (xs : List X) (i : ℕ) (x : X) → i < length xs → x ≡ get_or xs i x → (a ++ made (take i xs)) ++ made (x ∷ []) ≡ a ++ made (take (i + 1) xs)
  made_more a xs i x within read =
      append_assoc a (made (take i xs)) (made (x ∷ []))
      ∙ ap (λ (zs : List Outgoing). a ++ zs) (sym (joins (take i xs) (x ∷ [])))
      ∙ ap (λ (ys : List X). a ++ made ys) (ap (λ (y : X). take i xs ++ y ∷ []) read ∙ sym (take_more xs i x within))

  once_more : (a : List Outgoing) (xs : List X) (i : ℕ) (x : X) → i < length xs → x ≡ get_or xs i x → AreOnce (a ++ made xs) → AreOnce ((a ++ made (take i xs)) ++ made (x ∷ []))
  once_more a xs i x within read once =
      let whole : a ++ made xs ≡ (a ++ made (take (i + 1) xs)) ++ made (drop (i + 1) xs) =
      ap (λ (ys : List X). a ++ made ys) (sym (take-append-drop (i + 1) xs))
      ∙ ap (λ (zs : List Outgoing). a ++ zs) (joins (take (i + 1) xs) (drop (i + 1) xs))
      ∙ sym (append_assoc a (made (take (i + 1) xs)) (made (drop (i + 1) xs))) in
      subst AreOnce (sym (made_more a xs i x within read))
      (once_left (a ++ made (take (i + 1) xs)) (made (drop (i + 1) xs)) (subst AreOnce whole once))

given : {Y : Type 0} (o : Option Y) → cons_option o [] ≡ option_to_list o
given None = refl
given (Some y) = refl

one_given : {X Y : Type 0} (h : X → Option Y) (x : X) → filter_map h (x ∷ []) ≡ option_to_list (h x)
one_given h x = given (h x)

module _ {X : Type 0} (h : X → Option Outgoing) (a : List Outgoing) (xs : List X) (i : ℕ) (x : X) (within : i < length xs) (read : x ≡ get_or xs i x) where
  pub filter_more : (a ++ filter_map h (take i xs)) ++ option_to_list (h x) ≡ a ++ filter_map h (take (i + 1) xs)
  filter_more = ap (λ (l : List Outgoing). (a ++ filter_map h (take i xs)) ++ l) (sym (one_given h x)) ∙ made_more (filter_map h) (filter_map-append h) a xs i x within read

  pub filter_once : AreOnce (a ++ filter_map h xs) → AreOnce ((a ++ filter_map h (take i xs)) ++ option_to_list (h x))
  filter_once once =
      subst (λ (l : List Outgoing). AreOnce ((a ++ filter_map h (take i xs)) ++ l)) (one_given h x)
      (once_more (filter_map h) (filter_map-append h) a xs i x within read once)

module _ {X : Type 0} (f : X → List Outgoing) (xs : List X) (i : ℕ) (x : X) (within : i < length xs) (read : x ≡ get_or xs i x) where
  pub flat_more : flat_map f (take i xs) ++ f x ≡ flat_map f (take (i + 1) xs)
  flat_more = ap (λ (l : List Outgoing). flat_map f (take i xs) ++ l) (sym (append-nil (f x))) ∙ made_more (flat_map f) (flat_map-append f) [] xs i x within read

  pub flat_once : AreOnce (flat_map f xs) → AreOnce (flat_map f (take i xs) ++ f x)
  flat_once once =
      subst (λ (l : List Outgoing). AreOnce (flat_map f (take i xs) ++ l)) (append-nil (f x))
      (once_more (flat_map f) (flat_map-append f) [] xs i x within read once)

-- pairs of values
pub zip_push : {X Y : Type 0} (R : X → Y → Type 0) (xs : List X) (ys : List Y) (x : X) (y : Y) → AllZip R xs ys → R x y → AllZip R (xs ++ x ∷ []) (ys ++ y ∷ [])
zip_push R [] [] x y h r = (r, tt)
zip_push R [] (z ∷ ys) x y h r = absurd h
zip_push R (z ∷ xs) [] x y h r = absurd h
zip_push R (a ∷ xs) (b ∷ ys) x y h r = (h.0, zip_push R xs ys x y h.1 r)

pub zip_weaker : {X Y : Type 0} (R S : X → Y → Type 0) (xs : List X) (ys : List Y) → ((x : X) (y : Y) → R x y → S x y) → AllZip R xs ys → AllZip S xs ys
zip_weaker R S [] [] says h = tt
zip_weaker R S [] (z ∷ ys) says h = absurd h
zip_weaker R S (z ∷ xs) [] says h = absurd h
zip_weaker R S (a ∷ xs) (b ∷ ys) says h = (says a b h.0, zip_weaker R S xs ys says h.1)

pub zip_keys : {X Y : Type 0} (R : ℕ × X → Y → Type 0) (key : Y → ℕ) → ((e : ℕ × X) (y : Y) → R e y → e.0 ≡ key y) → (es : List (ℕ × X)) (ys : List Y) → AllZip R es ys → keys_of es ≡ map key ys
zip_keys R key says [] [] h = refl
zip_keys R key says [] (z ∷ ys) h = absurd h
zip_keys R key says (z ∷ es) [] h = absurd h
zip_keys R key says (e ∷ es) (y ∷ ys) h = let a = says e y h.0 in let b = zip_keys R key says es ys h.1 in λ i. a i ∷ b i

pub zip_map : {X Y Z : Type 0} (R : X → Z → Type 0) (f : Y → Z) (xs : List X) (ys : List Y) → AllZip (λ x y. R x (f y)) xs ys → AllZip R xs (map f ys)
zip_map R f [] [] h = tt
zip_map R f [] (z ∷ ys) h = absurd h
zip_map R f (z ∷ xs) [] h = absurd h
zip_map R f (a ∷ xs) (b ∷ ys) h = (h.0, zip_map R f xs ys h.1)

-- what some value passes
pub any_left : {X : Type 0} (p : X → Bool) (xs ys : List X) → list_any p xs ≡ true → list_any p (xs ++ ys) ≡ true
any_left p [] ys h = absurd cc
any_left p (x ∷ xs) ys h = elim (tested (p x)) [ inl t ↦ rw t refl | inr t ↦ rw t (any_left p xs ys (rw t at h)) ]

pub any_last : {X : Type 0} (p : X → Bool) (xs : List X) (x : X) → p x ≡ true → list_any p (xs ++ x ∷ []) ≡ true
any_last p [] x h = rw h refl
any_last p (y ∷ xs) x h = elim (tested (p y)) [ inl t ↦ rw t refl | inr t ↦ rw t (any_last p xs x h) ]

-- whether a key has a value

pub flipped : (a b : ℕ) → nat_eq a b ≡ (b == a)
flipped a b =
    elim (tested (nat_eq a b)) [
      | inl t ↦ t ∙ sym (eq-eqb b a (sym (eqb-true a b t)))
      | inr t ↦ t ∙ sym (ne_eqb b a (λ e. eqb-false a b t (sym e)))
    ]

pub place_in : (k : ℕ) (ns : List ℕ) → is_some (position (nat_eq k) ns) ≡ has ns k
place_in k [] = refl
place_in k (n ∷ ns) =
    elim (tested (nat_eq k n)) [
      | inl t ↦ ap is_some (position_first k n ns t) ∙ sym (ap (λ b. b || has ns k) (sym (flipped k n) ∙ t))
      | inr t ↦ ap is_some (position_next k n ns t) ∙ moved (position (nat_eq k) ns) ∙ place_in k ns ∙ sym (ap (λ b. b || has ns k) (sym (flipped k n) ∙ t))
    ]
  where
    moved : (o : Option ℕ) → is_some (option_map suc o) ≡ is_some o
    moved None = refl
    moved (Some i) = refl

absent_has : (k : ℕ) (ns : List ℕ) → (IsIn k ns → ⊥) → has ns k ≡ false
absent_has k [] none = refl
absent_has k (n ∷ ns) none = elim (tested (n == k)) [
  | inl t ↦ absurd (none (inl (sym (eqb-true n k t))))
  | inr t ↦ rw t (absent_has k ns (λ i. none (inr i)))
]

pub place_absent : {X : Type 0} (k : ℕ) (es : List (ℕ × X)) → (IsIn k (keys_of es) → ⊥) → is_some (place_of k es) ≡ false
place_absent k es none = place_in k (keys_of es) ∙ absent_has k (keys_of es) none

-- a key that has a place has one among more entries, and so has that of an entry behind the others
has_left : (k : ℕ) (ns ms : List ℕ) → has ns k ≡ true → has (ns ++ ms) k ≡ true
has_left k [] ms h = absurd cc
has_left k (n ∷ ns) ms h = elim (tested (n == k)) [
  | inl t ↦ ap (λ b. b || has (ns ++ ms) k) t
  | inr t ↦ ap (λ b. b || has (ns ++ ms) k) t ∙ has_left k ns ms (sym (ap (λ b. b || has ns k) t) ∙ h)
]

has_last_one : (k : ℕ) (ns : List ℕ) → has (ns ++ k ∷ []) k ≡ true
has_last_one k [] = ap (λ b. b || false) (eq-eqb k k refl)
has_last_one k (n ∷ ns) = elim (tested (n == k)) [
  | inl t ↦ ap (λ b. b || has (ns ++ k ∷ []) k) t
  | inr t ↦ ap (λ b. b || has (ns ++ k ∷ []) k) t ∙ has_last_one k ns
]

pub place_left : {X : Type 0} (k : ℕ) (es more : List (ℕ × X)) → is_some (place_of k es) ≡ true → is_some (place_of k (es ++ more)) ≡ true
place_left k es more there =
    place_in k (keys_of (es ++ more))
    ∙ ap (λ l. has l k) (map-append (λ e. e.0) es more)
    ∙ has_left k (keys_of es) (keys_of more) (sym (place_in k (keys_of es)) ∙ there)

pub place_last : {X : Type 0} (k : ℕ) (x : X) (es : List (ℕ × X)) → is_some (place_of k (es ++ (k, x) ∷ [])) ≡ true
place_last k x es = place_in k (keys_of (es ++ (k, x) ∷ [])) ∙ ap (λ l. has l k) (map-append (λ e. e.0) es ((k, x) ∷ [])) ∙ has_last_one k (keys_of es)

absent : {X : Type 0} (o : Option ℕ) (es more : List (ℕ × X)) → is_some o ≡ false → option_map_or (λ (i : ℕ). es) o more ≡ more
absent None es more h = refl
absent (Some i) es more h = absurd cc

pub new_last : {X : Type 0} (k : ℕ) (x : X) (es : List (ℕ × X)) → (IsIn k (keys_of es) → ⊥) → with_new k x es ≡ es ++ (k, x) ∷ []
new_last k x es none = absent (place_of k es) es (es ++ (k, x) ∷ []) (place_absent k es none)

pub insert_new : {X : Type 0} (k : ℕ) (x : X) (es : List (ℕ × X)) → (IsIn k (keys_of es) → ⊥) → insert_entry nat_eq es k x ≡ es ++ (k, x) ∷ []
insert_new k x [] none = refl
insert_new k x (e ∷ es) none = elim (tested (nat_eq k e.0)) [
  | inl t ↦ absurd (none (inl (eqb-true k e.0 t)))
  | inr t ↦ rw t (ap (λ l. e ∷ l) (insert_new k x es (λ i. none (inr i))))
]

differ : (k n : ℕ) (ns : List ℕ) → (IsIn k (n ∷ ns) → ⊥) → nat_eq k n ≡ false
differ k n ns none = elim (tested (nat_eq k n)) [ inl t ↦ absurd (none (inl (eqb-true k n t))) | inr t ↦ t ]

module _ {X : Type 0} where
  pub value_first : (k : ℕ) (e : ℕ × X) (es : List (ℕ × X)) → nat_eq k e.0 ≡ true → value_under k (e ∷ es) ≡ Some e.1
  value_first k e es t = ap (option_and_then (slice_get (values_of (e ∷ es)))) (position_first k e.0 (keys_of es) t)

  through : (e : ℕ × X) (es : List (ℕ × X)) (o : Option ℕ) → option_and_then (slice_get (values_of (e ∷ es))) (option_map suc o) ≡ option_and_then (slice_get (values_of es)) o
  through e es None = refl
  through e es (Some i) = refl

  pub value_next : (k : ℕ) (e : ℕ × X) (es : List (ℕ × X)) → nat_eq k e.0 ≡ false → value_under k (e ∷ es) ≡ value_under k es
  value_next k e es t = ap (option_and_then (slice_get (values_of (e ∷ es)))) (position_next k e.0 (keys_of es) t) ∙ through e es (place_of k es)

  change_through : (f : X → X) (e : ℕ × X) (es : List (ℕ × X)) (o : Option ℕ)
      → option_map_or (change_place f (e ∷ es)) (option_map suc o) (e ∷ es) ≡ e ∷ option_map_or (change_place f es) o es
  change_through f e es None = refl
  change_through f e es (Some i) = refl

  change_next : (k : ℕ) (f : X → X) (e : ℕ × X) (es : List (ℕ × X)) → nat_eq k e.0 ≡ false → change_at k f (e ∷ es) ≡ e ∷ change_at k f es
  change_next k f e es t =
      ap (λ (o : Option ℕ). option_map_or (change_place f (e ∷ es)) o (e ∷ es)) (position_next k e.0 (keys_of es) t) ∙ change_through f e es (place_of k es)

  -- a key that has no value changes nothing, and one that stands last changes there
  pub change_none : (k : ℕ) (f : X → X) (es : List (ℕ × X)) → (IsIn k (keys_of es) → ⊥) → change_at k f es ≡ es
  change_none k f [] none = refl
  change_none k f (e ∷ es) none = change_next k f e es (differ k e.0 (keys_of es) none) ∙ ap (λ l. e ∷ l) (change_none k f es (λ i. none (inr i)))

  pub change_last : (k : ℕ) (f : X → X) (x : X) (es : List (ℕ × X)) → (IsIn k (keys_of es) → ⊥) → change_at k f (es ++ (k, x) ∷ []) ≡ es ++ (k, f x) ∷ []
  change_last k f x [] none = ap (λ (o : Option ℕ). option_map_or (change_place f ((k, x) ∷ [])) o ((k, x) ∷ [])) (position_first k k [] (eq-eqb k k refl))
  change_last k f x (e ∷ es) none =
      change_next k f e (es ++ (k, x) ∷ []) (differ k e.0 (keys_of es) none) ∙ ap (λ l. e ∷ l) (change_last k f x es (λ i. none (inr i)))

-- the keys of tables that streams make are their SSRCs
pub keys_among : {X : Type 0} (f : Outgoing → List (ℕ × X)) → ((L : Outgoing) (k : ℕ) → IsIn k (keys_of (f L)) → IsIn k (ssrcs_in L))
    → (Ls : List Outgoing) (k : ℕ) → IsIn k (keys_of (flat_map f Ls)) → IsIn k (flat_map ssrcs_in Ls)
keys_among f says [] k i = absurd i
keys_among f says (L ∷ Ls) k i =
    elim (IsIn-append k (keys_of (f L)) (keys_of (flat_map f Ls)) (subst (IsIn k) (map-append (λ e. e.0) (f L) (flat_map f Ls)) i)) [
      | inl j ↦ IsIn-left k (ssrcs_in L) (flat_map ssrcs_in Ls) (says L k j)
      | inr j ↦ IsIn-right k (ssrcs_in L) (flat_map ssrcs_in Ls) (keys_among f says Ls k j)
    ]

pub mains_among : (Ls : List Outgoing) (k : ℕ) → IsIn k (map (λ (L : Outgoing). L.ssrc) Ls) → IsIn k (flat_map ssrcs_in Ls)
mains_among [] k i = i
mains_among (L ∷ Ls) k (inl e) = inl e
mains_among (L ∷ Ls) k (inr i) = IsIn-right k (ssrcs_in L) (flat_map ssrcs_in Ls) (mains_among Ls k i)

-- an SSRC of a stream behind others is none of theirs
pub strange : (Ls : List Outgoing) (L : Outgoing) (k : ℕ) → AreOnce (Ls ++ L ∷ []) → IsIn k (ssrcs_in L) → IsIn k (flat_map ssrcs_in Ls) → ⊥
strange Ls L k once own i =
    apart_ends (flat_map ssrcs_in Ls) (flat_map ssrcs_in (L ∷ [])) k (subst NoRepeat (flat_map-append ssrcs_in Ls (L ∷ [])) once) i
    (IsIn-left k (ssrcs_in L) [] own)
