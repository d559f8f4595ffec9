-- What stands in lists that are joined, mapped and filtered, and lists in which nothing stands twice.
use Rattle.std.proofs.Common.{◌≡◌, ◌⊎◌, inl, inr, Bool, true, false, List, [], ◌∷◌, ◌++◌, refl, sym, ap, ◌∙◌, subst}
use Rattle.std.specs.List.{flat_map, list_any}
use Rattle.media_laws.specs.Listing.{IsIn}

pub IsIn-left : {X : Type 0} (x : X) (xs ys : List X) → IsIn x xs → IsIn x (xs ++ ys)
IsIn-left x [] ys h = absurd h
IsIn-left x (y ∷ xs) ys (inl e) = inl e
IsIn-left x (y ∷ xs) ys (inr h) = inr (IsIn-left x xs ys h)

pub IsIn-right : {X : Type 0} (x : X) (xs ys : List X) → IsIn x ys → IsIn x (xs ++ ys)
IsIn-right x [] ys h = h
IsIn-right x (y ∷ xs) ys h = inr (IsIn-right x xs ys h)

pub IsIn-append : {X : Type 0} (x : X) (xs ys : List X) → IsIn x (xs ++ ys) → IsIn x xs ⊎ IsIn x ys
IsIn-append x [] ys h = inr h
IsIn-append x (y ∷ xs) ys (inl e) = inl (inl e)
IsIn-append x (y ∷ xs) ys (inr h) = elim (IsIn-append x xs ys h) [ inl i ↦ inl (inr i) | inr i ↦ inr i ]

pub IsIn-flat_map : {X Y : Type 0} (f : X → List Y) (x : X) (y : Y) (xs : List X) → IsIn x xs → IsIn y (f x) → IsIn y (flat_map f xs)
IsIn-flat_map f x y [] h i = absurd h
IsIn-flat_map f x y (z ∷ xs) (inl e) i = IsIn-left y (f z) (flat_map f xs) (subst (λ w. IsIn y (f w)) e i)
IsIn-flat_map f x y (z ∷ xs) (inr h) i = IsIn-right y (f z) (flat_map f xs) (IsIn-flat_map f x y xs h i)

-- what a test says is in `true` or in `false`
pub tested : (b : Bool) → (b ≡ true) ⊎ (b ≡ false)
tested true = inl refl
tested false = inr refl

pub any-from_in : {X : Type 0} (p : X → Bool) (x : X) (xs : List X) → IsIn x xs → p x ≡ true → list_any p xs ≡ true
any-from_in p x [] h e = absurd h
any-from_in p x (y ∷ xs) (inl is) e = rw (ap p (sym is) ∙ e) refl
any-from_in p x (y ∷ xs) (inr h) e = elim (tested (p y)) [ inl t ↦ rw t refl | inr t ↦ rw t (any-from_in p x xs h e) ]

pub in-from_any : {X : Type 0} (p : X → Bool) (xs : List X) → list_any p xs ≡ true → (x : X) × IsIn x xs × (p x ≡ true)
in-from_any p [] h = absurd cc
in-from_any p (y ∷ xs) h =
    elim (tested (p y)) [
      | inl t ↦ (y, inl refl, t)
      | inr t ↦ let r = in-from_any p xs (rw t at h) in (r.0, inr r.1, r.2)
    ]
