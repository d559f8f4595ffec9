-- What stands in lists that are joined, mapped and filtered, and lists in which nothing stands twice.
use Rattle.std.proofs.Common.{◌≡◌, ◌⊎◌, inl, inr, Bool, true, false, List, [], ◌∷◌, ◌++◌, map, refl, sym, ap, ◌∙◌, subst}
use Rattle.std.specs.List.{flat_map, list_any, filter}
use Rattle.run_model.specs.Listing.{IsIn, NoRepeat, Leaves, ended, takes, skips}

pub IsIn-left : {X : Type 0} (x : X) (xs ys : List X) → IsIn x xs → IsIn x (xs ++ ys)
IsIn-left x [] ys h = absurd h
IsIn-left x (y ∷ xs) ys (inl e) = inl e
IsIn-left x (y ∷ xs) ys (inr h) = inr (IsIn-left x xs ys h)

pub IsIn-right : {X : Type 0} (x : X) (xs ys : List X) → IsIn x ys → IsIn x (xs ++ ys)
IsIn-right x [] ys h = h
IsIn-right x (y ∷ xs) ys h = inr (IsIn-right x xs ys h)

pub IsIn-append : {X : Type 0} (x : X) (xs ys : List X) → IsIn x (xs ++ ys) → IsIn x xs ⊎ IsIn x ys
IsIn-append x [] ys h = inr h
IsIn-append x (y ∷ xs) ys (inl e) = inl (inl e)
IsIn-append x (y ∷ xs) ys (inr h) = elim (IsIn-append x xs ys h) [ inl i ↦ inl (inr i) | inr i ↦ inr i ]

pub IsIn-map : {X Y : Type 0} (f : X → Y) (x : X) (xs : List X) → IsIn x xs → IsIn (f x) (map f xs)
IsIn-map f x [] h = absurd h
IsIn-map f x (y ∷ xs) (inl e) = inl (ap f e)
IsIn-map f x (y ∷ xs) (inr h) = inr (IsIn-map f x xs h)

pub IsIn-from_map : {X Y : Type 0} (f : X → Y) (y : Y) (xs : List X) → IsIn y (map f xs) → (x : X) × IsIn x xs × (y ≡ f x)
IsIn-from_map f y [] h = absurd h
IsIn-from_map f y (x ∷ xs) (inl e) = (x, inl refl, e)
IsIn-from_map f y (x ∷ xs) (inr h) = let r = IsIn-from_map f y xs h in (r.0, inr r.1, r.2)

pub IsIn-flat_map : {X Y : Type 0} (f : X → List Y) (x : X) (y : Y) (xs : List X) → IsIn x xs → IsIn y (f x) → IsIn y (flat_map f xs)
IsIn-flat_map f x y [] h i = absurd h
IsIn-flat_map f x y (z ∷ xs) (inl e) i = IsIn-left y (f z) (flat_map f xs) (subst (λ w. IsIn y (f w)) e i)
IsIn-flat_map f x y (z ∷ xs) (inr h) i = IsIn-right y (f z) (flat_map f xs) (IsIn-flat_map f x y xs h i)

pub IsIn-from_flat_map : {X Y : Type 0} (f : X → List Y) (y : Y) (xs : List X) → IsIn y (flat_map f xs) → (x : X) × IsIn x xs × IsIn y (f x)
IsIn-from_flat_map f y [] h = absurd h
IsIn-from_flat_map f y (x ∷ xs) h =
    elim (IsIn-append y (f x) (flat_map f xs) h) [
      | inl i ↦ (x, inl refl, i)
      | inr i ↦ let r = IsIn-from_flat_map f y xs i in (r.0, inr r.1, r.2)
    ]

-- what a test says is in `true` or in `false`
pub tested : (b : Bool) → (b ≡ true) ⊎ (b ≡ false)
tested true = inl refl
tested false = inr refl

pub IsIn-filter : {X : Type 0} (p : X → Bool) (x : X) (xs : List X) → IsIn x xs → p x ≡ true → IsIn x (filter p xs)
IsIn-filter p x [] h e = absurd h
IsIn-filter p x (y ∷ xs) (inl is) e = rw (ap p (sym is) ∙ e) (inl is)
IsIn-filter p x (y ∷ xs) (inr h) e =
    elim (tested (p y)) [
      | inl t ↦ rw t (inr (IsIn-filter p x xs h e))
      | inr t ↦ rw t (IsIn-filter p x xs h e)
    ]

pub IsIn-from_filter : {X : Type 0} (p : X → Bool) (x : X) (xs : List X) → IsIn x (filter p xs) → IsIn x xs × (p x ≡ true)
IsIn-from_filter p x [] h = absurd h
IsIn-from_filter p x (y ∷ xs) h =
    elim (tested (p y)) [
      | inl t ↦ elim (rw t at h) [ inl e ↦ (inl e, ap p e ∙ t) | inr i ↦ let r = IsIn-from_filter p x xs i in (inr r.0, r.1) ]
      | inr t ↦ let r = IsIn-from_filter p x xs (rw t at h) in (inr r.0, r.1)
    ]

pub any-from_in : {X : Type 0} (p : X → Bool) (x : X) (xs : List X) → IsIn x xs → p x ≡ true → list_any p xs ≡ true
any-from_in p x [] h e = absurd h
any-from_in p x (y ∷ xs) (inl is) e = rw (ap p (sym is) ∙ e) refl
any-from_in p x (y ∷ xs) (inr h) e = elim (tested (p y)) [ inl t ↦ rw t refl | inr t ↦ rw t (any-from_in p x xs h e) ]

pub in-from_any : {X : Type 0} (p : X → Bool) (xs : List X) → list_any p xs ≡ true → (x : X) × IsIn x xs × (p x ≡ true)
in-from_any p [] h = absurd cc
in-from_any p (y ∷ xs) h =
    elim (tested (p y)) [
      | inl t ↦ (y, inl refl, t)
      | inr t ↦ let r = in-from_any p xs (rw t at h) in (r.0, inr r.1, r.2)
    ]

pub NoRepeat-append : {X : Type 0} (xs ys : List X) → NoRepeat xs → NoRepeat ys → ((x : X) → IsIn x xs → IsIn x ys → ⊥) → NoRepeat (xs ++ ys)
NoRepeat-append [] ys h k apart = k
NoRepeat-append (x ∷ xs) ys h k apart = (
  λ i. elim (IsIn-append x xs ys i) [ inl j ↦ h.0 j | inr j ↦ apart x (inl refl) j ],
  NoRepeat-append xs ys h.1 k (λ z i j. apart z (inr i) j),
)

pub NoRepeat-push : {X : Type 0} (xs : List X) (x : X) → NoRepeat xs → (IsIn x xs → ⊥) → NoRepeat (xs ++ x ∷ [])
NoRepeat-push xs x h new = NoRepeat-append xs (x ∷ []) h (λ i. i, tt) (λ y i j. elim j [ inl e ↦ new (subst (λ z. IsIn z xs) e i) | inr k ↦ k ])

pub filter_none : {X : Type 0} (p : X → Bool) (xs : List X) → ((x : X) → IsIn x xs → p x ≡ false) → filter p xs ≡ []
filter_none p [] none = refl
filter_none p (x ∷ xs) none = rw (none x (inl refl)) (filter_none p xs (λ y i. none y (inr i)))

pub filter-append : {X : Type 0} (p : X → Bool) (xs ys : List X) → filter p (xs ++ ys) ≡ filter p xs ++ filter p ys
filter-append p [] ys = refl
filter-append p (x ∷ xs) ys = elim (tested (p x)) [ inl t ↦ rw t (ap (λ zs. x ∷ zs) (filter-append p xs ys)) | inr t ↦ rw t (filter-append p xs ys) ]

pub filter_all : {X : Type 0} (p : X → Bool) (xs : List X) → ((x : X) → IsIn x xs → p x ≡ true) → filter p xs ≡ xs
filter_all p [] all = refl
filter_all p (x ∷ xs) all = rw (all x (inl refl)) (ap (λ zs. x ∷ zs) (filter_all p xs (λ y i. all y (inr i))))

pub leaves-append : {X : Type 0} {Stays : X → Type 0} {xs ys us vs : List X} → Leaves Stays xs ys → Leaves Stays us vs → Leaves Stays (xs ++ us) (ys ++ vs)
leaves-append ended k = k
leaves-append (takes x h) k = takes x (leaves-append h k)
leaves-append (skips x gone h) k = skips x gone (leaves-append h k)

pub leaves_again : {X : Type 0} {Stays : X → Type 0} {xs ys zs : List X} → Leaves Stays xs ys → Leaves Stays ys zs → Leaves Stays xs zs
leaves_again h ended = h
leaves_again h (skips x gone k) = skips x gone (leaves_again h k)
leaves_again (takes x h) (takes y k) = takes x (leaves_again h k)
leaves_again (skips x gone h) (takes y k) = skips x gone (leaves_again h k)

pub leaves_where : {X : Type 0} {P Q : X → Type 0} {xs ys : List X} → ((x : X) → Q x → P x) → Leaves P xs ys → Leaves Q xs ys
leaves_where f ended = ended
leaves_where f (takes x h) = takes x (leaves_where f h)
leaves_where f (skips x gone h) = skips x (λ q. gone (f x q)) (leaves_where f h)

pub leaves_same : {X : Type 0} {Stays : X → Type 0} (xs : List X) → Leaves Stays xs xs
leaves_same [] = ended
leaves_same (x ∷ xs) = takes x (leaves_same xs)

pub front_nothing : {X : Type 0} (xs ys : List X) → xs ++ ys ≡ [] → xs ≡ []
front_nothing [] ys is = refl
front_nothing (x ∷ xs) ys is = absurd cc

pub back_nothing : {X : Type 0} (xs ys : List X) → xs ++ ys ≡ [] → ys ≡ []
back_nothing [] ys is = is
back_nothing (x ∷ xs) ys is = absurd cc

-- of what is left the first part is left
pub leaves_front : {X : Type 0} {Stays : X → Type 0} {us zs : List X} (xs ys : List X) → us ≡ xs ++ ys → Leaves Stays us zs → Leaves (λ x. ⊥) xs zs
leaves_front xs ys is ended = subst (λ ws. Leaves (λ x. ⊥) ws []) (sym (front_nothing xs ys (sym is))) ended
leaves_front xs ys is (skips x gone h) = skips x (λ none. none) (leaves_front xs ys is h)
leaves_front [] ys is (takes {xs = us} x h) = skips x (λ none. none) (leaves_front [] us refl h)
leaves_front (y ∷ xs) ys is (takes {xs = us} {ys = vs} x h) =
    let head : x ≡ y = cc is in
    let tail : us ≡ xs ++ ys = cc is in
    subst (λ z. Leaves (λ x. ⊥) (z ∷ xs) (x ∷ vs)) head (takes x (leaves_front xs ys tail h))
