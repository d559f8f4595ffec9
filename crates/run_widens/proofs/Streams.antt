-- The streams of a setup, one after another.
use Rattle.std.proofs.Common.{◌≡◌, ◌<◌, ◌+◌, ℕ, Bool, ◌⊎◌, inl, inr, map, List, [], ◌∷◌, ◌++◌, length, take, drop, get_or, Option, Some, sym, ap, ◌∙◌, subst, add-one}
use Rattle.std.specs.Prelude.{IsTrue, ◌↔◌, IfOk, Result, Ok, Err}
use Rattle.std.specs.declared.alloc.AllocError.{AllocError}
use Rattle.std.specs.List.{filter_map, cons_option, flat_map}
use Rattle.std.proofs.Math.Seq.{drop-cons}
use Rattle.std.proofs.lemmas.List.{append-nil, take_more, take-append-drop}
use Rattle.std.proofs.lemmas.List.Elements.{filter_map-append}
use Rattle.std.proofs.lemmas.List.Concat.{flat_map-append}
use Rattle.rtp_wire.specs.declared.extension.ExtensionMap.{ExtensionMap}
use Rattle.media_model.specs.declared.entry.Side.{Side}
use Rattle.media_model.specs.declared.entry.Side.TheVariants.{A, B}
use Rattle.media_model.specs.declared.entry.Entry.{Entry}
use Rattle.media_model.specs.declared.setup.Setup.{Setup}
use Rattle.media_model.specs.Setup.{extensions_of}
use Rattle.media_model.specs.Sides.{peer_of}
use Rattle.run_model.specs.Events.{Outgoing}
use Rattle.run_model.specs.Listing.{IsIn}
use Rattle.run_model.specs.Runs.{RepairsWiden}
use Rattle.run_model.specs.Transcripts.{types_of, happening_of, outgoing_of}
use Rattle.run_model.specs.Widening.{RunWidens}
use Rattle.run_model.specs.Whole.{incoming_of}
use Rattle.run_widens.specs.Widens.{AllWiden}

in_left : {X : Type 0} (x : X) (xs ys : List X) → IsIn x xs → IsIn x (xs ++ ys)
in_left x [] ys h = absurd h
in_left x (z ∷ zs) ys (inl e) = inl e
in_left x (z ∷ zs) ys (inr h) = inr (in_left x zs ys h)

in_right : {X : Type 0} (x : X) (xs ys : List X) → IsIn x ys → IsIn x (xs ++ ys)
in_right x [] ys h = h
in_right x (z ∷ zs) ys h = inr (in_right x zs ys h)

in_either : {X : Type 0} (x : X) (xs ys : List X) → IsIn x (xs ++ ys) → IsIn x xs ⊎ IsIn x ys
in_either x [] ys h = inr h
in_either x (z ∷ zs) ys (inl e) = inl (inl e)
in_either x (z ∷ zs) ys (inr h) = elim (in_either x zs ys h) [ inl a ↦ inl (inr a) | inr b ↦ inr b ]

module _ (setup : Setup) (exts : ExtensionMap) (side : Side) (entries : List Entry) where
  abbrev Widen : List Outgoing → Type 0
  Widen Ls = AllWiden setup exts side Ls entries

  pub widen_both : (xs ys : List Outgoing) → Widen xs → Widen ys → Widen (xs ++ ys)
  widen_both xs ys a b L h = elim (in_either L xs ys h) [ inl p ↦ a L p | inr q ↦ b L q ]

  pub widen_left : (xs ys : List Outgoing) → Widen (xs ++ ys) → Widen xs
  widen_left xs ys a L h = a L (in_left L xs ys h)

  pub widen_right : (xs ys : List Outgoing) → Widen (xs ++ ys) → Widen ys
  widen_right xs ys a L h = a L (in_right L xs ys h)

  module _ {X : Type 0} (xs : List X) (i : ℕ) (lt : i < length xs) (x : X) (is : x ≡ get_or xs i x) where
    front : take (i + 1) xs ≡ take i xs ++ x ∷ []
    front = take_more xs i x lt ∙ ap (λ (y : X). take i xs ++ y ∷ []) (sym is)

    whole : xs ≡ take i xs ++ x ∷ drop (i + 1) xs
    whole = sym (take-append-drop i xs) ∙ ap (λ es. take i xs ++ es) (drop-cons xs i x lt ∙ (λ j. sym is j ∷ drop (sym (add-one i) j) xs))

    -- a section more
    pub section_more : (f : X → List Outgoing) → Widen (flat_map f (take i xs)) → Widen (f x) → Widen (flat_map f (take (i + 1) xs))
    section_more f a b =
        subst Widen (sym (ap (flat_map f) front ∙ flat_map-append f (take i xs) (x ∷ []) ∙ ap (λ ys. flat_map f (take i xs) ++ ys) (append-nil (f x))))
        (widen_both (flat_map f (take i xs)) (f x) a b)

    pub section_stops : (f : X → List Outgoing) → Widen (flat_map f xs) → Widen (f x)
    section_stops f a =
        widen_left (f x) (flat_map f (drop (i + 1) xs))
        (widen_right (flat_map f (take i xs)) (f x ++ flat_map f (drop (i + 1) xs))
        (subst Widen (ap (flat_map f) whole ∙ flat_map-append f (take i xs) (x ∷ drop (i + 1) xs)) a))

    -- a stream more
    pub stream_more : (f : X → Option Outgoing) → Widen (filter_map f (take i xs)) → Widen (cons_option (f x) []) → Widen (filter_map f (take (i + 1) xs))
    stream_more f a b =
        subst Widen (sym (ap (filter_map f) front ∙ filter_map-append f (take i xs) (x ∷ [])))
        (widen_both (filter_map f (take i xs)) (cons_option (f x) []) a b)

    pub stream_stops : (f : X → Option Outgoing) (L : Outgoing) → f x ≡ Some L → Widen (filter_map f xs) → Widen (L ∷ [])
    stream_stops f L is_L a =
        widen_left (L ∷ []) (filter_map f (drop (i + 1) xs))
        (subst (λ o. Widen (cons_option o (filter_map f (drop (i + 1) xs)))) is_L
        (widen_right (filter_map f (take i xs)) (filter_map f (x ∷ drop (i + 1) xs))
        (subst Widen (ap (filter_map f) whole ∙ filter_map-append f (take i xs) (x ∷ drop (i + 1) xs)) a)))

  pub alone : (L : Outgoing) → RepairsWiden (types_of setup) side (incoming_of L) (map (happening_of exts) entries) → Widen (L ∷ [])
  alone L h M (inl e) = subst (λ (x : Outgoing). RepairsWiden (types_of setup) side (incoming_of x) (map (happening_of exts) entries)) (sym e) h
  alone L h M (inr x) = absurd x

  pub none : Widen []
  none M x = absurd x

module _ (setup : Setup) (exts : ExtensionMap) (entries : List Entry) (is : exts ≡ extensions_of setup) where
  -- all that a side receives widens, as these extensions read it
  abbrev pub WidensOn : ExtensionMap → Side → Type 0
  WidensOn x side = AllWiden setup x side (outgoing_of (peer_of side) setup) entries

  both_sides : WidensOn exts A → WidensOn exts B → RunWidens setup entries
  both_sides a b A = subst (λ (x : ExtensionMap). WidensOn x A) is a
  both_sides a b B = subst (λ (x : ExtensionMap). WidensOn x B) is b

  pub of_side : (side : Side) → RunWidens setup entries → WidensOn exts side
  of_side side run = subst (λ (x : ExtensionMap). WidensOn x side) (sym is) (run side)

  -- the answer of the second side, where all that the first one receives widens
  pub second_side : WidensOn exts A → (r : Result Bool AllocError)
      → IfOk r (λ b. IsTrue b ↔ WidensOn exts B) → IfOk r (λ b. IsTrue b ↔ RunWidens setup entries)
  second_side a (Ok b) told = (λ t. both_sides a (told.0 t), λ run. told.1 (of_side B run))
  second_side a (Err e) told = tt
