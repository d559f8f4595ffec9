-- The places of payload types, as one is added.
use Rattle.std.proofs.Common.{◌≡◌, ◌≢◌, ℕ, suc, ◌+◌, ◌<◌, Bool, true, false, cond, not, eqb, ltb, List, [], ◌∷◌, Option, Some, None, length, nat_eq, get_or, refl, sym, ap, ◌∙◌, arith, inl, inr}
use Rattle.std.proofs.lemmas.List.{get_or-set_same, get_or-set_other}
use Rattle.std.proofs.lemmas.Bool.Decides.{eqb_tells, nat_tests}
use borrow.Author.Tests.{lt-ltb}
use Rattle.std.specs.Prelude.{if◌then◌else◌, ◌⊎◌, slice_set}
use Rattle.std.specs.List.{position_or_len}
use Rattle.std.specs.Map.{keys_of}
use Rattle.indexmap.specs.IndexMap.{insert_entry}
use Rattle.stream_core.specs.declared.payload_types.TypeRow.{TypeRow}
use Rattle.stream_core.specs.Repairing.{ArePlaces}
use Rattle.stream_core.specs.Tables.{place_of}

-- a place, counted from one entry before
abbrev one_on : Option ℕ → Option ℕ
one_on None = None
one_on (Some i) = Some (1 + i)

ltb_suc : (n len : ℕ) → ltb (1 + n) (suc len) ≡ ltb n len
ltb_suc n len = grind (arith, nat_tests)

counted_from : (b : Bool) (n len : ℕ)
    → cond (ltb (cond (not b) (1 + n) 0) (suc len)) (Some (cond (not b) (1 + n) 0)) None ≡ cond b (Some 0) (one_on (cond (ltb n len) (Some n) None))
counted_from true n len = ap (λ c. cond c (Some 0) None) (lt-ltb 0 (suc len) (omega arith))
counted_from false n len = ap (λ c. cond c (Some (1 + n)) None) (ltb_suc n len) ∙ by (ltb n len)
  where
    by : (c : Bool) → cond c (Some (1 + n)) None ≡ one_on (cond c (Some n) None)
    by true = refl
    by false = refl

module _ {X : Type 0} (pt : ℕ) where
  -- the place of a key, behind one entry more
  place_cons : (e : ℕ × X) (es : List (ℕ × X)) → place_of pt (e ∷ es) ≡ cond (nat_eq pt e.0) (Some 0) (one_on (place_of pt es))
  place_cons e es = counted_from (nat_eq pt e.0) (position_or_len (nat_eq pt) (keys_of es)) (length (keys_of es))

  -- the places of other keys stay
  place_other : (es : List (ℕ × X)) (k : ℕ) (v : X) → nat_eq pt k ≡ false → place_of pt (insert_entry nat_eq es k v) ≡ place_of pt es
  place_other [] k v apart = place_cons (k, v) [] ∙ ap (λ b. cond b (Some 0) None) apart
  place_other (e ∷ es) k v apart = by (nat_eq k e.0) (place_other es k v apart)
    where
      by : (b : Bool) → place_of pt (insert_entry nat_eq es k v) ≡ place_of pt es → place_of pt (if b then (e.0, v) ∷ es else e ∷ insert_entry nat_eq es k v) ≡ place_of pt (e ∷ es)
      by true rest = refl
      by false rest =
          place_cons e (insert_entry nat_eq es k v)
          ∙ ap (λ o. cond (nat_eq pt e.0) (Some 0) (one_on o)) rest
          ∙ sym (place_cons e es)

-- the place of the type that was added is noted
module _ (types after : List (ℕ × TypeRow)) (row : TypeRow) (places : List (Option ℕ)) (n : ℕ) (place : Option ℕ) (h : ArePlaces places types)
    (added : after ≡ insert_entry nat_eq types row.pt row) (same : n ≡ row.pt) (within : n < length places) (noted : place ≡ place_of row.pt after) where
  put : (pt : ℕ) → pt < 256 → ((eqb pt row.pt ≡ true) × (pt ≡ row.pt)) ⊎ ((eqb pt row.pt ≡ false) × (pt ≢ row.pt)) → get_or (slice_set places n place) pt None ≡ place_of pt after
  put pt fits (inl e) =
      ap (λ k. get_or (slice_set places n place) k None) (e.1 ∙ sym same)
      ∙ get_or-set_same places n place None within
      ∙ noted
      ∙ ap (λ k. place_of k after) (sym e.1)
  put pt fits (inr e) =
      get_or-set_other places n pt place None (λ s. e.1 (s ∙ same))
      ∙ h pt fits
      ∙ sym (ap (place_of pt) added ∙ place_other pt types row.pt row e.0)

  pub places_put : ArePlaces (slice_set places n place) after
  places_put = λ pt fits. put pt fits (eqb_tells pt row.pt)
