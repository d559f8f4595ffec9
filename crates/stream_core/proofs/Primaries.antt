-- The first type whose packets have repairs of a type, as one more row is looked at.
use Rattle.std.proofs.Common.{◌≡◌, ◌≢◌, ℕ, zero, suc, ◌+◌, ◌<◌, ◌≤◌, Bool, true, false, eqb, List, [], ◌∷◌, Option, Some, None, is_some, not, length, take, slice_get, get_or, refl, sym, ap, ◌∙◌, add-one, inl, inr}
use Rattle.std.proofs.lemmas.List.{get_or-set_same, get_or-set_other, take_all}
use Rattle.std.proofs.lemmas.Bool.Decides.{eqb_tells}
use Rattle.std.proofs.lemmas.Option.{slice_get-get_or}
use Rattle.std.specs.Prelude.{if◌then◌else◌, ◌⊎◌, slice_set}
use Rattle.std.specs.Map.{values_of}
use Rattle.stream_core.specs.declared.payload_types.TypeRow.{TypeRow}
use Rattle.stream_core.specs.Repairing.{is_type, primary_type_of, ArePrimaries}

-- the first of two that there is
abbrev first_some : Option ℕ → Option ℕ → Option ℕ
first_some None o = o
first_some (Some x) o = Some x

first_none : (o : Option ℕ) → first_some o None ≡ o
first_none None = refl
first_none (Some x) = refl

first_there : (o p : Option ℕ) → is_some o ≡ true → first_some o p ≡ o
first_there None p h = absurd cc
first_there (Some x) p h = refl

none_is : (o : Option ℕ) → is_some o ≡ false → o ≡ None
none_is None h = refl
none_is (Some x) h = absurd cc

-- within a list the default is not read
same_within : (xs : List (Option ℕ)) (i : ℕ) (d e : Option ℕ) → i < length xs → get_or xs i d ≡ get_or xs i e
same_within xs i d e within = let same : Some (get_or xs i d) ≡ Some (get_or xs i e) = sym (slice_get-get_or xs i d within) ∙ slice_get-get_or xs i e within in cc

-- what one row says of a type
abbrev of_row : ℕ → Option ℕ → ℕ → Option ℕ
of_row pt rtx primary = if is_type pt rtx then Some primary else None

primary_suc : (es : List (ℕ × TypeRow)) (i : ℕ) (row : TypeRow) (pt : ℕ) → slice_get (values_of es) i ≡ Some row
    → primary_type_of (take (suc i) es) pt ≡ first_some (primary_type_of (take i es) pt) (of_row pt row.rtx row.pt)
primary_suc [] i row pt at = absurd cc
primary_suc (e ∷ es) zero row pt at = let same : e.1 ≡ row = cc in ap (λ (x : TypeRow). of_row pt x.rtx x.pt) same
primary_suc (e ∷ es) (suc i) row pt at = by (is_type pt e.1.rtx) (primary_suc es i row pt at)
  where
    by : (b : Bool) → primary_type_of (take (suc i) es) pt ≡ first_some (primary_type_of (take i es) pt) (of_row pt row.rtx row.pt)
        → (if b then Some e.1.pt else primary_type_of (take (suc i) es) pt) ≡ first_some (if b then Some e.1.pt else primary_type_of (take i es) pt) (of_row pt row.rtx row.pt)
    by true rest = refl
    by false rest = rest

module _ (es : List (ℕ × TypeRow)) (i : ℕ) (row : TypeRow) (at : slice_get (values_of es) i ≡ Some row) (ps : List (Option ℕ)) (h : ArePrimaries ps (take i es)) where
  next : (rtx : Option ℕ) → row.rtx ≡ rtx → (pt : ℕ) → primary_type_of (take (i + 1) es) pt ≡ first_some (primary_type_of (take i es) pt) (of_row pt rtx row.pt)
  next rtx is pt =
      ap (λ n. primary_type_of (take n es) pt) (add-one i)
      ∙ primary_suc es i row pt at
      ∙ ap (λ o. first_some (primary_type_of (take i es) pt) (of_row pt o row.pt)) is

  -- its packets have no repairs
  pub primaries_none : row.rtx ≡ None → ArePrimaries ps (take (i + 1) es)
  primaries_none is = λ pt fits. h pt fits ∙ sym (next None is pt ∙ first_none (primary_type_of (take i es) pt))

  module _ (t n : ℕ) (is : row.rtx ≡ Some t) (same : n ≡ t) (within : n < length ps) (d : Option ℕ) (b : Bool) (told : is_some (get_or ps n d) ≡ not b) where
    read : is_some (get_or ps t None) ≡ not b
    read = ap (λ k. is_some (get_or ps k None)) (sym same) ∙ ap is_some (same_within ps n None d within) ∙ told

    apart : (pt : ℕ) → eqb t pt ≡ false → primary_type_of (take (i + 1) es) pt ≡ primary_type_of (take i es) pt
    apart pt e =
        next (Some t) is pt
        ∙ ap (λ c. first_some (primary_type_of (take i es) pt) (if c then Some row.pt else None)) e
        ∙ first_none (primary_type_of (take i es) pt)

    there : b ≡ false → (pt : ℕ) → pt < 256 → ((eqb t pt ≡ true) × (t ≡ pt)) ⊎ ((eqb t pt ≡ false) × (t ≢ pt))
        → primary_type_of (take (i + 1) es) pt ≡ primary_type_of (take i es) pt
    there not_none pt fits (inl e) =
        next (Some t) is pt
        ∙ first_there (primary_type_of (take i es) pt) (of_row pt (Some t) row.pt)
        (ap is_some (sym (h pt fits)) ∙ ap (λ k. is_some (get_or ps k None)) (sym e.1) ∙ read ∙ ap not not_none)
    there not_none pt fits (inr e) = apart pt e.0

    -- an earlier one has its type of repairs
    pub primaries_there : b ≡ false → ArePrimaries ps (take (i + 1) es)
    primaries_there not_none = λ pt fits. h pt fits ∙ sym (there not_none pt fits (eqb_tells t pt))

    put : b ≡ true → (pt : ℕ) → pt < 256 → ((eqb t pt ≡ true) × (t ≡ pt)) ⊎ ((eqb t pt ≡ false) × (t ≢ pt))
        → get_or (slice_set ps n (Some row.pt)) pt None ≡ primary_type_of (take (i + 1) es) pt
    put none pt fits (inl e) =
        ap (λ k. get_or (slice_set ps n (Some row.pt)) k None) (sym e.1 ∙ sym same)
        ∙ get_or-set_same ps n (Some row.pt) None within
        ∙ sym (next (Some t) is pt
        ∙ ap (λ o. first_some o (of_row pt (Some t) row.pt)) (sym (h pt fits) ∙ ap (λ k. get_or ps k None) (sym e.1) ∙ none_is (get_or ps t None) (read ∙ ap not none))
        ∙ ap (λ c. if c then Some row.pt else None) e.0)
    put none pt fits (inr e) = get_or-set_other ps n pt (Some row.pt) None (λ s. e.1 (sym (s ∙ same))) ∙ h pt fits ∙ sym (apart pt e.0)

    -- none has
    pub primaries_set : b ≡ true → ArePrimaries (slice_set ps n (Some row.pt)) (take (i + 1) es)
    primaries_set none = λ pt fits. put none pt fits (eqb_tells t pt)

-- at the end all rows were looked at
pub primaries_all : (es : List (ℕ × TypeRow)) (i : ℕ) (ps : List (Option ℕ)) → length es ≤ i → ArePrimaries ps (take i es) → ArePrimaries ps es
primaries_all es i ps long h = λ pt fits. h pt fits ∙ ap (λ l. primary_type_of l pt) (take_all i es long)
