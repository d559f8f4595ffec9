-- Which rids a media section expects.
use Rattle.std.specs.Prelude.{ℕ, Bool, true, false, List, [], ◌∷◌, ◌++◌, bytes_eq, if◌then◌else◌}
use Rattle.std.specs.List.{list_any}
use Rattle.mapping_core.specs.declared.rids.Rids.{Rids}
use Rattle.mapping_core.specs.declared.rids.Rids.TheVariants.{None as NoRid, Any, Specific}

-- a rid is one of these
abbrev pub is_among : List (List ℕ) → List ℕ → Bool
is_among rids rid = list_any (λ expected. bytes_eq expected rid) rids

abbrev pub expects : Rids → List ℕ → Bool
expects NoRid rid = false
expects Any rid = true
expects (Specific rids) rid = is_among rids rid

-- streams without a rid are refused
abbrev pub is_specific : Rids → Bool
is_specific (Specific rids) = true
is_specific NoRid = false
is_specific Any = false

-- one more rid is expected, behind those that are
abbrev pub with_rid : List ℕ → Rids → Rids
with_rid rid NoRid = Specific (rid ∷ [])
with_rid rid Any = Specific (rid ∷ [])
with_rid rid (Specific rids) = if is_among rids rid then Specific rids else Specific (rids ++ rid ∷ [])
