-- A ring of slots, in which an entry stands in the slot of its position's remainder.
use Rattle.std.specs.Prelude.{◌≡◌, ℕ, ◌-◌, ◌%◌, Bool, true, false, not, ◌&&◌, ◌==◌, nat_lt, nat_le, if◌then◌else◌, length, List, [], ◌∷◌, slice_index_or, slice_set, Option, Some, None, option_map, fold}
use Rattle.resend_core.specs.declared.ring.Entry.{Entry}

-- the entry, if it is of this position
abbrev pub matching : {T : Type 0} → ℕ → Option (Entry T) → Option (Entry T)
matching p None = None
matching p (Some e) = if e.position == p then Some e else None

abbrev pub slot_of : {T : Type 0} → List (Option (Entry T)) → ℕ → Option (Entry T)
slot_of ring p = slice_index_or ring (p % length ring) None

-- the entry that the ring holds of a position
abbrev pub held : {T : Type 0} → List (Option (Entry T)) → ℕ → Option (Entry T)
held ring p = matching p (slot_of ring p)

-- the index of the slot of a position, where its entry stands there
abbrev pub place_in : {T : Type 0} → List (Option (Entry T)) → ℕ → Option ℕ
place_in {T} ring p = option_map (λ (e : Entry T). p % length ring) (held ring p)

-- an entry may take the slot: of this position, or of a lower one alone
abbrev pub yields_to : {T : Type 0} → ℕ → Option (Entry T) → Bool
yields_to p None = true
yields_to p (Some e) = nat_le e.position p

abbrev pub yields_below : {T : Type 0} → ℕ → Option (Entry T) → Bool
yields_below p None = true
yields_below p (Some e) = nat_lt e.position p

abbrev pub has_room : {T : Type 0} → List (Option (Entry T)) → ℕ → Bool
has_room ring p = yields_to p (slot_of ring p)

abbrev pub is_other : {T : Type 0} → ℕ → Option (Entry T) → Bool
is_other p None = false
is_other p (Some e) = not (e.position == p)

abbrev pub put_in : {T : Type 0} → List (Option (Entry T)) → Entry T → List (Option (Entry T))
put_in ring e = slice_set ring (e.position % length ring) (Some e)

-- the ring after an entry was put in, where no entry of a position no lower stands in its slot
abbrev pub settled : {T : Type 0} → List (Option (Entry T)) → Option (Entry T) → List (Option (Entry T))
settled ring None = ring
settled ring (Some e) = if yields_below e.position (slot_of ring e.position) then put_in ring e else ring

abbrev pub settled_all : {T : Type 0} → List (Option (Entry T)) → List (Option (Entry T)) → List (Option (Entry T))
settled_all ring slots = fold settled ring slots

abbrev pub lower : Option ℕ → ℕ → Option ℕ
lower None p = Some p
lower (Some q) p = if nat_le q p then Some q else Some p

-- the lowest position of the entries that are not older than the age
abbrev pub least_young : {T : Type 0} → ℕ → ℕ → Option ℕ → List (Option (Entry T)) → Option ℕ
least_young now age first [] = first
least_young now age first (None ∷ slots) = least_young now age first slots
least_young now age first (Some e ∷ slots) = least_young now age (if nat_le (now - e.moment) age then lower first e.position else first) slots

abbrev pub is_below : Option ℕ → ℕ → Bool
is_below None p = true
is_below (Some q) p = nat_lt p q

abbrev pub kept_from : {T : Type 0} → Option ℕ → Option (Entry T) → Option (Entry T)
kept_from first None = None
kept_from first (Some e) = if is_below first e.position then None else Some e

abbrev pub is_above : Option ℕ → ℕ → Bool
is_above None p = true
is_above (Some q) p = nat_lt q p

abbrev pub raise : {T : Type 0} → Option ℕ → Option (Entry T) → Option ℕ → Option ℕ
raise last None first = last
raise last (Some e) first = if is_below first e.position && is_above last e.position then Some e.position else last

-- the greatest position of the entries below the first, of any where there is none, and of one more
abbrev pub raised_all : {T : Type 0} → Option ℕ → List (Option (Entry T)) → Option ℕ → Option ℕ
raised_all last [] first = last
raised_all last (slot ∷ slots) first = raised_all (raise last slot first) slots first

-- every entry stands in the slot of its position's remainder
abbrev pub IsInPlace : {T : Type 0} → List (Option (Entry T)) → Type 0
IsInPlace {T} ring = (i : ℕ) (e : Entry T) → slice_index_or ring i None ≡ Some e → e.position % length ring ≡ i
