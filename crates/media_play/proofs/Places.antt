-- The places of sealed datagrams, as entries are added, and the datagrams that stand there.
use Rattle.std.proofs.Common.{◌≡◌, ◌⊎◌, inl, inr, ℕ, zero, suc, ◌+◌, true, false, cond, Some, Result, Ok, Err, OnOk, OnErr, List, [], ◌∷◌, ◌++◌, length, refl, sym, ap, ◌∙◌, arith, append_assoc, add-zero}
use Rattle.media_model.specs.declared.entry.Sealed.{Sealed as SealedEntry}
use Rattle.std.specs.Prelude.{slice_get}
use Rattle.std.specs.Option.{option_and_then}
use Rattle.std.proofs.lemmas.List.{append-nil, length-append}
use Rattle.std.specs.declared.alloc.AllocError.{AllocError}
use Rattle.media_model.specs.declared.entry.Side.{Side}
use Rattle.media_model.specs.declared.entry.Side.TheVariants.{A, B}
use Rattle.media_model.specs.declared.entry.Entry.{Entry}
use Rattle.media_model.specs.declared.entry.Entry.TheVariants.{Wrote, Ticked, Called, Got, Sealed, Opened, Yielded}
use Rattle.media_model.specs.Sides.{same_side}
use Rattle.media_model.specs.Entries.{datagram_by, datagrams}
use Rattle.media_play.specs.Log.{seals, is_seal, places_from, places, sealed_in, sealed_at}

-- an entry is no seal of the side, or the seal of one datagram
seal_cases : (side : Side) (e : Entry) → ((seals side e ≡ false) × (datagram_by side e ≡ [])) ⊎ ((b : SealedEntry) × (seals side e ≡ true) × (datagram_by side e ≡ b ∷ []) × (sealed_in e ≡ Some b))
seal_cases side (Wrote s t w) = inl (refl, refl)
seal_cases side (Ticked s t) = inl (refl, refl)
seal_cases side (Called s t c) = inl (refl, refl)
seal_cases side (Got g) = inl (refl, refl)
seal_cases side (Opened o) = inl (refl, refl)
seal_cases side (Yielded s p) = inl (refl, refl)
seal_cases side (Sealed s) =
    elim (same_side side s.side) as (λ same. ((same ≡ false) × (cond same (s ∷ []) [] ≡ [])) ⊎ ((c : SealedEntry) × (same ≡ true) × (cond same (s ∷ []) [] ≡ c ∷ []) × (sealed_in (Sealed s) ≡ Some c))) [
      | true ↦ inr (s, refl, refl, refl)
      | false ↦ inl (refl, refl)
    ]

places_from-append : (at : ℕ) (side : Side) (xs ys : List Entry) → places_from at side (xs ++ ys) ≡ places_from at side xs ++ places_from (at + length xs) side ys
places_from-append at side [] ys = ap (λ n. places_from n side ys) (sym (add-zero at))
places_from-append at side (x ∷ xs) ys =
    let more : places_from (at + 1) side (xs ++ ys) ≡ places_from (at + 1) side xs ++ places_from (at + suc (length xs)) side ys =
    places_from-append (at + 1) side xs ys ∙ ap (λ n. places_from (at + 1) side xs ++ places_from n side ys) (omega arith) in
    elim (seals side x) as (λ b. cond b (at ∷ places_from (at + 1) side (xs ++ ys)) (places_from (at + 1) side (xs ++ ys)) ≡ cond b (at ∷ places_from (at + 1) side xs) (places_from (at + 1) side xs) ++ places_from (at + suc (length xs)) side ys) [
      | true ↦ ap (λ l. at ∷ l) more
      | false ↦ more
    ]

-- an entry more
pub places-push : (side : Side) (xs : List Entry) (e : Entry) → places side (xs ++ e ∷ []) ≡ cond (seals side e) (places side xs ++ length xs ∷ []) (places side xs)
places-push side xs e =
    let split : places side (xs ++ e ∷ []) ≡ places side xs ++ cond (seals side e) (length xs ∷ []) [] = places_from-append 0 side xs (e ∷ []) ∙ ap (λ n. places side xs ++ cond (seals side e) (n ∷ []) []) (omega arith) in
    split ∙ elim (seals side e) as (λ b. places side xs ++ cond b (length xs ∷ []) [] ≡ cond b (places side xs ++ length xs ∷ []) (places side xs)) [
      | true ↦ refl
      | false ↦ append-nil (places side xs)
    ]

-- what is no seal is the seal of no side
pub places-other : (side : Side) (xs : List Entry) (e : Entry) → is_seal e ≡ false → places side (xs ++ e ∷ []) ≡ places side xs
places-other side xs (Wrote s t w) h = places-push side xs (Wrote s t w)
places-other side xs (Ticked s t) h = places-push side xs (Ticked s t)
places-other side xs (Called s t c) h = places-push side xs (Called s t c)
places-other side xs (Got g) h = places-push side xs (Got g)
places-other side xs (Opened o) h = places-push side xs (Opened o)
places-other side xs (Yielded s p) h = places-push side xs (Yielded s p)
places-other side xs (Sealed s) h = absurd cc

slice_get-seam : {X : Type 0} (xs : List X) (y : X) (ys : List X) → slice_get (xs ++ y ∷ ys) (length xs) ≡ Some y
slice_get-seam [] y ys = refl
slice_get-seam (x ∷ xs) y ys = slice_get-seam xs y ys

at_places : (side : Side) (past xs : List Entry) (k : ℕ) → option_and_then (sealed_at (past ++ xs)) (slice_get (places_from (length past) side xs) k) ≡ slice_get (datagrams side xs) k
at_places side past [] k = refl
at_places side past (x ∷ xs) k =
    let rest : (j : ℕ) → option_and_then (sealed_at (past ++ x ∷ xs)) (slice_get (places_from (length past + 1) side xs) j) ≡ slice_get (datagrams side xs) j =
    λ j. ap (λ es. option_and_then (sealed_at es) (slice_get (places_from (length past + 1) side xs) j)) (sym (append_assoc past (x ∷ []) xs))
    ∙ ap (λ n. option_and_then (sealed_at ((past ++ x ∷ []) ++ xs)) (slice_get (places_from n side xs) j)) (sym (length-append past (x ∷ [])))
    ∙ at_places side (past ++ x ∷ []) xs j in
    elim (seal_cases side x) [
      | inl other ↦
          ap (λ b. option_and_then (sealed_at (past ++ x ∷ xs)) (slice_get (cond b (length past ∷ places_from (length past + 1) side xs) (places_from (length past + 1) side xs)) k)) other.0
          ∙ rest k ∙ sym (ap (λ l. slice_get (l ++ datagrams side xs) k) other.1)
      | inr seal ↦
          ap (λ b. option_and_then (sealed_at (past ++ x ∷ xs)) (slice_get (cond b (length past ∷ places_from (length past + 1) side xs) (places_from (length past + 1) side xs)) k)) seal.1
          ∙ elim k as (λ j. option_and_then (sealed_at (past ++ x ∷ xs)) (slice_get (length past ∷ places_from (length past + 1) side xs) j) ≡ slice_get (seal.0 ∷ datagrams side xs) j) [
            | zero ↦ ap (option_and_then sealed_in) (slice_get-seam past x xs) ∙ seal.3
            | suc j ↦ rest j
          ]
          ∙ sym (ap (λ l. slice_get (l ++ datagrams side xs) k) seal.2)
    ]

-- the datagrams stand at their places
pub sealed_at-places : (side : Side) (xs : List Entry) (k : ℕ) → option_and_then (sealed_at xs) (slice_get (places side xs) k) ≡ slice_get (datagrams side xs) k
sealed_at-places side xs k = at_places side [] xs k

-- an entry that is no seal leaves all places as they are, also where it is not added
pub kept_places : (places_a places_b : List ℕ) (old new : List Entry) (e : Entry) (r : Result (Unit {0}) AllocError) → places_a ≡ places A old → places_b ≡ places B old → is_seal e ≡ false
    → OnOk r (new ≡ old ++ e ∷ []) → OnErr r (new ≡ old) → (places_a ≡ places A new) × (places_b ≡ places B new)
kept_places places_a places_b old new e (Ok done) in_a in_b other ok err =
    (in_a ∙ sym (ap (places A) ok ∙ places-other A old e other), in_b ∙ sym (ap (places B) ok ∙ places-other B old e other))
kept_places places_a places_b old new e (Err error) in_a in_b other ok err = (in_a ∙ sym (ap (places A) err), in_b ∙ sym (ap (places B) err))

-- a seal has its place among those of its side, and of no other
pub added_place : (side other : Side) (mine mine' theirs : List ℕ) (old new : List Entry) (e : Entry) (at : ℕ) (r : Result (Unit {0}) AllocError) → mine ≡ places side old → theirs ≡ places other old
    → seals side e ≡ true → seals other e ≡ false → at ≡ length old
    → OnOk r (new ≡ old ++ e ∷ []) → OnOk r (mine' ≡ mine ++ at ∷ []) → OnErr r ((new ≡ old) × (mine' ≡ mine)) → (mine' ≡ places side new) × (theirs ≡ places other new)
added_place side other mine mine' theirs old new e at (Ok done) is_mine is_theirs by not_by here ok added err =
    let more : places side new ≡ places side old ++ length old ∷ [] = ap (places side) ok ∙ places-push side old e ∙ ap (λ b. cond b (places side old ++ length old ∷ []) (places side old)) by in
    let same : places other new ≡ places other old = ap (places other) ok ∙ places-push other old e ∙ ap (λ b. cond b (places other old ++ length old ∷ []) (places other old)) not_by in
    (added ∙ ap (λ l. l ++ at ∷ []) is_mine ∙ ap (λ n. places side old ++ n ∷ []) here ∙ sym more, is_theirs ∙ sym same)
added_place side other mine mine' theirs old new e at (Err error) is_mine is_theirs by not_by here ok added err =
    (err.1 ∙ is_mine ∙ sym (ap (places side) err.0), is_theirs ∙ sym (ap (places other) err.0))
