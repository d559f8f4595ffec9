-- The rows of types as claims, as one is put.
use Rattle.std.proofs.Common.{◌≡◌, ℕ, suc, true, false, cond, ltb, List, [], ◌∷◌, ◌++◌, Option, Some, None, length, nat_eq, refl, sym, ap, ◌∙◌, arith, inl, inr}
use Rattle.std.proofs.lemmas.Bool.{lt-ltb, le-ltb, ltb-true, ltb-false, cases_Bool}
use Rattle.std.specs.Prelude.{slice_set, position, if◌then◌else◌}
use Rattle.std.specs.List.{position_or_len}
use Rattle.std.specs.Map.{keys_of}
use Rattle.std.specs.Option.{option_map, option_map_or}
use Rattle.indexmap.specs.IndexMap.{insert_entry}
use Rattle.mapping_core.specs.declared.claim.TypeClaim.{TypeClaim}
use Rattle.stream_core.specs.declared.payload_types.TypeRow.{TypeRow}
use Rattle.stream_core.specs.Repairing.{claim_in, claims_in}
use Rattle.stream_core.specs.Tables.{place_of}

module _ (k : ℕ) where
  abbrev first : List ℕ → ℕ
  first ns = position_or_len (nat_eq k) ns

  position_first : (n : ℕ) (ns : List ℕ) → nat_eq k n ≡ true → position (nat_eq k) (n ∷ ns) ≡ Some 0
  position_first n ns t =
      let at : first (n ∷ ns) ≡ 0 = rw t refl in
      ap (λ m. cond (ltb m (length (n ∷ ns))) (Some m) None) at ∙ ap (λ b. cond b (Some 0) None) (lt-ltb 0 (length (n ∷ ns)) (omega arith))

  position_next : (n : ℕ) (ns : List ℕ) → nat_eq k n ≡ false → position (nat_eq k) (n ∷ ns) ≡ option_map suc (position (nat_eq k) ns)
  position_next n ns t =
      let at : first (n ∷ ns) ≡ suc (first ns) = rw t (omega arith) in
      ap (λ m. cond (ltb m (length (n ∷ ns))) (Some m) None) at
      ∙ elim (cases_Bool (ltb (first ns) (length ns))) [
        | inl u ↦
            let less = ltb-true (first ns) (length ns) u in
            ap (λ b. cond b (Some (suc (first ns))) None) (lt-ltb (suc (first ns)) (length (n ∷ ns)) (omega (arith, less)))
            ∙ sym (ap (λ b. option_map suc (cond b (Some (first ns)) None)) u)
        | inr u ↦
            let more = ltb-false (first ns) (length ns) u in
            ap (λ b. cond b (Some (suc (first ns))) None) (le-ltb (suc (first ns)) (length (n ∷ ns)) (omega (arith, more)))
            ∙ sym (ap (λ b. option_map suc (cond b (Some (first ns)) None)) u)
      ]

  module _ (row : TypeRow) where
    -- the claims with one in a place, or behind the others
    abbrev pub put : List TypeClaim → Option ℕ → List TypeClaim
    put cs o = option_map_or (λ i. slice_set cs i (claim_in row)) o (cs ++ claim_in row ∷ [])

    behind : (c : TypeClaim) (cs : List TypeClaim) (o : Option ℕ) → c ∷ put cs o ≡ put (c ∷ cs) (option_map suc o)
    behind c cs None = refl
    behind c cs (Some i) = refl

    pub claims_put : (es : List (ℕ × TypeRow)) → claims_in (insert_entry nat_eq es k row) ≡ put (claims_in es) (place_of k es)
    claims_put [] = refl
    claims_put (e ∷ es) = elim (cases_Bool (nat_eq k e.0)) [
      | inl same ↦
          ap (λ b. claims_in (if b then (e.0, row) ∷ es else e ∷ insert_entry nat_eq es k row)) same
          ∙ sym (ap (put (claims_in (e ∷ es))) (position_first e.0 (keys_of es) same))
      | inr other ↦
          ap (λ b. claims_in (if b then (e.0, row) ∷ es else e ∷ insert_entry nat_eq es k row)) other
          ∙ ap (λ l. claim_in e.1 ∷ l) (claims_put es)
          ∙ behind (claim_in e.1) (claims_in es) (place_of k es)
          ∙ sym (ap (put (claims_in (e ∷ es))) (position_next e.0 (keys_of es) other))
    ]
