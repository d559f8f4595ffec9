-- What is purged from the front, where the moments do not fall, is all that is too old.
use Rattle.std.proofs.Common.{◌≡◌, ℕ, ◌-◌, ◌<◌, ◌≤◌, List, [], ◌∷◌, Bool, true, false, length, get_or, cond, subst, refl, ap, ◌∙◌, sym, suc, arith, inl, inr, nat_lt, nat_le}
use Rattle.std.proofs.lemmas.Bool.{cases_lt}
use Rattle.std.proofs.lemmas.Bool.Decides.{nat_tests}
use Rattle.std.proofs.lemmas.List.Kept.{IsNonDecreasingBy-filter}
use Rattle.std.specs.List.{filter}
use Rattle.media_units.specs.History.{purged, recent, IsUnfalling}

-- a filter that each element passes keeps the list
pub filter_passed : {X : Type 0} (p : X → Bool) (xs : List X) → ((k : ℕ) (d : X) → k < length xs → p (get_or xs k d) ≡ true) → filter p xs ≡ xs
filter_passed p [] passes = refl
filter_passed p (x ∷ xs) passes =
    let here : p x ≡ true = passes 0 x (omega arith) in
    rw here (ap (λ l. x ∷ l) (filter_passed p xs (λ k d lt. passes (suc k) d (omega arith))))

lt_true : (m n : ℕ) → m < n → nat_lt m n ≡ true
lt_true m n lt = grind (arith, nat_tests)

lt_false : (m n : ℕ) → n ≤ m → nat_lt m n ≡ false
lt_false m n le = grind (arith, nat_tests)

le_true : (m n : ℕ) → m ≤ n → nat_le m n ≡ true
le_true m n le = grind (arith, nat_tests)

le_false : (m n : ℕ) → n < m → nat_le m n ≡ false
le_false m n lt = grind (arith, nat_tests)

pub purged-unfalling : (limit now : ℕ) (held : List (ℕ × ℕ)) → IsUnfalling held → purged limit now held ≡ recent limit now held
purged-unfalling limit now [] unfalling = refl
purged-unfalling limit now (p ∷ held) unfalling =
    elim (cases_lt limit (now - p.0)) [
      | inl old ↦
          rw (lt_true limit (now - p.0) old, le_false (now - p.0) limit old)
          (purged-unfalling limit now held (λ i j d le lt. unfalling (suc i) (suc j) d (omega arith) (omega arith)))
      | inr young ↦
          rw (lt_false limit (now - p.0) young, le_true (now - p.0) limit young)
          (ap (λ l. p ∷ l) (sym (filter_passed (λ q. nat_le (now - q.0) limit) held
          (λ k d lt. le_true _ _ (omega (arith, young, unfalling 0 (suc k) d (omega arith) (omega arith)))))))
    ]

-- a loop that goes on until nothing is too old has purged
pub purged_all : (limit limit' now : ℕ) (new mid old : List (ℕ × ℕ)) → limit' ≡ limit → new ≡ purged limit' now new → purged limit' now new ≡ purged limit' now mid → purged limit now mid ≡ purged limit now old → IsUnfalling old → new ≡ recent limit now old
purged_all limit limit' now new mid old same done kept rest unfalling =
    done ∙ kept ∙ ap (λ n. purged n now mid) same ∙ rest ∙ purged-unfalling limit now old unfalling

-- what was recent before is all of what is recent now
pub recent-recent : (limit before now : ℕ) (pushes : List (ℕ × ℕ)) → before ≤ now → recent limit now (recent limit before pushes) ≡ recent limit now pushes
recent-recent limit before now [] le = refl
recent-recent limit before now (p ∷ pushes) le =
    let rest = recent-recent limit before now pushes le in
    elim (cases_lt limit (before - p.0)) [
      | inl old ↦ rw (le_false (before - p.0) limit old, le_false (now - p.0) limit (omega arith)) rest
      | inr young ↦
          rw (le_true (before - p.0) limit young)
          (ap (λ (l : List (ℕ × ℕ)). cond (nat_le (now - p.0) limit) (p ∷ l) l) rest)
    ]

-- what is recent among what was held is what is recent among all pushes
pub recent_held : (limit before now : ℕ) (old new pushes : List (ℕ × ℕ)) → IsUnfalling pushes → old ≡ recent limit before pushes → before ≤ now → (IsUnfalling old → new ≡ recent limit now old) → new ≡ recent limit now pushes
recent_held limit before now old new pushes unfalling held le purge =
    let kept = IsNonDecreasingBy-filter (λ (p : ℕ × ℕ). p.0) (λ (p : ℕ × ℕ). nat_le (before - p.0) limit) pushes unfalling in
    purge (subst IsUnfalling (sym held) kept) ∙ ap (recent limit now) held ∙ recent-recent limit before now pushes le
