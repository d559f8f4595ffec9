-- The round trip is that of the packet of the greatest number.
use Rattle.std.proofs.Common.{◌≡◌, ◌⊎◌, inl, inr, ℕ, suc, ◌≤◌, true, false, cond, ltb, List, [], ◌∷◌, filter, Option, Some, None, refl, sym, arith}
use Rattle.std.specs.Prelude.{All, Contains, fold, is_some}
use Rattle.std.proofs.lemmas.Bool.{ltb-true, ltb-false}
use Rattle.std.proofs.lemmas.List.Elements.{All-nil, All-cons, All-contains}
use Rattle.twcc_core.specs.declared.send.TwccSendRecord.{TwccSendRecord}
use Rattle.twcc_core.specs.Sending.{came, greater_of, greatest_sent, RoundTripIsOfTheGreatest}

abbrev Below : TwccSendRecord → TwccSendRecord → Type 0
Below r other = came other ≡ true → other.id.seq ≤ r.id.seq

some_is : {A : Type 0} (x y : A) → Some x ≡ Some y → x ≡ y
some_is x y e = cc

none_is : (o : Option ℕ) → is_some o ≡ false → o ≡ None
none_is None e = refl
none_is (Some moment) e = absurd cc

in_rest : {X : Type 0} (x y : X) (xs : List X) → Contains xs y → Contains (x ∷ xs) y
in_rest x y xs (k, lt, at) = (suc k, omega (arith, lt), at)

in_front : {X : Type 0} (x : X) (xs : List X) → Contains (x ∷ xs) x
in_front x xs = (0, omega arith, refl)

-- the greatest of a first one and of those behind it that came
record IsGreatest (first : TwccSendRecord) (records : List TwccSendRecord) (best : Option TwccSendRecord) : Type 0 where
  r : TwccSendRecord
  is : best ≡ Some r
  first_below : first.id.seq ≤ r.id.seq
  from : (r ≡ first) ⊎ (Contains records r × (came r ≡ true))
  all_below : All (Below r) records

further : (x r first : TwccSendRecord) (xs : List TwccSendRecord) → (r ≡ first) ⊎ (Contains xs r × (came r ≡ true)) → (r ≡ first) ⊎ (Contains (x ∷ xs) r × (came r ≡ true))
further x r first xs (inl e) = inl e
further x r first xs (inr (at, arrived)) = inr (in_rest x r xs at, arrived)

taken : (x r first : TwccSendRecord) (xs : List TwccSendRecord) → came x ≡ true → (r ≡ x) ⊎ (Contains xs r × (came r ≡ true)) → Contains (x ∷ xs) r × (came r ≡ true)
taken x r first xs arrived (inl e) = rw e (in_front x xs, arrived)
taken x r first xs arrived (inr (at, is)) = (in_rest x r xs at, is)

greatest_from : (first : TwccSendRecord) (records : List TwccSendRecord) → IsGreatest first records (fold greater_of (Some first) (filter came records))
greatest_from first [] = record { r = first; is = refl; first_below = omega arith; from = inl refl; all_below = All-nil (Below first) }
greatest_from first (x ∷ xs) =
    elim (came x) as (λ b. (came x ≡ b) → IsGreatest first (x ∷ xs) (fold greater_of (Some first) (cond b (x ∷ filter came xs) (filter came xs)))) [
      | true ↦ λ arrived. elim (ltb x.id.seq first.id.seq) as (λ b. (ltb x.id.seq first.id.seq ≡ b) → IsGreatest first (x ∷ xs) (fold greater_of (cond b (Some first) (Some x)) (filter came xs))) [
        | true ↦ λ lower.
            let h = greatest_from first xs in
            record { r = h.r; is = h.is; first_below = h.first_below; from = further x h.r first xs h.from; all_below = All-cons (Below h.r) x xs (λ c. omega (arith, h.first_below, ltb-true _ _ lower)) h.all_below }
        | false ↦ λ higher.
            let h = greatest_from x xs in
            record { r = h.r; is = h.is; first_below = omega (arith, h.first_below, ltb-false _ _ higher); from = inr (taken x h.r first xs arrived h.from); all_below = All-cons (Below h.r) x xs (λ c. h.first_below) h.all_below }
      ] refl
      | false ↦ λ missing.
          let h = greatest_from first xs in
          record { r = h.r; is = h.is; first_below = h.first_below; from = further x h.r first xs h.from; all_below = All-cons (Below h.r) x xs (λ c. absurd cc) h.all_below }
    ] refl

-- none came, or one that came is the greatest
record IsNone (records : List TwccSendRecord) (best : Option TwccSendRecord) : Type 0 where
  is : best ≡ None
  none : All (λ r. r.received ≡ None) records

record IsSome (records : List TwccSendRecord) (best : Option TwccSendRecord) : Type 0 where
  r : TwccSendRecord
  is : best ≡ Some r
  inside : Contains records r
  arrived : came r ≡ true
  all_below : All (Below r) records

none_further : (x : TwccSendRecord) (xs : List TwccSendRecord) (best : Option TwccSendRecord) → came x ≡ false → IsNone xs best ⊎ IsSome xs best → IsNone (x ∷ xs) best ⊎ IsSome (x ∷ xs) best
none_further x xs best missing (inl h) = inl (record { is = h.is; none = All-cons (λ r. r.received ≡ None) x xs (none_is x.received missing) h.none })
none_further x xs best missing (inr h) = inr (record { r = h.r; is = h.is; inside = in_rest x h.r xs h.inside; arrived = h.arrived; all_below = All-cons (Below h.r) x xs (λ c. absurd cc) h.all_below })

greatest : (records : List TwccSendRecord) → IsNone records (greatest_sent (filter came records)) ⊎ IsSome records (greatest_sent (filter came records))
greatest [] = inl (record { is = refl; none = All-nil (λ r. r.received ≡ None) })
greatest (x ∷ xs) =
    elim (came x) as (λ b. (came x ≡ b) → IsNone (x ∷ xs) (fold greater_of None (cond b (x ∷ filter came xs) (filter came xs))) ⊎ IsSome (x ∷ xs) (fold greater_of None (cond b (x ∷ filter came xs) (filter came xs)))) [
      | true ↦ λ arrived.
          let h = greatest_from x xs in
          let inside = taken x h.r x xs arrived h.from in
          inr (record { r = h.r; is = h.is; inside = inside.0; arrived = inside.1; all_below = All-cons (Below h.r) x xs (λ c. h.first_below) h.all_below })
      | false ↦ λ missing. none_further x xs (fold greater_of None (filter came xs)) missing (greatest xs)
    ] refl

pub of_the_greatest : RoundTripIsOfTheGreatest
of_the_greatest now records = elim (greatest records) [
  | inl h ↦ (
    λ e. h.none,
    λ all. rw h.is refl,
    λ trip e. let is = rw h.is at e in absurd cc,
  )
  | inr h ↦ (
    λ e. let is = rw h.is at e in absurd cc,
    λ all. let none = All-contains (λ r. r.received ≡ None) records h.r all h.inside in let arrived = h.arrived in let missing = rw none at arrived in absurd cc,
    λ trip e. let is = rw h.is at e in (h.r, h.inside, h.arrived, sym (some_is _ _ is), h.all_below),
  )
]
