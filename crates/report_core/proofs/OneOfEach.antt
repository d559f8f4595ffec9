-- Moments of one receiver each stay so.
use Rattle.std.proofs.Common.{◌≡◌, ◌≢◌, ℕ, ◌+◌, ◌-◌, ◌==◌, ◌<◌, ◌≤◌, Bool, true, false, cond, nat_lt, List, [], ◌∷◌, ◌++◌, length, drop, get_or, set, Option, Some, None, refl, sym, ap, subst, ◌∙◌, ◌⊎◌, inl, inr, arith, get_or-set_same, get_or-set_other, get_or-drop, length-drop, length-append, length-set}
use Rattle.std.specs.List.{Contains, position, position_or_len}
use Rattle.std.proofs.lemmas.List.{get_or_at}
use Rattle.std.proofs.lemmas.List.Quantifiers.{all_pairs_push, position-Some}
use Rattle.std.proofs.lemmas.List.Sums.{fails_before_first}
use Rattle.report_core.specs.declared.moments.ReceiverMoment.{ReceiverMoment}
use Rattle.report_core.specs.Moments.{held_behind, held_at, IsOneOfEach, MomentsStayOne}

-- without those at the front
pub one_dropped : (n : ℕ) (ms : List ReceiverMoment) → IsOneOfEach ms → IsOneOfEach (drop n ms)
one_dropped n ms one i j d before within =
    let there : n + j < length ms = omega (arith, within, length-drop n ms) in
    subst (λ x. x.ssrc ≢ (get_or (drop n ms) j d).ssrc) (sym (get_or-drop n ms i d))
    (subst (λ y. (get_or ms (n + i) d).ssrc ≢ y.ssrc) (sym (get_or-drop n ms j d)) (one (n + i) (n + j) d (omega (arith, before)) there))

-- behind the others, where none of them is of its receiver
pub one_behind : (latest : ReceiverMoment) (ms : List ReceiverMoment) → IsOneOfEach ms
    → ((k : ℕ) (d : ReceiverMoment) → k < length ms → (get_or ms k d).ssrc ≢ latest.ssrc) → IsOneOfEach (held_behind latest ms)
one_behind latest ms one others =
    one_dropped (length (ms ++ latest ∷ []) - 300) (ms ++ latest ∷ []) (all_pairs_push (λ x y. x.ssrc ≢ y.ssrc) ms latest one others)

-- at the place of its receiver
pub same_receivers : (latest : ReceiverMoment) (ms : List ReceiverMoment) (k : ℕ) → k < length ms
    → ((d : ReceiverMoment) → (get_or ms k d).ssrc ≡ latest.ssrc) → (i : ℕ) (d : ReceiverMoment)
    → (get_or (set ms k latest) i d).ssrc ≡ (get_or ms i d).ssrc
same_receivers latest ms k within same i d =
    elim (decided i k) [
      | inl at ↦ subst (λ j. (get_or (set ms k latest) j d).ssrc ≡ (get_or ms j d).ssrc) (sym at) (ap (λ (m : ReceiverMoment). m.ssrc) (get_or-set_same ms k latest d within) ∙ sym (same d))
      | inr off ↦ ap (λ (m : ReceiverMoment). m.ssrc) (get_or-set_other ms k i latest d off)
    ]
  where
    decided : (x y : ℕ) → (x ≡ y) ⊎ (x ≢ y)
    decided x y = grind arith

pub one_at : (latest : ReceiverMoment) (ms : List ReceiverMoment) (k : ℕ) → k < length ms
    → ((d : ReceiverMoment) → (get_or ms k d).ssrc ≡ latest.ssrc) → IsOneOfEach ms → IsOneOfEach (set ms k latest)
one_at latest ms k within same one i j d before there =
    let inside : j < length ms = omega (arith, there, length-set ms k latest) in
    subst (λ n. n ≢ (get_or (set ms k latest) j d).ssrc) (sym (same_receivers latest ms k within same i d))
    (subst (λ n. (get_or ms i d).ssrc ≢ n) (sym (same_receivers latest ms k within same j d)) (one i j d before inside))

-- no place was found
pub no_place : (a b : ℕ) → cond (nat_lt a b) (Some a) None ≡ None → b ≤ a
no_place a b none = grind (arith, none)

pub not_equal : (a b : ℕ) → (a == b) ≡ false → a ≢ b
not_equal a b differs = grind (arith, differs)

pub equal_at : (a b : ℕ) → (a == b) ≡ true → a ≡ b
equal_at a b same = grind (arith, same)

pub waits_behind : (latest : ReceiverMoment) (ms : List ReceiverMoment) → Contains (held_behind latest ms) latest
waits_behind latest ms =
    let xs : List ReceiverMoment = ms ++ latest ∷ [] in
    let n : ℕ = length xs - 300 in
    let long : length xs ≡ length ms + 1 = length-append ms (latest ∷ []) in
    let place : n + (length ms - n) ≡ length ms = omega (arith, long) in
    let last : get_or xs (length ms) latest ≡ latest = get_or_at ms latest [] latest (length ms) refl in (
      length ms - n,
      omega (arith, long, length-drop n xs),
      get_or-drop n xs (length ms - n) latest ∙ ap (λ k. get_or xs k latest) place ∙ last,
    )

pub placed : (o : Option ℕ) (latest : ReceiverMoment) (ms : List ReceiverMoment) → IsOneOfEach ms
    → position (λ m. m.ssrc == latest.ssrc) ms ≡ o → IsOneOfEach (held_at o latest ms) × Contains (held_at o latest ms) latest
placed None latest ms one none =
    let p : ReceiverMoment → Bool = λ m. m.ssrc == latest.ssrc in
    let past : length ms ≤ position_or_len p ms = no_place (position_or_len p ms) (length ms) none in (
      one_behind latest ms one (λ k d within. not_equal (get_or ms k d).ssrc latest.ssrc (fails_before_first p ms k d (omega (arith, within, past)))),
      waits_behind latest ms,
    )
placed (Some k) latest ms one found =
    let p : ReceiverMoment → Bool = λ m. m.ssrc == latest.ssrc in
    let within : k < length ms = (position-Some p ms k latest found).0 in (
      one_at latest ms k within (λ d. equal_at (get_or ms k d).ssrc latest.ssrc (position-Some p ms k d found).1) one,
      (k, omega (arith, within, length-set ms k latest), get_or-set_same ms k latest latest within),
    )

pub moments_stay_one : MomentsStayOne
moments_stay_one latest ms one =
    let both = placed (position (λ m. m.ssrc == latest.ssrc) ms) latest ms one refl in
    (both.0, both.1, one_dropped 50 ms one)
