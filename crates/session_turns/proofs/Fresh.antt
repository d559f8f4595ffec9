-- Lists of numbers after which the same numbers are fresh.
use Rattle.std.proofs.Common.{◌≡◌, ◌⊎◌, inl, inr, ℕ, ◌+◌, ◌-◌, ◌<◌, ◌≤◌, Bool, true, false, cond, List, [], ◌∷◌, ◌++◌, nat_eq, Option, Some, None, refl, sym, ap, ◌∙◌, subst, arith}
use Rattle.std.specs.Prelude.{◌&&◌, ◌||◌, not, nat_lt, max}
use Rattle.std.specs.List.{list_any}
use Rattle.std.proofs.lemmas.Bool.{eqb-true, ltb-true, ltb-false, lt-ltb, false≢true, or_cases, or_parts, or_from, or_left, or_right, and_parts, and_from, not-true, not_from_false, cases_Bool, cases_lt}
use Rattle.rtp_base.specs.Window.{greatest, is_fresh_rtx, is_fresh_after, with_fresh}
use Rattle.session_turns.specs.Mirrors.{SameNumbers}

greatest-append : (xs : List ℕ) (n : ℕ) → greatest (xs ++ n ∷ []) ≡ max (greatest xs) n
greatest-append [] n = omega arith
greatest-append (x ∷ xs) n = ap (max x) (greatest-append xs n) ∙ omega arith

any-append : (k : ℕ) (xs : List ℕ) (n : ℕ) → list_any (nat_eq k) (xs ++ n ∷ []) ≡ (list_any (nat_eq k) xs || nat_eq k n)
any-append k [] n = elim (nat_eq k n) as (λ b. (b || false) ≡ b) [ true ↦ refl | false ↦ refl ]
any-append k (x ∷ xs) n = ap (λ b. nat_eq k x || b) (any-append k xs n) ∙ or_assoc (nat_eq k x) (list_any (nat_eq k) xs) (nat_eq k n)
  where
    or_assoc : (a b c : Bool) → (a || (b || c)) ≡ ((a || b) || c)
    or_assoc true b c = refl
    or_assoc false b c = refl

below_greatest : (k : ℕ) (xs : List ℕ) → list_any (nat_eq k) xs ≡ true → k ≤ greatest xs
below_greatest k [] e = absurd (false≢true e)
below_greatest k (x ∷ xs) e =
    elim (or_cases (nat_eq k x) (list_any (nat_eq k) xs) e) [
      | inl t ↦ let is : k ≡ x = eqb-true k x t in omega arith
      | inr t ↦ let less : k ≤ greatest xs = below_greatest k xs t in omega arith
    ]

-- freshness, by the greatest number and what is among the numbers
abbrev fresh_by : ℕ → (ℕ → Bool) → ℕ → Bool
fresh_by g a n = nat_lt g n || (nat_lt g (n + 128) && not (a n))

fresh_is : (xs : List ℕ) (n : ℕ) → is_fresh_rtx xs n ≡ fresh_by (greatest xs) (λ k. list_any (nat_eq k) xs) n
fresh_is [] n = sym (or_right (nat_lt 0 n) (nat_lt 0 (n + 128) && true) (and_from (nat_lt 0 (n + 128)) true (lt-ltb 0 (n + 128) (omega arith)) refl))
fresh_is (x ∷ xs) n = refl

bool_same : (x y : Bool) → (x ≡ true → y ≡ true) → (y ≡ true → x ≡ true) → x ≡ y
bool_same true true f g = refl
bool_same true false f g = sym (f refl)
bool_same false true f g = g refl
bool_same false false f g = refl

module _ (g : ℕ) (a : ℕ → Bool) (k : ℕ) where
  fresh_cases : fresh_by g a k ≡ true → (g < k) ⊎ ((g < k + 128) × (a k ≡ false))
  fresh_cases e =
      elim (or_cases (nat_lt g k) (nat_lt g (k + 128) && not (a k)) e) [
        | inl t ↦ inl (ltb-true g k t)
        | inr t ↦ let both = and_parts (nat_lt g (k + 128)) (not (a k)) t in inr (ltb-true g (k + 128) both.0, not-true (a k) both.1)
      ]

  fresh_low : g < k → fresh_by g a k ≡ true
  fresh_low h = or_left (nat_lt g k) (nat_lt g (k + 128) && not (a k)) (lt-ltb g k h)

  fresh_mid : g < k + 128 → a k ≡ false → fresh_by g a k ≡ true
  fresh_mid h none = or_right (nat_lt g k) (nat_lt g (k + 128) && not (a k)) (and_from (nat_lt g (k + 128)) (not (a k)) (lt-ltb g (k + 128) h) (not_from_false (a k) none))

-- the lowest number that is above a floor
abbrev lowest : Option ℕ → ℕ
lowest None = 0
lowest (Some f) = f + 1

-- two lists agree from a number on
record Agrees (lo g h : ℕ) (a b : ℕ → Bool) : Type 0 where
  high : max (lo - 1) g ≡ max (lo - 1) h
  fresh : (n : ℕ) → lo ≤ n → fresh_by g a n ≡ fresh_by h b n

record IsBounded (g : ℕ) (a : ℕ → Bool) : Type 0 where
  bound : (k : ℕ) → a k ≡ true → k ≤ g

abbrev with_one : (ℕ → Bool) → ℕ → ℕ → Bool
with_one a n k = a k || nat_eq k n

none_above : {g : ℕ} {a : ℕ → Bool} → IsBounded g a → (k : ℕ) → g < k → a k ≡ false
none_above {g} {a} bounded k more =
    elim (cases_Bool (a k)) [
      | inl t ↦ let less : k ≤ g = bounded.bound k t in absurd (omega arith)
      | inr t ↦ t
    ]

module _ {lo g h : ℕ} {a b : ℕ → Bool} (agrees : Agrees lo g h a b) (first : IsBounded g a) (second : IsBounded h b) where
  among : (k : ℕ) → lo ≤ k → g < k + 128 → a k ≡ false → b k ≡ false
  among k from near none =
      let high : max (lo - 1) g ≡ max (lo - 1) h = agrees.high in
      elim (cases_lt h k) [
        | inl above ↦ none_above second k above
        | inr below ↦
            let same : h ≡ g = omega arith in
            let here : fresh_by h b k ≡ true = sym (agrees.fresh k from) ∙ fresh_mid g a k near none in
            elim (fresh_cases h b k here) [
              | inl t ↦ absurd (omega arith)
              | inr t ↦ t.1
            ]
      ]

  one_more : (n k : ℕ) → lo ≤ k → fresh_by (max g n) (with_one a n) k ≡ true → fresh_by (max h n) (with_one b n) k ≡ true
  one_more n k from e =
      let high : max (lo - 1) g ≡ max (lo - 1) h = agrees.high in
      elim (fresh_cases (max g n) (with_one a n) k e) [
        | inl t ↦ fresh_low (max h n) (with_one b n) k (omega arith)
        | inr t ↦
            let near : max g n < k + 128 = t.0 in
            let parts = or_parts (a k) (nat_eq k n) t.1 in
            fresh_mid (max h n) (with_one b n) k (omega arith) (or_from (b k) (nat_eq k n) (among k from (omega arith) parts.0) parts.1)
      ]

agrees_back : {lo g h : ℕ} {a b : ℕ → Bool} → Agrees lo g h a b → Agrees lo h g b a
agrees_back agrees = record { high = sym agrees.high; fresh = λ n from. sym (agrees.fresh n from) }

agrees_more : {lo g h : ℕ} {a b : ℕ → Bool} → Agrees lo g h a b → IsBounded g a → IsBounded h b → (n : ℕ)
    → Agrees lo (max g n) (max h n) (with_one a n) (with_one b n)
agrees_more {lo} {g} {h} {a} {b} agrees first second n =
    let high : max (lo - 1) g ≡ max (lo - 1) h = agrees.high in record {
      high = omega arith;
      fresh = λ k from. bool_same _ _ (one_more agrees first second n k from) (one_more (agrees_back agrees) second first n k from);
    }

-- a number that is not fresh changes nothing
stale_forth : (g : ℕ) (a : ℕ → Bool) (n k : ℕ) → (k ≡ n → ⊥) → ((n < k) ⊎ (n ≤ g)) → fresh_by g a k ≡ true → fresh_by (max g n) (with_one a n) k ≡ true
stale_forth g a n k other low e =
    elim (fresh_cases g a k e) [
      | inl t ↦ elim low [
        | inl u ↦ fresh_low (max g n) (with_one a n) k (omega arith)
        | inr u ↦ fresh_low (max g n) (with_one a n) k (omega arith)
      ]
      | inr t ↦
          let near : g < k + 128 = t.0 in
          let not_one : nat_eq k n ≡ false = elim (cases_Bool (nat_eq k n)) [ inl u ↦ absurd (other (eqb-true k n u)) | inr u ↦ u ] in
          elim low [
            | inl u ↦ fresh_mid (max g n) (with_one a n) k (omega arith) (or_from (a k) (nat_eq k n) t.1 not_one)
            | inr u ↦ fresh_mid (max g n) (with_one a n) k (omega arith) (or_from (a k) (nat_eq k n) t.1 not_one)
          ]
    ]

stale_back : (g : ℕ) (a : ℕ → Bool) (n k : ℕ) → fresh_by (max g n) (with_one a n) k ≡ true → fresh_by g a k ≡ true
stale_back g a n k e =
    elim (fresh_cases (max g n) (with_one a n) k e) [
      | inl t ↦ fresh_low g a k (omega arith)
      | inr t ↦
          let near : max g n < k + 128 = t.0 in
          fresh_mid g a k (omega arith) (or_parts (a k) (nat_eq k n) t.1).0
    ]

agrees_stale : (lo g : ℕ) (a : ℕ → Bool) (n : ℕ) → ((n < lo) ⊎ (fresh_by g a n ≡ false)) → Agrees lo g (max g n) a (with_one a n)
agrees_stale lo g a n (inl low) = record {
  high = omega arith;
  fresh = λ k from. bool_same _ _ (stale_forth g a n k (λ is. omega arith) (inl (omega arith))) (stale_back g a n k);
}
agrees_stale lo g a n (inr stale) =
    let below : n ≤ g = elim (cases_lt g n) [ inl t ↦ absurd (false≢true (sym stale ∙ fresh_low g a n t)) | inr t ↦ t ] in record {
      high = omega arith;
      fresh = λ k from. bool_same _ _
          (λ e. stale_forth g a n k (λ is. false≢true (sym stale ∙ subst (λ m. fresh_by g a m ≡ true) is e)) (inr below) e)
          (stale_back g a n k);
    }

-- in the words of the mirrors

abbrev is_in : List ℕ → ℕ → Bool
is_in xs k = list_any (nat_eq k) xs

bounded : (xs : List ℕ) → IsBounded (greatest xs) (is_in xs)
bounded xs = record { bound = λ k e. below_greatest k xs e }

same_agrees : (floor : Option ℕ) (xs ys : List ℕ) → SameNumbers floor xs ys → Agrees (lowest floor) (greatest xs) (greatest ys) (is_in xs) (is_in ys)
same_agrees None xs ys s =
    let high : greatest xs ≡ greatest ys = s.high in record {
      high = omega arith;
      fresh = λ n from. sym (fresh_is xs n) ∙ s.fresh n ∙ fresh_is ys n;
    }
same_agrees (Some f) xs ys s =
    let high : max f (greatest xs) ≡ max f (greatest ys) = s.high in record {
      high = omega arith;
      fresh = λ n from.
          let above : nat_lt f n ≡ true = lt-ltb f n (omega arith) in
          sym (fresh_is xs n) ∙ sym (ap (λ b. b && is_fresh_rtx xs n) above) ∙ s.fresh n ∙ ap (λ b. b && is_fresh_rtx ys n) above ∙ fresh_is ys n;
    }

agrees_same : (floor : Option ℕ) (xs ys : List ℕ) → Agrees (lowest floor) (greatest xs) (greatest ys) (is_in xs) (is_in ys) → SameNumbers floor xs ys
agrees_same None xs ys s =
    let high : max (0 - 1) (greatest xs) ≡ max (0 - 1) (greatest ys) = s.high in record {
      high = omega arith;
      fresh = λ n. fresh_is xs n ∙ s.fresh n (omega arith) ∙ sym (fresh_is ys n);
    }
agrees_same (Some f) xs ys s =
    let high : max (f + 1 - 1) (greatest xs) ≡ max (f + 1 - 1) (greatest ys) = s.high in record {
      high = omega arith;
      fresh = λ n. elim (cases_Bool (nat_lt f n)) [
        | inl t ↦
            let above : f < n = ltb-true f n t in
            ap (λ b. nat_lt f n && b) (fresh_is xs n ∙ s.fresh n (omega arith) ∙ sym (fresh_is ys n))
        | inr t ↦ ap (λ b. b && is_fresh_rtx xs n) t ∙ sym (ap (λ b. b && is_fresh_rtx ys n) t)
      ];
    }

by_append : (xs : List ℕ) (n k : ℕ) → fresh_by (greatest (xs ++ n ∷ [])) (is_in (xs ++ n ∷ [])) k ≡ fresh_by (max (greatest xs) n) (with_one (is_in xs) n) k
by_append xs n k =
    ap (λ (g : ℕ). nat_lt g k || (nat_lt g (k + 128) && not (is_in (xs ++ n ∷ []) k))) (greatest-append xs n)
    ∙ ap (λ b. nat_lt (max (greatest xs) n) k || (nat_lt (max (greatest xs) n) (k + 128) && not b)) (any-append k xs n)

pub same_refl : (floor : Option ℕ) (xs : List ℕ) → SameNumbers floor xs xs
same_refl floor xs = record { high = refl; fresh = λ n. refl }

pub same_then : {floor : Option ℕ} {xs ys zs : List ℕ} → SameNumbers floor xs ys → SameNumbers floor ys zs → SameNumbers floor xs zs
same_then s t = record { high = s.high ∙ t.high; fresh = λ n. s.fresh n ∙ t.fresh n }

-- one more number on both
same_more : (floor : Option ℕ) (xs ys : List ℕ) (n : ℕ) → SameNumbers floor xs ys → SameNumbers floor (xs ++ n ∷ []) (ys ++ n ∷ [])
same_more floor xs ys n s =
    let agrees = agrees_more (same_agrees floor xs ys s) (bounded xs) (bounded ys) n in
    agrees_same floor (xs ++ n ∷ []) (ys ++ n ∷ []) (record {
      high = ap (max (lowest floor - 1)) (greatest-append xs n) ∙ agrees.high ∙ sym (ap (max (lowest floor - 1)) (greatest-append ys n));
      fresh = λ k from. by_append xs n k ∙ agrees.fresh k from ∙ sym (by_append ys n k);
    })

-- one that is not fresh
same_stale : (floor : Option ℕ) (ys : List ℕ) (n : ℕ) → is_fresh_after floor ys n ≡ false → SameNumbers floor ys (ys ++ n ∷ [])
same_stale floor ys n stale =
    let agrees = agrees_stale (lowest floor) (greatest ys) (is_in ys) n (why floor stale) in
    agrees_same floor ys (ys ++ n ∷ []) (record {
      high = agrees.high ∙ sym (ap (max (lowest floor - 1)) (greatest-append ys n));
      fresh = λ k from. agrees.fresh k from ∙ sym (by_append ys n k);
    })
  where
    why : (floor : Option ℕ) → is_fresh_after floor ys n ≡ false → (n < lowest floor) ⊎ (fresh_by (greatest ys) (is_in ys) n ≡ false)
    why None e = inr (sym (fresh_is ys n) ∙ e)
    why (Some f) e = elim (cases_Bool (nat_lt f n)) [
      | inl t ↦ inr (sym (fresh_is ys n) ∙ sym (ap (λ b. b && is_fresh_rtx ys n) t) ∙ e)
      | inr t ↦ let below : n ≤ f = ltb-false f n t in inl (omega arith)
    ]

-- a window that kept the same numbers
pub with_fresh_same : (floor : Option ℕ) (xs ys : List ℕ) (n : ℕ) → SameNumbers floor xs ys → SameNumbers floor (with_fresh floor xs n) (ys ++ n ∷ [])
with_fresh_same floor xs ys n s =
    elim (cases_Bool (is_fresh_after floor xs n)) [
      | inl t ↦ subst (λ (l : List ℕ). SameNumbers floor l (ys ++ n ∷ [])) (sym (ap (λ b. cond b (xs ++ n ∷ []) xs) t)) (same_more floor xs ys n s)
      | inr t ↦ subst (λ (l : List ℕ). SameNumbers floor l (ys ++ n ∷ [])) (sym (ap (λ b. cond b (xs ++ n ∷ []) xs) t))
          (same_then s (same_stale floor ys n (sym (s.fresh n) ∙ t)))
    ]
