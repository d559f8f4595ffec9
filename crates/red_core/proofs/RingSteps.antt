-- One more number in a ring.
use Rattle.std.proofs.Common.{◌≡◌, ◌∙◌, ℕ, ◌+◌, ◌<◌, ◌≤◌, List, [], ◌∷◌, ◌++◌, length, take, drop, sym, ap, add-one, arith}
use Rattle.std.specs.Prelude.{reverse, slice_set}
use Rattle.std.specs.List.{refill}
use Rattle.std.proofs.lemmas.List.{reverse-append, length-reverse, length-append, length-take-le, length-drop, take_all, drop_all, drop-set-lt, take_more_set, take-append-le, append-nil, append_assoc, length-set}
use Rattle.std.proofs.Math.ListN.{set, get_or}
use Rattle.std.proofs.Math.Seq.{drop-cons}
use Rattle.red_core.specs.Ring.{last_first}

module _ {X : Type 0} where
  -- what stands at the end comes first
  put_last : (xs : List X) (k : X) → reverse (xs ++ k ∷ []) ≡ k ∷ reverse xs
  put_last xs k = reverse-append xs (k ∷ [])

  -- all of a ring that is filled from the front
  from_front : (xs : List X) (next : ℕ) → length xs ≤ next → last_first xs next ≡ reverse xs
  from_front xs next long = λ j. reverse (drop_all next xs long j ++ take_all next xs long j)

  -- one more where there is room
  pub pushed : (xs : List X) (next : ℕ) (k : X) → next ≡ length xs → length xs < 32 → last_first (xs ++ k ∷ []) (next + 1) ≡ k ∷ take 31 (last_first xs next)
  pushed xs next k filled room =
      let same : length xs ≤ next = omega (arith, filled) in
      let more : length (xs ++ k ∷ []) ≤ next + 1 = omega (arith, length-append xs (k ∷ []), filled) in
      let few : length (reverse xs) ≤ 31 = omega (arith, length-reverse xs, room) in
      from_front (xs ++ k ∷ []) (next + 1) more ∙ put_last xs k
      ∙ ap (λ l. k ∷ l) (sym (ap (take 31) (from_front xs next same) ∙ take_all 31 (reverse xs) few))

  -- one more in the place of the first
  module _ (xs : List X) (i : ℕ) (k : X) (within : i < length xs) (full : length xs ≡ 32) where
    abbrev rest : List X
    rest = drop (i + 1) xs ++ take i xs

    count : length rest ≡ 31
    count =
        let taken : length (take i xs) ≡ i = length-take-le i xs (omega (arith, within)) in
        omega (arith, length-append (drop (i + 1) xs) (take i xs), length-drop (i + 1) xs, taken, within, full)

    new : last_first (set xs i k) (i + 1) ≡ k ∷ reverse rest
    new =
        let after : i < i + 1 = omega arith in
        ap reverse ((λ j. drop-set-lt (i + 1) xs i k after j ++ take_more_set xs i k within j) ∙ sym (append_assoc (drop (i + 1) xs) (take i xs) (k ∷ []))) ∙ put_last rest k

    before : last_first xs i ≡ reverse rest ++ get_or xs i k ∷ []
    before =
        ap (λ l. reverse (l ++ take i xs)) (drop-cons xs i k within ∙ ap (λ n. get_or xs i k ∷ drop n xs) (sym (add-one i)))
        ∙ reverse-append (get_or xs i k ∷ []) rest

    pub replaced : last_first (set xs i k) (i + 1) ≡ k ∷ take 31 (last_first xs i)
    replaced =
        let long : 31 ≤ length (reverse rest) = omega (arith, length-reverse rest, count) in
        let short : length (reverse rest) ≤ 31 = omega (arith, length-reverse rest, count) in
        new ∙ ap (λ l. k ∷ l) (sym (ap (take 31) before ∙ take-append-le 31 (reverse rest) (get_or xs i k ∷ []) long ∙ take_all 31 (reverse rest) short))

  -- behind the last place stands the first one
  pub turned : (xs : List X) (next : ℕ) → length xs ≤ next → last_first xs 0 ≡ last_first xs next
  turned xs next long = ap reverse (append-nil xs) ∙ sym (from_front xs next long)

  -- what is as long as what it is written over stands in place of all of it
  pub refilled : (xs ws : List X) → length ws ≡ length xs → refill (length xs) xs ws ≡ ws
  refilled xs ws same =
      let none : length xs ≤ length ws = omega (arith, same) in
      let all : length ws ≤ length xs = omega (arith, same) in
      ap (λ l. take (length xs) (ws ++ l)) (drop_all (length ws) xs none) ∙ ap (take (length xs)) (append-nil ws) ∙ take_all (length xs) ws all

  pub rewritten : (xs : List X) (i : ℕ) (k : X) → refill (length xs) xs (slice_set xs i k) ≡ set xs i k
  rewritten xs i k = refilled xs (set xs i k) (length-set xs i k)
