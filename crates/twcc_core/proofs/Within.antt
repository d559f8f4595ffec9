-- The records of numbers in a row stand between two places.
use Rattle.std.proofs.Common.{◌≡◌, ℕ, suc, ◌+◌, ◌-◌, ◌<◌, ◌≤◌, true, false, leb, ltb, ◌&&◌, List, [], ◌∷◌, ◌++◌, length, take, drop, map, get_or, Option, None, refl, sym, ap, subst, ◌∙◌, arith, length-drop}
use Rattle.std.specs.Prelude.{slice_get, slice_range, unwrap_or, min}
use Rattle.std.specs.List.{filter_map, cons_option, AllWithin}
use Rattle.std.specs.List.Sorted.{IsNonDecreasingBy}
use Rattle.std.specs.Option.{option_map}
use Rattle.std.proofs.lemmas.Bool.{le-ltb, lt-ltb, lt-leb, leb-true, leb-false, ltb-true, ltb-false}
use Rattle.std.proofs.lemmas.List.{take-append-drop, drop-drop, get_or-take, get_or-drop, map-append, append-nil, length-take}
use Rattle.std.proofs.lemmas.List.Elements.{filter_map-append}
use Rattle.std.proofs.lemmas.Option.{slice_get_past}
use Rattle.twcc_core.specs.declared.send.TwccSendRecord.{TwccSendRecord}
use Rattle.twcc_core.specs.Sending.{IsWithin, is_among, moment_told, with_report, record_told, after_told}
use Rattle.twcc_core.proofs.Marking.{IsDone}

not_told : (first : ℕ) (moments : List (Option ℕ)) (now : ℕ) (r : TwccSendRecord) → is_among first (length moments) r ≡ false → record_told first moments now r ≡ None
not_told first moments now r out =
    elim (leb first r.id.seq) as (λ b. (leb first r.id.seq ≡ b) → b && ltb r.id.seq (first + length moments) ≡ false → record_told first moments now r ≡ None) [
      | true ↦ λ low high.
          let b : ltb r.id.seq first ≡ false = le-ltb _ _ (leb-true _ _ low) in
          let past : slice_get moments (r.id.seq - first) ≡ None = slice_get_past moments (r.id.seq - first) (omega (arith, ltb-false _ _ high, leb-true _ _ low)) in
          let none : moment_told first moments r.id.seq ≡ None = rw b past in
          ap (option_map (with_report now r)) none
      | false ↦ λ low _.
          let b : ltb r.id.seq first ≡ true = lt-ltb _ _ (leb-false _ _ low) in
          let none : moment_told first moments r.id.seq ≡ None = rw b refl in
          ap (option_map (with_report now r)) none
    ] refl out

-- records that are not told
none_told : (first : ℕ) (moments : List (Option ℕ)) (now : ℕ) (xs : List TwccSendRecord) → AllWithin (λ r. is_among first (length moments) r ≡ false) xs 0 (length xs) → filter_map (record_told first moments now) xs ≡ []
none_told first moments now [] h = refl
none_told first moments now (x ∷ xs) h =
    let here = not_told first moments now x (h 0 x (omega arith) (omega arith)) in
    ap (λ (o : Option TwccSendRecord). cons_option o (filter_map (record_told first moments now) xs)) here ∙ none_told first moments now xs (λ k d low high. h (suc k) d (omega arith) (omega (arith, high)))

none_marked : (first : ℕ) (moments : List (Option ℕ)) (now : ℕ) (xs : List TwccSendRecord) → AllWithin (λ r. is_among first (length moments) r ≡ false) xs 0 (length xs) → map (after_told first moments now) xs ≡ xs
none_marked first moments now [] h = refl
none_marked first moments now (x ∷ xs) h =
    let here : after_told first moments now x ≡ x = ap (λ (o : Option TwccSendRecord). unwrap_or o x) (not_told first moments now x (h 0 x (omega arith) (omega arith))) in
    ap (λ (y : TwccSendRecord). y ∷ map (after_told first moments now) xs) here ∙ ap (λ (ys : List TwccSendRecord). x ∷ ys) (none_marked first moments now xs (λ k d low high. h (suc k) d (omega arith) (omega (arith, high))))

outside_front : (first n : ℕ) (xs : List TwccSendRecord) (s : ℕ) → AllWithin (λ r. is_among first n r ≡ false) xs 0 s → AllWithin (λ r. is_among first n r ≡ false) (take s xs) 0 (length (take s xs))
outside_front first n xs s h k d low high =
    let lt : k < s = omega (arith, high, length-take s xs) in
    ap (is_among first n) (get_or-take s xs k d lt) ∙ h k d (omega arith) lt

outside_back : (first n : ℕ) (xs : List TwccSendRecord) (e : ℕ) → AllWithin (λ r. is_among first n r ≡ false) xs e (length xs) → AllWithin (λ r. is_among first n r ≡ false) (drop e xs) 0 (length (drop e xs))
outside_back first n xs e h k d low high = ap (is_among first n) (get_or-drop e xs k d) ∙ h (e + k) d (omega arith) (omega (arith, high, length-drop e xs))

-- the three parts
parted : (xs : List TwccSendRecord) (s e : ℕ) → s ≤ e → take s xs ++ (slice_range xs s e ++ drop e xs) ≡ xs
parted xs s e le =
    let k : s + (e - s) ≡ e = omega (arith, le) in
    let back : drop (e - s) (drop s xs) ≡ drop e xs = drop-drop (e - s) s xs ∙ ap (λ (i : ℕ). drop i xs) k in
    ap (λ (ys : List TwccSendRecord). take s xs ++ (slice_range xs s e ++ ys)) (sym back) ∙ ap (λ (ys : List TwccSendRecord). take s xs ++ ys) (take-append-drop (e - s) (drop s xs)) ∙ take-append-drop s xs

pub told_within : (first : ℕ) (moments : List (Option ℕ)) (now : ℕ) (xs : List TwccSendRecord) (s e : ℕ) → IsWithin first (length moments) xs s e
    → filter_map (record_told first moments now) (slice_range xs s e) ≡ filter_map (record_told first moments now) xs
told_within first moments now xs s e h =
    let f : TwccSendRecord → Option TwccSendRecord = record_told first moments now in
    let front = none_told first moments now (take s xs) (outside_front first (length moments) xs s h.before) in
    let back = none_told first moments now (drop e xs) (outside_back first (length moments) xs e h.after) in
    let mid : List TwccSendRecord = slice_range xs s e in
    sym (
    ap (filter_map f) (sym (parted xs s e h.order))
    ∙ filter_map-append f (take s xs) (mid ++ drop e xs)
    ∙ ap (λ (ys : List TwccSendRecord). ys ++ filter_map f (mid ++ drop e xs)) front
    ∙ filter_map-append f mid (drop e xs)
    ∙ ap (λ (ys : List TwccSendRecord). filter_map f mid ++ ys) back
    ∙ append-nil (filter_map f mid)
    )

-- the loop that marks the records between two places
pub marking_starts : (first : ℕ) (moments : List (Option ℕ)) (now : ℕ) (xs : List TwccSendRecord) (s e : ℕ) → IsWithin first (length moments) xs s e → IsDone (after_told first moments now) s xs xs
marking_starts first moments now xs s e h =
    let front = none_marked first moments now (take s xs) (outside_front first (length moments) xs s h.before) in
    record { so_far = sym (ap (λ (ys : List TwccSendRecord). ys ++ drop s xs) front ∙ take-append-drop s xs) }

pub marking_ends : (first : ℕ) (moments : List (Option ℕ)) (now : ℕ) (xs new : List TwccSendRecord) (s e i : ℕ) → IsWithin first (length moments) xs s e → e ≤ i → i ≤ e → IsDone (after_told first moments now) i xs new
    → new ≡ map (after_told first moments now) xs
marking_ends first moments now xs new s e i h low high done =
    let f : TwccSendRecord → TwccSendRecord = after_told first moments now in
    let same : i ≡ e = omega (arith, low, high) in
    let back = none_marked first moments now (drop e xs) (outside_back first (length moments) xs e h.after) in
    let at : new ≡ map f (take e xs) ++ drop e xs = rw same at done.so_far in
    at ∙ ap (λ (ys : List TwccSendRecord). map f (take e xs) ++ ys) (sym back) ∙ sym (map-append f (take e xs) (drop e xs)) ∙ ap (map f) (take-append-drop e xs)

-- where records are in order
pub between : (first n : ℕ) (xs : List TwccSendRecord) (start end : ℕ) → end ≤ length xs → AllWithin (λ r. r.id.seq < first) xs 0 start → AllWithin (λ r. n ≤ r.id.seq - first) xs end (length xs) → IsWithin first n xs (min start end) end
between first n xs start end le low high = record {
  order = omega arith;
  bound = le;
  before = λ k d z lt. let b : leb first (get_or xs k d).id.seq ≡ false = lt-leb _ _ (low k d (omega arith) (omega (arith, lt))) in rw b refl;
  after = λ k d from lt. out (get_or xs k d) (high k d from lt);
}
  where
    out : (r : TwccSendRecord) → n ≤ r.id.seq - first → is_among first n r ≡ false
    out r far =
        elim (leb first r.id.seq) as (λ b. (leb first r.id.seq ≡ b) → b && ltb r.id.seq (first + n) ≡ false) [
          | true ↦ λ at. le-ltb _ _ (omega (arith, far, leb-true _ _ at))
          | false ↦ λ at. refl
        ] refl

pub anywhere : (first n : ℕ) (xs : List TwccSendRecord) → IsWithin first n xs 0 (length xs)
anywhere first n xs = record {
  order = omega arith;
  bound = omega arith;
  before = λ k d z lt. absurd (omega (arith, lt));
  after = λ k d from lt. absurd (omega (arith, from, lt));
}

-- what a bisection finds
pub point_below : (xs ys : List TwccSendRecord) (number i : ℕ) → xs ≡ ys → AllWithin (λ r. ltb r.id.seq number ≡ true) xs 0 i → AllWithin (λ r. r.id.seq < number) ys 0 i
point_below xs ys number i e h =
    let P : List TwccSendRecord → Type 0 = λ zs. AllWithin (λ r. r.id.seq < number) zs 0 i in
    subst P e (λ k d low high. ltb-true _ _ (h k d low high))

pub point_far : (xs ys : List TwccSendRecord) (number span i : ℕ) → xs ≡ ys → AllWithin (λ r. ltb (r.id.seq - number) span ≡ false) xs i (length xs) → AllWithin (λ r. span ≤ r.id.seq - number) ys i (length ys)
point_far xs ys number span i e h =
    let P : List TwccSendRecord → Type 0 = λ zs. AllWithin (λ r. span ≤ r.id.seq - number) zs i (length zs) in
    subst P e (λ k d low high. ltb-false _ _ (h k d low high))

pub distances_rise : (number : ℕ) (xs : List TwccSendRecord) → IsNonDecreasingBy (λ r. r.id.seq) xs → IsNonDecreasingBy (λ r. r.id.seq - number) xs
distances_rise number xs h i j d le lt = omega (arith, h i j d le lt)
