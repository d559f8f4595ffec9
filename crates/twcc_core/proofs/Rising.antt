-- Records that are in order of their numbers.
use Rattle.std.proofs.Common.{◌≡◌, ℕ, suc, ◌+◌, ◌-◌, ◌<◌, ◌≤◌, List, [], ◌∷◌, ◌++◌, length, drop, map, get_or, Option, Some, None, refl, sym, ap, subst, ◌∙◌, arith, length-append, length-drop}
use Rattle.std.specs.List.Sorted.{IsNonDecreasingBy}
use Rattle.std.specs.Prelude.{unwrap_or}
use Rattle.std.specs.List.{drop-map}
use Rattle.std.specs.Option.{option_map}
use Rattle.std.proofs.lemmas.List.{length-map, drop-append-le, drop-drop, get_or-drop, get_or-map}
use Rattle.std.proofs.lemmas.List.Sorted.{IsNonDecreasingBy-short, IsNonDecreasingBy-drop, IsNonDecreasingBy-push}
use Rattle.twcc_core.specs.declared.send.TwccSendRecord.{TwccSendRecord}
use Rattle.twcc_core.specs.Sending.{IsRising, last_number, moment_told, with_report, after_told}

abbrev number_of : TwccSendRecord → ℕ
number_of r = r.id.seq

pub none_rise : (n : ℕ) → IsRising [] n
unfolding IsRising
none_rise n = let none : length {A = TwccSendRecord} [] - n ≡ 0 = omega arith in rw none (IsNonDecreasingBy-short number_of [] (omega arith))

-- fewer are in order too
pub fewer_rise : (xs : List TwccSendRecord) (n m : ℕ) → m ≤ n → IsRising xs n → IsRising xs m
unfolding IsRising
fewer_rise xs n m le h =
    let k : ℕ = length xs - n in
    let more : k + (length xs - m - k) ≡ length xs - m = omega (arith, le) in
    let is : drop (length xs - m - k) (drop k xs) ≡ drop (length xs - m) xs = drop-drop (length xs - m - k) k xs ∙ ap (λ (i : ℕ). drop i xs) more in
    let P : List TwccSendRecord → Type 0 = λ ys. IsNonDecreasingBy number_of ys in
    subst P is (IsNonDecreasingBy-drop number_of (length xs - m - k) (drop k xs) h)

-- another record
one_rises : (xs : List TwccSendRecord) (x : TwccSendRecord) → IsRising (xs ++ x ∷ []) 1
unfolding IsRising
one_rises xs x =
    let len = length-append xs (x ∷ []) in
    let rest = length-drop (length (xs ++ x ∷ []) - 1) (xs ++ x ∷ []) in
    IsNonDecreasingBy-short number_of (drop (length (xs ++ x ∷ []) - 1) (xs ++ x ∷ [])) (omega (arith, len, rest))

next_rises : (xs : List TwccSendRecord) (x : TwccSendRecord) (n : ℕ) → ((d : TwccSendRecord) → 0 < length xs → number_of (get_or xs (length xs - 1) d) ≤ number_of x) → IsRising xs n → IsRising (xs ++ x ∷ []) (n + 1)
unfolding IsRising
next_rises xs x n last h =
    let k : ℕ = length xs - n in
    let len = length-append xs (x ∷ []) in
    let same : length (xs ++ x ∷ []) - (n + 1) ≡ k = omega (arith, len) in
    let is : drop k xs ++ x ∷ [] ≡ drop (length (xs ++ x ∷ []) - (n + 1)) (xs ++ x ∷ []) = sym (drop-append-le k xs (x ∷ []) (omega arith)) ∙ ap (λ (i : ℕ). drop i (xs ++ x ∷ [])) (sym same) in
    let P : List TwccSendRecord → Type 0 = λ ys. IsNonDecreasingBy number_of ys in
    let below : (d : TwccSendRecord) → 0 < length (drop k xs) → number_of (get_or (drop k xs) (length (drop k xs) - 1) d) ≤ number_of x = λ d some.
    let rest = length-drop k xs in
    let at : k + (length (drop k xs) - 1) ≡ length xs - 1 = omega (arith, rest, some) in
    let e : get_or (drop k xs) (length (drop k xs) - 1) d ≡ get_or xs (length xs - 1) d = get_or-drop k xs (length (drop k xs) - 1) d ∙ ap (λ (i : ℕ). get_or xs i d) at in
    omega (arith, ap number_of e, last d (omega (arith, rest, some))) in
    subst P is (IsNonDecreasingBy-push number_of (drop k xs) x h below)

last_is : (xs : List TwccSendRecord) (last : ℕ) (d : TwccSendRecord) → last_number xs ≡ Some last → number_of (get_or xs (length xs - 1) d) ≡ last
last_is [] last d e = absurd (let none : None ≡ Some last = e in cc)
last_is (x ∷ []) last d e = some_is (number_of x) last e
  where
    some_is : (a b : ℕ) → Some a ≡ Some b → a ≡ b
    some_is a b e = cc
last_is (x ∷ y ∷ ys) last d e =
    let k : length (x ∷ y ∷ ys) - 1 ≡ suc (length (y ∷ ys) - 1) = omega arith in
    rw k (last_is (y ∷ ys) last d (rw k at e))

none_held : (xs : List TwccSendRecord) → last_number xs ≡ None → length xs ≡ 0
none_held [] e = refl
none_held (x ∷ []) e = absurd (let some : Some (number_of x) ≡ None = e in cc)
none_held (x ∷ y ∷ ys) e =
    let k : length (x ∷ y ∷ ys) - 1 ≡ suc (length (y ∷ ys) - 1) = omega arith in
    absurd (let none = none_held (y ∷ ys) (rw k at e) in omega (arith, none))

pub rises_behind : (xs : List TwccSendRecord) (n last number : ℕ) (x : TwccSendRecord) → Some last ≡ last_number xs → last ≤ number → IsRising xs n → x.id.seq ≡ number → IsRising (xs ++ x ∷ []) (n + 1)
rises_behind xs n last number x e le h is = next_rises xs x n (λ d some. omega (arith, last_is xs last d (sym e), le, is)) h

pub rises_first : (xs : List TwccSendRecord) (n number : ℕ) (x : TwccSendRecord) → None ≡ last_number xs → IsRising xs n → x.id.seq ≡ number → IsRising (xs ++ x ∷ []) (n + 1)
rises_first xs n number x e h is = next_rises xs x n (λ d some. absurd (omega (arith, none_held xs (sym e), some))) h

pub falls : (xs : List TwccSendRecord) (number : ℕ) (x : TwccSendRecord) → x.id.seq ≡ number → IsRising (xs ++ x ∷ []) (0 + 1)
falls xs number x is = one_rises xs x

-- without the first
pub rise_without : (x : TwccSendRecord) (xs : List TwccSendRecord) (n : ℕ) → n ≤ length xs → IsRising (x ∷ xs) n → IsRising xs n
unfolding IsRising
rise_without x xs n le h =
    let k : length (x ∷ xs) - n ≡ suc (length xs - n) = omega (arith, le) in
    rw k at h

pub all_rise : (xs : List TwccSendRecord) (n : ℕ) → length xs ≤ n → IsRising xs n → IsNonDecreasingBy (λ r. r.id.seq) xs
unfolding IsRising
all_rise xs n le h = let none : length xs - n ≡ 0 = omega (arith, le) in rw none at h

-- told records keep their numbers
told_number : (first : ℕ) (moments : List (Option ℕ)) (now : ℕ) (r : TwccSendRecord) → number_of (after_told first moments now r) ≡ number_of r
told_number first moments now r = elim (moment_told first moments r.id.seq) as (λ o. number_of (unwrap_or (option_map (with_report now r) o) r) ≡ number_of r) [ None ↦ refl | Some moment ↦ refl ]

map_rises : (f : TwccSendRecord → TwccSendRecord) → ((r : TwccSendRecord) → number_of (f r) ≡ number_of r) → (ys : List TwccSendRecord) → IsNonDecreasingBy number_of ys → IsNonDecreasingBy number_of (map f ys)
map_rises f same ys h i j d le lt =
    let len = length-map ys f in
    let low : number_of (get_or (map f ys) i d) ≡ number_of (get_or ys i d) = ap number_of (get_or-map f ys i d d (omega (arith, le, lt, len))) ∙ same (get_or ys i d) in
    let high : number_of (get_or (map f ys) j d) ≡ number_of (get_or ys j d) = ap number_of (get_or-map f ys j d d (omega (arith, lt, len))) ∙ same (get_or ys j d) in
    omega (arith, low, high, h i j d le (omega (arith, lt, len)))

pub told_rise : (first : ℕ) (moments : List (Option ℕ)) (now : ℕ) (xs : List TwccSendRecord) (n : ℕ) → IsRising xs n → IsRising (map (after_told first moments now) xs) n
unfolding IsRising
told_rise first moments now xs n h =
    let f : TwccSendRecord → TwccSendRecord = after_told first moments now in
    let k : ℕ = length xs - n in
    let is : map f (drop k xs) ≡ drop (length (map f xs) - n) (map f xs) = sym (drop-map f k xs) ∙ ap (λ (i : ℕ). drop (i - n) (map f xs)) (sym (length-map xs f)) in
    let P : List TwccSendRecord → Type 0 = λ ys. IsNonDecreasingBy number_of ys in
    subst P is (map_rises f (told_number first moments now) (drop k xs) h)

-- what is held behind another record
pub held_sent : (old xs ys : List TwccSendRecord) (x : TwccSendRecord) (n m : ℕ) → old ≡ xs → ys ≡ old ++ x ∷ [] → IsRising (xs ++ x ∷ []) (n + 1) → m ≤ n + 1 → m ≤ 1000 → length ys ≤ 1000
    → (length ys ≤ 1000) × (m ≤ 1000) × IsRising ys m
held_sent old xs ys x n m same pushed h low small few =
    let is : xs ++ x ∷ [] ≡ ys = ap (λ (zs : List TwccSendRecord). zs ++ x ∷ []) (sym same) ∙ sym pushed in
    let P : List TwccSendRecord → Type 0 = λ zs. IsRising zs (n + 1) in
    (few, small, fewer_rise ys (n + 1) m low (subst P is h))

without_first : (ys zs : List TwccSendRecord) (m : ℕ) → zs ≡ drop 1 ys → m ≤ length zs → IsRising ys m → IsRising zs m
without_first [] zs m e le h = let P : List TwccSendRecord → Type 0 = λ xs. IsRising xs m in subst P (sym e) (none_rise m)
without_first (y ∷ ys) zs m e le h =
    let P : List TwccSendRecord → Type 0 = λ xs. IsRising xs m in
    subst P (sym e) (rise_without y ys m (omega (arith, le, ap length e)) h)

pub kept_sent : (old xs ys zs : List TwccSendRecord) (x : TwccSendRecord) (n m : ℕ) → old ≡ xs → length old ≤ 1000 → ys ≡ old ++ x ∷ [] → IsRising (xs ++ x ∷ []) (n + 1) → m ≤ n + 1 → m ≤ 1000 → 1000 < length ys
    → zs ≡ drop 1 ys → (length zs ≤ 1000) × (m ≤ 1000) × IsRising zs m
kept_sent old xs ys zs x n m same few pushed h low small many popped =
    let is : xs ++ x ∷ [] ≡ ys = ap (λ (ws : List TwccSendRecord). ws ++ x ∷ []) (sym same) ∙ sym pushed in
    let P : List TwccSendRecord → Type 0 = λ ws. IsRising ws (n + 1) in
    let long = length-append old (x ∷ []) in
    let len : length zs ≡ length ys - 1 = ap length popped ∙ length-drop 1 ys in
    (omega (arith, len, ap length pushed, long, few), small, without_first ys zs m popped (omega (arith, len, many, small)) (fewer_rise ys (n + 1) m low (subst P is h)))
