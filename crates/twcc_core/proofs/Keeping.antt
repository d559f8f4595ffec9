-- What a register keeps of the packets that it was told.
use Rattle.std.proofs.Common.{◌≡◌, ℕ, zero, suc, ◌+◌, ◌-◌, ◌*◌, ◌%◌, ◌<◌, ◌≤◌, Bool, true, false, cond, leb, ltb, eqb, ◌&&◌, ◌||◌, List, [], ◌∷◌, length, filter, Option, Some, None, refl, sym, ap, subst, ◌∙◌, arith}
use Rattle.std.specs.Prelude.{slice_get, unwrap_or, is_some, min, max}
use Rattle.std.specs.List.{list_any, All}
use Rattle.std.specs.List.Sorted.{IsStrictlySortedBy}
use Rattle.std.specs.Option.{option_map, option_map_or, option_and_then}
use Rattle.std.specs.Ordering.{nat_cmp, is_eq, match_ordering}
use Rattle.std.specs.declared.cmp.Ordering.TheVariants.{Less, Equal, Greater}
use Rattle.std.specs.Map.{keys_of}
use Rattle.std.specs.BTreeMap.{insert_entry, is_at}
use Rattle.std.specs.BTreeMap.Range.{IsLeBy}
use Rattle.std.proofs.lemmas.Bool.{lt-ltb, le-ltb, le-leb, eq-eqb, ne_eqb, leb-true, leb-false, ltb-true, ltb-false, eqb-true, eqb-false}
use Rattle.std.proofs.lemmas.List.Elements.{All-head, All-tail, filter_agree}
use Rattle.std.proofs.lemmas.Map.Entries.{lookup-filter-keys}
use Rattle.std.proofs.lemmas.Map.Keys.{sorted_tail, below_from_sorted, le_from_not_gt}
use Rattle.twcc_core.specs.declared.status.PacketStatus.{PacketStatus}
use Rattle.twcc_core.specs.declared.share.Share.{Share}
use Rattle.twcc_core.specs.Reports.{Receiving, Kept, StandsFor, kept_of, recent, unreported, is_pending, is_unreported, first_counted, arrival_of, greatest_of, lowest_of, with_arrival, with_put, with_recent, least_of, row_of, last_after, rows_from, reference_of, rows_within, report_rows, after_rows, missing_from, share_between, loss_of}

-- ---- filters

filter_twice : {X : Type 0} (p q : X → Bool) (xs : List X) → filter p (filter q xs) ≡ filter (λ x. q x && p x) xs
filter_twice p q [] = refl
filter_twice {X} p q (x ∷ xs) =
    let both : X → Bool = λ y. q y && p y in
    elim (q x) as (λ b. filter p (cond b (x ∷ filter q xs) (filter q xs)) ≡ cond (b && p x) (x ∷ filter both xs) (filter both xs)) [
      | true ↦ ap (λ ys. cond (p x) (x ∷ ys) ys) (filter_twice p q xs)
      | false ↦ filter_twice p q xs
    ]

-- a test that implies another, behind it
and_after : (a b : Bool) → (b ≡ true → a ≡ true) → a && b ≡ b
and_after true b h = refl
and_after false true h = absurd (let e = h refl in cc)
and_after false false h = refl

and_left : (a b : Bool) → a && b ≡ true → a ≡ true
and_left true b e = refl
and_left false b e = e

and_false : (a : Bool) → a && false ≡ false
and_false true = refl
and_false false = refl

and_true : (a : Bool) → a && true ≡ a
and_true true = refl
and_true false = refl

low_and : (lo lo' n : ℕ) (c : Bool) → lo ≤ lo' → (leb lo n && c) && leb lo' n ≡ leb lo' n && c
low_and lo lo' n c le =
    elim (leb lo' n) as (λ b. (leb lo' n ≡ b) → (leb lo n && c) && b ≡ b && c) [
      | true ↦ λ e. let low : leb lo n ≡ true = le-leb _ _ (omega (arith, le, leb-true _ _ e)) in rw low (and_true c)
      | false ↦ λ e. and_false (leb lo n && c)
    ] refl

from_leb : (lo lo' n : ℕ) → lo ≤ lo' → leb lo n && leb lo' n ≡ leb lo' n
from_leb lo lo' n le = and_after (leb lo n) (leb lo' n) (λ e. le-leb _ _ (omega (arith, le, leb-true _ _ e)))

narrower : (lo lo' : ℕ) (xs : List (ℕ × ℕ)) → lo ≤ lo' → filter (λ e. leb lo' e.0) (filter (λ e. leb lo e.0) xs) ≡ filter (λ e. leb lo' e.0) xs
narrower lo lo' xs le =
    filter_twice (λ e. leb lo' e.0) (λ e. leb lo e.0) xs ∙ filter_agree (λ e. leb lo e.0 && leb lo' e.0) (λ e. leb lo' e.0) (λ e. from_leb lo lo' e.0 le) xs

-- ---- numbers and their look-up

pub at_same : (n : ℕ) → is_at (nat_cmp n) n ≡ true
at_same n =
    let low : ltb n n ≡ false = le-ltb _ _ (omega arith) in
    let same : eqb n n ≡ true = eq-eqb _ _ refl in
    rw (low, same) refl

pub at_apart : (n m : ℕ) → (n ≡ m → ⊥) → is_at (nat_cmp n) m ≡ false
at_apart n m ne =
    let apart : eqb n m ≡ false = ne_eqb _ _ ne in
    elim (ltb n m) as (λ b. is_eq (cond b Less (cond (eqb n m) Equal Greater)) ≡ false) [ true ↦ refl | false ↦ rw apart refl ]

at_is : (n m : ℕ) → is_at (nat_cmp n) m ≡ true → n ≡ m
at_is n m e =
    elim (eqb n m) as (λ b. (eqb n m ≡ b) → n ≡ m) [
      | true ↦ λ same. eqb-true _ _ same
      | false ↦ λ apart. let none = at_apart n m (eqb-false _ _ apart) in absurd (cc)
    ] refl

-- where a number goes
insert_cases : (P : List (ℕ × ℕ) → Type 0) (x : ℕ × ℕ) (xs : List (ℕ × ℕ)) (n v : ℕ) → (n < x.0 → P ((n, v) ∷ x ∷ xs)) → (n ≡ x.0 → P ((x.0, v) ∷ xs)) → (x.0 < n → P (x ∷ insert_entry nat_cmp xs n v))
    → P (insert_entry nat_cmp (x ∷ xs) n v)
insert_cases P x xs n v before here after =
    elim (ltb n x.0) as (λ b. (ltb n x.0 ≡ b) → P (match_ordering (cond b Less (cond (eqb n x.0) Equal Greater)) ((n, v) ∷ x ∷ xs) ((x.0, v) ∷ xs) (x ∷ insert_entry nat_cmp xs n v))) [
      | true ↦ λ low. before (ltb-true _ _ low)
      | false ↦ λ high.
          elim (eqb n x.0) as (λ b. (eqb n x.0 ≡ b) → P (match_ordering (cond b Equal Greater) ((n, v) ∷ x ∷ xs) ((x.0, v) ∷ xs) (x ∷ insert_entry nat_cmp xs n v))) [
            | true ↦ λ same. here (eqb-true _ _ same)
            | false ↦ λ apart. after (omega (arith, ltb-false _ _ high, eqb-false _ _ apart))
          ] refl
    ] refl

insert_before : (x : ℕ × ℕ) (xs : List (ℕ × ℕ)) (n v : ℕ) → n < x.0 → insert_entry nat_cmp (x ∷ xs) n v ≡ (n, v) ∷ x ∷ xs
insert_before x xs n v lt = insert_cases (λ ys. ys ≡ (n, v) ∷ x ∷ xs) x xs n v (λ _. refl) (λ same. absurd (omega (arith, lt, same))) (λ high. absurd (omega (arith, lt, high)))

insert_here : (x : ℕ × ℕ) (xs : List (ℕ × ℕ)) (n v : ℕ) → n ≡ x.0 → insert_entry nat_cmp (x ∷ xs) n v ≡ (x.0, v) ∷ xs
insert_here x xs n v is = insert_cases (λ ys. ys ≡ (x.0, v) ∷ xs) x xs n v (λ low. absurd (omega (arith, is, low))) (λ _. refl) (λ high. absurd (omega (arith, is, high)))

insert_after : (x : ℕ × ℕ) (xs : List (ℕ × ℕ)) (n v : ℕ) → x.0 < n → insert_entry nat_cmp (x ∷ xs) n v ≡ x ∷ insert_entry nat_cmp xs n v
insert_after x xs n v gt = insert_cases (λ ys. ys ≡ x ∷ insert_entry nat_cmp xs n v) x xs n v (λ low. absurd (omega (arith, gt, low))) (λ same. absurd (omega (arith, gt, same))) (λ _. refl)

-- ---- the greatest number

greatest_next : (x y : ℕ × ℕ) (ys : List (ℕ × ℕ)) → greatest_of (x ∷ y ∷ ys) ≡ greatest_of (y ∷ ys)
greatest_next x y ys = let k : length (x ∷ y ∷ ys) - 1 ≡ suc (length (y ∷ ys) - 1) = omega arith in ap (λ (i : ℕ). option_map (λ (e : ℕ × ℕ). e.0) (slice_get (x ∷ y ∷ ys) i)) k

greatest_behind : (x : ℕ × ℕ) (xs : List (ℕ × ℕ)) (g : ℕ) → greatest_of xs ≡ Some g → greatest_of (x ∷ xs) ≡ Some g
greatest_behind x [] g e = absurd (let none : None ≡ Some g = e in cc)
greatest_behind x (y ∷ ys) g e = greatest_next x y ys ∙ e

greatest_some : (x : ℕ × ℕ) (xs : List (ℕ × ℕ)) → (g : ℕ) × (greatest_of (x ∷ xs) ≡ Some g)
greatest_some x [] = (x.0, refl)
greatest_some x (y ∷ ys) = let g = greatest_some y ys in (g.0, greatest_behind x (y ∷ ys) g.0 g.1)

some_of : {A : Type 0} (x y : A) → Some x ≡ Some y → x ≡ y
some_of x y e = cc

greatest_filter : (p : ℕ → Bool) (xs : List (ℕ × ℕ)) (g : ℕ) → greatest_of xs ≡ Some g → p g ≡ true → greatest_of (filter (λ e. p e.0) xs) ≡ Some g
greatest_filter p [] g e t = absurd (let none : None ≡ Some g = e in cc)
greatest_filter p (x ∷ []) g e t =
    let is : x.0 ≡ g = some_of x.0 g e in
    let passes : p x.0 ≡ true = ap p is ∙ t in
    rw passes e
greatest_filter p (x ∷ y ∷ ys) g e t =
    let later = greatest_filter p (y ∷ ys) g (sym (greatest_next x y ys) ∙ e) t in
    let rest : List (ℕ × ℕ) = filter (λ e. p e.0) (y ∷ ys) in
    elim (p x.0) as (λ b. greatest_of (cond b (x ∷ rest) rest) ≡ Some g) [
      | true ↦ greatest_behind x rest g later
      | false ↦ later
    ]

-- with another number it does not fall
grown : (xs : List (ℕ × ℕ)) (n v : ℕ) → (g : ℕ) × (greatest_of (insert_entry nat_cmp xs n v) ≡ Some g) × (unwrap_or (greatest_of xs) 0 ≤ g)
grown [] n v = (n, refl, omega arith)
grown (x ∷ []) n v =
    insert_cases (λ ys. (g : ℕ) × (greatest_of ys ≡ Some g) × (x.0 ≤ g)) x [] n v (λ low. (x.0, refl, omega arith)) (λ same. (x.0, refl, omega arith)) (λ high. (n, refl, omega (arith, high)))
grown (x ∷ y ∷ ys) n v =
    let old = greatest_some y ys in
    let both : greatest_of (x ∷ y ∷ ys) ≡ Some old.0 = greatest_behind x (y ∷ ys) old.0 old.1 in
    let was : unwrap_or (greatest_of (x ∷ y ∷ ys)) 0 ≡ old.0 = ap (λ (o : Option ℕ). unwrap_or o 0) both in
    let was' : unwrap_or (greatest_of (y ∷ ys)) 0 ≡ old.0 = ap (λ (o : Option ℕ). unwrap_or o 0) old.1 in
    let later = grown (y ∷ ys) n v in
    let up : old.0 ≤ later.0 = omega (arith, later.2, was') in
    let P : ℕ → Type 0 = λ m. (g : ℕ) × (greatest_of (insert_entry nat_cmp (x ∷ y ∷ ys) n v) ≡ Some g) × (m ≤ g) in
    subst P (sym was) (
    insert_cases (λ zs. (g : ℕ) × (greatest_of zs ≡ Some g) × (old.0 ≤ g)) x (y ∷ ys) n v
    (λ low. (old.0, greatest_behind (n, v) (x ∷ y ∷ ys) old.0 both, omega arith))
    (λ same. (old.0, greatest_behind (x.0, v) (y ∷ ys) old.0 old.1, omega arith))
    (λ high. (later.0, greatest_behind x (insert_entry nat_cmp (y ∷ ys) n v) later.0 later.1, up))
    )

lowest_put : (xs : List (ℕ × ℕ)) (n v : ℕ) → Some (least_of (lowest_of xs) n) ≡ lowest_of (insert_entry nat_cmp xs n v)
lowest_put [] n v = refl
lowest_put (x ∷ xs) n v =
    insert_cases (λ ys. Some (min x.0 n) ≡ lowest_of ys) x xs n v
    (λ low. let m : min x.0 n ≡ n = omega (arith, low) in ap (λ (k : ℕ). Some k) m)
    (λ same. let m : min x.0 n ≡ x.0 = omega (arith, same) in ap (λ (k : ℕ). Some k) m)
    (λ high. let m : min x.0 n ≡ x.0 = omega (arith, high) in ap (λ (k : ℕ). Some k) m)

-- ---- what is recent

pub greatest_recent : (xs : List (ℕ × ℕ)) → greatest_of (recent xs) ≡ greatest_of xs
greatest_recent [] = refl
greatest_recent (x ∷ xs) =
    let g = greatest_some x xs in
    let is : unwrap_or (greatest_of (x ∷ xs)) 0 ≡ g.0 = ap (λ (o : Option ℕ). unwrap_or o 0) g.1 in
    let low : first_counted (x ∷ xs) ≤ g.0 = omega (arith, is) in
    greatest_filter (leb (first_counted (x ∷ xs))) (x ∷ xs) g.0 g.1 (le-leb _ _ low) ∙ sym g.1

pub first_recent : (xs : List (ℕ × ℕ)) → first_counted (recent xs) ≡ first_counted xs
first_recent xs = ap (λ (o : Option ℕ). unwrap_or o 0 - 32768) (greatest_recent xs)

pub arrival_recent : (xs : List (ℕ × ℕ)) (n : ℕ) → first_counted xs ≤ n → arrival_of (recent xs) n ≡ arrival_of xs n
arrival_recent xs n le = lookup-filter-keys (is_at (nat_cmp n)) (leb (first_counted xs)) true (λ k e. le-leb _ _ (omega (arith, at_is n k e, le))) xs

-- another number that counts goes where it goes in all
put_low : (lo n v : ℕ) (xs : List (ℕ × ℕ)) → lo ≤ n → insert_entry nat_cmp (filter (λ e. leb lo e.0) xs) n v ≡ filter (λ e. leb lo e.0) (insert_entry nat_cmp xs n v)
put_low lo n v [] le = let t : leb lo n ≡ true = le-leb _ _ le in rw t refl
put_low lo n v (x ∷ xs) le =
    let rest : List (ℕ × ℕ) = filter (λ e. leb lo e.0) xs in
    let t : leb lo n ≡ true = le-leb _ _ le in
    insert_cases (λ ys. insert_entry nat_cmp (filter (λ e. leb lo e.0) (x ∷ xs)) n v ≡ filter (λ e. leb lo e.0) ys) x xs n v
    (λ low. let s : leb lo x.0 ≡ true = le-leb _ _ (omega (arith, le, low)) in rw (s, t) (insert_before x rest n v low))
    (λ same. let s : leb lo x.0 ≡ true = le-leb _ _ (omega (arith, le, same)) in rw s (insert_here x rest n v same))
    (λ high.
    elim (leb lo x.0) as (λ b. insert_entry nat_cmp (cond b (x ∷ rest) rest) n v ≡ cond b (x ∷ filter (λ e. leb lo e.0) (insert_entry nat_cmp xs n v)) (filter (λ e. leb lo e.0) (insert_entry nat_cmp xs n v))) [
      | true ↦ insert_after x rest n v high ∙ ap (λ (ys : List (ℕ × ℕ)). x ∷ ys) (put_low lo n v xs le)
      | false ↦ put_low lo n v xs le
    ])

-- all numbers are above one
abbrev Above : ℕ → List (ℕ × ℕ) → Type 0
Above n [] = Unit {0}
Above n (e ∷ es) = (n < e.0) × Above n es

above_sorted : (n : ℕ) (x : ℕ × ℕ) (xs : List (ℕ × ℕ)) → n < x.0 → IsStrictlySortedBy nat_cmp (keys_of (x ∷ xs)) → Above n (x ∷ xs)
above_sorted n x [] lt h = (lt, tt)
above_sorted n x (y ∷ ys) lt h =
    let next : x.0 < y.0 = below_from_sorted (x.0 ∷ y.0 ∷ keys_of ys) 0 1 0 h (omega arith) (omega arith) in
    (lt, above_sorted n y ys (omega (arith, lt, next)) (sorted_tail nat_cmp x.0 (y.0 ∷ keys_of ys) h))

above_filter : (q : ℕ → Bool) (n : ℕ) (xs : List (ℕ × ℕ)) → Above n xs → Above n (filter (λ e. q e.0) xs)
above_filter q n [] h = tt
above_filter q n (x ∷ xs) h =
    let rest : List (ℕ × ℕ) = filter (λ e. q e.0) xs in
    let later = above_filter q n xs h.1 in
    elim (q x.0) as (λ b. Above n (cond b (x ∷ rest) rest)) [ true ↦ (h.0, later) | false ↦ later ]

put_front : (n v : ℕ) (xs : List (ℕ × ℕ)) → Above n xs → insert_entry nat_cmp xs n v ≡ (n, v) ∷ xs
put_front n v [] h = refl
put_front n v (x ∷ xs) h = insert_before x xs n v h.0

agree_above : (q q' : ℕ → Bool) (n : ℕ) (xs : List (ℕ × ℕ)) → ((m : ℕ) → (n ≡ m → ⊥) → q' m ≡ q m) → Above n xs → filter (λ e. q e.0) xs ≡ filter (λ e. q' e.0) xs
agree_above q q' n [] same h = refl
agree_above q q' n (x ∷ xs) same h =
    let apart : n ≡ x.0 → ⊥ = λ e. omega (arith, e, h.0) in
    let is : q' x.0 ≡ q x.0 = same x.0 apart in
    rw is (ap (λ (t : List (ℕ × ℕ)). cond (q x.0) (x ∷ t) t) (agree_above q q' n xs same h.1))

-- and another one that is to be reported goes where it goes in all that are
put_pending : (q q' : ℕ → Bool) (n v : ℕ) (xs : List (ℕ × ℕ)) → q' n ≡ true → ((m : ℕ) → (n ≡ m → ⊥) → q' m ≡ q m) → IsStrictlySortedBy nat_cmp (keys_of xs) → arrival_of xs n ≡ None
    → insert_entry nat_cmp (filter (λ e. q e.0) xs) n v ≡ filter (λ e. q' e.0) (insert_entry nat_cmp xs n v)
put_pending q q' n v [] t same sorted absent = rw t refl
put_pending q q' n v (x ∷ xs) t same sorted absent =
    let rest : List (ℕ × ℕ) = filter (λ e. q e.0) xs in
    insert_cases (λ ys. insert_entry nat_cmp (filter (λ e. q e.0) (x ∷ xs)) n v ≡ filter (λ e. q' e.0) ys) x xs n v
    (λ low.
    let above = above_sorted n x xs low sorted in
    put_front n v (filter (λ e. q e.0) (x ∷ xs)) (above_filter q n (x ∷ xs) above)
    ∙ rw t (ap (λ (ys : List (ℕ × ℕ)). (n, v) ∷ ys) (agree_above q q' n (x ∷ xs) same above)))
    (λ is. let here : is_at (nat_cmp n) x.0 ≡ true = ap (λ (k : ℕ). is_at (nat_cmp n) k) (sym is) ∙ at_same n in absurd (let found = rw here at absent in cc))
    (λ high.
    let apart : n ≡ x.0 → ⊥ = λ e. omega (arith, e, high) in
    let other : q' x.0 ≡ q x.0 = same x.0 apart in
    let passed : is_at (nat_cmp n) x.0 ≡ false = at_apart n x.0 apart in
    let absent' : arrival_of xs n ≡ None = rw passed at absent in
    let later = put_pending q q' n v xs t same (sorted_tail nat_cmp x.0 (keys_of xs) sorted) absent' in
    let put : List (ℕ × ℕ) = filter (λ e. q' e.0) (insert_entry nat_cmp xs n v) in
    rw other (elim (q x.0) as (λ b. insert_entry nat_cmp (cond b (x ∷ rest) rest) n v ≡ cond b (x ∷ put) put) [
      | true ↦ insert_after x rest n v high ∙ ap (λ (ys : List (ℕ × ℕ)). x ∷ ys) later
      | false ↦ later
    ]))

-- ---- what is kept

same_kept : (a a' p p' : List (ℕ × ℕ)) (l l' : Option ℕ) (n : ℕ) → a ≡ a' → p ≡ p' → l ≡ l'
    → (let k : Kept = record { arrivals = a; pending = p; lowest = l; reports = n } in let k' : Kept = record { arrivals = a'; pending = p'; lowest = l'; reports = n } in k ≡ k')
same_kept a a' p p' l l' n e f g =
    let one : List (ℕ × ℕ) → Kept = λ x. record { arrivals = x; pending = p; lowest = l; reports = n } in
    let two : List (ℕ × ℕ) → Kept = λ x. record { arrivals = a'; pending = x; lowest = l; reports = n } in
    let three : Option ℕ → Kept = λ x. record { arrivals = a'; pending = p'; lowest = x; reports = n } in
    ap one e ∙ ap two f ∙ ap three g

unreported_recent : (r : Receiving) → unreported r ≡ filter (λ e. is_pending r.pending e.0) (recent r.arrivals)
unreported_recent r = sym (filter_twice (λ e. is_pending r.pending e.0) (λ e. leb (first_counted r.arrivals) e.0) r.arrivals)

some_absent : (o : Option ℕ) → is_some o ≡ false → o ≡ None
some_absent None e = refl
some_absent (Some x) e = absurd (let f : true ≡ false = e in cc)

put_at : (r : Receiving) (n now : ℕ) → first_counted r.arrivals ≤ n → is_some (arrival_of (recent r.arrivals) n) ≡ false → IsStrictlySortedBy nat_cmp (keys_of (recent r.arrivals))
    → with_recent (with_put (kept_of r) n now) ≡ kept_of (with_arrival r n now)
put_at r n now le absent sorted =
    let a : List (ℕ × ℕ) = r.arrivals in
    let all : List (ℕ × ℕ) = insert_entry nat_cmp a n now in
    let lo : ℕ = first_counted a in
    let lo' : ℕ = first_counted all in
    let q : ℕ → Bool = is_pending r.pending in
    let q' : ℕ → Bool = is_pending (n ∷ r.pending) in
    let g = grown a n now in
    let is : unwrap_or (greatest_of all) 0 ≡ g.0 = ap (λ (o : Option ℕ). unwrap_or o 0) g.1 in
    let up : lo ≤ lo' = omega (arith, is, g.2) in
    let in_span : lo ≤ g.0 = omega (arith, g.2) in
    let put = put_low lo n now a le in
    let top : greatest_of (insert_entry nat_cmp (recent a) n now) ≡ greatest_of all = ap greatest_of put ∙ greatest_filter (leb lo) all g.0 g.1 (le-leb _ _ in_span) ∙ sym g.1 in
    let first : first_counted (insert_entry nat_cmp (recent a) n now) ≡ lo' = ap (λ (o : Option ℕ). unwrap_or o 0 - 32768) top in
    let held : recent (insert_entry nat_cmp (recent a) n now) ≡ recent all =
    ap (λ (x : ℕ). filter (λ (e : ℕ × ℕ). leb x e.0) (insert_entry nat_cmp (recent a) n now)) first ∙ ap (filter (λ (e : ℕ × ℕ). leb lo' e.0)) put ∙ narrower lo lo' all up in
    let none = some_absent (arrival_of (recent a) n) absent in
    let here : q' n ≡ true = let t : eqb n n ≡ true = eq-eqb _ _ refl in rw t refl in
    let others : (m : ℕ) → (n ≡ m → ⊥) → q' m ≡ q m = λ m ne. let t : eqb m n ≡ false = ne_eqb _ _ (λ e. ne (sym e)) in rw t refl in
    let queued : insert_entry nat_cmp (unreported r) n now ≡ filter (λ e. q' e.0) (filter (λ e. leb lo e.0) all) =
    ap (λ (xs : List (ℕ × ℕ)). insert_entry nat_cmp xs n now) (unreported_recent r) ∙ put_pending q q' n now (recent a) here others sorted none ∙ ap (filter (λ (e : ℕ × ℕ). q' e.0)) put in
    let new : Receiving = record { arrivals = all; pending = n ∷ r.pending; reports = r.reports } in
    let due : filter (λ e. leb (first_counted (insert_entry nat_cmp (recent a) n now)) e.0) (insert_entry nat_cmp (unreported r) n now) ≡ unreported new =
    ap (λ (x : ℕ). filter (λ (e : ℕ × ℕ). leb x e.0) (insert_entry nat_cmp (unreported r) n now)) first
    ∙ ap (filter (λ (e : ℕ × ℕ). leb lo' e.0)) (queued ∙ filter_twice (λ e. q' e.0) (λ e. leb lo e.0) all)
    ∙ filter_twice (λ e. leb lo' e.0) (λ e. leb lo e.0 && q' e.0) all
    ∙ filter_agree (λ e. (leb lo e.0 && q' e.0) && leb lo' e.0) (λ e. leb lo' e.0 && q' e.0) (λ e. low_and lo lo' e.0 (q' e.0) up) all in
    let counts : ltb n lo ≡ false = le-ltb _ _ le in
    let absent' : is_some (arrival_of a n) ≡ false = ap is_some (sym (arrival_recent a n le)) ∙ absent in
    let arrived : with_arrival r n now ≡ new = rw (counts, absent') refl in
    same_kept _ _ _ _ _ _ r.reports held due (lowest_put a n now) ∙ ap kept_of (sym arrived)

pub put_stands : (k : Kept) (r : Receiving) (n now : ℕ) → first_counted k.arrivals ≤ n → is_some (arrival_of k.arrivals n) ≡ false → IsStrictlySortedBy nat_cmp (keys_of k.arrivals) → StandsFor k r
    → StandsFor (with_recent (with_put k n now)) (with_arrival r n now)
unfolding StandsFor
put_stands k r n now le absent sorted h =
    let P : Kept → Type 0 = λ x. first_counted x.arrivals ≤ n → is_some (arrival_of x.arrivals n) ≡ false → IsStrictlySortedBy nat_cmp (keys_of x.arrivals) → StandsFor (with_recent (with_put x n now)) (with_arrival r n now) in
    subst P (sym h) (λ low none order. put_at r n now (omega (arith, low, first_recent r.arrivals)) none order) le absent sorted

pub passed_below : (k : Kept) (r : Receiving) (n now : ℕ) → n < first_counted k.arrivals → StandsFor k r → StandsFor k (with_arrival r n now)
unfolding StandsFor
passed_below k r n now lt h =
    let first : first_counted k.arrivals ≡ first_counted r.arrivals = ap (λ (x : Kept). first_counted x.arrivals) h ∙ first_recent r.arrivals in
    let low : ltb n (first_counted r.arrivals) ≡ true = lt-ltb _ _ (omega (arith, lt, first)) in
    let same : with_arrival r n now ≡ r = rw low refl in
    h ∙ ap kept_of (sym same)

pub passed_again : (k : Kept) (r : Receiving) (n now : ℕ) → first_counted k.arrivals ≤ n → is_some (arrival_of k.arrivals n) ≡ true → StandsFor k r → StandsFor k (with_arrival r n now)
unfolding StandsFor
passed_again k r n now le came h =
    let first : first_counted k.arrivals ≡ first_counted r.arrivals = ap (λ (x : Kept). first_counted x.arrivals) h ∙ first_recent r.arrivals in
    let counts : ltb n (first_counted r.arrivals) ≡ false = le-ltb _ _ (omega (arith, le, first)) in
    let came' : is_some (arrival_of r.arrivals n) ≡ true = ap is_some (sym (arrival_recent r.arrivals n (omega (arith, le, first)))) ∙ ap (λ (x : Kept). is_some (arrival_of x.arrivals n)) (sym h) ∙ came in
    let same : with_arrival r n now ≡ r = rw (counts, came') refl in
    h ∙ ap kept_of (sym same)

-- ---- letting go

pub not_below_zero : (xs : List (ℕ × ℕ)) → filter (λ e. leb 0 e.0) xs ≡ xs
not_below_zero [] = refl
not_below_zero (x ∷ xs) = let t : leb 0 x.0 ≡ true = le-leb _ _ (omega arith) in rw t (ap (λ (ys : List (ℕ × ℕ)). x ∷ ys) (not_below_zero xs))

same_test : (a b c d : ℕ) → (a < b → c ≤ d) → (c ≤ d → a < b) → ltb a b ≡ leb c d
same_test a b c d to from =
    elim (leb c d) as (λ t. (leb c d ≡ t) → ltb a b ≡ t) [
      | true ↦ λ e. lt-ltb _ _ (from (leb-true _ _ e))
      | false ↦ λ e. le-ltb _ _ (let no : a < b → ⊥ = λ l. omega (arith, to l, leb-false _ _ e) in omega (arith, no))
    ] refl

pub above_is : (last first : ℕ) (xs : List (ℕ × ℕ)) → first ≡ last + 1 → filter (λ e. ltb last e.0) xs ≡ filter (λ e. leb first e.0) xs
above_is last first xs is = filter_agree (λ e. ltb last e.0) (λ e. leb first e.0) (λ e. same_test last e.0 first e.0 (λ l. omega (arith, is, l)) (λ l. omega (arith, is, l))) xs

pub all_above : (last first : ℕ) (xs : List (ℕ × ℕ)) → last < first → All (IsLeBy nat_cmp first) (keys_of xs) → filter (λ e. ltb last e.0) xs ≡ xs
all_above last first [] lt h = refl
all_above last first (x ∷ xs) lt h =
    let low : first ≤ x.0 = le_from_not_gt _ _ (All-head (IsLeBy nat_cmp first) x.0 (keys_of xs) h) in
    let t : ltb last x.0 ≡ true = lt-ltb _ _ (omega (arith, lt, low)) in
    rw t (ap (λ (ys : List (ℕ × ℕ)). x ∷ ys) (all_above last first xs lt (All-tail (IsLeBy nat_cmp first) x.0 (keys_of xs) h)))

pub none_to_forget : (k : Kept) → first_counted k.arrivals ≡ 0 → k ≡ with_recent k
none_to_forget k zero' =
    let held : k.arrivals ≡ recent k.arrivals = sym (not_below_zero k.arrivals) ∙ ap (λ (x : ℕ). filter (λ (e : ℕ × ℕ). leb x e.0) k.arrivals) (sym zero') in
    let due : k.pending ≡ filter (λ e. leb (first_counted k.arrivals) e.0) k.pending = sym (not_below_zero k.pending) ∙ ap (λ (x : ℕ). filter (λ (e : ℕ × ℕ). leb x e.0) k.pending) (sym zero') in
    same_kept _ _ _ _ k.lowest k.lowest k.reports held due refl

-- ---- reports

-- the first entry that a test of the numbers keeps is found under its number
pub first_found : (p : ℕ → Bool) (es : List (ℕ × ℕ)) (first : ℕ × ℕ) → slice_get (filter (λ e. p e.0) es) 0 ≡ Some first → (p first.0 ≡ true) × (arrival_of es first.0 ≡ Some first.1)
first_found p [] first = λ due. absurd cc
first_found p (e ∷ es) first =
    elim (p e.0) as (λ b. (p e.0 ≡ b) → slice_get (cond b (e ∷ filter (λ x. p x.0) es) (filter (λ x. p x.0) es)) 0 ≡ Some first → (p first.0 ≡ true) × (arrival_of (e ∷ es) first.0 ≡ Some first.1)) [
      | true ↦ λ t due.
          let is : e ≡ first = some_of e first due in
          let same : is_at (nat_cmp first.0) first.0 ≡ true = at_same first.0 in
          rw is (ap (λ (x : ℕ × ℕ). p x.0) (sym is) ∙ t, rw same refl)
      | false ↦ λ t due.
          let h = first_found p es first due in
          let here = h.0 in
          let apart : is_at (nat_cmp first.0) e.0 ≡ false = at_apart first.0 e.0 (λ k. let other = ap p k in absurd (cc)) in
          (h.0, rw apart h.1)
    ] refl

due_counts : (r : Receiving) (first : ℕ × ℕ) → slice_get (unreported r) 0 ≡ Some first → first_counted r.arrivals ≤ first.0
due_counts r first due = leb-true _ _ (and_left _ _ (first_found (is_unreported r) r.arrivals first due).0)

same_rows : (xs : List (ℕ × ℕ)) (n number last : ℕ) → first_counted xs ≤ number → rows_from (recent xs) n number last ≡ rows_from xs n number last
same_rows xs zero number last le = refl
same_rows xs (suc n) number last le =
    let e = arrival_recent xs number le in
    let l : ℕ = last_after (arrival_of xs number) last in
    ap (λ (o : Option ℕ). option_map_or (λ (row : PacketStatus). row ∷ rows_from (recent xs) n (number + 1) (last_after o last)) (row_of o last) []) e
    ∙ elim (row_of (arrival_of xs number) last) as (λ o. option_map_or (λ (row : PacketStatus). row ∷ rows_from (recent xs) n (number + 1) l) o [] ≡ option_map_or (λ (row : PacketStatus). row ∷ rows_from xs n (number + 1) l) o []) [
      | None ↦ refl
      | Some row ↦ ap (λ (t : List PacketStatus). row ∷ t) (same_rows xs n (number + 1) l (omega (arith, le)))
    ]

pub due_rows : (k : Kept) (r : Receiving) (limit : ℕ) (first : ℕ × ℕ) → StandsFor k r → slice_get (unreported r) 0 ≡ Some first → report_rows k.arrivals limit first ≡ report_rows r.arrivals limit first
unfolding StandsFor
due_rows k r limit first h due =
    let a : List (ℕ × ℕ) = r.arrivals in
    let le = due_counts r first due in
    let count : Option ℕ → ℕ = λ o. min 65534 (unwrap_or o 0 - first.0) + 1 in
    ap (λ (x : Kept). report_rows x.arrivals limit first) h
    ∙ ap (λ (o : Option ℕ). rows_within limit (rows_from (recent a) (count o) first.0 (256 * reference_of first.1))) (greatest_recent a)
    ∙ ap (rows_within limit) (same_rows a (count (greatest_of a)) first.0 (256 * reference_of first.1) le)

any_filter : (m : ℕ) (q : ℕ → Bool) (xs : List ℕ) → list_any (eqb m) (filter q xs) ≡ list_any (eqb m) xs && q m
any_filter m q [] = refl
any_filter m q (x ∷ xs) =
    let later = any_filter m q xs in
    let rest : List ℕ = filter q xs in
    elim (eqb m x) as (λ b. (eqb m x ≡ b) → list_any (eqb m) (cond (q x) (x ∷ rest) rest) ≡ (b || list_any (eqb m) xs) && q m) [
      | true ↦ λ same.
          let is : q m ≡ q x = ap q (eqb-true _ _ same) in
          rw is (elim (q x) as (λ b. (q x ≡ b) → list_any (eqb m) (cond b (x ∷ rest) rest) ≡ b) [
            | true ↦ λ t. rw same refl
            | false ↦ λ t. let no : q m ≡ false = is ∙ t in later ∙ rw no (and_false (list_any (eqb m) xs))
          ] refl)
      | false ↦ λ apart.
          elim (q x) as (λ b. list_any (eqb m) (cond b (x ∷ rest) rest) ≡ list_any (eqb m) xs && q m) [ true ↦ rw apart later | false ↦ later ]
    ] refl

and_assoc : (a b c : Bool) → (a && b) && c ≡ a && (b && c)
and_assoc true b c = refl
and_assoc false b c = refl

-- what is unreported behind a report
pub left_over : (r : Receiving) (end last : ℕ) → end ≡ last + 1
    → filter (λ e. ltb last e.0) (unreported r) ≡ unreported (record { arrivals = r.arrivals; pending = filter (leb end) r.pending; reports = (r.reports + 1) % 256 })
left_over r end last is =
    let lo : ℕ = first_counted r.arrivals in
    let q : ℕ → Bool = is_pending r.pending in
    filter_twice (λ e. ltb last e.0) (λ e. leb lo e.0 && q e.0) r.arrivals
    ∙ filter_agree (λ e. (leb lo e.0 && q e.0) && ltb last e.0) (λ e. leb lo e.0 && is_pending (filter (leb end) r.pending) e.0)
    (λ e.
    let t : ltb last e.0 ≡ leb end e.0 = same_test last e.0 end e.0 (λ l. omega (arith, is, l)) (λ l. omega (arith, is, l)) in
    ap (λ (b : Bool). (leb lo e.0 && q e.0) && b) t ∙ and_assoc (leb lo e.0) (q e.0) (leb end e.0) ∙ ap (λ (b : Bool). leb lo e.0 && b) (sym (any_filter e.0 (leb end) r.pending)))
    r.arrivals

pub report_stands : (k : Kept) (r : Receiving) (first : ℕ × ℕ) (rows : List PacketStatus) (last : ℕ) → StandsFor k r → 0 < length rows → last ≡ first.0 + (length rows - 1)
    → (let new : Kept = record { arrivals = k.arrivals; pending = filter (λ e. ltb last e.0) k.pending; lowest = k.lowest; reports = (k.reports + 1) % 256 } in StandsFor new (after_rows r first rows))
unfolding StandsFor
report_stands k r first rows last h some is =
    let make : Kept → Kept = λ x. record { arrivals = x.arrivals; pending = filter (λ e. ltb last e.0) x.pending; lowest = x.lowest; reports = (x.reports + 1) % 256 } in
    let with_pending : List (ℕ × ℕ) → Kept = λ p. record { arrivals = recent r.arrivals; pending = p; lowest = lowest_of r.arrivals; reports = (r.reports + 1) % 256 } in
    let t : ltb 0 (length rows) ≡ true = lt-ltb _ _ some in
    let new : Receiving = record { arrivals = r.arrivals; pending = filter (leb (first.0 + length rows)) r.pending; reports = (r.reports + 1) % 256 } in
    let after : after_rows r first rows ≡ new = rw t refl in
    ap make h ∙ ap with_pending (left_over r (first.0 + length rows) last (omega (arith, is, some))) ∙ ap kept_of (sym after)

-- ---- answers

pub greatest_told : (k : Kept) (r : Receiving) → StandsFor k r → greatest_of k.arrivals ≡ greatest_of r.arrivals
unfolding StandsFor
greatest_told k r h = ap (λ (x : Kept). greatest_of x.arrivals) h ∙ greatest_recent r.arrivals

same_missing : (xs : List (ℕ × ℕ)) (number n : ℕ) → first_counted xs ≤ number → missing_from (recent xs) number n ≡ missing_from xs number n
same_missing xs number zero le = refl
same_missing xs number (suc n) le =
    let here = arrival_recent xs (number + n) (omega (arith, le)) in
    let before = same_missing xs number n le in
    rw (here, before) refl

pub loss_told : (k : Kept) (r : Receiving) (l g : ℕ) (s : Share) → StandsFor k r → k.lowest ≡ Some l → Some g ≡ greatest_of k.arrivals → s ≡ share_between k.arrivals l g → Some s ≡ loss_of r.arrivals
unfolding loss_of StandsFor
loss_told k r l g s h low top is =
    let a : List (ℕ × ℕ) = r.arrivals in
    let low' : lowest_of a ≡ Some l = ap (λ (x : Kept). x.lowest) (sym h) ∙ low in
    let top' : greatest_of a ≡ Some g = sym (greatest_told k r h) ∙ sym top in
    let span : unwrap_or (greatest_of a) 0 ≡ g = ap (λ (o : Option ℕ). unwrap_or o 0) top' in
    let start : ℕ = max (g - 99) l in
    let le : first_counted a ≤ start = omega (arith, span) in
    let made : ℕ → Share = λ n. record { missing = n; total = g - start + 1 } in
    let told : share_between k.arrivals l g ≡ share_between a l g = ap (λ (x : Kept). share_between x.arrivals l g) h ∙ ap made (same_missing a start (g - start + 1) le) in
    rw (low', top') (ap (λ (x : Share). Some x) (is ∙ told))

nothing_then : (xs : List (ℕ × ℕ)) (top o : Option ℕ) → top ≡ None → None ≡ option_and_then (λ l. option_map (λ g. share_between xs l g) top) o
nothing_then xs top None e = refl
nothing_then xs top (Some l) e = rw e refl

pub no_loss_told : (k : Kept) (r : Receiving) → StandsFor k r → None ≡ greatest_of k.arrivals → None ≡ loss_of r.arrivals
unfolding loss_of StandsFor
no_loss_told k r h none = nothing_then r.arrivals (greatest_of r.arrivals) (lowest_of r.arrivals) (sym (greatest_told k r h) ∙ sym none)

pub pending_told : (k : Kept) (r : Receiving) → StandsFor k r → slice_get k.pending 0 ≡ slice_get (unreported r) 0
unfolding StandsFor
pending_told k r h = ap (λ (x : Kept). slice_get x.pending 0) h

pub never_loss_told : (k : Kept) (r : Receiving) → StandsFor k r → k.lowest ≡ None → None ≡ loss_of r.arrivals
unfolding loss_of StandsFor
never_loss_told k r h none = let none' : lowest_of r.arrivals ≡ None = ap (λ (x : Kept). x.lowest) (sym h) ∙ none in rw none' refl
