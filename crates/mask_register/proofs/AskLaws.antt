-- A round asks for the numbers that are due, and keeps the rows of those that are missing.
use Rattle.std.proofs.Common.{◌≡◌, ◌≢◌, ℕ, zero, suc, ◌+◌, ◌-◌, ◌<◌, ◌≤◌, Bool, true, false, cond, eqb, ltb, List, [], ◌∷◌, ◌++◌, refl, sym, ap, ◌∙◌, arith, max, min, ⊎_elim, Option, None}
use Rattle.std.specs.Prelude.{◌&&◌, ◌||◌, filter, unwrap_or}
use Rattle.std.specs.List.{list_any}
use Rattle.std.proofs.lemmas.Bool.Decides.{nat_tests}
use Rattle.std.proofs.lemmas.Bool.{cases_eq}
use Rattle.repair_core.specs.Fresh.{greatest, is_fresh, with_number}
use Rattle.repair_core.specs.Rounds.{Heard, started_at, came, round, taken, in_gap, may_ask, asked, is_due, numbers_up, lowest, candidates, due, is_pending, candidates_in, gap_in, later, latest_ask, grace_of, moment_after, deadline}
use Rattle.mask_register.specs.declared.asks.Ask.{Ask}
use Rattle.mask_register.specs.declared.window.Window.{Window}
use Rattle.mask_register.specs.Asks.{unasked, row_of, asks_of, asked_in, is_due_row, turned}
use Rattle.mask_register.specs.Window.{is_missing, lowest_in}
use Rattle.mask_register.specs.MaskRegister.{HoldsAsks, rows_after, due_of, window_of, window_in, is_open, latest_of}
use Rattle.mask_register.proofs.WindowLaws.{greatest-push, gap_push, Sees}

-- ---- numbers that rise by ones
pub numbers_next : (g k : ℕ) → k < g → numbers_up (g - k) k ≡ k ∷ numbers_up (g - (k + 1)) (k + 1)
numbers_next g k lt = let one : g - k ≡ suc (g - (k + 1)) = omega arith in ap (λ (n : ℕ). numbers_up n k) one

-- the numbers of a range that is within the window
abbrev pub Within : Window → ℕ → ℕ → Type 0
Within w count k = (j : ℕ) → k ≤ j → j < k + count → (lowest_in w ≤ j) × (j < w.greatest)

within_next : (w : Window) (count k : ℕ) → Within w (suc count) k → Within w count (k + 1)
within_next w count k h = λ j from to. h j (omega arith) (omega arith)

-- ---- rows
row_number : (rows : List Ask) (k : ℕ) → (row_of rows k).number ≡ k
row_number [] k = refl
row_number (a ∷ rows) k = pick (eqb a.number k) (row_number rows k) refl where
  pick : (b : Bool) → (row_of rows k).number ≡ k → eqb a.number k ≡ b → (cond b a (row_of rows k)).number ≡ k
  pick true rest t = grind (arith, nat_tests)
  pick false rest t = rest

turned_number : (a : Ask) (now wait : ℕ) → (turned a now wait).number ≡ a.number
turned_number a now wait = pick (is_due_row a now wait) where
  pick : (b : Bool) → (cond b (record { number = a.number; times = a.times + 1; last = now }) a).number ≡ a.number
  pick true = refl
  pick false = refl

turned_asks : (a : Ask) (now wait : ℕ) → asks_of (turned a now wait) ≡ cond (may_ask (asks_of a) now wait) ((asks_of a).0 + 1, now) (asks_of a)
turned_asks a now wait = pick (may_ask (asks_of a) now wait) where
  pick : (b : Bool) → asks_of (cond b (record { number = a.number; times = a.times + 1; last = now }) a) ≡ cond b ((asks_of a).0 + 1, now) (asks_of a)
  pick true = refl
  pick false = refl

row_first : (a : Ask) (rows : List Ask) (k : ℕ) → a.number ≡ k → row_of (a ∷ rows) k ≡ a
row_first a rows k e = let t : eqb a.number k ≡ true = grind (arith, nat_tests) in ap (λ (b : Bool). cond b a (row_of rows k)) t

row_rest : (a : Ask) (rows : List Ask) (k : ℕ) → a.number ≢ k → row_of (a ∷ rows) k ≡ row_of rows k
row_rest a rows k e = let t : eqb a.number k ≡ false = grind (arith, nat_tests) in ap (λ (b : Bool). cond b a (row_of rows k)) t

new_number : (rows : List Ask) (j now wait : ℕ) → (turned (row_of rows j) now wait).number ≡ j
new_number rows j now wait = turned_number (row_of rows j) now wait ∙ row_number rows j

-- the row of a missing number, after a round
row_after : (w : Window) (rows : List Ask) (now wait count j k : ℕ) → j ≤ k → k < j + count → is_missing w k ≡ true → row_of (rows_after w rows now wait (numbers_up count j)) k ≡ turned (row_of rows k) now wait
row_after w rows now wait zero j k from to miss = absurd (omega arith)
row_after w rows now wait (suc count) j k from to miss = ⊎_elim (λ (e : j ≡ k). same e) (λ (ne : j ≢ k). other ne (row_after w rows now wait count (j + 1) k (omega arith) (omega arith) miss)) (cases_eq j k) where
  same : j ≡ k → row_of (cond (is_missing w j) (turned (row_of rows j) now wait ∷ rows_after w rows now wait (numbers_up count (j + 1))) (rows_after w rows now wait (numbers_up count (j + 1)))) k ≡ turned (row_of rows k) now wait
  same e =
      ap (λ (b : Bool). row_of (cond b (turned (row_of rows j) now wait ∷ rows_after w rows now wait (numbers_up count (j + 1))) (rows_after w rows now wait (numbers_up count (j + 1)))) k) (ap (λ (i : ℕ). is_missing w i) e ∙ miss)
      ∙ row_first (turned (row_of rows j) now wait) (rows_after w rows now wait (numbers_up count (j + 1))) k (new_number rows j now wait ∙ e)
      ∙ ap (λ (i : ℕ). turned (row_of rows i) now wait) e

  other : j ≢ k → row_of (rows_after w rows now wait (numbers_up count (j + 1))) k ≡ turned (row_of rows k) now wait → row_of (cond (is_missing w j) (turned (row_of rows j) now wait ∷ rows_after w rows now wait (numbers_up count (j + 1))) (rows_after w rows now wait (numbers_up count (j + 1)))) k ≡ turned (row_of rows k) now wait
  other ne rest = pick (is_missing w j) where
    pick : (b : Bool) → row_of (cond b (turned (row_of rows j) now wait ∷ rows_after w rows now wait (numbers_up count (j + 1))) (rows_after w rows now wait (numbers_up count (j + 1)))) k ≡ turned (row_of rows k) now wait
    pick true = row_rest (turned (row_of rows j) now wait) (rows_after w rows now wait (numbers_up count (j + 1))) k (λ e. ne (sym (new_number rows j now wait) ∙ e)) ∙ rest
    pick false = rest

-- no number above the window has a row
row_above : (w : Window) (rows : List Ask) (now wait count j k : ℕ) → j + count ≤ k → row_of (rows_after w rows now wait (numbers_up count j)) k ≡ unasked k
row_above w rows now wait zero j k to = refl
row_above w rows now wait (suc count) j k to = pick (is_missing w j) (row_above w rows now wait count (j + 1) k (omega arith)) where
  pick : (b : Bool) → row_of (rows_after w rows now wait (numbers_up count (j + 1))) k ≡ unasked k → row_of (cond b (turned (row_of rows j) now wait ∷ rows_after w rows now wait (numbers_up count (j + 1))) (rows_after w rows now wait (numbers_up count (j + 1)))) k ≡ unasked k
  pick true rest = row_rest (turned (row_of rows j) now wait) (rows_after w rows now wait (numbers_up count (j + 1))) k (λ e. let is : j ≡ k = sym (new_number rows j now wait) ∙ e in absurd (omega arith)) ∙ rest
  pick false rest = rest

-- ---- what came
gap_below : (l : List ℕ) (k : ℕ) → greatest l ≤ k → in_gap l k ≡ false
gap_below [] k h = refl
gap_below (x ∷ xs) k h = grind (arith, nat_tests)

greatest_grows : (l : List ℕ) (n : ℕ) → greatest l ≤ greatest (with_number l n)
greatest_grows l n = pick (is_fresh l n) where
  pick : (b : Bool) → greatest l ≤ greatest (cond b (l ++ n ∷ []) l)
  pick true = omega (arith, greatest-push l n)
  pick false = omega arith

-- a number above the greatest was never asked for
never : (past : Heard) (k : ℕ) → greatest (taken past) < k → asked past k ≡ (0, 0)
never (started_at o) k h = refl
never (came past n) k h = never past k (omega (arith, greatest_grows (taken past) n))
never (round past now wait) k h =
    ap (λ (b : Bool). cond (b && may_ask (asked past k) now wait) ((asked past k).0 + 1, now) (asked past k)) (gap_below (taken past) k (omega arith)) ∙ never past k h

pub asks_came : (rows : List Ask) (past : Heard) (n : ℕ) → HoldsAsks rows past → HoldsAsks rows (came past n)
asks_came rows past n h = pick (is_fresh (taken past) n) refl where
  pick : (b : Bool) → is_fresh (taken past) n ≡ b → HoldsAsks rows (came past n)
  pick true f = record {
    asks = λ k g. ⊎_elim (λ (old : in_gap (taken past) k ≡ true). h.asks k old) (λ (new : greatest (taken past) < k). h.above k new ∙ sym (never past k new)) (gap_push (taken past) n k (sym (ap (λ (b : Bool). in_gap (cond b (taken past ++ n ∷ []) (taken past)) k) f) ∙ g));
    above = λ k g. h.above k (omega (arith, greatest_grows (taken past) n));
  }
  pick false f = record {
    asks = λ k g. h.asks k (sym (ap (λ (b : Bool). in_gap (cond b (taken past ++ n ∷ []) (taken past)) k) f) ∙ g);
    above = λ k g. h.above k (omega (arith, greatest_grows (taken past) n));
  }

-- ---- a round
asked_next : (past : Heard) (now wait k : ℕ) → in_gap (taken past) k ≡ true → asked (round past now wait) k ≡ cond (may_ask (asked past k) now wait) ((asked past k).0 + 1, now) (asked past k)
asked_next past now wait k g = ap (λ (b : Bool). cond (b && may_ask (asked past k) now wait) ((asked past k).0 + 1, now) (asked past k)) g

pub asks_round : (w : Window) (rows : List Ask) (past : Heard) (now wait : ℕ) → Sees w (taken past) → HoldsAsks rows past → HoldsAsks (rows_after w rows now wait (window_of w)) (round past now wait)
asks_round w rows past now wait s h = record {
  asks = λ k g.
      let at = s.outside k g in
      ap asks_of (row_after w rows now wait (w.greatest - lowest_in w) (lowest_in w) k at.0 (omega (arith, at.1)) (sym (s.inside k at.0 at.1) ∙ g))
      ∙ turned_asks (row_of rows k) now wait
      ∙ ap (λ (p : ℕ × ℕ). cond (may_ask p now wait) (p.0 + 1, now) p) (h.asks k g)
      ∙ sym (asked_next past now wait k g);
  above = λ k g. ap asks_of (row_above w rows now wait (w.greatest - lowest_in w) (lowest_in w) k (omega (arith, s.ordered, s.high)));
}

-- the asks that a round makes
due_here : (w : Window) (rows : List Ask) (past : Heard) (now wait k : ℕ) → Sees w (taken past) → HoldsAsks rows past → lowest_in w ≤ k → k < w.greatest → (is_missing w k && is_due_row (row_of rows k) now wait) ≡ is_due past now wait k
due_here w rows past now wait k s h low high = pick (in_gap (taken past) k) refl where
  pick : (b : Bool) → in_gap (taken past) k ≡ b → (is_missing w k && is_due_row (row_of rows k) now wait) ≡ (in_gap (taken past) k && may_ask (asked past k) now wait)
  pick true g =
      ap (λ (c : Bool). c && is_due_row (row_of rows k) now wait) (sym (s.inside k low high))
      ∙ ap (λ (c : Bool). c && may_ask (asked_in rows k) now wait) g
      ∙ ap (λ (p : ℕ × ℕ). may_ask p now wait) (h.asks k g)
      ∙ sym (ap (λ (c : Bool). c && may_ask (asked past k) now wait) g)
  pick false g =
      ap (λ (c : Bool). c && is_due_row (row_of rows k) now wait) (sym (s.inside k low high) ∙ g)
      ∙ sym (ap (λ (c : Bool). c && may_ask (asked past k) now wait) g)

due_all : (count k : ℕ) (w : Window) (rows : List Ask) (past : Heard) (now wait : ℕ) → Sees w (taken past) → HoldsAsks rows past → Within w count k → due_of w rows now wait (numbers_up count k) ≡ filter (is_due past now wait) (numbers_up count k)
due_all zero k w rows past now wait s h in_range = refl
due_all (suc count) k w rows past now wait s h in_range =
    let at = in_range k (omega arith) (omega arith) in
    ap (λ (b : Bool). cond b (k ∷ due_of w rows now wait (numbers_up count (k + 1))) (due_of w rows now wait (numbers_up count (k + 1)))) (due_here w rows past now wait k s h at.0 at.1)
    ∙ ap (λ (l : List ℕ). cond (is_due past now wait k) (k ∷ l) l) (due_all count (k + 1) w rows past now wait s h (within_next w count k in_range))

window_is : (w : Window) (l : List ℕ) → Sees w l → candidates l ≡ window_of w
window_is w l s = ap (λ (low : ℕ). numbers_up (greatest l - low) low) s.low ∙ ap (λ (g : ℕ). numbers_up (g - lowest_in w) (lowest_in w)) s.high

pub due_is : (w : Window) (rows : List Ask) (past : Heard) (now wait : ℕ) → Sees w (taken past) → HoldsAsks rows past → due_of w rows now wait (window_of w) ≡ due past now wait
due_is w rows past now wait s h =
    due_all (w.greatest - lowest_in w) (lowest_in w) w rows past now wait s h (λ j from to. (from, omega arith))
    ∙ sym (ap (λ (l : List ℕ). filter (is_due past now wait) l) (window_is w (taken past) s))

-- ---- where nothing is missing
abbrev pub IsWhole : Window → Type 0
IsWhole w = (k : ℕ) → lowest_in w ≤ k → k < w.greatest → is_missing w k ≡ false

none_due : (count k : ℕ) (w : Window) (rows : List Ask) (now wait : ℕ) → IsWhole w → Within w count k → due_of w rows now wait (numbers_up count k) ≡ []
none_due zero k w rows now wait whole in_range = refl
none_due (suc count) k w rows now wait whole in_range =
    let at = in_range k (omega arith) (omega arith) in
    ap (λ (b : Bool). cond (b && is_due_row (row_of rows k) now wait) (k ∷ due_of w rows now wait (numbers_up count (k + 1))) (due_of w rows now wait (numbers_up count (k + 1)))) (whole k at.0 at.1)
    ∙ none_due count (k + 1) w rows now wait whole (within_next w count k in_range)

pub whole_due : (w : Window) (rows : List Ask) (past : Heard) (now wait : ℕ) → Sees w (taken past) → HoldsAsks rows past → IsWhole w → due past now wait ≡ []
whole_due w rows past now wait s h whole =
    sym (due_is w rows past now wait s h) ∙ none_due (w.greatest - lowest_in w) (lowest_in w) w rows now wait whole (λ j from to. (from, omega arith))

none_open : (count k : ℕ) (w : Window) (rows : List Ask) → IsWhole w → Within w count k → list_any (is_open w rows) (numbers_up count k) ≡ false
none_open zero k w rows whole in_range = refl
none_open (suc count) k w rows whole in_range =
    let at = in_range k (omega arith) (omega arith) in
    ap (λ (b : Bool). (b && ltb (row_of rows k).times 5) || list_any (is_open w rows) (numbers_up count (k + 1))) (whole k at.0 at.1)
    ∙ none_open count (k + 1) w rows whole (within_next w count k in_range)

-- ---- what may be asked for again
open_here : (w : Window) (rows : List Ask) (past : Heard) (k : ℕ) → Sees w (taken past) → HoldsAsks rows past → lowest_in w ≤ k → k < w.greatest → is_open w rows k ≡ (in_gap (taken past) k && ltb (asked past k).0 5)
open_here w rows past k s h low high = pick (in_gap (taken past) k) refl where
  pick : (b : Bool) → in_gap (taken past) k ≡ b → (is_missing w k && ltb (row_of rows k).times 5) ≡ (in_gap (taken past) k && ltb (asked past k).0 5)
  pick true g =
      ap (λ (c : Bool). c && ltb (row_of rows k).times 5) (sym (s.inside k low high))
      ∙ ap (λ (p : ℕ × ℕ). in_gap (taken past) k && ltb p.0 5) (h.asks k g)
  pick false g =
      ap (λ (c : Bool). c && ltb (row_of rows k).times 5) (sym (s.inside k low high) ∙ g)
      ∙ sym (ap (λ (c : Bool). c && ltb (asked past k).0 5) g)

abbrev is_pending_at : Heard → ℕ → Bool
is_pending_at past k = in_gap (taken past) k && ltb (asked past k).0 5

open_all : (count k : ℕ) (w : Window) (rows : List Ask) (past : Heard) → Sees w (taken past) → HoldsAsks rows past → Within w count k → list_any (is_open w rows) (numbers_up count k) ≡ list_any (is_pending_at past) (numbers_up count k)
open_all zero k w rows past s h in_range = refl
open_all (suc count) k w rows past s h in_range =
    let at = in_range k (omega arith) (omega arith) in
    ap (λ (b : Bool). b || list_any (is_open w rows) (numbers_up count (k + 1))) (open_here w rows past k s h at.0 at.1)
    ∙ ap (λ (b : Bool). is_pending_at past k || b) (open_all count (k + 1) w rows past s h (within_next w count k in_range))

range_is : (w : Window) (l : List ℕ) (from to : ℕ) → Sees w l → candidates_in l from to ≡ window_in w from to
range_is w l from to s = ap (λ (low : ℕ). numbers_up (min (greatest l) to - max low from) (max low from)) s.low ∙ ap (λ (g : ℕ). numbers_up (min g to - max (lowest_in w) from) (max (lowest_in w) from)) s.high

open_in : (w : Window) (rows : List Ask) (past : Heard) (from to : ℕ) → Sees w (taken past) → HoldsAsks rows past → list_any (is_open w rows) (window_in w from to) ≡ list_any (is_pending_at past) (candidates_in (taken past) from to)
open_in w rows past from to s h =
    open_all (min w.greatest to - max (lowest_in w) from) (max (lowest_in w) from) w rows past s h (λ j low high. (omega arith, omega arith))
    ∙ sym (ap (λ (l : List ℕ). list_any (is_pending_at past) l) (range_is w (taken past) from to s))

pub pending_is : (w : Window) (rows : List Ask) (past : Heard) → Sees w (taken past) → HoldsAsks rows past → list_any (is_open w rows) (window_in w 0 w.greatest) ≡ is_pending past
pending_is w rows past s h =
    open_in w rows past 0 w.greatest s h
    ∙ ap (λ (l : List ℕ). list_any (is_pending_at past) l) (ap (λ (g : ℕ). candidates_in (taken past) 0 g) (sym s.high) ∙ whole (greatest (taken past)) (lowest (taken past))) where
      whole : (g low : ℕ) → numbers_up (min g g - max low 0) (max low 0) ≡ numbers_up (g - low) low
      whole g low = let a : max low 0 ≡ low = omega arith in let b : min g g ≡ g = omega arith in rw (a, b) refl

pub whole_pending : (w : Window) (rows : List Ask) (past : Heard) → Sees w (taken past) → HoldsAsks rows past → IsWhole w → is_pending past ≡ false
whole_pending w rows past s h whole =
    sym (pending_is w rows past s h)
    ∙ none_open (min w.greatest w.greatest - max (lowest_in w) 0) (max (lowest_in w) 0) w rows whole (λ j low high. (omega arith, omega arith))

-- ---- when missing numbers are given up
any_filter : (p q : ℕ → Bool) (xs : List ℕ) → list_any p (filter q xs) ≡ list_any (λ k. q k && p k) xs
any_filter p q [] = refl
any_filter p q (x ∷ xs) = pick (q x) (any_filter p q xs) where
  pick : (b : Bool) → list_any p (filter q xs) ≡ list_any (λ k. q k && p k) xs → list_any p (cond b (x ∷ filter q xs) (filter q xs)) ≡ ((b && p x) || list_any (λ k. q k && p k) xs)
  pick true rest = ap (λ (c : Bool). p x || c) rest
  pick false rest = rest

latest_filter : (past : Heard) (q : ℕ → Bool) (o : Option ℕ) (k : ℕ) (ks : List ℕ) → latest_ask past o (filter q (k ∷ ks)) ≡ latest_ask past (cond (q k) (later o (asked past k).1) o) (filter q ks)
latest_filter past q o k ks = pick (q k) where
  pick : (b : Bool) → latest_ask past o (cond b (k ∷ filter q ks) (filter q ks)) ≡ latest_ask past (cond b (later o (asked past k).1) o) (filter q ks)
  pick true = refl
  pick false = refl

latest_here : (w : Window) (rows : List Ask) (past : Heard) (o : Option ℕ) (k : ℕ) → Sees w (taken past) → HoldsAsks rows past → lowest_in w ≤ k → k < w.greatest → cond (is_missing w k) (later o (row_of rows k).last) o ≡ cond (in_gap (taken past) k) (later o (asked past k).1) o
latest_here w rows past o k s h low high = pick (in_gap (taken past) k) refl where
  pick : (b : Bool) → in_gap (taken past) k ≡ b → cond (is_missing w k) (later o (row_of rows k).last) o ≡ cond (in_gap (taken past) k) (later o (asked past k).1) o
  pick true g =
      ap (λ (c : Bool). cond c (later o (row_of rows k).last) o) (sym (s.inside k low high))
      ∙ ap (λ (p : ℕ × ℕ). cond (in_gap (taken past) k) (later o p.1) o) (h.asks k g)
  pick false g =
      ap (λ (c : Bool). cond c (later o (row_of rows k).last) o) (sym (s.inside k low high) ∙ g)
      ∙ sym (ap (λ (c : Bool). cond c (later o (asked past k).1) o) g)

latest_all : (count k : ℕ) (w : Window) (rows : List Ask) (past : Heard) (o : Option ℕ) → Sees w (taken past) → HoldsAsks rows past → Within w count k → latest_of w rows o (numbers_up count k) ≡ latest_ask past o (filter (in_gap (taken past)) (numbers_up count k))
latest_all zero k w rows past o s h in_range = refl
latest_all (suc count) k w rows past o s h in_range =
    let at = in_range k (omega arith) (omega arith) in
    ap (λ (p : Option ℕ). latest_of w rows p (numbers_up count (k + 1))) (latest_here w rows past o k s h at.0 at.1)
    ∙ latest_all count (k + 1) w rows past (cond (in_gap (taken past) k) (later o (asked past k).1) o) s h (within_next w count k in_range)
    ∙ sym (latest_filter past (in_gap (taken past)) o k (numbers_up count (k + 1)))

latest_is : (w : Window) (rows : List Ask) (past : Heard) (from to : ℕ) → Sees w (taken past) → HoldsAsks rows past → latest_of w rows None (window_in w from to) ≡ latest_ask past None (gap_in (taken past) from to)
latest_is w rows past from to s h =
    latest_all (min w.greatest to - max (lowest_in w) from) (max (lowest_in w) from) w rows past None s h (λ j low high. (omega arith, omega arith))
    ∙ sym (ap (λ (l : List ℕ). latest_ask past None (filter (in_gap (taken past)) l)) (range_is w (taken past) from to s))

-- when missing numbers are given up, as the register answers it
abbrev pub give_up : Window → List Ask → ℕ → ℕ → ℕ → Option ℕ → Option ℕ
give_up w rows from to received trip = cond (list_any (is_open w rows) (window_in w from to)) None (moment_after (unwrap_or (latest_of w rows None (window_in w from to)) received) (grace_of trip))

pub give_up_is : (w : Window) (rows : List Ask) (past : Heard) (from to received : ℕ) (trip : Option ℕ) → Sees w (taken past) → HoldsAsks rows past → give_up w rows from to received trip ≡ deadline past from to received trip
give_up_is w rows past from to received trip s h =
    ap (λ (b : Bool). cond b None (moment_after (unwrap_or (latest_of w rows None (window_in w from to)) received) (grace_of trip)))
    (open_in w rows past from to s h ∙ sym (any_filter (λ k. ltb (asked past k).0 5) (in_gap (taken past)) (candidates_in (taken past) from to)))
    ∙ ap (λ (o : Option ℕ). cond (list_any (λ k. ltb (asked past k).0 5) (gap_in (taken past) from to)) None (moment_after (unwrap_or o received) (grace_of trip)))
    (latest_is w rows past from to s h)
