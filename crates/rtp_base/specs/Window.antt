-- Which numbers of repair datagrams are fresh, and what a window keeps of the numbers that were taken.
use Rattle.std.specs.Prelude.{◌≡◌, ℕ, ◌+◌, ◌%◌, ◌<◌, ◌≤◌, Bool, true, false, not, ◌&&◌, ◌||◌, ◌==◌, nat_eq, nat_lt, max, if◌then◌else◌, slice_set, length, Option, Some, None, List, [], ◌∷◌, ◌++◌, slice_index_or}
use Rattle.std.specs.List.{list_any}
use Rattle.rtp_base.specs.declared.window.SeqNoWindow.{SeqNoWindow}
use Rattle.rtp_base.specs.declared.window.TheConstants.{WINDOW_LEN}

-- the greatest of some numbers
abbrev pub greatest : List ℕ → ℕ
greatest [] = 0
greatest (x ∷ xs) = max x (greatest xs)

-- whether n is fresh after the numbers l: it is the first, or above all of them, or above the greatest less 128 and not
-- among them
abbrev pub is_fresh_rtx : List ℕ → ℕ → Bool
is_fresh_rtx [] n = true
is_fresh_rtx (x ∷ xs) n = nat_lt (greatest (x ∷ xs)) n || (nat_lt (greatest (x ∷ xs)) (n + WINDOW_LEN) && not (list_any (nat_eq n) (x ∷ xs)))

-- the same where up to a floor, if there is one, no number is fresh
abbrev pub is_fresh_after : Option ℕ → List ℕ → ℕ → Bool
is_fresh_after None l n = is_fresh_rtx l n
is_fresh_after (Some floor) l n = nat_lt floor n && is_fresh_rtx l n

-- the numbers that are taken after n came
abbrev pub with_fresh : Option ℕ → List ℕ → ℕ → List ℕ
with_fresh floor l n = if is_fresh_after floor l n then l ++ n ∷ [] else l

-- the greatest number that was taken, or the floor where that is greater
abbrev pub greatest_after : Option ℕ → List ℕ → ℕ
greatest_after None l = greatest l
greatest_after (Some floor) l = max floor (greatest l)

abbrev pub is_above : Option ℕ → ℕ → Bool
is_above None n = true
is_above (Some floor) n = nat_lt floor n

-- the option is this number
abbrev pub is_just : ℕ → Option ℕ → Bool
is_just n None = false
is_just n (Some x) = x == n

-- the number is in its slot, of 128
abbrev pub holds : List (Option ℕ) → ℕ → Bool
holds slots k = is_just k (slice_index_or slots (k % WINDOW_LEN) None)

-- of the numbers that were taken the window keeps the greatest, and which of the last 128 are among them
pub record Keeps (w : SeqNoWindow) (low : Option ℕ) (l : List ℕ) : Type 0 where
  pub long : length w.slots ≡ WINDOW_LEN
  pub start : w.floor ≡ low
  pub high : w.greatest ≡ greatest_after low l
  pub recent : (k : ℕ) → k ≤ greatest_after low l → greatest_after low l < k + WINDOW_LEN → is_above low k ≡ true → holds w.slots k ≡ list_any (nat_eq k) l
  pub above : (k : ℕ) → greatest_after low l < k → holds w.slots k ≡ false

-- the window stands for a floor and the numbers that were taken; without a floor one was taken
unfoldable pub StandsFor : SeqNoWindow → Option ℕ → List ℕ → Type 0
StandsFor w None [] = ⊥
StandsFor w None (x ∷ xs) = Keeps w None (x ∷ xs)
StandsFor w (Some floor) l = Keeps w (Some floor) l

-- what the window answers, and what it is after it took a number
abbrev pub accepts_number : SeqNoWindow → ℕ → Bool
accepts_number w n = is_above w.floor n && (nat_lt w.greatest n || (nat_lt w.greatest (n + WINDOW_LEN) && not (holds w.slots n)))

abbrev pub put_number : SeqNoWindow → ℕ → SeqNoWindow
put_number w n = record w { greatest = max w.greatest n; slots = slice_set w.slots (n % WINDOW_LEN) (Some n) }
