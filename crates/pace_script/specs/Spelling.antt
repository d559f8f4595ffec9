-- The grammar of pace scripts: which bytes spell which rate and calls.
use Rattle.std.specs.Prelude.{◌≡◌, ◌≢◌, ℕ, ◌^◌, ◌<◌, ◌≤◌, min, List, [], ◌∷◌, ◌++◌, Bool, true, false, not, filter, codes}
use Rattle.std.specs.Fmt.{decimal}
use Rattle.std.specs.List.{AllByRecursion}
use Rattle.media_script.specs.FirstWrong.{with_ends, IsLine}
use Rattle.media_script.specs.Spelling.{words_of, is_passed_over, AreLines, IsTime, IsName}
use Rattle.pace_core.specs.declared.run.PaceCall.{PaceCall}
use Rattle.pace_core.specs.declared.run.PaceCall.TheVariants.{Pacing, Padding, Timeout, Poll, Send}
use Rattle.pace_core.specs.declared.run.PaceQueue.{PaceQueue}
use Rattle.media_units.specs.declared.rate.TheConstants.{GREATEST_RATE}
use Rattle.rtp_base.specs.declared.name.TheConstants.{MAX_NAME_LEN}
use Rattle.pace_core.specs.declared.run.TheConstants.{MAX_PACKET}
use Rattle.pace_script.specs.declared.queues.TheConstants.{BYTES_LIMIT, MOST_WAIT}
use Rattle.pace_script.specs.declared.words.TheConstants.{MOST_TIME}
use Rattle.pace_script.specs.Words.{parts_of}

-- a number below 2^64 of bits a second; what is above the greatest rate is the greatest
abbrev pub IsRate : List ℕ → ℕ → Type 0
IsRate word rate = (n : ℕ) × (word ≡ decimal n) × (n < 2 ^ 64) × (rate ≡ min n GREATEST_RATE)

-- a moment, at most 10^16 ns
abbrev pub IsMoment : List ℕ → ℕ → Type 0
IsMoment word now = IsTime word now × (now ≤ MOST_TIME)

-- p behind the numbers marks a queue for padding
abbrev pub mark_of : Bool → List (List ℕ)
mark_of false = []
mark_of true = codes "p" ∷ []

-- the mid, the packets, their bytes and their wait in nanoseconds, parted by colons
pub record IsQueue (word : List ℕ) (q : PaceQueue) : Type 0 where
  pub name : IsName MAX_NAME_LEN q.mid
  pub count : q.count < 2 ^ 32
  pub bytes : q.bytes < BYTES_LIMIT
  pub wait : q.wait ≤ MOST_WAIT
  pub spelled : parts_of word ≡ q.mid ∷ decimal q.count ∷ decimal q.bytes ∷ decimal q.wait ∷ mark_of q.padding

-- each word says its queue
abbrev pub AreQueues : List (List ℕ) → List PaceQueue → Type 0
AreQueues [] [] = Unit {0}
AreQueues [] (q ∷ qs) = ⊥
AreQueues (word ∷ words) [] = ⊥
AreQueues (word ∷ words) (q ∷ qs) = IsQueue word q × AreQueues words qs

-- the words of a call
abbrev pub IsCall : List (List ℕ) → PaceCall → Type 0
IsCall words (Pacing rate) = (w : List ℕ) × IsRate w rate × (words ≡ codes "pacing" ∷ w ∷ [])
IsCall words (Padding rate) = (w : List ℕ) × IsRate w rate × (words ≡ codes "padding" ∷ w ∷ [])
IsCall words (Timeout now queues) =
    (w : List ℕ) × (ws : List (List ℕ)) × IsMoment w now × AreQueues ws queues × (words ≡ codes "timeout" ∷ w ∷ ws)
IsCall words Poll = words ≡ codes "poll" ∷ []
IsCall words (Send now size) =
    (w : List ℕ) × IsMoment w now × (size ≤ MAX_PACKET) × (words ≡ codes "send" ∷ w ∷ decimal size ∷ [])

-- the words of the second line
abbrev pub IsRateLine : List (List ℕ) → ℕ → Type 0
IsRateLine words rate = (w : List ℕ) × IsRate w rate × (words ≡ codes "rate" ∷ w ∷ [])

-- the first line, the rate, and the calls
pub record AreParts (lines : List (List ℕ)) (rate : ℕ) (calls : List PaceCall) : Type 0 where
  pub rate_line : List ℕ
  pub call_lines : List (List ℕ)
  pub parts : lines ≡ codes "pace 1" ∷ rate_line ∷ (call_lines ++ codes "end" ∷ [])
  pub rate_is : IsRateLine (words_of rate_line) rate
  pub calls_are : AreLines IsCall call_lines calls

-- each line ends with a line feed; empty lines and lines that begin with # are passed over
pub record IsPaceScript (bytes : List ℕ) (rate : ℕ) (calls : List PaceCall) : Type 0 where
  pub lines : List (List ℕ)
  pub split : bytes ≡ with_ends lines
  pub plain : AllByRecursion IsLine lines
  pub parts : AreParts (filter (λ line. not (is_passed_over line)) lines) rate calls
