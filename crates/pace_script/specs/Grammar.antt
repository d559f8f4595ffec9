-- What is read of a pace script, and the first line outside the grammar.
use Rattle.std.specs.Prelude.{ℕ, ◌+◌, ◌^◌, List, [], ◌∷◌, ◌++◌, length, Bool, true, false, ◌==◌, if◌then◌else◌, Option, Some, None, Result, Ok, Err, codes}
use Rattle.std.specs.Str.{bytes_eq}
use Rattle.media_script.specs.Grammar.{and_then, done, look_up, no_other, pieces_of}
use Rattle.media_script.specs.Spelling.{words_of, is_passed_over}
use Rattle.media_script.specs.Words.{◌>>=◌, narrow_of, name_of}
use Rattle.pace_core.specs.declared.run.PaceCall.{PaceCall}
use Rattle.pace_core.specs.declared.run.PaceCall.TheVariants.{Pacing, Padding, Timeout, Poll, Send}
use Rattle.pace_core.specs.declared.run.PaceQueue.{PaceQueue}
use Rattle.rtp_base.specs.declared.name.TheConstants.{MAX_NAME_LEN}
use Rattle.pace_script.specs.declared.calls.TheConstants.{SIZE_LIMIT}
use Rattle.pace_script.specs.declared.queues.TheConstants.{BYTES_LIMIT, WAIT_LIMIT}
use Rattle.pace_script.specs.declared.reader.Reader.{Reader}
use Rattle.pace_script.specs.declared.reader.Reader.TheVariants.{Head, Named, InCalls, Ended}
use Rattle.pace_script.specs.Words.{rate_of, moment_of, parts_of}

-- ---- the queues of a timeout

-- p marks a queue for padding
abbrev pub mark_in : List (List ℕ) → Option Bool
mark_in [] = Some false
mark_in (mark ∷ []) = if bytes_eq mark (codes "p") then Some true else None
mark_in (mark ∷ more ∷ parts) = None

unfoldable pub queue_in : List (List ℕ) → Option PaceQueue
queue_in =
    and_then (name_of MAX_NAME_LEN) (λ mid.
    and_then (narrow_of (2 ^ 32)) (λ count.
    and_then (narrow_of BYTES_LIMIT) (λ bytes.
    and_then (narrow_of WAIT_LIMIT) (λ wait marks.
    mark_in marks >>= λ padding.
    Some (record { mid = mid; count = count; bytes = bytes; wait = wait; padding = padding })))))

abbrev pub queue_of : List ℕ → Option PaceQueue
queue_of word = queue_in (parts_of word)

abbrev pub queues_of : List (List ℕ) → Option (List PaceQueue)
queues_of [] = Some []
queues_of (word ∷ words) = queue_of word >>= λ q. queues_of words >>= λ qs. Some (q ∷ qs)

-- ---- calls, without their first word

abbrev pub pacing_call : List (List ℕ) → Option PaceCall
pacing_call = and_then rate_of (λ rate. done (Pacing rate))

abbrev pub padding_call : List (List ℕ) → Option PaceCall
padding_call = and_then rate_of (λ rate. done (Padding rate))

abbrev pub timeout_call : List (List ℕ) → Option PaceCall
timeout_call = and_then moment_of (λ now words. queues_of words >>= λ queues. Some (Timeout now queues))

abbrev pub poll_call : List (List ℕ) → Option PaceCall
poll_call = done Poll

abbrev pub send_call : List (List ℕ) → Option PaceCall
send_call = and_then moment_of (λ now. and_then (narrow_of SIZE_LIMIT) (λ size. done (Send now size)))

abbrev pub call_kinds : List (List ℕ × (List (List ℕ) → Option PaceCall))
call_kinds =
    (codes "pacing", pacing_call)
    ∷ (codes "padding", padding_call)
    ∷ (codes "timeout", timeout_call)
    ∷ (codes "poll", poll_call)
    ∷ (codes "send", send_call)
    ∷ []

-- the call of a line
unfoldable pub call_of : List (List ℕ) → Option PaceCall
call_of words = look_up no_other call_kinds words

abbrev pub rate_kinds : List (List ℕ × (List (List ℕ) → Option ℕ))
rate_kinds = (codes "rate", and_then rate_of (λ rate. done rate)) ∷ []

-- the rate of the second line
unfoldable pub rate_line_of : List (List ℕ) → Option ℕ
rate_line_of words = look_up no_other rate_kinds words

-- ---- lines

-- what was read so far, and one more line that is not passed over
unfoldable pub read_on : Reader → List ℕ → Option Reader
read_on Head line = if bytes_eq line (codes "pace 1") then Some Named else None
read_on Named line = rate_line_of (words_of line) >>= λ rate. Some (InCalls rate [])
read_on (InCalls rate calls) line =
    if bytes_eq line (codes "end") then Some (Ended rate calls)
    else (call_of (words_of line) >>= λ call. Some (InCalls rate (calls ++ call ∷ [])))
read_on (Ended rate calls) line = None

unfoldable pub line_taken : Reader → List ℕ → Option Reader
line_taken reader line = if is_passed_over line then Some reader else read_on reader line

-- the rate and the calls, after the line end
unfoldable pub whole_of : ℕ → Reader → Result (ℕ × List PaceCall) ℕ
whole_of n (Ended rate calls) = Ok (rate, calls)
whole_of n reader = Err n

abbrev pub read_then : ℕ → Option Reader → (Reader → Result (ℕ × List PaceCall) ℕ) → Result (ℕ × List PaceCall) ℕ
read_then n None more = Err n
read_then n (Some reader) more = more reader

-- the pieces between line ends, the first of which has this number; the last piece is no line
unfoldable pub read_from : ℕ → Reader → List (List ℕ) → Result (ℕ × List PaceCall) ℕ
read_from n reader [] = Err n
read_from n reader (line ∷ pieces) =
    if length pieces == 0 then (if length line == 0 then whole_of n reader else Err n)
    else read_then n (line_taken reader line) (λ more. read_from (n + 1) more pieces)

-- the rate and the calls, or the first line outside the grammar
abbrev pub script_of : List ℕ → Result (ℕ × List PaceCall) ℕ
script_of bytes = read_from 1 Head (pieces_of bytes)
