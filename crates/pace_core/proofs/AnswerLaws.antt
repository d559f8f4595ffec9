-- What answers the polls of a pacer keeps within the bound.
use Rattle.std.proofs.Common.{◌≡◌, ℕ, ◌-◌, ◌*◌, ◌≤◌, List, [], ◌∷◌, Bool, true, false, refl, subst, arith, ap, ◌∙◌}
use Rattle.std.specs.Prelude.{Option, slice_get, Some, None, IsSome, is_some, ◌||◌, not}
use Rattle.std.proofs.lemmas.Bool.{and_parts}
use Rattle.std.proofs.lemmas.Bool.Decides.{nat_tests}
use Rattle.std.proofs.lemmas.Grind.{common_steps}
use Rattle.pace_units.specs.declared.queue.QueueState.{QueueState}
use Rattle.pace_units.specs.declared.cluster.ProbeClusterState.{ProbeClusterState}
use Rattle.pace_core.specs.Bucket.{send, step, burst, Bucket}
use Rattle.pace_core.specs.Envelope.{AreLetOut}
use Rattle.pace_core.specs.Past.{Past, made, pacing_set, padding_set, timed, polled, probe_started, probe_taken, sent, rate_in, since_in, passed, has_sent, debt_in, padding_debt_in, padding_in, asked_of, turn_of, chosen_turn, clusters_at, active_in, chosen_in}
use Rattle.pace_core.specs.Queues.{are_empty, with_unpaced, unpaced_from}
use Rattle.pace_core.specs.Answers.{timeline, is_awaited, are_paced, IsPaced, AreAnswers, AreShort, AnswersAreWithin}
use Rattle.pace_core.proofs.EnvelopeLaws.{after-append, front, back, both, last_rate-after, last_moment-after, envelope, after}

-- nothing is owed and nothing is drained before the first timeout
abbrev empty : Bucket
empty = record { debt = 0; rate = 0; since = 0 }

-- the bucket of the timeline is the pacer's
record Matches (past : Past) : Type 0 where
  debt : (after empty (timeline past)).debt ≡ debt_in past
  rate : (after empty (timeline past)).rate ≡ rate_in past
  passes : (now : ℕ) → (after empty (timeline past)).rate * (now - (after empty (timeline past)).since) ≡ rate_in past * passed (since_in past) now

matches : (past : Past) → Matches past
matches (made rate) = record { debt = refl; rate = refl; passes = λ now. omega arith }
matches (pacing_set past rate) = let m = matches past in record { debt = m.debt; rate = m.rate; passes = m.passes }
matches (padding_set past rate) = let m = matches past in record { debt = m.debt; rate = m.rate; passes = m.passes }
matches (timed past now queues) =
    let m = matches past in
    record {
      debt = rw (after-append empty (timeline past)) (omega (arith, m.debt, m.passes now));
      rate = rw (after-append empty (timeline past)) refl;
      passes = λ later. rw (after-append empty (timeline past)) refl;
    }
matches (polled past) = let m = matches past in record { debt = m.debt; rate = m.rate; passes = m.passes }
matches (probe_started past config) = let m = matches past in record { debt = m.debt; rate = m.rate; passes = m.passes }
matches (probe_taken past) = let m = matches past in record { debt = m.debt; rate = m.rate; passes = m.passes }
matches (sent past now size key) =
    let m = matches past in
    record {
      debt = rw (after-append empty (timeline past)) (omega (arith, m.debt, m.rate));
      rate = rw (after-append empty (timeline past)) m.rate;
      passes = λ now. rw (after-append empty (timeline past)) (m.passes now);
    }

-- before anything is sent nothing is owed
unsent : (past : Past) → has_sent past ≡ false → debt_in past ≡ 0
unsent (made rate) e = refl
unsent (pacing_set past rate) e = unsent past e
unsent (padding_set past rate) e = unsent past e
unsent (timed past now queues) e = let rest = unsent past e in omega arith
unsent (polled past) e = unsent past e
unsent (probe_started past config) e = unsent past e
unsent (probe_taken past) e = unsent past e
unsent (sent past now size key) e = cc

-- among paced queues no unpaced one is found
passed_over : (q : QueueState) → not q.unpaced ≡ true → with_unpaced None q ≡ None
passed_over q e = grind arith

unpaced_none : (queues : List QueueState) → are_paced queues ≡ true → unpaced_from None queues ≡ None
unpaced_none [] e = refl
unpaced_none (q ∷ queues) e =
    let both : (not q.unpaced ≡ true) × (are_paced queues ≡ true) = and_parts (not q.unpaced) (are_paced queues) e in
    rw (passed_over q both.0) (unpaced_none queues both.1)

-- a paced queue is chosen only where at most the burst is owed
choice_low : (begun empty : Bool) (debt padding_debt padding rate now : ℕ) (queues : List QueueState) → (begun ≡ false → debt ≡ 0)
    → unpaced_from None queues ≡ None
    → IsSome (chosen_turn (asked_of debt padding_debt padding None now empty queues) (turn_of begun debt padding_debt rate padding None now empty queues)).queue
    → debt ≤ burst rate
choice_low begun empty debt padding_debt padding rate now queues unused none some = grind (arith, nat_tests, common_steps)

choice_low_when : (begun empty : Bool) (debt padding_debt padding rate now : ℕ) (active later : Option ProbeClusterState) (queues : List QueueState)
    → active ≡ None → later ≡ None → (begun ≡ false → debt ≡ 0) → unpaced_from None queues ≡ None
    → IsSome (chosen_turn (asked_of debt padding_debt padding active now empty queues) (turn_of begun debt padding_debt rate padding later now empty queues)).queue
    → debt ≤ burst rate
choice_low_when begun empty debt padding_debt padding rate now active later queues e f unused none some =
    choice_low begun empty debt padding_debt padding rate now queues unused none (rw (e, f) at some)

-- with no cluster started none runs
pub asked_none : (now : ℕ) (empty : Bool) (queues : List QueueState) → clusters_at [] now empty queues ≡ []
asked_none now empty queues = grind arith

-- where a queue is chosen, or a packet awaited, at most the burst is owed; and never both
record IsLow (past : Past) : Type 0 where
  chosen : IsSome (chosen_in past) → debt_in past ≤ burst (rate_in past)
  awaited : is_awaited past ≡ true → debt_in past ≤ burst (rate_in past)
  apart : is_awaited past ≡ true → chosen_in past ≡ None

low : (past : Past) → IsPaced past → AreAnswers past → IsLow past
low (made rate) paced are = record { chosen = λ h. cc; awaited = λ e. cc; apart = λ e. refl }
low (pacing_set past rate) paced are = let m = low past paced are in record { chosen = m.chosen; awaited = m.awaited; apart = m.apart }
low (padding_set past rate) paced are = let m = low past paced are in record { chosen = m.chosen; awaited = m.awaited; apart = m.apart }
low (timed past now queues) paced are =
    let before = ap (λ (cs : List ProbeClusterState). slice_get cs 0) paced.1 in
    let here = ap (λ (cs : List ProbeClusterState). slice_get (clusters_at cs now (are_empty queues) queues) 0) paced.1 ∙ ap (λ (cs : List ProbeClusterState). slice_get cs 0) (asked_none now (are_empty queues) queues) in
    record {
      chosen = choice_low_when (has_sent past) (are_empty queues) (debt_in (timed past now queues)) (padding_debt_in (timed past now queues)) (padding_in past) (rate_in (timed past now queues)) now (active_in past) (active_in (timed past now queues)) queues before here (unsent (timed past now queues)) (unpaced_none queues paced.0);
      awaited = λ e. cc;
      apart = λ e. cc;
    }
low (polled past) paced are =
    let m = low past paced are in
    record {
      chosen = λ h. cc;
      awaited = λ e. elim (chosen_in past) as (λ c. (IsSome c → debt_in past ≤ burst (rate_in past)) → (is_some c || is_awaited past) ≡ true → debt_in past ≤ burst (rate_in past)) [ None ↦ λ f g. m.awaited g | Some key ↦ λ f g. f refl ] m.chosen e;
      apart = λ e. refl;
    }
low (probe_started past config) paced are = let m = low past paced are in record { chosen = m.chosen; awaited = m.awaited; apart = m.apart }
low (probe_taken past) paced are = let m = low past paced are in record { chosen = m.chosen; awaited = m.awaited; apart = m.apart }
low (sent past now size key) paced are =
    let m = low past paced are.1 in
    record {
      chosen = λ h. let h2 = subst (λ o. IsSome o) (m.apart are.0) h in cc;
      awaited = λ e. cc;
      apart = λ e. cc;
    }

-- each answer is let out by the bucket of the timeline
let_out_all : (past : Past) → IsPaced past → AreAnswers past → AreShort past → AreLetOut empty (timeline past)
let_out_all (made rate) paced are short = tt
let_out_all (pacing_set past rate) paced are short = let_out_all past paced are short
let_out_all (padding_set past rate) paced are short = let_out_all past paced are short
let_out_all (timed past now queues) paced are short = both empty (timeline past) _ (let_out_all past paced.2 are short) tt
let_out_all (polled past) paced are short = let_out_all past paced are short
let_out_all (probe_started past config) paced are short = let_out_all past paced are short
let_out_all (probe_taken past) paced are short = let_out_all past paced are short
let_out_all (sent past now size key) paced are short =
    let m = matches past in
    let owed : debt_in past ≤ burst (rate_in past) = (low past paced are.1).awaited are.0 in
    let fits = short.0 in
    both empty (timeline past) _ (let_out_all past paced are.1 short.1)
    (rw (m.debt, m.rate) owed, rw m.rate fits, tt)

pub answers_are_within : AnswersAreWithin
answers_are_within past paced are short before between later first last e =
    let b = after empty before in
    let out = back empty before _ (subst (AreLetOut empty) e (let_out_all past paced are short)) in
    let s = step b (send first) in
    let rest = back s between (send last ∷ later) out.2 in
    let bound = envelope b first last between (out.0, out.1, both s between (send last ∷ []) (front s between (send last ∷ later) out.2) (rest.0, rest.1, tt)) in
    rw (← last_rate-after empty before, ← last_moment-after empty before) bound
