-- Items that a round asks with have at most six entries.
use Rattle.std.proofs.Common.{◌≡◌, ℕ, zero, suc, ◌+◌, ◌-◌, ◌*◌, ◌<◌, ◌≤◌, Bool, true, false, cond, List, [], ◌∷◌, length, Option, Some, None, refl, arith}
use Rattle.std.specs.Prelude.{filter, nat_le, if◌then◌else◌}
use Rattle.std.specs.List.{AllByRecursion}
use Rattle.std.proofs.lemmas.Bool.Decides.{nat_tests}
use Rattle.rtp_base.specs.declared.nack_entry.NackEntry.{NackEntry}
use Rattle.repair_core.specs.declared.missing.Missing.{Missing}
use Rattle.repair_core.specs.Entries.{entry_of, alone, with_bit, packed}
use Rattle.repair_core.specs.Fresh.{greatest}
use Rattle.repair_core.specs.Rounds.{Heard, taken, is_due, numbers_up, lowest, due, wait_of}
use Rattle.stream_core.specs.Missing.{is_enabled, due_in, due_of, nack_with, nack_of}
use Rattle.stream_core.specs.Reporting.{IsBrief}
use Rattle.stream_core.specs.RxRecord.{RxRecord}

-- entries of rising numbers, after one that is begun, begin at least 17 apart
few_from : (p : ℕ → Bool) (count k : ℕ) (m : Missing) → m.first < k → 17 * length (packed (Some m) (filter p (numbers_up count k))) + m.first + 1 ≤ 17 + k + count
few_from p zero k m lt = omega arith
few_from p (suc count) k m lt =
    pick (p k) (few_from p count (k + 1) m (omega arith))
    (near (nat_le k (m.first + 16)) refl (few_from p count (k + 1) (with_bit m k) (omega arith)) (few_from p count (k + 1) (alone k) (omega arith)))
  where
    near : (b : Bool) → nat_le k (m.first + 16) ≡ b
        → 17 * length (packed (Some (with_bit m k)) (filter p (numbers_up count (k + 1)))) + (with_bit m k).first + 1 ≤ 17 + (k + 1) + count
        → 17 * length (packed (Some (alone k)) (filter p (numbers_up count (k + 1)))) + (alone k).first + 1 ≤ 17 + (k + 1) + count
        → 17 * length (cond b (packed (Some (with_bit m k)) (filter p (numbers_up count (k + 1)))) (entry_of m ∷ packed (Some (alone k)) (filter p (numbers_up count (k + 1))))) + m.first + 1
        ≤ 17 + k + suc count
    near true e with_it next = omega arith
    near false e with_it next = let far : m.first + 16 < k = grind (arith, nat_tests) in omega arith

    pick : (b : Bool) → 17 * length (packed (Some m) (filter p (numbers_up count (k + 1)))) + m.first + 1 ≤ 17 + (k + 1) + count
        → 17 * length (packed (Some m) (k ∷ filter p (numbers_up count (k + 1)))) + m.first + 1 ≤ 17 + k + suc count
        → 17 * length (packed (Some m) (cond b (k ∷ filter p (numbers_up count (k + 1))) (filter p (numbers_up count (k + 1))))) + m.first + 1 ≤ 17 + k + suc count
    pick true past here = here
    pick false past here = omega arith

few_of : (p : ℕ → Bool) (count k : ℕ) → 17 * length (packed None (filter p (numbers_up count k))) ≤ 16 + count
few_of p zero k = omega arith
few_of p (suc count) k = pick (p k) (few_of p count (k + 1)) (few_from p count (k + 1) (alone k) (omega arith))
  where
    pick : (b : Bool) → 17 * length (packed None (filter p (numbers_up count (k + 1)))) ≤ 16 + count
        → 17 * length (packed (Some (alone k)) (filter p (numbers_up count (k + 1)))) + (alone k).first + 1 ≤ 17 + (k + 1) + count
        → 17 * length (packed None (cond b (k ∷ filter p (numbers_up count (k + 1))) (filter p (numbers_up count (k + 1))))) ≤ 16 + suc count
    pick true past here = omega arith
    pick false past here = omega arith

-- at most 100 numbers may be missing
few_candidates : (l : List ℕ) → greatest l - lowest l ≤ 100
few_candidates [] = omega arith
few_candidates (x ∷ xs) = omega arith

few_due : (past : Heard) (now wait : ℕ) → length (packed None (due past now wait)) ≤ 6
few_due past now wait =
    let l : List ℕ = taken past in
    let all : 17 * length (packed None (due past now wait)) ≤ 16 + (greatest l - lowest l) = few_of (is_due past now wait) (greatest l - lowest l) (lowest l) in
    let few : greatest l - lowest l ≤ 100 = few_candidates l in
    omega (arith, all, few)

few_in : (now : ℕ) (trip : Option ℕ) (o : Option Heard) → length (packed None (due_in now trip o)) ≤ 6
few_in now trip None = omega arith
few_in now trip (Some past) = few_due past now (wait_of trip)

few_on : (now : ℕ) (x : RxRecord) → length (packed None (due_of now x)) ≤ 6
few_on now x = by (is_enabled x)
  where
    by : (b : Bool) → length (packed None (if b then due_in now x.state.trip x.numbers else [])) ≤ 6
    by true = few_in now x.state.trip x.numbers
    by false = omega arith

with_brief : (sender ssrc : ℕ) (es : List NackEntry) → length es ≤ 6 → AllByRecursion IsBrief (nack_with sender ssrc es)
with_brief sender ssrc [] short = tt
with_brief sender ssrc (e ∷ es) short = (short, tt)

-- what a stream asks for
pub nack_brief : (sender now : ℕ) (e : ℕ × RxRecord) → AllByRecursion IsBrief (nack_of sender now e)
nack_brief sender now e = with_brief sender e.1.state.ssrc (packed None (due_of now e.1)) (few_on now e.1)
