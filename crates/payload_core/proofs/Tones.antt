-- Telephone events in bytes, and durations in ticks.
use Rattle.std.proofs.Common.{◌≡◌, ℕ, ◌+◌, ◌-◌, ◌*◌, ◌/◌, ◌%◌, ◌<◌, ◌≤◌, Bool, true, false, List, ◌∷◌, ◌++◌, length, Some, refl, arith, eqb, ltb, inl, inr}
use Rattle.std.specs.Int.{w16, to_be_bytes, from_be_bytes}
use Rattle.std.proofs.lemmas.Bool.{eq-eqb, ne_eqb, lt-ltb, le-ltb, cases_lt}
use Rattle.std.proofs.lemmas.Nat.{from_be_bytes-to_be_bytes_2, div-add-mod'}
use Rattle.std.proofs.Math.Nat.{div-eq_of_lt-le, mod-lt}
use Rattle.payload_core.specs.Telephone.{units_of, duration_of, event_of, end_bit, EventReadsBack, UnitsComeBack}

read : (clock event byte volume units : ℕ) (end : Bool) (rest : List ℕ) → eqb (byte / 128) 1 ≡ end → byte % 64 ≡ volume → units < 65536
    → event_of clock ((event ∷ byte ∷ to_be_bytes w16 units) ++ rest)
    ≡ Some (record { event = event; end = end; volume = volume; duration = duration_of clock units })
read clock event byte volume units end rest first low u =
    let back : from_be_bytes w16 (to_be_bytes w16 units) ≡ units = from_be_bytes-to_be_bytes_2 units u in
    let long : ltb (length ((event ∷ byte ∷ to_be_bytes w16 units) ++ rest)) 4 ≡ false = le-ltb _ _ (omega arith) in
    rw (long, first, low, back) refl

parts : (clock event volume units : ℕ) (end : Bool) (rest : List ℕ) → volume ≤ 63 → units < 65536
    → event_of clock ((event ∷ (end_bit end + volume) ∷ to_be_bytes w16 units) ++ rest)
    ≡ Some (record { event = event; end = end; volume = volume; duration = duration_of clock units })
parts clock event volume units true rest v u = read clock event (128 + volume) volume units true rest (eq-eqb _ _ (omega arith)) (omega arith) u
parts clock event volume units false rest v u =
    read clock event (0 + volume) volume units false rest (ne_eqb _ _ (λ e. absurd (omega arith))) (omega arith) u

pub events_again : EventReadsBack
events_again clock e bytes rest v written = elim (cases_lt 65535 (units_of clock e.duration)) [
  | inl above ↦
      let t : ltb 65535 (units_of clock e.duration) ≡ true = lt-ltb _ _ above in
      absurd (let none = rw t at written in cc)
  | inr fits ↦
      let t : ltb 65535 (units_of clock e.duration) ≡ false = le-ltb _ _ fits in
      let same : Some (e.event ∷ (end_bit e.end + e.volume) ∷ to_be_bytes w16 (units_of clock e.duration)) ≡ Some bytes = rw t at written in
      let text : e.event ∷ (end_bit e.end + e.volume) ∷ to_be_bytes w16 (units_of clock e.duration) ≡ bytes = cc in
      rw (← text) (parts clock e.event e.volume (units_of clock e.duration) e.end rest v (omega (arith, fits)))
]

between : (m r x u c : ℕ) → m + r ≡ x → r < c → x ≡ u * 1000000000 + (c - 1) → 0 < c → c ≤ 1000000000 → (u * 1000000000 ≤ m) × (m < (u + 1) * 1000000000)
between m r x u c e lt is pos le = (omega arith, omega arith)

pub units_again : UnitsComeBack
units_again clock units pos le =
    let x : ℕ = units * 1000000000 + (clock - 1) in
    let bounds = between (x / clock * clock) (x % clock) x units clock (div-add-mod' x clock) (mod-lt x pos) refl pos le in
    div-eq_of_lt-le 1000000000 bounds.0 bounds.1
