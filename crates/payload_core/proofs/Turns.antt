-- When the front of a buffer is given.
use Rattle.std.proofs.Common.{◌≡◌, ℕ, true, false, Option, Some, None, refl}
use Rattle.payload_core.specs.declared.buffer.Arrival.{Arrival}
use Rattle.payload_core.specs.Buffer.{is_next}
use Rattle.payload_core.specs.Reordering.{front, is_late, turn}
use Rattle.payload_core.specs.Waiting.{Waiting}

pub turn_late : {I : Type 0} (b : Waiting I) (e : ℕ × Arrival I) (now : ℕ) (timeout : Option ℕ) → front b ≡ Some e → is_next b.last e.0 ≡ false → is_late b e.1.meta.received now timeout ≡ true
    → Some false ≡ turn b now timeout
turn_late b e now timeout there gap late = rw (there, gap, late) refl

pub turn_early : {I : Type 0} (b : Waiting I) (e : ℕ × Arrival I) (now : ℕ) (timeout : Option ℕ) → front b ≡ Some e → is_next b.last e.0 ≡ false → is_late b e.1.meta.received now timeout ≡ false
    → None ≡ turn b now timeout
turn_early b e now timeout there gap early = rw (there, gap, early) refl
