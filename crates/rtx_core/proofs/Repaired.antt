-- The window of repairs after one more was taken.
use Rattle.std.proofs.Common.{◌≡◌, ℕ, ◌<◌, ◌^◌, List, [], ◌∷◌, ◌++◌, Option, Some, None, max, arith}
use Rattle.std.specs.Prelude.{Bool, true, false, if◌then◌else◌}
use Rattle.rtp_base.specs.Window.{greatest, greatest_after, is_fresh_after, with_fresh, StandsFor as WindowStandsFor}
use Rattle.rtp_base.specs.declared.window.SeqNoWindow.{SeqNoWindow}
use Rattle.rtx_core.specs.Repairs.{RepairPast, Remembers, repair_opened}

greatest_snoc : (l : List ℕ) (n : ℕ) → greatest (l ++ n ∷ []) ≡ max (greatest l) n
greatest_snoc [] n = omega arith
greatest_snoc (x ∷ l) n = omega (arith, greatest_snoc l n)

below_with : (floor : Option ℕ) (l : List ℕ) (n : ℕ) → greatest_after floor l < 2 ^ 48 → n < 2 ^ 48 → greatest_after floor (l ++ n ∷ []) < 2 ^ 48
below_with None l n h lt = omega (arith, greatest_snoc l n)
below_with (Some floor) l n h lt = omega (arith, greatest_snoc l n)

below : (floor : Option ℕ) (l : List ℕ) (n : ℕ) → greatest_after floor l < 2 ^ 48 → n < 2 ^ 48 → greatest_after floor (with_fresh floor l n) < 2 ^ 48
below floor l n h lt = pick (is_fresh_after floor l n) where
  pick : (b : Bool) → greatest_after floor (if b then l ++ n ∷ [] else l) < 2 ^ 48
  pick true = below_with floor l n h lt
  pick false = h

pub taken_is : (old new : SeqNoWindow) (seen : Option ℕ) (n : ℕ) (past : Option RepairPast) → Remembers (Some old) past → n < 2 ^ 48
    → ((floor : Option ℕ) (l : List ℕ) → WindowStandsFor old floor l → WindowStandsFor new floor (with_fresh floor l n)) → Remembers (Some new) (repair_opened seen n past)
taken_is old new seen n None h lt takes = absurd h
taken_is old new seen n (Some past) h lt takes = (takes past.floor past.tried h.0, below past.floor past.tried n h.1 lt)
