-- The compound of the first items that fit, where each fits one of its own.
use Rattle.std.proofs.Common.{◌≡◌, ◌≢◌, ℕ, suc, ◌-◌, ◌<◌, ◌≤◌, Bool, true, List, [], ◌∷◌, length, drop, refl, ap, arith}
use Rattle.std.proofs.lemmas.Bool.Decides.{nat_tests}
use Rattle.std.proofs.lemmas.List.{length-drop}
use Rattle.std.specs.Prelude.{nat_le, if◌then◌else◌}
use Rattle.std.specs.List.{AllByRecursion}
use Rattle.rtcp_wire.specs.declared.packet.Rtcp.{Rtcp}
use Rattle.rtcp_wire.specs.Texts.{text_of, fitting}
use Rattle.session_core.specs.Feedback.{FitsAlone, room_of, leaving, items_after}

le_true : (a b : ℕ) → a ≤ b → nat_le a b ≡ true
le_true a b h = grind (arith, nat_tests)

-- the room under a target
wide : (target : ℕ) → 900 ≤ target → 880 ≤ room_of target
wide target h = omega arith

-- at least the first item leaves
record Leaves (target : ℕ) (x : Rtcp) (xs : List Rtcp) : Type 0 where
  others : ℕ
  is : leaving target (x ∷ xs) ≡ suc others

first_leaves : (target : ℕ) (x : Rtcp) (xs : List Rtcp) → 900 ≤ target → FitsAlone x → Leaves target x xs
first_leaves target x xs h f =
    let room : length (text_of x) ≤ room_of target = (let w = wide target h in let few = f.few in omega arith) in
    record {
      others = fitting (room_of target - length (text_of x)) xs;
      is = ap (λ (b : Bool). if b then suc (fitting (room_of target - length (text_of x)) xs) else 0) (le_true (length (text_of x)) (room_of target) room);
    }

-- and fewer wait behind it
pub fewer_behind : (target : ℕ) (xs : List Rtcp) → 900 ≤ target → xs ≢ [] → AllByRecursion FitsAlone xs → length (items_after target xs) < length xs
fewer_behind target [] h some fit = absurd (some refl)
fewer_behind target (x ∷ xs) h some fit =
    let l = first_leaves target x xs h fit.0 in
    let behind : length (items_after target (x ∷ xs)) ≡ length (drop l.others xs) = ap (λ (n : ℕ). length (drop n (x ∷ xs))) l.is in
    let less = length-drop l.others xs in
    omega arith
