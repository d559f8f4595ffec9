-- The list of the queues that were sent on.
use Rattle.std.proofs.Common.{◌≡◌, ℕ, ◌<◌, List, [], ◌∷◌, ◌++◌, length, get_or, slice_set, take, drop, true, ap, arith, refl, zero, suc}
use Rattle.rtp_base.specs.declared.ids.MidRid.{MidRid}
use Rattle.pace_core.specs.Sends.{same_queue, with_send}

-- where a queue stands at a place, and not before it, its moment is changed there
pub with_send_at : (all : List (MidRid × ℕ)) (i : ℕ) (key : MidRid) (now : ℕ) (d : MidRid × ℕ) → i < length all
    → same_queue (get_or all i d).0 key ≡ true
    → take i all ++ with_send (drop i all) key now ≡ slice_set all i ((get_or all i d).0, now)
with_send_at [] i key now d lt same = absurd (omega arith)
with_send_at (e ∷ es) zero key now d lt same = rw same refl
with_send_at (e ∷ es) (suc i) key now d lt same = ap (λ l. e ∷ l) (with_send_at es i key now d (omega arith) same)
