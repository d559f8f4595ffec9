-- What a null pacer's queues say of when they were sent on last.
use Rattle.std.proofs.Common.{◌≡◌, ℕ, zero, suc, ◌-◌, ◌<◌, Bool, true, false, cond, ◌&&◌, ◌==◌, List, [], ◌∷◌, length, get_or, slice_set, Option, Some, None, refl, sym, ap, ◌∙◌, subst, arith}
use Rattle.std.specs.Prelude.{slice_get}
use Rattle.std.specs.Option.{option_eq}
use Rattle.std.specs.Cmp.Lexicographic.{pointwise, bytes_decides}
use Rattle.rtp_base.specs.declared.ids.MidRid.{MidRid}
use Rattle.pace_units.specs.declared.queue.QueueState.{QueueState}
use Rattle.pace_core.specs.declared.null.NullQueue.{NullQueue}
use Rattle.pace_core.specs.declared.null.Candidate.{Candidate}
use Rattle.pace_core.specs.Null.{null_queues, AreNoted, marked, least_from, chosen_at, lowered_at, queues_in}
use Rattle.pace_core.specs.Past.{Past, made, pacing_set, padding_set, timed, polled, probe_started, probe_taken, sent, sends_in}
use Rattle.pace_core.specs.Sends.{same_queue, last_of, with_send}

both : (a b : Bool) → a && b ≡ true → (a ≡ true) × (b ≡ true)
both true b h = (refl, h)
both false b h = absurd (cc)

rids_are : (a b : Option (List ℕ)) → option_eq (pointwise ◌==◌) a b ≡ true → a ≡ b
rids_are None None h = refl
rids_are None (Some y) h = absurd (cc)
rids_are (Some x) None h = absurd (cc)
rids_are (Some x) (Some y) h = ap (λ (l : List ℕ). Some l) ((bytes_decides x y).0 h)

rid_is : (a : Option (List ℕ)) → option_eq (pointwise ◌==◌) a a ≡ true
rid_is None = refl
rid_is (Some x) = (bytes_decides x x).1 refl

-- queues are the same exactly where their keys are
key_is : (a b : MidRid) → same_queue a b ≡ true → a ≡ b
key_is a b h =
    let parts = both (pointwise ◌==◌ a.0 b.0) (option_eq (pointwise ◌==◌) a.1 b.1) h in
    let mids : a.0 ≡ b.0 = (bytes_decides a.0 b.0).0 parts.0 in
    let rids : a.1 ≡ b.1 = rids_are a.1 b.1 parts.1 in
    ap (λ (m : List ℕ). let k : MidRid = record { 0 = m; 1 = a.1 } in k) mids ∙ ap (λ (r : Option (List ℕ)). let k : MidRid = record { 0 = b.0; 1 = r } in k) rids

same_as_itself : (a : MidRid) → same_queue a a ≡ true
same_as_itself a = rw ((bytes_decides a.0 a.0).1 refl) (rid_is a.1)

-- what a queue is noted with at its place
pub noted_at : (sends : List (MidRid × ℕ)) (qs : List NullQueue) (i : ℕ) (d : NullQueue) (key : MidRid) → i < length qs
    → same_queue (get_or qs i d).midrid key ≡ true → AreNoted sends qs → (get_or qs i d).last_sent ≡ last_of sends key
noted_at sends [] i d key lt same h = absurd (omega arith)
noted_at sends (q ∷ qs) zero d key lt same h = h.0 ∙ ap (last_of sends) (key_is q.midrid key same)
noted_at sends (q ∷ qs) (suc i) d key lt same h = noted_at sends qs i d key (omega arith) same h.1

noted_made : (sends : List (MidRid × ℕ)) (queues : List QueueState) → AreNoted sends (null_queues sends queues)
noted_made sends [] = tt
noted_made sends (q ∷ qs) = (refl, noted_made sends qs)

noted_set : (sends : List (MidRid × ℕ)) (qs : List NullQueue) (i : ℕ) (q : NullQueue) (n : ℕ) → slice_get qs i ≡ Some q → AreNoted sends qs
    → AreNoted sends (slice_set qs i (record q { packet_count = n }))
noted_set sends [] i q n is h = tt
noted_set sends (x ∷ qs) zero q n is h = let same : x ≡ q = cc in (subst (λ (y : NullQueue). y.last_sent ≡ last_of sends y.midrid) same h.0, h.1)
noted_set sends (x ∷ qs) (suc i) q n is h = (h.0, noted_set sends qs i q n is h.1)

noted_lowered : (sends : List (MidRid × ℕ)) (qs : List NullQueue) (best : Option Candidate) → AreNoted sends qs → AreNoted sends (lowered_at qs best (chosen_at qs best))
noted_lowered sends qs None h = h
noted_lowered sends qs (Some best) h = pick (slice_get qs best.place) refl where
  pick : (o : Option NullQueue) → slice_get qs best.place ≡ o → AreNoted sends (lowered_at qs (Some best) o)
  pick None is = h
  pick (Some q) is = noted_set sends qs best.place q (q.packet_count - 1) is h

-- after a packet of a queue
sent_last : (sends : List (MidRid × ℕ)) (key : MidRid) (now : ℕ) → last_of (with_send sends key now) key ≡ Some now
sent_last [] key now = rw (same_as_itself key) refl
sent_last (e ∷ es) key now = pick (same_queue e.0 key) refl (sent_last es key now) where
  pick : (b : Bool) → same_queue e.0 key ≡ b → last_of (with_send es key now) key ≡ Some now → last_of (cond b ((e.0, now) ∷ es) (e ∷ with_send es key now)) key ≡ Some now
  pick true is rest = rw is refl
  pick false is rest = rw is rest

sent_before : (sends : List (MidRid × ℕ)) (key other : MidRid) (now : ℕ) → same_queue other key ≡ false → last_of (with_send sends key now) other ≡ last_of sends other
sent_before [] key other now ne = pick (same_queue key other) refl where
  pick : (b : Bool) → same_queue key other ≡ b → cond b (Some now) None ≡ None
  pick true is = absurd (let yes : same_queue other key ≡ true = ap (λ (k : MidRid). same_queue k key) (sym (key_is key other is)) ∙ same_as_itself key in cc)
  pick false is = refl
sent_before (e ∷ es) key other now ne = pick (same_queue e.0 key) refl (sent_before es key other now ne) where
  pick : (b : Bool) → same_queue e.0 key ≡ b → last_of (with_send es key now) other ≡ last_of es other
      → last_of (cond b ((e.0, now) ∷ es) (e ∷ with_send es key now)) other ≡ last_of (e ∷ es) other
  pick true is rest = apart (same_queue e.0 other) refl where
    apart : (c : Bool) → same_queue e.0 other ≡ c → cond c (Some now) (last_of es other) ≡ cond c (Some e.1) (last_of es other)
    apart true at = absurd (let yes : same_queue other key ≡ true = ap (λ (k : MidRid). same_queue k key) (sym (key_is e.0 other at)) ∙ is in cc)
    apart false at = refl
  pick false is rest = ap (λ (o : Option ℕ). cond (same_queue e.0 other) (Some e.1) o) rest

noted_sent : (sends : List (MidRid × ℕ)) (qs : List NullQueue) (key : MidRid) (now : ℕ) → AreNoted sends qs → AreNoted (with_send sends key now) (marked key now qs)
noted_sent sends [] key now h = tt
noted_sent sends (q ∷ qs) key now h = (pick (same_queue q.midrid key) refl, noted_sent sends qs key now h.1) where
  pick : (b : Bool) → same_queue q.midrid key ≡ b
      → (let x : NullQueue = cond b (record q { last_sent = Some now }) q in x.last_sent ≡ last_of (with_send sends key now) x.midrid)
  pick true is = sym (ap (last_of (with_send sends key now)) (key_is q.midrid key is) ∙ sent_last sends key now)
  pick false is = h.0 ∙ sym (sent_before sends key q.midrid now is)

-- the queues of the last timeout are noted
pub noted_in : (past : Past) → AreNoted (sends_in past) (queues_in past)
noted_in (made rate) = tt
noted_in (pacing_set past rate) = noted_in past
noted_in (padding_set past rate) = noted_in past
noted_in (timed past now queues) = noted_made (sends_in past) queues
noted_in (polled past) = noted_lowered (sends_in past) (queues_in past) (least_from None 0 (queues_in past)) (noted_in past)
noted_in (probe_started past config) = noted_in past
noted_in (probe_taken past) = noted_in past
noted_in (sent past now size key) = noted_sent (sends_in past) (queues_in past) key now (noted_in past)
