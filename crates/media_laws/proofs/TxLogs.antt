-- The record of an outgoing stream holds what of its repairs and first sendings counts for the cap.
use Rattle.std.proofs.Common.{◌≡◌, inl, inr, ℕ, ◌-◌, Bool, true, false, eqb, List, [], ◌∷◌, ◌++◌, length, Some, refl, sym, ap, ◌∙◌, subst, arith}
use Rattle.std.specs.Prelude.{nat_le, filter, ◌||◌, if◌then◌else◌}
use Rattle.std.specs.List.{fold, list_all}
use Rattle.std.proofs.lemmas.List.Sums.{fold-append}
use Rattle.std.proofs.lemmas.Bool.{and_parts, eq-eqb, false≢true, leb-false}
use Rattle.rtp_base.specs.declared.kind.Kind.TheVariants.{Rtcp}
use Rattle.media_model.specs.declared.entry.Write.{Write}
use Rattle.run_model.specs.Events.{Event, wrote, ticked, called, got, sealed, sealed_items, opened, opened_items, yielded, Types, Outgoing}
use Rattle.run_model.specs.Listing.{IsIn}
use Rattle.run_model.specs.Capping.{Logs, log_step, no_logs, logs, is_met, IsCapped, reading_after, reading_for}
use Rattle.run_model.specs.Sending.{sending_of, repair_of, two_bytes}
use Rattle.run_model.specs.Seals.{Sealing}
use Rattle.run_model.specs.TxPlay.{TxRecord, begun_tick, drops, misses, resends, sends, Serves, rests, polls, is_of, is_sealing, IsApart, IsBeside, AreBeside, clock_step, TxStep, writes, ticks, hears, passes, TxPlays, begun, step}
use Rattle.media_laws.proofs.Lists.{IsIn-left, IsIn-right, tested}
use Rattle.rtp_base.specs.Window.{is_just}

pub record Logged (L : Outgoing) (l : Logs) (t : TxRecord) : Type 0 where
  pub sent : t.sent ≡ l.sent
  pub resent : t.resent ≡ l.resent
  pub met : t.reading.met ≡ true → IsIn t.reading.moment l.met

-- the polls of a tick

sending_log : (L : Outgoing) (l : Logs) (w : Write) (bytes : List ℕ) → IsApart L
    → log_step L l (sealed L.ssrc w.number (sending_of w) bytes) ≡ record l { sent = l.sent ++ (l.now, length w.payload) ∷ [] }
sending_log L l w bytes apart = let here : eqb L.ssrc L.ssrc ≡ true = eq-eqb L.ssrc L.ssrc refl in rw (here, apart) refl

without_number : (n : ℕ) (xs : List ℕ) → length (two_bytes n ++ xs) - 2 ≡ length xs
without_number n xs = omega arith

repair_log : (L : Outgoing) (l : Logs) (x n pt : ℕ) (w : Write) (bytes : List ℕ) → IsApart L → L.rtx ≡ Some x
    → log_step L l (sealed x n (repair_of pt w) bytes) ≡ record l { resent = l.resent ++ (l.now, length w.payload) ∷ [] }
repair_log L l x n pt w bytes apart is =
    let here : is_just x L.rtx ≡ true = subst (λ o. is_just x o ≡ true) (sym is) (eq-eqb x x refl) in
    let other : eqb x L.ssrc ≡ false = subst (λ o. is_just L.ssrc o ≡ false) is apart in
    rw (here, other) (ap (λ (k : ℕ). let z : Logs = record l { resent = l.resent ++ (l.now, k) ∷ [] } in z) (without_number w.number w.payload))

serves_logged : {T : Types} {L : Outgoing} {seal : Sealing} {now : ℕ} {t u : TxRecord} {events : List Event} → Serves T L seal now t u events → IsApart L → (l : Logs) → l.now ≡ now → Logged L l t
    → Logged L (fold (log_step L) l events) u
serves_logged rests apart l at h = h
serves_logged (polls (drops is) more) apart l at h = serves_logged more apart l at (record { sent = h.sent; resent = h.resent; met = h.met })
serves_logged (polls (misses n rest is out) more) apart l at h = serves_logged more apart l at (record { sent = h.sent; resent = h.resent; met = h.met })
serves_logged {L = L} {seal} {now} {u = u} (polls {t} {more = events} (resends n rest w x pt bytes is held own type made) more) apart l at h =
    subst (λ z. Logged L (fold (log_step L) z events) u) (sym (repair_log L l x t.next_rtx pt w bytes apart own))
    (serves_logged more apart (record l { resent = l.resent ++ (l.now, length w.payload) ∷ [] }) at
    (record { sent = h.sent; resent = ap (λ zs. zs ++ (now, length w.payload) ∷ []) h.resent ∙ ap (λ m. l.resent ++ (m, length w.payload) ∷ []) (sym at); met = h.met }))
serves_logged {L = L} {seal} {now} {u = u} (polls {t} {more = events} (sends w rest store bytes none is caches made) more) apart l at h =
    subst (λ z. Logged L (fold (log_step L) z events) u) (sym (sending_log L l w bytes apart))
    (serves_logged more apart (record l { sent = l.sent ++ (l.now, length w.payload) ∷ [] }) at
    (record { sent = ap (λ zs. zs ++ (now, length w.payload) ∷ []) h.sent ∙ ap (λ m. l.sent ++ (m, length w.payload) ∷ []) (sym at); resent = h.resent; met = h.met }))

-- the start of a tick

begin_logged : {L : Outgoing} {t : TxRecord} (l : Logs) (time : ℕ) → Logged L l t → Logged L (log_step L l (ticked time)) (begun_tick L time t)
begin_logged {L} {t} l time h = record { sent = h.sent; resent = h.resent; met = found t.resends }
  where
    after : List ℕ
    after = if is_met L.cap l.sent l.resent time then l.met ++ time ∷ [] else l.met

    stays : (u : ℕ) → IsIn u l.met → IsIn u after
    stays u i = elim (tested (is_met L.cap l.sent l.resent time)) [ inl k ↦ rw k (IsIn-left u l.met (time ∷ []) i) | inr k ↦ rw k i ]

    now : is_met L.cap t.sent t.resent time ≡ true → IsIn time after
    now is =
        let same : is_met L.cap l.sent l.resent time ≡ true = ap (λ xs. is_met L.cap xs l.resent time) (sym h.sent) ∙ ap (λ xs. is_met L.cap t.sent xs time) (sym h.resent) ∙ is in
        rw same (IsIn-right time l.met (time ∷ []) (inl refl))

    read : (reading_after L.cap t.sent t.resent t.reading time).met ≡ true → IsIn (reading_after L.cap t.sent t.resent t.reading time).moment after
    read is = elim (tested (nat_le 50000000 (time - t.reading.moment))) [
      | inl k ↦ rw k (now (rw k at is))
      | inr k ↦ rw k (stays t.reading.moment (h.met (rw k at is)))
    ]

    found : (rs : List ℕ) → (reading_for rs t.reading (reading_after L.cap t.sent t.resent t.reading time)).met ≡ true
        → IsIn (reading_for rs t.reading (reading_after L.cap t.sent t.resent t.reading time)).moment after
    found [] is = stays t.reading.moment (h.met is)
    found (n ∷ ns) is = read is

-- a stream with something to resend, at a reading by which the cap was met, is capped
pub capped_at : {L : Outgoing} {t : TxRecord} (events : List Event) (time : ℕ) (n : ℕ) (ns : List ℕ) → Logged L (logs L events) t → t.resends ≡ n ∷ ns → (begun_tick L time t).reading.met ≡ true → IsCapped L events time
capped_at {L} {t} events time n ns h is met =
    elim (tested (nat_le 50000000 (time - t.reading.moment))) [
      | inl k ↦ inl (ap (λ xs. is_met L.cap xs (logs L events).resent time) (sym h.sent) ∙ ap (λ xs. is_met L.cap t.sent xs time) (sym h.resent) ∙ (rw k at read))
      | inr k ↦ let late = leb-false 50000000 (time - t.reading.moment) k in inr (t.reading.moment, h.met (rw k at read), omega (arith, late))
    ]
  where
    read : (reading_after L.cap t.sent t.resent t.reading time).met ≡ true
    read = subst (λ rs. (reading_for rs t.reading (reading_after L.cap t.sent t.resent t.reading time)).met ≡ true) is met

-- each call

logs_after : (L : Outgoing) (events new : List Event) → logs L (events ++ new) ≡ fold (log_step L) (logs L events) new
logs_after L events new = fold-append (log_step L) no_logs events new

same_logged : {L : Outgoing} {l : Logs} {t : TxRecord} (k : Logs) → k.sent ≡ l.sent → k.resent ≡ l.resent → k.met ≡ l.met → Logged L l t → Logged L k t
same_logged {t = t} k e f g h = record { sent = h.sent ∙ sym e; resent = h.resent ∙ sym f; met = λ is. subst (IsIn t.reading.moment) (sym g) (h.met is) }

not_of : (a b : Bool) → (a || b) ≡ false → (a ≡ false) × (b ≡ false)
not_of true b h = absurd cc
not_of false b h = (refl, h)

log_other : (L : Outgoing) (l : Logs) (e : Event) → is_sealing e ≡ true → is_of L e ≡ false → log_step L l e ≡ l
log_other L l (sealed ssrc n p bytes) sealing other = let k = not_of (eqb ssrc L.ssrc) (is_just ssrc L.rtx) other in rw (k.0, k.1) refl
log_other L l (sealed_items index items) sealing other = refl
log_other L l (wrote time w) sealing other = absurd (false≢true sealing)
log_other L l (ticked time) sealing other = absurd (false≢true sealing)
log_other L l (called time) sealing other = absurd (false≢true sealing)
log_other L l (got time kind bytes) sealing other = absurd (false≢true sealing)
log_other L l (opened ssrc n p) sealing other = absurd (false≢true sealing)
log_other L l (opened_items index items) sealing other = absurd (false≢true sealing)
log_other L l (yielded packet) sealing other = absurd (false≢true sealing)

log_share : (L : Outgoing) (new : List Event) (l : Logs) → list_all is_sealing new ≡ true → fold (log_step L) l new ≡ fold (log_step L) l (filter (is_of L) new)
log_share L [] l all = refl
log_share L (e ∷ new) l all =
    let parts = and_parts (is_sealing e) (list_all is_sealing new) all in
    elim (tested (is_of L e)) [
      | inl is ↦ rw is (log_share L new (log_step L l e) parts.1)
      | inr other ↦ rw other (ap (λ z. fold (log_step L) z new) (log_other L l e parts.0 other) ∙ log_share L new l parts.1)
    ]

beside_logged : {L : Outgoing} {t : TxRecord} (now : ℕ) (l : Logs) (new : List Event) → AreBeside L now new → Logged L l t → Logged L (fold (log_step L) l new) t
beside_logged now l [] all h = h
beside_logged {L} {t} now l (e ∷ new) all h = beside_logged (clock_step now e) (log_step L l e) new all.1 (one e all.0)
  where
    one : (e : Event) → IsBeside L now e → Logged L (log_step L l e) t
    one (wrote time w) b = same_logged (record l { now = time }) refl refl refl h
    one (called time) b = same_logged (record l { now = time }) refl refl refl h
    one (got time kind bytes) b = same_logged (record l { now = time }) refl refl refl h
    one (sealed_items index items) b = h
    one (opened ssrc n p) b = h
    one (yielded packet) b = h
    one (ticked time) b = absurd b
    one (sealed ssrc n p bytes) b = absurd b
    one (opened_items index items) b = absurd b

step_logged : {T : Types} {L : Outgoing} {seal : Sealing} {now : ℕ} {t u : TxRecord} {new : List Event} (events : List Event) → IsApart L → TxStep T L seal now t u new → Logged L (logs L events) t
    → Logged L (logs L (events ++ new)) u
step_logged {L = L} {u = u} events apart (writes time w is new late) h =
    subst (λ l. Logged L l u) (sym (logs_after L events (wrote time w ∷ []))) (record { sent = h.sent; resent = h.resent; met = h.met })
step_logged {L = L} {t = t} {u = u} events apart (ticks time new late tick) h =
    subst (λ l. Logged L l u) (sym (logs_after L events (ticked time ∷ new) ∙ log_share L new (log_step L (logs L events) (ticked time)) tick.sealings ∙ ap (fold (log_step L) (log_step L (logs L events) (ticked time))) tick.own))
    (serves_logged tick.drain.serves apart (log_step L (logs L events) (ticked time)) refl (begin_logged (logs L events) time h))
step_logged {L = L} {u = u} events apart (hears time bytes index items queued late q) h =
    subst (λ l. Logged L l u) (sym (logs_after L events (got time Rtcp bytes ∷ opened_items index items ∷ []))) (record { sent = h.sent; resent = h.resent; met = h.met })
step_logged {L = L} {now = now} {t = t} events apart (passes new beside) h = subst (λ l. Logged L l t) (sym (logs_after L events new)) (beside_logged now (logs L events) new beside h)

pub plays_logged : {T : Types} {L : Outgoing} {seal : Sealing} {t : TxRecord} {events : List Event} → IsApart L → TxPlays T L seal t events → Logged L (logs L events) t
plays_logged apart begun = record { sent = refl; resent = refl; met = λ is. absurd (false≢true is) }
plays_logged apart (step {events = events} h s) = step_logged events apart s (plays_logged apart h)
