-- Over a whole play, the record of an outgoing stream holds what is read off the events.
use Rattle.std.proofs.Common.{◌≡◌, inl, inr, ℕ, ◌≤◌, Bool, true, false, eqb, List, [], ◌∷◌, ◌++◌, map, Option, Some, None, refl, sym, ap, ◌∙◌, subst, append_assoc, arith}
use Rattle.std.specs.Prelude.{filter, ◌||◌}
use Rattle.std.specs.List.{flat_map, fold, list_all}
use Rattle.std.proofs.lemmas.List.{map-append, append-nil}
use Rattle.std.proofs.lemmas.List.Sums.{fold-append}
use Rattle.std.proofs.lemmas.List.Concat.{flat_map-append}
use Rattle.std.proofs.lemmas.Bool.{and_parts, eq-eqb, false≢true}
use Rattle.resend_core.specs.ResendStore.{last_position}
use Rattle.rtp_base.specs.declared.kind.Kind.TheVariants.{Rtcp}
use Rattle.rtp_base.specs.NackEntry.{named_by}
use Rattle.media_model.specs.declared.entry.Write.{Write}
use Rattle.rtcp_wire.specs.declared.rtcp_fb.RtcpFb.{RtcpFb}
use Rattle.rtp_base.specs.declared.nack_entry.NackEntry.{NackEntry}
use Rattle.run_model.specs.Events.{Plain, Event, wrote, ticked, called, got, sealed, sealed_items, opened, opened_items, yielded, Types, Outgoing}
use Rattle.run_model.specs.Listing.{IsIn, NoRepeat, Leaves, ended, takes, skips}
use Rattle.run_model.specs.Capping.{logs, IsCapped}
use Rattle.run_model.specs.Sending.{number_of, Sendings, sending_step, sendings, nothing_sent, named_on, wanted, cached, is_cached, Carry, latest_from, is_sending, Kept, sending_on, first_sendings, repair_on, repairs, write_on, writes_on}
use Rattle.run_model.specs.Seals.{Sealing}
use Rattle.run_model.specs.TxPlay.{begun_tick, IsApart, TxRecord, new_tx, after_write, past_of, Serves, Drains, Queues, none, held, missing, is_of, is_sealing, IsBeside, clock_step, AreBeside, TxStep, writes, ticks, hears, passes, TxPlays, begun, step, TxEnds, at_step, in_tick}
use Rattle.run_model.specs.TxLaws.{TicksAnswer, CutTicksAnswer, StreamsSendWrites}
use Rattle.media_laws.proofs.Lists.{IsIn-left, tested, NoRepeat-push, leaves-append, leaves_again, leaves_where}
use Rattle.media_laws.proofs.Stores.{Tells, nothing, LateFrom, is_last}
use Rattle.media_laws.proofs.TxLogs.{Logged, capped_at, plays_logged}
use Rattle.media_laws.proofs.TxTracks.{same_but_reading, Follows, numbered, same_but_resends, numbers}
use Rattle.media_laws.proofs.TxDrains.{plain_of, leaves_nothing, Drained, drained, all_gone, all_answered, some_answered, late_filter, not_missed}
use Rattle.rtp_base.specs.Window.{is_just}

pub record Tracks (T : Types) (L : Outgoing) (events : List Event) (t : TxRecord) : Type 0 where
  pub follows : Follows T L (sendings L.ssrc events) (first_sendings L.ssrc events) (repairs L events) t
  pub asked : Leaves (Kept T L (sendings L.ssrc events).sent) t.resends (wanted (last_position t.store) (sendings L.ssrc events).named)

-- one event more

sendings-push : (m : ℕ) (events : List Event) (e : Event) → sendings m (events ++ e ∷ []) ≡ sending_step m (sendings m events) e
sendings-push m events e = fold-append (sending_step m) nothing_sent events (e ∷ [])

reading-push : {X : Type 0} (f : Event → List X) (events new : List Event) → flat_map f new ≡ [] → flat_map f (events ++ new) ≡ flat_map f events
reading-push f events new is = flat_map-append f events new ∙ ap (λ zs. flat_map f events ++ zs) is ∙ append-nil (flat_map f events)

-- of a drain only the stream's own share counts

sealing_parts : (e : Event) (new : List Event) → list_all is_sealing (e ∷ new) ≡ true → (is_sealing e ≡ true) × (list_all is_sealing new ≡ true)
sealing_parts e new h = and_parts (is_sealing e) (list_all is_sealing new) h

-- a datagram that is not the stream's changes nothing of it
not_of : (a b : Bool) → (a || b) ≡ false → (a ≡ false) × (b ≡ false)
not_of true b h = absurd cc
not_of false b h = (refl, h)

step_other : (L : Outgoing) (s : Sendings) (e : Event) → is_sealing e ≡ true → is_of L e ≡ false → sending_step L.ssrc s e ≡ s
step_other L s (sealed ssrc n p bytes) sealing other = rw ((not_of (eqb ssrc L.ssrc) (is_just ssrc L.rtx) other).0) refl
step_other L s (sealed_items index items) sealing other = refl
step_other L s (wrote time w) sealing other = absurd (false≢true sealing)
step_other L s (ticked time) sealing other = absurd (false≢true sealing)
step_other L s (called time) sealing other = absurd (false≢true sealing)
step_other L s (got time kind bytes) sealing other = absurd (false≢true sealing)
step_other L s (opened ssrc n p) sealing other = absurd (false≢true sealing)
step_other L s (opened_items index items) sealing other = absurd (false≢true sealing)
step_other L s (yielded packet) sealing other = absurd (false≢true sealing)

first_other : (L : Outgoing) (e : Event) → is_of L e ≡ false → sending_on L.ssrc e ≡ []
first_other L (sealed ssrc n p bytes) other = rw ((not_of (eqb ssrc L.ssrc) (is_just ssrc L.rtx) other).0) refl
first_other L _ other = refl

pub repair_other : (L : Outgoing) (e : Event) → is_of L e ≡ false → repair_on L e ≡ []
repair_other L (sealed ssrc n p bytes) other = rw ((not_of (eqb ssrc L.ssrc) (is_just ssrc L.rtx) other).1) refl
repair_other L _ other = refl

fold_share : (L : Outgoing) (new : List Event) (s : Sendings) → list_all is_sealing new ≡ true → fold (sending_step L.ssrc) s new ≡ fold (sending_step L.ssrc) s (filter (is_of L) new)
fold_share L [] s all = refl
fold_share L (e ∷ new) s all =
    let parts = sealing_parts e new all in
    elim (tested (is_of L e)) [
      | inl is ↦ rw is (fold_share L new (sending_step L.ssrc s e) parts.1)
      | inr other ↦ rw other (ap (λ z. fold (sending_step L.ssrc) z new) (step_other L s e parts.0 other) ∙ fold_share L new s parts.1)
    ]

pub reading_share : {X : Type 0} (f : Event → List X) (L : Outgoing) → ((e : Event) → is_of L e ≡ false → f e ≡ []) → (new : List Event) → flat_map f new ≡ flat_map f (filter (is_of L) new)
reading_share f L out [] = refl
reading_share f L out (e ∷ new) =
    elim (tested (is_of L e)) [
      | inl is ↦ rw is (ap (λ zs. f e ++ zs) (reading_share f L out new))
      | inr other ↦ rw other (ap (λ zs. zs ++ flat_map f new) (out e other) ∙ reading_share f L out new)
    ]

-- a change of the moment, or of what NACKs named
same_follows : {T : Types} {L : Outgoing} {s : Sendings} {mains reps : List (ℕ × Plain)} {t : TxRecord} (z : Sendings) → z.waiting ≡ s.waiting → z.writes ≡ s.writes → z.sent ≡ s.sent → s.now ≤ z.now
    → Follows T L s mains reps t → Follows T L z mains reps t
same_follows {T} {L} {s} {mains} {reps} {t} z waits wrote_all gone later h = record {
  queue = h.queue ∙ sym waits;
  whole = wrote_all ∙ h.whole ∙ ap (λ ws. ws ++ s.waiting) (ap (map (λ (x : ℕ × Write). x.1)) (sym gone)) ∙ ap (λ ws. map (λ (x : ℕ × Write). x.1) z.sent ++ ws) (sym waits);
  written = h.written ∙ ap numbers (sym wrote_all);
  once = h.once;
  told = subst (λ xs. Tells L (cached T L xs) t.store) (sym gone) h.told;
  late = subst (LateFrom 0) (sym gone) h.late;
  latest = let e : latest_from 0 z.sent ≤ s.now = subst (λ xs. latest_from 0 xs ≤ s.now) (sym gone) h.latest in omega (arith, e, later);
  firsts = h.firsts ∙ ap (map numbered) (sym gone);
  next = h.next;
  low = h.low;
  apart = h.apart;
  carried = λ x i. let r = h.carried x i in (r.0, subst (λ xs. IsIn r.0 (cached T L xs)) (sym gone) r.1, r.2);
}

follows_write : {T : Types} {L : Outgoing} {s : Sendings} {mains reps : List (ℕ × Plain)} {t : TxRecord} (time : ℕ) (w : Write) → (IsIn w.number t.written → ⊥) → s.now ≤ time
    → Follows T L s mains reps t → Follows T L (record s { now = time; writes = s.writes ++ w ∷ []; waiting = s.waiting ++ w ∷ [] }) mains reps (after_write w t)
follows_write {T} {L} {s} {mains} {reps} {t} time w new later h = record {
  queue = ap (λ ws. ws ++ w ∷ []) h.queue;
  whole = ap (λ ws. ws ++ w ∷ []) h.whole ∙ append_assoc (map (λ (x : ℕ × Write). x.1) s.sent) s.waiting (w ∷ []);
  written = ap (λ ns. ns ++ w.number ∷ []) h.written ∙ sym (map-append number_of s.writes (w ∷ []));
  once = NoRepeat-push t.written w.number h.once new;
  told = h.told;
  late = h.late;
  latest = let e = h.latest in omega (arith, e, later);
  firsts = h.firsts;
  next = h.next;
  low = h.low;
  apart = h.apart;
  carried = h.carried;
}

follows_hears : {T : Types} {L : Outgoing} {s : Sendings} {mains reps : List (ℕ × Plain)} {t : TxRecord} (rest : List ℕ) (more : List NackEntry)
    → Follows T L s mains reps t → Follows T L (record s { named = more }) mains reps (record t { resends = rest })
follows_hears {s = s} rest more h = same_follows (record s { named = more }) refl refl refl (omega arith) (same_but_resends rest h)

-- of the numbers wanted those go that are not held
queues_leave : {T : Types} {L : Outgoing} {s : Sendings} {mains reps : List (ℕ × Plain)} {t : TxRecord} {ns qs : List ℕ} → Follows T L s mains reps t → Queues (past_of L t.store) ns qs
    → Leaves (Kept T L s.sent) qs ns
queues_leave h none = ended
queues_leave h (held n w is q) = takes n (queues_leave h q)
queues_leave h (missing n out q) = skips n (not_missed n h out) (queues_leave h q)

follows_at : {T : Types} {L : Outgoing} {s : Sendings} {mains reps : List (ℕ × Plain)} {t : TxRecord} (events : List Event) → sendings L.ssrc events ≡ s → first_sendings L.ssrc events ≡ mains → repairs L events ≡ reps
    → Follows T L s mains reps t → Follows T L (sendings L.ssrc events) (first_sendings L.ssrc events) (repairs L events) t
follows_at {T} {L} {s} {mains} {t = t} events e f g h =
    subst (λ z. Follows T L z (first_sendings L.ssrc events) (repairs L events) t) (sym e)
    (subst (λ ms. Follows T L s ms (repairs L events) t) (sym f) (subst (λ rs. Follows T L s mains rs t) (sym g) h))

tracks_at : {T : Types} {L : Outgoing} {s : Sendings} {mains reps : List (ℕ × Plain)} {t : TxRecord} (events : List Event) → sendings L.ssrc events ≡ s → first_sendings L.ssrc events ≡ mains → repairs L events ≡ reps
    → Follows T L s mains reps t → Leaves (Kept T L s.sent) t.resends (wanted (last_position t.store) s.named) → Tracks T L events t
tracks_at {T} {L} {t = t} events e f g h a = record {
  follows = follows_at events e f g h;
  asked = subst (λ (z : Sendings). Leaves (Kept T L z.sent) t.resends (wanted (last_position t.store) z.named)) (sym e) a;
}

wanted-append : (last : Option ℕ) (xs ys : List NackEntry) → wanted last (xs ++ ys) ≡ wanted last xs ++ wanted last ys
wanted-append None xs ys = refl
wanted-append (Some n) xs ys = flat_map-append (named_by (Some n)) xs ys

wanted_none : (last : Option ℕ) → wanted last [] ≡ []
wanted_none None = refl
wanted_none (Some n) = refl

begun_tracks : {T : Types} {L : Outgoing} → Tracks T L [] (new_tx L)
begun_tracks = record {
  follows = record {
    queue = refl;
    whole = refl;
    written = refl;
    once = tt;
    told = nothing;
    late = tt;
    latest = omega arith;
    firsts = refl;
    next = omega arith;
    low = λ x i. absurd i;
    apart = tt;
    carried = λ x i. absurd i;
  };
  asked = ended;
}

-- an event that leaves the record as it is
beside_tracks : {T : Types} {L : Outgoing} {t : TxRecord} (events : List Event) (e : Event) → IsBeside L (sendings L.ssrc events).now e → Tracks T L events t → Tracks T L (events ++ e ∷ []) t
beside_tracks {L = L} events (wrote time w) beside h =
    tracks_at (events ++ wrote time w ∷ []) (sendings-push L.ssrc events (wrote time w) ∙ rw (beside.1) refl)
    (reading-push (sending_on L.ssrc) events (wrote time w ∷ []) refl) (reading-push (repair_on L) events (wrote time w ∷ []) refl)
    (same_follows (record (sendings L.ssrc events) { now = time }) refl refl refl beside.0 h.follows) h.asked
beside_tracks {L = L} events (called time) beside h =
    tracks_at (events ++ called time ∷ []) (sendings-push L.ssrc events (called time))
    (reading-push (sending_on L.ssrc) events (called time ∷ []) refl) (reading-push (repair_on L) events (called time ∷ []) refl)
    (same_follows (record (sendings L.ssrc events) { now = time }) refl refl refl beside h.follows) h.asked
beside_tracks {L = L} events (got time kind bytes) beside h =
    tracks_at (events ++ got time kind bytes ∷ []) (sendings-push L.ssrc events (got time kind bytes))
    (reading-push (sending_on L.ssrc) events (got time kind bytes ∷ []) refl) (reading-push (repair_on L) events (got time kind bytes ∷ []) refl)
    (same_follows (record (sendings L.ssrc events) { now = time }) refl refl refl beside h.follows) h.asked
beside_tracks {L = L} events (sealed_items index items) beside h =
    tracks_at (events ++ sealed_items index items ∷ []) (sendings-push L.ssrc events (sealed_items index items))
    (reading-push (sending_on L.ssrc) events (sealed_items index items ∷ []) refl) (reading-push (repair_on L) events (sealed_items index items ∷ []) refl) h.follows h.asked
beside_tracks {L = L} events (opened ssrc n p) beside h =
    tracks_at (events ++ opened ssrc n p ∷ []) (sendings-push L.ssrc events (opened ssrc n p))
    (reading-push (sending_on L.ssrc) events (opened ssrc n p ∷ []) refl) (reading-push (repair_on L) events (opened ssrc n p ∷ []) refl) h.follows h.asked
beside_tracks {L = L} events (yielded packet) beside h =
    tracks_at (events ++ yielded packet ∷ []) (sendings-push L.ssrc events (yielded packet))
    (reading-push (sending_on L.ssrc) events (yielded packet ∷ []) refl) (reading-push (repair_on L) events (yielded packet ∷ []) refl) h.follows h.asked
beside_tracks events (ticked time) beside h = absurd beside
beside_tracks events (sealed ssrc n p bytes) beside h = absurd beside
beside_tracks events (opened_items index items) beside h = absurd beside

write_tracks : {T : Types} {L : Outgoing} {t : TxRecord} (events : List Event) (time : ℕ) (w : Write) → w.ssrc ≡ L.ssrc → (IsIn w.number t.written → ⊥) → (sendings L.ssrc events).now ≤ time
    → Tracks T L events t → Tracks T L (events ++ wrote time w ∷ []) (after_write w t)
write_tracks {L = L} events time w is new at h =
    tracks_at (events ++ wrote time w ∷ []) (sendings-push L.ssrc events (wrote time w) ∙ rw (eq-eqb w.ssrc L.ssrc is) refl)
    (reading-push (sending_on L.ssrc) events (wrote time w ∷ []) refl) (reading-push (repair_on L) events (wrote time w ∷ []) refl)
    (follows_write time w new at h.follows) h.asked

hears_tracks : {T : Types} {L : Outgoing} {t : TxRecord} {queued : List ℕ} (events : List Event) (index : ℕ) (items : List RtcpFb)
    → Queues (past_of L t.store) (wanted (last_position t.store) (flat_map (named_on L.ssrc) items)) queued
    → Tracks T L events t → Tracks T L (events ++ opened_items index items ∷ []) (record t { resends = t.resends ++ queued })
hears_tracks {T} {L} {t} {queued} events index items q h =
    tracks_at (events ++ opened_items index items ∷ []) (sendings-push L.ssrc events (opened_items index items))
    (reading-push (sending_on L.ssrc) events (opened_items index items ∷ []) refl) (reading-push (repair_on L) events (opened_items index items ∷ []) refl)
    (follows_hears (t.resends ++ queued) ((sendings L.ssrc events).named ++ flat_map (named_on L.ssrc) items) h.follows)
    (subst (Leaves (Kept T L (sendings L.ssrc events).sent) (t.resends ++ queued)) (sym (wanted-append (last_position t.store) (sendings L.ssrc events).named (flat_map (named_on L.ssrc) items)))
    (leaves-append h.asked (queues_leave h.follows q)))

-- what the polls of a tick say of the whole of what the side sealed then
abbrev pub at_tick : ℕ → Sendings → Sendings
at_tick time s = record s { now = time; named = [] }

pub drained_at : {T : Types} {L : Outgoing} {seal : Sealing} {t u : TxRecord} {share : List Event} (events : List Event) (time : ℕ) → IsApart L → Tracks T L events t
    → (sendings L.ssrc events).now ≤ time → Serves T L seal time (begun_tick L time t) u share
    → Drained T L (at_tick time (sendings L.ssrc events)) (first_sendings L.ssrc events) (repairs L events) (begun_tick L time t) u share
drained_at {L = L} {t = t} events time apart h at serves =
    drained serves apart (at_tick time (sendings L.ssrc events)) (first_sendings L.ssrc events) (repairs L events) refl
    (same_but_reading (begun_tick L time t).reading (same_follows (at_tick time (sendings L.ssrc events)) refl refl refl at h.follows))

named_stays : (m : ℕ) (new : List Event) (s : Sendings) → list_all is_sealing new ≡ true → (fold (sending_step m) s new).named ≡ s.named
named_stays m [] s all = refl
named_stays m (e ∷ new) s all = let parts = sealing_parts e new all in named_stays m new (sending_step m s e) parts.1 ∙ same e parts.0
  where
    same : (e : Event) → is_sealing e ≡ true → (sending_step m s e).named ≡ s.named
    same (sealed ssrc n p bytes) is = elim (tested (is_sending m ssrc p)) [ inl k ↦ rw k refl | inr k ↦ rw k refl ]
    same (sealed_items index items) is = refl
    same (wrote time w) is = absurd (false≢true is)
    same (ticked time) is = absurd (false≢true is)
    same (called time) is = absurd (false≢true is)
    same (got time kind bytes) is = absurd (false≢true is)
    same (opened ssrc n p) is = absurd (false≢true is)
    same (opened_items index items) is = absurd (false≢true is)
    same (yielded packet) is = absurd (false≢true is)

-- a tick, also one that is cut off
tick_follows : {T : Types} {L : Outgoing} {seal : Sealing} {t u : TxRecord} {share : List Event} (events : List Event) (time : ℕ) (new : List Event) → IsApart L
    → (sendings L.ssrc events).now ≤ time → Serves T L seal time (begun_tick L time t) u share → filter (is_of L) new ≡ share → list_all is_sealing new ≡ true
    → Tracks T L events t → Follows T L (sendings L.ssrc (events ++ ticked time ∷ new)) (first_sendings L.ssrc (events ++ ticked time ∷ new)) (repairs L (events ++ ticked time ∷ new)) u
tick_follows {T} {L} {share = share} events time new apart at serves is all h =
    follows_at (events ++ ticked time ∷ new) state (reading (sending_on L.ssrc) refl (first_other L)) (reading (repair_on L) refl (repair_other L)) (drained_at events time apart h at serves).follows
  where
    state : sendings L.ssrc (events ++ ticked time ∷ new) ≡ fold (sending_step L.ssrc) (at_tick time (sendings L.ssrc events)) share
    state =
        fold-append (sending_step L.ssrc) nothing_sent events (ticked time ∷ new) ∙ fold_share L new (at_tick time (sendings L.ssrc events)) all
        ∙ ap (fold (sending_step L.ssrc) (at_tick time (sendings L.ssrc events))) is

    reading : {X : Type 0} (f : Event → List X) → f (ticked time) ≡ [] → ((e : Event) → is_of L e ≡ false → f e ≡ []) → flat_map f (events ++ ticked time ∷ new) ≡ flat_map f events ++ flat_map f share
    reading f out beside = flat_map-append f events (ticked time ∷ new) ∙ ap (λ zs. flat_map f events ++ zs) (ap (λ zs. zs ++ flat_map f new) out ∙ reading_share f L beside new ∙ ap (flat_map f) is)

tick_tracks : {T : Types} {L : Outgoing} {seal : Sealing} {t u : TxRecord} {share : List Event} (events : List Event) (time : ℕ) (new : List Event) → IsApart L
    → (sendings L.ssrc events).now ≤ time → Drains T L seal time (begun_tick L time t) u share → filter (is_of L) new ≡ share → list_all is_sealing new ≡ true
    → Tracks T L events t → Tracks T L (events ++ ticked time ∷ new) u
tick_tracks {T} {L} {u = u} events time new apart at drain is all h = record {
  follows = tick_follows events time new apart at drain.serves is all h;
  asked = subst (λ qs. Leaves (Kept T L after.sent) qs (wanted (last_position u.store) after.named)) (sym drain.no_resends)
      (subst (Leaves (Kept T L after.sent) []) (sym (ap (wanted (last_position u.store)) nothing_named ∙ wanted_none (last_position u.store))) ended);
}
  where
    after : Sendings
    after = sendings L.ssrc (events ++ ticked time ∷ new)

    nothing_named : after.named ≡ []
    nothing_named =
        ap (λ (z : Sendings). z.named) (fold-append (sending_step L.ssrc) nothing_sent events (ticked time ∷ new))
        ∙ named_stays L.ssrc new (at_tick time (sendings L.ssrc events)) all

-- the moment of the last step is the same for all streams
pub step_clock : (m : ℕ) (s : Sendings) (e : Event) → (sending_step m s e).now ≡ clock_step s.now e
step_clock m s (wrote time w) = elim (tested (eqb w.ssrc m)) [ inl k ↦ rw k refl | inr k ↦ rw k refl ]
step_clock m s (sealed ssrc n p bytes) = elim (tested (is_sending m ssrc p)) [ inl k ↦ rw k refl | inr k ↦ rw k refl ]
step_clock m s (ticked time) = refl
step_clock m s (called time) = refl
step_clock m s (got time kind bytes) = refl
step_clock m s (sealed_items index items) = refl
step_clock m s (opened ssrc n p) = refl
step_clock m s (opened_items index items) = refl
step_clock m s (yielded packet) = refl

besides_track : {T : Types} {L : Outgoing} {t : TxRecord} (now : ℕ) (events new : List Event) → now ≡ (sendings L.ssrc events).now → AreBeside L now new → Tracks T L events t → Tracks T L (events ++ new) t
besides_track {T} {L} {t} now events [] at beside h = subst (λ es. Tracks T L es t) (sym (append-nil events)) h
besides_track {T} {L} {t} now events (e ∷ new) at beside h =
    subst (λ es. Tracks T L es t) (append_assoc events (e ∷ []) new)
    (besides_track (clock_step now e) (events ++ e ∷ []) new
    (ap (λ n. clock_step n e) at ∙ sym (ap (λ (s : Sendings). s.now) (sendings-push L.ssrc events e) ∙ step_clock L.ssrc (sendings L.ssrc events) e))
    beside.1 (beside_tracks events e (subst (λ n. IsBeside L n e) at beside.0) h))

hear_tracks : {T : Types} {L : Outgoing} {t : TxRecord} {queued : List ℕ} (events : List Event) (time : ℕ) (bytes : List ℕ) (index : ℕ) (items : List RtcpFb) → (sendings L.ssrc events).now ≤ time
    → Queues (past_of L t.store) (wanted (last_position t.store) (flat_map (named_on L.ssrc) items)) queued
    → Tracks T L events t → Tracks T L (events ++ got time Rtcp bytes ∷ opened_items index items ∷ []) (record t { resends = t.resends ++ queued })
hear_tracks {T} {L} {t} {queued} events time bytes index items late q h =
    subst (λ es. Tracks T L es (record t { resends = t.resends ++ queued })) (append_assoc events (got time Rtcp bytes ∷ []) (opened_items index items ∷ []))
    (hears_tracks (events ++ got time Rtcp bytes ∷ []) index items q (beside_tracks events (got time Rtcp bytes) late h))

pub step_tracks : {T : Types} {L : Outgoing} {seal : Sealing} {now : ℕ} {t u : TxRecord} {new : List Event} (events : List Event) → IsApart L → now ≡ (sendings L.ssrc events).now
    → TxStep T L seal now t u new → Tracks T L events t → Tracks T L (events ++ new) u
step_tracks {L = L} events apart at (writes time w is new late) h = write_tracks events time w is new (subst (λ n. n ≤ time) at late) h
step_tracks {L = L} events apart at (ticks time new late tick) h = tick_tracks events time new apart (subst (λ n. n ≤ time) at late) tick.drain tick.own tick.sealings h
step_tracks {L = L} events apart at (hears time bytes index items queued late q) h = hear_tracks events time bytes index items (subst (λ n. n ≤ time) at late) q h
step_tracks {L = L} {now = now} events apart at (passes new beside) h = besides_track now events new at beside h

pub tracks : {T : Types} {L : Outgoing} {seal : Sealing} {t : TxRecord} {events : List Event} → IsApart L → TxPlays T L seal t events → Tracks T L events t
tracks apart begun = begun_tracks
tracks apart (step {events = events} h s) = step_tracks events apart refl s (tracks apart h)

-- also where the last tick was cut off
pub ends_follow : {T : Types} {L : Outgoing} {seal : Sealing} {t : TxRecord} {events : List Event} → IsApart L → TxEnds T L seal t events
    → Follows T L (sendings L.ssrc events) (first_sendings L.ssrc events) (repairs L events) t
ends_follow apart (at_step h) = (tracks apart h).follows
ends_follow apart (in_tick {events = events} h time new at tick) = tick_follows events time new apart at tick.serves tick.own tick.sealings (tracks apart h)

-- laws

-- of the resends those that have to be held are answered, where the stream is not capped
answered_unless : {T : Types} {L : Outgoing} (s : Sendings) (events : List Event) (time : ℕ) (t : TxRecord) (answered rs : List ℕ) → Logged L (logs L events) t → t.resends ≡ rs
    → Leaves (λ n. ((begun_tick L time t).reading.met ≡ false) × Kept T L s.sent n) answered rs → Leaves (λ n. (IsCapped L events time → ⊥) × Kept T L s.sent n) answered rs
answered_unless {T} {L} s events time t answered [] logged is h = subst (λ ns. Leaves (λ n. (IsCapped L events time → ⊥) × Kept T L s.sent n) ns []) (sym (leaves_nothing h refl)) ended
answered_unless {L = L} s events time t answered (n ∷ ns) logged is h =
    leaves_where
    (λ m k. (elim (tested (begun_tick L time t).reading.met) [ inl met ↦ absurd (k.0 (capped_at events time n ns logged is met)) | inr met ↦ met ], k.1)) h

pub ticks_answer : TicksAnswer
ticks_answer T L seal t u events time new apart h at tick =
    let k = tracks apart h in
    let d = drained_at events time apart k at tick.drain.serves in
    record {
      sendings = reading_share (sending_on L.ssrc) L (first_other L) new ∙ ap (first_sendings L.ssrc) tick.own ∙ d.sendings ∙ ap (map plain_of) (all_gone d tick.drain.no_queue);
      last = last_position t.store;
      is_last = is_last k.follows.told (late_filter (λ x. is_cached T L x.1) 0 0 (sendings L.ssrc events).sent (omega arith) k.follows.late);
      answered = d.answered;
      carry = subst (λ ps. Carry T (cached T L (sendings L.ssrc events).sent) ps d.answered) (sym (reading_share (repair_on L) L (repair_other L) new ∙ ap (repairs L) tick.own)) d.carry;
      keeps = leaves_again (answered_unless (sendings L.ssrc events) events time t d.answered t.resends (plays_logged apart h) refl (all_answered d tick.drain.no_resends)) (leaves_where (λ n k. k.1) k.asked);
    }

pub cut_ticks_answer : CutTicksAnswer
cut_ticks_answer T L seal t u events time new apart h at tick =
    let k = tracks apart h in
    let d = drained_at events time apart k at tick.serves in
    record {
      gone = d.gone;
      left = u.queue;
      waiting = d.waiting;
      sendings = reading_share (sending_on L.ssrc) L (first_other L) new ∙ ap (first_sendings L.ssrc) tick.own ∙ d.sendings;
      last = last_position t.store;
      is_last = is_last k.follows.told (late_filter (λ x. is_cached T L x.1) 0 0 (sendings L.ssrc events).sent (omega arith) k.follows.late);
      answered = d.answered;
      carry = subst (λ ps. Carry T (cached T L (sendings L.ssrc events).sent) ps d.answered) (sym (reading_share (repair_on L) L (repair_other L) new ∙ ap (repairs L) tick.own)) d.carry;
      among = leaves_again (some_answered d) (leaves_where (λ n none. absurd none) k.asked);
    }

no_repeat_left : {X : Type 0} (xs ys : List X) → NoRepeat (xs ++ ys) → NoRepeat xs
no_repeat_left [] ys h = tt
no_repeat_left (x ∷ xs) ys h = (λ i. h.0 (IsIn-left x xs ys i), no_repeat_left xs ys h.1)

-- the writes of the fold are those among the events
pub writes_are : (m : ℕ) (events : List Event) (s : Sendings) → (fold (sending_step m) s events).writes ≡ s.writes ++ writes_on m events
writes_are m [] s = sym (append-nil s.writes)
writes_are m (e ∷ events) s = writes_are m events (sending_step m s e) ∙ ap (λ ws. ws ++ writes_on m events) (one e) ∙ append_assoc s.writes (write_on m e) (writes_on m events)
  where
    one : (e : Event) → (sending_step m s e).writes ≡ s.writes ++ write_on m e
    one (wrote time w) = elim (tested (eqb w.ssrc m)) [ inl k ↦ rw k refl | inr k ↦ rw k (sym (append-nil s.writes)) ]
    one (sealed ssrc n p bytes) = elim (tested (is_sending m ssrc p)) [ inl k ↦ rw k (sym (append-nil s.writes)) | inr k ↦ rw k (sym (append-nil s.writes)) ]
    one (ticked time) = sym (append-nil s.writes)
    one (called time) = sym (append-nil s.writes)
    one (got time kind bytes) = sym (append-nil s.writes)
    one (sealed_items index items) = sym (append-nil s.writes)
    one (opened ssrc n p) = sym (append-nil s.writes)
    one (opened_items index items) = sym (append-nil s.writes)
    one (yielded packet) = sym (append-nil s.writes)

pub streams_send_writes : StreamsSendWrites
streams_send_writes T L seal t events apart h =
    let f = ends_follow apart h in
    let all : writes_on L.ssrc events ≡ map (λ (x : ℕ × Write). x.1) (sendings L.ssrc events).sent ++ (sendings L.ssrc events).waiting = sym (writes_are L.ssrc events nothing_sent) ∙ f.whole in
    record {
      in_order = all;
      sent = f.firsts;
      once = no_repeat_left (map number_of (map (λ (x : ℕ × Write). x.1) (sendings L.ssrc events).sent)) (numbers (sendings L.ssrc events).waiting)
          (subst NoRepeat (f.written ∙ ap numbers f.whole ∙ map-append number_of (map (λ (x : ℕ × Write). x.1) (sendings L.ssrc events).sent) (sendings L.ssrc events).waiting) f.once);
      carried = f.carried;
      apart = f.apart;
      counted = f.next;
    }
