-- The streams of a run, in a run of plain sessions.
use Rattle.std.proofs.Common.{◌≡◌, inl, inr, ℕ, ◌+◌, List, [], ◌∷◌, ◌++◌, length, map, refl, sym, ap, ◌∙◌, subst, arith}
use Rattle.std.specs.Prelude.{filter}
use Rattle.std.proofs.lemmas.List.{map-append}
use Rattle.std.proofs.lemmas.List.Concat.{flat_map-append}
use Rattle.media_model.specs.declared.entry.Side.{Side}
use Rattle.media_model.specs.declared.entry.Side.TheVariants.{A, B}
use Rattle.media_model.specs.Sides.{peer_of}
use Rattle.run_model.specs.Events.{Plain, Event, ticked, sealed, Types, Outgoing, Incoming}
use Rattle.run_model.specs.Listing.{IsIn}
use Rattle.run_model.specs.Receiving.{lists}
use Rattle.run_model.specs.Runs.{Happening, events_of}
use Rattle.run_model.specs.RxPlay.{RxRecord, new_rx, lists_in, RxPlays, begun as rx_begun, step as rx_step}
use Rattle.run_model.specs.Seals.{Sealing}
use Rattle.run_model.specs.Sending.{repairs, repair_on, sending_of}
use Rattle.run_model.specs.TxPlay.{TxRecord, IsApart, IsBeside, AreBeside, clock_step, begun_tick, is_of, Polls, drops, misses, resends, sends, Serves, rests, polls, TxStep, writes as tx_writes, ticks as tx_ticks, hears as tx_hears, passes as tx_passes, TxPlays, begun as tx_begun, step as tx_step, TxEnds, at_step, in_tick}
use Rattle.run_model.specs.Whole.{Config, setup_of, Session, session_of, IsSound, Counts, Played, begun, of_a, of_b, Ends}
use Rattle.media_laws.proofs.Asks.{side_mains, mains}
use Rattle.media_laws.proofs.Lists.{IsIn-map, IsIn-from_map}
use Rattle.media_laws.proofs.Indices.{counts_more}
use Rattle.media_laws.proofs.Nonces.{apart_in, end_of}
use Rattle.media_laws.proofs.RunYields.{events_more, events_same}
use Rattle.media_laws.proofs.RxTracks.{rx_tracks}
use Rattle.media_laws.proofs.Tables.{ended}
use Rattle.media_laws.proofs.TxDrains.{repair-send, repair-repair}
use Rattle.media_laws.proofs.TxPlays.{reading_share, repair_other}
use Rattle.media_laws.proofs.Whole.{half_of, side_ends, apart_a, apart_b, RxSteps, no_streams, and_stream, turn_streams}

-- each incoming stream of a side plays

abbrev AllReceive : Config → Side → List Event → List (Incoming × RxRecord) → Type 0
AllReceive C side events [] = Unit {0}
AllReceive C side events (s ∷ table) = RxPlays C.types s.0 (C.seals (peer_of side)) C.threshold s.1 events × AllReceive C side events table

all_begin : (C : Config) (side : Side) (Ls : List Incoming) → AllReceive C side [] (map (λ L. (L, new_rx)) Ls)
all_begin C side [] = tt
all_begin C side (L ∷ Ls) = (rx_begun, all_begin C side Ls)

all_step : (C : Config) (side : Side) (events new : List Event) {xs ys : List (Incoming × RxRecord)} → RxSteps (setup_of C side) (C.seals (peer_of side)) new xs ys
    → AllReceive C side events xs → AllReceive C side (events ++ new) ys
all_step C side events new no_streams h = tt
all_step C side events new (and_stream L s rest) h = (rx_step h.0 s, all_step C side events new rest h.1)

all_same : (C : Config) (side : Side) (table : List (Incoming × RxRecord)) (events other : List Event) → other ≡ events → AllReceive C side events table → AllReceive C side other table
all_same C side table events other is h = subst (λ es. AllReceive C side es table) (sym is) h

receive_a : {C : Config} {a b : Session} {entries : List Happening} → IsSound C → Played C a b entries → AllReceive C A (events_of A entries) a.rx.table
receive_a {C} sound begun = all_begin C A (setup_of C A).streams
receive_a {C} sound (of_a {c = c} {entries = entries} {new = new} h t) =
    all_same C A c.rx.table _ _ (events_more A entries new) (all_step C A (events_of A entries) new (turn_streams t (apart_a sound h).0) (receive_a sound h))
receive_a {C} sound (of_b {a = a} {entries = entries} {new = new} h t) = all_same C A a.rx.table _ _ (events_same A B entries new refl) (receive_a sound h)

receive_b : {C : Config} {a b : Session} {entries : List Happening} → IsSound C → Played C a b entries → AllReceive C B (events_of B entries) b.rx.table
receive_b {C} sound begun = all_begin C B (setup_of C B).streams
receive_b {C} sound (of_b {c = c} {entries = entries} {new = new} h t) =
    all_same C B c.rx.table _ _ (events_more B entries new) (all_step C B (events_of B entries) new (turn_streams t (apart_b sound h).0) (receive_b sound h))
receive_b {C} sound (of_a {b = b} {entries = entries} {new = new} h t) = all_same C B b.rx.table _ _ (events_same B A entries new refl) (receive_b sound h)

receives : {C : Config} {a b : Session} {entries : List Happening} → IsSound C → Played C a b entries → (side : Side) → AllReceive C side (events_of side entries) (session_of side a b).rx.table
receives sound h A = receive_a sound h
receives sound h B = receive_b sound h

receives_in : (C : Config) (side : Side) (events : List Event) (table : List (Incoming × RxRecord)) (s : Incoming × RxRecord) → IsIn s table → AllReceive C side events table → lists C.types s.0 events ≡ lists_in s.1
receives_in C side events [] s i h = absurd i
receives_in C side events (t ∷ table) s (inl e) h = subst (λ (u : Incoming × RxRecord). lists C.types u.0 events ≡ lists_in u.1) (sym e) (rx_tracks h.0).same
receives_in C side events (t ∷ table) s (inr i) h = receives_in C side events table s i h.1

-- the incoming streams of a side are those of its setup, and the record of each holds the lists of its events
pub record HoldsLists (C : Config) (side : Side) (table : List (Incoming × RxRecord)) (events : List Event) : Type 0 where
  pub same : (s : Incoming × RxRecord) → IsIn s table → lists C.types s.0 events ≡ lists_in s.1
  pub known : (s : Incoming × RxRecord) → IsIn s table → IsIn s.0 (setup_of C side).streams
  pub found : (L : Incoming) → IsIn L (setup_of C side).streams → (s : Incoming × RxRecord) × IsIn s table × (L ≡ s.0)

pub hold_lists : {C : Config} {a b : Session} {entries : List Happening} → IsSound C → Played C a b entries → (side : Side)
    → HoldsLists C side (session_of side a b).rx.table (events_of side entries)
hold_lists {C} {a} {b} sound h side =
    let table = (session_of side a b).rx.table in
    let all : mains table ≡ (setup_of C side).streams = side_mains (half_of h side).rx in
    record {
      same = λ s i. receives_in C side _ table s i (receives sound h side);
      known = λ s i. subst (IsIn s.0) all (IsIn-map (λ (t : Incoming × RxRecord). t.0) s table i);
      found = λ L i. IsIn-from_map (λ (t : Incoming × RxRecord). t.0) L table (subst (IsIn L) (sym all) i);
    }

-- each outgoing stream of a side plays, maybe up to a tick that is cut off

pub ends_at : {C : Config} {entries : List Happening} → IsSound C → Ends C entries → (side : Side) (M : Outgoing) → IsIn M (C.outgoing side)
    → (t : TxRecord) × TxEnds C.types M (C.seals side) t (events_of side entries)
ends_at {C} sound h side M i = let e = side_ends h side in let s = ended (sound.apart side) e.1 in end_of e.0 M s.all (subst (IsIn M) (sym s.same) i)

pub apart_at : {C : Config} → IsSound C → (side : Side) (M : Outgoing) → IsIn M (C.outgoing side) → IsApart M
apart_at {C} sound side M i = apart_in (C.outgoing side) M (sound.apart side) i

-- the numbers of repairs count up

pub counts_at : (k : ℕ) (xs : List ℕ) (i : ℕ) (ys : List ℕ) (n : ℕ) → Counts k (xs ++ i ∷ ys) n → i ≡ k + length xs
counts_at k [] i ys n h = omega (arith, h.0)
counts_at k (x ∷ xs) i ys n h = let r = counts_at (k + 1) xs i ys n h.1 in omega (arith, r)

abbrev pub repair_numbers : Outgoing → List Event → List ℕ
repair_numbers L events = map (λ x. x.0) (repairs L events)

pub numbers_more : (L : Outgoing) (xs ys : List Event) → repair_numbers L (xs ++ ys) ≡ repair_numbers L xs ++ repair_numbers L ys
numbers_more L xs ys = ap (map (λ x. x.0)) (flat_map-append (repair_on L) xs ys) ∙ map-append (λ x. x.0) (repairs L xs) (repairs L ys)

poll_counts : {T : Types} {L : Outgoing} {seal : Sealing} {now : ℕ} {t u : TxRecord} {events : List Event} → IsApart L → Polls T L seal now t u events → Counts t.next_rtx (repair_numbers L events) u.next_rtx
poll_counts apart (drops is) = refl
poll_counts apart (misses n rest is out) = refl
poll_counts {L = L} {t = t} apart (resends n rest w x pt bytes is held own type made) =
    subst (λ (ps : List (ℕ × Plain)). Counts t.next_rtx (map (λ x. x.0) ps) (t.next_rtx + 1)) (sym (repair-repair L bytes [] x t.next_rtx pt w own)) (refl, refl)
poll_counts {L = L} {t = t} apart (sends w rest store bytes idle is caches made) =
    subst (λ (ps : List (ℕ × Plain)). Counts t.next_rtx (map (λ x. x.0) ps) t.next_rtx) (sym (repair-send L bytes [] w.number (sending_of w) apart)) refl

serve_counts : {T : Types} {L : Outgoing} {seal : Sealing} {now : ℕ} {t u : TxRecord} {events : List Event} → IsApart L → Serves T L seal now t u events → Counts t.next_rtx (repair_numbers L events) u.next_rtx
serve_counts apart rests = refl
serve_counts {L = L} {t = t} {u = w} apart (polls {u = u} {events = events} {more = more} p d) =
    subst (λ is. Counts t.next_rtx is w.next_rtx) (sym (numbers_more L events more)) (counts_more t.next_rtx (repair_numbers L events) (repair_numbers L more) u.next_rtx w.next_rtx (poll_counts apart p) (serve_counts apart d))

beside_none : (L : Outgoing) (now : ℕ) (new : List Event) → AreBeside L now new → repairs L new ≡ []
beside_none L now [] h = refl
beside_none L now (e ∷ new) h = ap (λ ps. ps ++ repairs L new) (one e h.0) ∙ beside_none L (clock_step now e) new h.1
  where
    one : (e : Event) → IsBeside L now e → repair_on L e ≡ []
    one (sealed ssrc n p bytes) b = absurd b
    one _ b = refl

tick_counts : {T : Types} {L : Outgoing} {seal : Sealing} {u : TxRecord} {share : List Event} (t : TxRecord) (time : ℕ) (new : List Event) → IsApart L → Serves T L seal time (begun_tick L time t) u share
    → filter (is_of L) new ≡ share → Counts t.next_rtx (repair_numbers L (ticked time ∷ new)) u.next_rtx
tick_counts {L = L} {u = u} t time new apart serves is =
    subst (λ (ps : List (ℕ × Plain)). Counts t.next_rtx (map (λ x. x.0) ps) u.next_rtx) (sym (reading_share (repair_on L) L (repair_other L) new ∙ ap (repairs L) is)) (serve_counts apart serves)

step_counts : {T : Types} {L : Outgoing} {seal : Sealing} {now : ℕ} {t u : TxRecord} {new : List Event} → IsApart L → TxStep T L seal now t u new → Counts t.next_rtx (repair_numbers L new) u.next_rtx
step_counts apart (tx_writes time w is unused late) = refl
step_counts {t = t} apart (tx_ticks time new late tick) = tick_counts t time new apart tick.drain.serves tick.own
step_counts apart (tx_hears time bytes index items queued late q) = refl
step_counts {L = L} {now = now} {t = t} apart (tx_passes new beside) =
    subst (λ (ps : List (ℕ × Plain)). Counts t.next_rtx (map (λ x. x.0) ps) t.next_rtx) (sym (beside_none L now new beside)) refl

plays_count : {T : Types} {L : Outgoing} {seal : Sealing} {t : TxRecord} {events : List Event} → IsApart L → TxPlays T L seal t events → Counts L.start (repair_numbers L events) t.next_rtx
plays_count apart tx_begun = refl
plays_count {L = L} apart (tx_step {t = t} {u = u} {events = events} {new = new} h s) =
    subst (λ is. Counts L.start is u.next_rtx) (sym (numbers_more L events new)) (counts_more L.start (repair_numbers L events) (repair_numbers L new) t.next_rtx u.next_rtx (plays_count apart h) (step_counts apart s))

pub repairs_count : {T : Types} {L : Outgoing} {seal : Sealing} {t : TxRecord} {events : List Event} → IsApart L → TxEnds T L seal t events → Counts L.start (repair_numbers L events) t.next_rtx
repairs_count apart (at_step h) = plays_count apart h
repairs_count {L = L} apart (in_tick {t = t} {u = u} {events = events} h time new at tick) =
    subst (λ is. Counts L.start is u.next_rtx) (sym (numbers_more L events (ticked time ∷ new)))
    (counts_more L.start (repair_numbers L events) (repair_numbers L (ticked time ∷ new)) t.next_rtx u.next_rtx (plays_count apart h) (tick_counts t time new apart tick.serves tick.own))
