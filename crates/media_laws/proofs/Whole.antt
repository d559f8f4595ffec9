-- The laws of a whole run.
use Rattle.std.proofs.Common.{◌≡◌, inl, inr, ℕ, ◌+◌, ◌≤◌, Bool, true, false, eqb, List, [], ◌∷◌, ◌++◌, map, refl, sym, ap, ◌∙◌, subst}
use Rattle.std.specs.Prelude.{filter, ◌||◌, ◌==◌, if◌then◌else◌}
use Rattle.std.specs.List.{fold, list_all}
use Rattle.std.proofs.lemmas.Bool.{or_cases, eq-eqb, eqb-true, false≢true}
use Rattle.rtp_base.specs.declared.kind.Kind.TheVariants.{Rtp, Rtcp}
use Rattle.media_model.specs.declared.entry.Packet.{Packet}
use Rattle.run_model.specs.Events.{Plain, Event, wrote, ticked, called, got, sealed, sealed_items, opened, opened_items, yielded, Types, Outgoing, Incoming}
use Rattle.run_model.specs.Listing.{IsIn}
use Rattle.run_model.specs.Capping.{IsCapped}
use Rattle.run_model.specs.Sending.{sendings, nothing_sent, Answers, AnswersPartly}
use Rattle.run_model.specs.Seals.{Sealing}
use Rattle.run_model.specs.TxPlay.{TxRecord, new_tx, is_of, is_sealing, clock_step, TxStep}
use Rattle.run_model.specs.Receiving.{concerns, yields, Opens}
use Rattle.run_model.specs.RxPlay.{RxRecord, new_rx, lists_in, rx_opened, AreAside, RxStep, opens as rx_opens, ticks as rx_ticks, passes as rx_passes}
use Rattle.run_model.specs.Asking.{NoneHas, MainsApart, RxSide, RxSetup, new_side, opened_in, ticked_in, side_step, asks_of, RxSideStep, opens as side_opens, ticks as side_ticks, hears as side_hears, calls as side_calls, passes as side_passes, RxSidePlays, begun as rx_begun, step as rx_step}
use Rattle.run_model.specs.Tables.{begun_at, Table, lines, clock, has, AllStrange, AreApart, AreIdle, ServesAll, AreElsewhere, SideStep, writes as table_writes, ticks as table_ticks, hears as table_hears, passes as table_passes, SidePlays, begun as tx_begun, step as tx_step, SideEnds, at_step as side_at_step, in_tick as side_in_tick}
use Rattle.media_model.specs.declared.entry.Side.{Side}
use Rattle.media_model.specs.declared.entry.Side.TheVariants.{A, B}
use Rattle.media_model.specs.Sides.{peer_of, same_side}
use Rattle.run_model.specs.Runs.{Happening, events_of, on_side, Runs, begun as pair_begun, sends, receives}
use Rattle.run_model.specs.Whole.{Config, incoming_of, probes, setup_of, Session, Turns, writes, ticks, calls, requests, opens, hears, stays, Played, begun, of_a, of_b, session_of, CutsOff, Ends, at_step, in_tick, IsSound, RunsRepeatNoNonce, RunsYieldOnce, RunsYieldWrites, RunsAskTheDue, RunsAnswer, RunsAnswerPartly}
use Rattle.media_laws.proofs.Lists.{IsIn-map, tested}
use Rattle.media_laws.proofs.Tables.{begun_lines, AllPlay, Shares, and_one, serve_shares, Steps, no_steps, and_step, side_steps, clock_is, own_main, Sides, sides, serve_seals}
use Rattle.media_laws.proofs.Nonces.{apart_in, no_nonce_twice}
use Rattle.media_laws.proofs.RxYields.{YieldsNew, yields_new, none_twice}
use Rattle.media_laws.proofs.RunYields.{events_more, events_same, rx_plays, streams_yield_writes}
use Rattle.media_laws.proofs.Asks.{side_tracks, side_mains, mains, rounds_ask_the_due}
use Rattle.media_laws.proofs.TxPlays.{ticks_answer, cut_ticks_answer}
use Rattle.rtp_base.specs.Window.{is_just}

-- what a turn is to the outgoing half, and to the incoming half

yields_elsewhere : (now : ℕ) (ps : List Packet) → AreElsewhere now (map yielded ps)
yields_elsewhere now [] = tt
yields_elsewhere now (p ∷ ps) = (tt, yields_elsewhere now ps)

turn_tx : {C : Config} {side : Side} {a b : Session} {new : List Event} → Turns C side a b new → SideStep C.types (C.seals side) a.rx.now a.tx b.tx new
turn_tx (writes time w late unused) = table_writes time w late unused
turn_tx (ticks time new next late d f count) = table_ticks time late d
turn_tx {C} {side} (opens time bytes ssrc n p s late i o) =
    table_passes (got time Rtp bytes ∷ opened ssrc n p ∷ map yielded (yields C.types s.0 (lists_in s.1) ssrc n p)) (late, (tt, yields_elsewhere time (yields C.types s.0 (lists_in s.1) ssrc n p)))
turn_tx (calls time items late others) = table_passes (called time ∷ sealed_items _ items ∷ []) (late, (tt, tt))
turn_tx (requests time late) = table_passes (called time ∷ []) (late, tt)
turn_tx (hears time bytes index items late report h) = table_hears time bytes index items late h
turn_tx (stays time kind bytes late out unread) = table_passes (got time kind bytes ∷ []) (late, tt)

turn_rx : {C : Config} {side : Side} {a b : Session} {new : List Event} → Turns C side a b new → RxSideStep (setup_of C side) (C.seals (peer_of side)) a.rx b.rx new
turn_rx (writes time w late unused) = side_passes (wrote time w) tt
turn_rx (ticks time new next late d f count) = side_ticks time new (serve_seals d.serves) f
turn_rx (opens time bytes ssrc n p s late i o) = side_opens time bytes ssrc n p s i o
turn_rx (calls time items late others) = side_calls time _ items
turn_rx (requests time late) = side_passes (called time) tt
turn_rx (hears time bytes index items late report h) = side_hears time bytes index items
turn_rx (stays time kind bytes late out unread) = side_passes (got time kind bytes) tt

-- one side of a run

pub record Half (C : Config) (side : Side) (a : Session) (events : List Event) : Type 0 where
  pub tx : SidePlays C.types (C.seals side) (C.outgoing side) a.tx events
  pub rx : RxSidePlays (setup_of C side) (C.seals (peer_of side)) a.rx events

now_is : (S : RxSetup) (events : List Event) (s : RxSide) → (fold (side_step S) s events).now ≡ fold clock_step s.now events
now_is S [] s = refl
now_is S (e ∷ events) s = now_is S events (side_step S s e) ∙ ap (λ n. fold clock_step n events) (one e)
  where
    one : (e : Event) → (side_step S s e).now ≡ clock_step s.now e
    one (wrote time w) = refl
    one (ticked time) = refl
    one (called time) = refl
    one (got time kind bytes) = refl
    one (sealed ssrc n p bytes) = refl
    one (sealed_items index items) = refl
    one (opened ssrc n p) = refl
    one (opened_items index items) = refl
    one (yielded packet) = refl

half_clock : {C : Config} {side : Side} {a : Session} {events : List Event} → Half C side a events → a.rx.now ≡ clock events
half_clock {C} {side} {events = events} h = ap (λ (s : RxSide). s.now) (sym (side_tracks h.rx)) ∙ now_is (setup_of C side) events (new_side (setup_of C side))

half_turn : {C : Config} {side : Side} {a b : Session} {events new : List Event} → Half C side a events → Turns C side a b new → Half C side b (events ++ new)
half_turn {C} {side} {a} {b} {events} {new} h t = record {
  tx = tx_step h.tx (subst (λ now. SideStep C.types (C.seals side) now a.tx b.tx new) (half_clock h) (turn_tx t));
  rx = rx_step h.rx (turn_rx t);
}

half_same : {C : Config} {side : Side} {a : Session} (events other : List Event) → other ≡ events → Half C side a events → Half C side a other
half_same {C} {side} {a} events other is h = subst (Half C side a) (sym is) h

half_a : {C : Config} {a b : Session} {entries : List Happening} → Played C a b entries → Half C A a (events_of A entries)
half_a begun = record { tx = tx_begun; rx = rx_begun }
half_a (of_a {entries = entries} {new = new} h t) = half_same _ _ (events_more A entries new) (half_turn (half_a h) t)
half_a (of_b {entries = entries} {new = new} h t) = half_same _ _ (events_same A B entries new refl) (half_a h)

half_b : {C : Config} {a b : Session} {entries : List Happening} → Played C a b entries → Half C B b (events_of B entries)
half_b begun = record { tx = tx_begun; rx = rx_begun }
half_b (of_a {entries = entries} {new = new} h t) = half_same _ _ (events_same B A entries new refl) (half_b h)
half_b (of_b {entries = entries} {new = new} h t) = half_same _ _ (events_more B entries new) (half_turn (half_b h) t)

pub half_of : {C : Config} {a b : Session} {entries : List Happening} → Played C a b entries → (side : Side) → Half C side (session_of side a b) (events_of side entries)
half_of h A = half_a h
half_of h B = half_b h

-- a side whose tick is cut off, and the other side
pub cut_side : {C : Config} {a b : Session} {entries : List Happening} → Played C a b entries → (side : Side) (time : ℕ) (streams : Table) (next : ℕ) (new : List Event)
    → CutsOff C side (session_of side a b) time streams next new
    → SideEnds C.types (C.seals side) (C.outgoing side) streams (events_of side (entries ++ on_side side (ticked time ∷ new)))
cut_side {C} {a} {b} {entries} h side time streams next new cut =
    let half = half_of h side in
    subst (SideEnds C.types (C.seals side) (C.outgoing side) streams) (sym (events_more side entries (ticked time ∷ new)))
    (side_in_tick half.tx time (subst (λ n. n ≤ time) (half_clock half) cut.late) cut.serves)

beside_cut : {C : Config} {a b : Session} {entries : List Happening} → Played C a b entries → (side by : Side) (new : List Event) → same_side side by ≡ false
    → SideEnds C.types (C.seals side) (C.outgoing side) (session_of side a b).tx (events_of side (entries ++ on_side by new))
beside_cut {C} {a} {b} {entries} h side by new other =
    subst (SideEnds C.types (C.seals side) (C.outgoing side) (session_of side a b).tx) (sym (events_same side by entries new other)) (side_at_step (half_of h side).tx)

pub side_ends : {C : Config} {entries : List Happening} → Ends C entries → (side : Side) → (xs : Table) × SideEnds C.types (C.seals side) (C.outgoing side) xs (events_of side entries)
side_ends (at_step {a = a} {b = b} h) side = ((session_of side a b).tx, side_at_step (half_of h side).tx)
side_ends (in_tick h A time streams next new cut) A = (streams, cut_side h A time streams next new cut)
side_ends (in_tick {b = b} h A time streams next new cut) B = (b.tx, beside_cut h B A (ticked time ∷ new) refl)
side_ends (in_tick {a = a} h B time streams next new cut) A = (a.tx, beside_cut h A B (ticked time ∷ new) refl)
side_ends (in_tick h B time streams next new cut) B = (streams, cut_side h B time streams next new cut)

pub runs_repeat_no_nonce : RunsRepeatNoNonce
runs_repeat_no_nonce C entries sound h side = let e = side_ends h side in no_nonce_twice C.types (C.seals side) (C.outgoing side) e.0 (events_of side entries) (sound.apart side) e.1

-- what a turn is to each incoming stream

abbrev pub AllAway : Incoming → List Incoming → Type 0
AllAway L [] = Unit {0}
AllAway L (M ∷ Ms) = ((ssrc : ℕ) → concerns L ssrc ≡ true → concerns M ssrc ≡ false) × AllAway L Ms

abbrev pub AreAway : List Incoming → Type 0
AreAway [] = Unit {0}
AreAway (L ∷ Ls) = AllAway L Ls × AreAway Ls

all_away : (M : Outgoing) (Ms : List Outgoing) → AllStrange M Ms → AllAway (incoming_of M) (map incoming_of Ms)
all_away M [] h = tt
all_away M (N ∷ Ms) h = (h.0, all_away M Ms h.1)

are_away : (Ms : List Outgoing) → AreApart Ms → AreAway (map incoming_of Ms)
are_away [] h = tt
are_away (M ∷ Ms) h = (all_away M Ms h.1.0, are_away Ms h.1.1)

-- no stream of a side has the SSRC of probes
probes_away : (Ms : List Outgoing) → ((M : Outgoing) → IsIn M Ms → has M 0 ≡ false) → AllAway probes (map incoming_of Ms)
probes_away [] none = tt
probes_away (M ∷ Ms) none = (
  λ ssrc is. elim (or_cases (eqb ssrc 0) false is) [ inl t ↦ subst (λ r. has M r ≡ false) (sym (eqb-true ssrc 0 t)) (none M (inl refl)) | inr t ↦ absurd (false≢true t) ],
  probes_away Ms (λ N i. none N (inr i)),
)

streams_away : {C : Config} → IsSound C → (side : Side) → AreAway (setup_of C side).streams
streams_away {C} sound side = (probes_away (C.outgoing (peer_of side)) (sound.nonzero (peer_of side)), are_away (C.outgoing (peer_of side)) (sound.apart (peer_of side)))

pub away_in : (L : Incoming) (Ls : List Incoming) (M : Incoming) → AllAway L Ls → IsIn M Ls → (ssrc : ℕ) → concerns L ssrc ≡ true → concerns M ssrc ≡ false
away_in L [] M h i = absurd i
away_in L (N ∷ Ls) M h (inl e) = λ ssrc mine. ap (λ (K : Incoming). concerns K ssrc) e ∙ h.0 ssrc mine
away_in L (N ∷ Ls) M h (inr i) = away_in L Ls M h.1 i

pub data RxSteps (S : RxSetup) (peer : Sealing) (new : List Event) : List (Incoming × RxRecord) → List (Incoming × RxRecord) → Type 0 where
  no_streams : RxSteps S peer new [] []
  and_stream : {xs ys : List (Incoming × RxRecord)} {x y : RxRecord} (L : Incoming) → RxStep S.types L peer S.threshold x y new → RxSteps S peer new xs ys → RxSteps S peer new ((L, x) ∷ xs) ((L, y) ∷ ys)

pub own_concern : (L : Incoming) → concerns L L.ssrc ≡ true
own_concern L = let same : eqb L.ssrc L.ssrc ≡ true = eq-eqb L.ssrc L.ssrc refl in rw same refl

not_main : (a b : Bool) → (a || b) ≡ false → a ≡ false
not_main true b h = absurd cc
not_main false b h = refl

-- what is yielded on one stream is aside for another
yields_aside : (L M : Incoming) (before after : List ℕ) (ps : List Packet) → ((ssrc : ℕ) → concerns L ssrc ≡ true → concerns M ssrc ≡ false) → YieldsNew L before after ps → AreAside M (map yielded ps)
yields_aside L M before after ps away (inl is) = subst (λ qs. AreAside M (map yielded qs)) (sym is) tt
yields_aside L M before after ps away (inr (packet, is, new)) =
    let other : (L.ssrc == M.ssrc) ≡ false = not_main (eqb L.ssrc M.ssrc) (is_just L.ssrc M.rtx) (away L.ssrc (own_concern L)) in
    subst (λ qs. AreAside M (map yielded qs)) (sym is) (ap (λ r. eqb r M.ssrc) new.source ∙ other, tt)

module _ (S : RxSetup) (peer : Sealing) (time : ℕ) (bytes : List ℕ) (ssrc n : ℕ) (p : Plain) (s : Incoming × RxRecord) (o : Opens S.types s.0 peer (lists_in s.1) bytes ssrc n p) where
  own_step : RxStep S.types s.0 peer S.threshold s.1 (opened_in S time ssrc n p s).1 (got time Rtp bytes ∷ opened ssrc n p ∷ map yielded (yields S.types s.0 (lists_in s.1) ssrc n p))
  own_step =
      subst (λ b. RxStep S.types s.0 peer S.threshold s.1 (if b then rx_opened S.types s.0 (time + S.threshold) ssrc n p s.1 else s.1) (got time Rtp bytes ∷ opened ssrc n p ∷ map yielded (yields S.types s.0 (lists_in s.1) ssrc n p)))
      (sym o.mine) (rx_opens time bytes ssrc n p o)

  away_step : (t : Incoming × RxRecord) → ((r : ℕ) → concerns s.0 r ≡ true → concerns t.0 r ≡ false)
      → RxStep S.types t.0 peer S.threshold t.1 (opened_in S time ssrc n p t).1 (got time Rtp bytes ∷ opened ssrc n p ∷ map yielded (yields S.types s.0 (lists_in s.1) ssrc n p))
  away_step t away =
      let other : concerns t.0 ssrc ≡ false = away ssrc o.mine in
      subst (λ b. RxStep S.types t.0 peer S.threshold t.1 (if b then rx_opened S.types t.0 (time + S.threshold) ssrc n p t.1 else t.1) (got time Rtp bytes ∷ opened ssrc n p ∷ map yielded (yields S.types s.0 (lists_in s.1) ssrc n p)))
      (sym other)
      (rx_passes (got time Rtp bytes ∷ opened ssrc n p ∷ map yielded (yields S.types s.0 (lists_in s.1) ssrc n p))
      (tt, (other, yields_aside s.0 t.0 _ _ (yields S.types s.0 (lists_in s.1) ssrc n p) away (yields_new S.types s.0 (lists_in s.1) ssrc n p o.fresh))))

  away_steps : (table : List (Incoming × RxRecord)) → ((t : Incoming × RxRecord) → IsIn t table → (r : ℕ) → concerns s.0 r ≡ true → concerns t.0 r ≡ false)
      → RxSteps S peer (got time Rtp bytes ∷ opened ssrc n p ∷ map yielded (yields S.types s.0 (lists_in s.1) ssrc n p)) table (map (opened_in S time ssrc n p) table)
  away_steps [] away = no_streams
  away_steps (t ∷ table) away = and_stream t.0 (away_step t (away t (inl refl))) (away_steps table (λ u i. away u (inr i)))

  opened_steps : (table : List (Incoming × RxRecord)) → IsIn s table → AreAway (mains table)
      → RxSteps S peer (got time Rtp bytes ∷ opened ssrc n p ∷ map yielded (yields S.types s.0 (lists_in s.1) ssrc n p)) table (map (opened_in S time ssrc n p) table)
  opened_steps [] i apart = absurd i
  opened_steps (t ∷ table) (inl e) apart =
      and_stream t.0
      (subst (λ (u : Incoming × RxRecord). RxStep S.types u.0 peer S.threshold u.1 (opened_in S time ssrc n p u).1 (got time Rtp bytes ∷ opened ssrc n p ∷ map yielded (yields S.types s.0 (lists_in s.1) ssrc n p))) e own_step)
      (away_steps table (λ u j. subst (λ (v : Incoming × RxRecord). (r : ℕ) → concerns v.0 r ≡ true → concerns u.0 r ≡ false) (sym e) (away_in t.0 (mains table) u.0 apart.0 (IsIn-map (λ (v : Incoming × RxRecord). v.0) u table j))))
  opened_steps (t ∷ table) (inr i) apart =
      and_stream t.0
      (away_step t (λ r mine. elim (tested (concerns t.0 r)) [
        | inl k ↦ absurd (false≢true (sym (away_in t.0 (mains table) s.0 apart.0 (IsIn-map (λ (v : Incoming × RxRecord). v.0) s table i) r k) ∙ mine))
        | inr k ↦ k
      ]))
      (opened_steps table i apart.1)

tick_streams : {S : RxSetup} {peer : Sealing} (time : ℕ) (round : Bool) (wait : ℕ) (new : List Event) → list_all is_sealing new ≡ true → (table : List (Incoming × RxRecord))
    → RxSteps S peer (ticked time ∷ new) table (map (ticked_in time round wait) table)
tick_streams time round wait new all [] = no_streams
tick_streams time round wait new all (t ∷ table) = and_stream t.0 (rx_ticks time (asks_of round wait t) new all) (tick_streams time round wait new all table)

pass_streams : {S : RxSetup} {peer : Sealing} (new : List Event) → ((L : Incoming) → AreAside L new) → (table : List (Incoming × RxRecord)) → RxSteps S peer new table table
pass_streams new aside [] = no_streams
pass_streams new aside (t ∷ table) = and_stream t.0 (rx_passes new (aside t.0)) (pass_streams new aside table)

pub turn_streams : {C : Config} {side : Side} {a b : Session} {new : List Event} → Turns C side a b new → AreAway (mains a.rx.table) → RxSteps (setup_of C side) (C.seals (peer_of side)) new a.rx.table b.rx.table
turn_streams {a = a} (writes time w late unused) apart = pass_streams (wrote time w ∷ []) (λ L. (tt, tt)) a.rx.table
turn_streams {a = a} (ticks time new next late d f count) apart = tick_streams time _ _ new (serve_seals d.serves) a.rx.table
turn_streams {C} {side} {a} (opens time bytes ssrc n p s late i o) apart = opened_steps (setup_of C side) (C.seals (peer_of side)) time bytes ssrc n p s o a.rx.table i apart
turn_streams {a = a} (calls time items late others) apart = pass_streams (called time ∷ sealed_items _ items ∷ []) (λ L. (tt, (tt, tt))) a.rx.table
turn_streams {a = a} (requests time late) apart = pass_streams (called time ∷ []) (λ L. (tt, tt)) a.rx.table
turn_streams {a = a} (hears time bytes index items late report h) apart = pass_streams (got time Rtcp bytes ∷ opened_items index items ∷ []) (λ L. (tt, (tt, tt))) a.rx.table
turn_streams {a = a} (stays time kind bytes late out unread) apart = pass_streams (got time kind bytes ∷ []) (λ L. (tt, tt)) a.rx.table

-- each stream of a run, as its two records see it

pub data AllRun (C : Config) (side : Side) (entries : List Happening) : Table → List (Incoming × RxRecord) → Type 0 where
  no_runs : AllRun C side entries [] []
  and_run : {ts : Table} {xs : List (Incoming × RxRecord)} {t : TxRecord} {x : RxRecord} (M : Outgoing) → Runs C.types (C.seals (peer_of side)) C.threshold side M (incoming_of M) t x entries
      → AllRun C side entries ts xs → AllRun C side entries ((M, t) ∷ ts) ((incoming_of M, x) ∷ xs)

-- with the stream of probes before them
pub data AllRuns (C : Config) (side : Side) (entries : List Happening) : Table → List (Incoming × RxRecord) → Type 0 where
  behind : {ts : Table} {xs : List (Incoming × RxRecord)} (x : RxRecord) → AllRun C side entries ts xs → AllRuns C side entries ts ((probes, x) ∷ xs)

begin_runs : (C : Config) (side : Side) (Ms : List Outgoing) → AllRun C side [] (map (λ M. (M, new_tx M)) Ms) (map (λ L. (L, new_rx)) (map incoming_of Ms))
begin_runs C side [] = no_runs
begin_runs C side (M ∷ Ms) = and_run M pair_begun (begin_runs C side Ms)

their_turn : {C : Config} {side : Side} (entries : List Happening) (new : List Event) {ts us : Table} {xs : List (Incoming × RxRecord)} → AllRun C side entries ts xs
    → Steps C.types (C.seals (peer_of side)) (clock (events_of (peer_of side) entries)) new ts us → AllRun C side (entries ++ on_side (peer_of side) new) us xs
their_turn entries new no_runs no_steps = no_runs
their_turn {C} {side} entries new (and_run {t = t} M r rest) (and_step {u = u} L s more) =
    and_run M (sends r (subst (λ now. TxStep C.types M (C.seals (peer_of side)) now t u new) (sym (clock_is M.ssrc (events_of (peer_of side) entries) nothing_sent)) s)) (their_turn entries new rest more)

our_turn : {C : Config} {side : Side} (entries : List Happening) (new : List Event) {ts : Table} {xs ys : List (Incoming × RxRecord)} → AllRun C side entries ts xs
    → RxSteps (setup_of C side) (C.seals (peer_of side)) new xs ys → AllRun C side (entries ++ on_side side new) ts ys
our_turn entries new no_runs no_streams = no_runs
our_turn entries new (and_run M r rest) (and_stream L s more) = and_run M (receives r s) (our_turn entries new rest more)

their_turns : {C : Config} {side : Side} (entries : List Happening) (new : List Event) {ts us : Table} {xs : List (Incoming × RxRecord)} → AllRuns C side entries ts xs
    → Steps C.types (C.seals (peer_of side)) (clock (events_of (peer_of side) entries)) new ts us → AllRuns C side (entries ++ on_side (peer_of side) new) us xs
their_turns entries new (behind x r) steps = behind x (their_turn entries new r steps)

our_turns : {C : Config} {side : Side} (entries : List Happening) (new : List Event) {ts : Table} {xs ys : List (Incoming × RxRecord)} → AllRuns C side entries ts xs
    → RxSteps (setup_of C side) (C.seals (peer_of side)) new xs ys → AllRuns C side (entries ++ on_side side new) ts ys
our_turns entries new (behind x r) (and_stream {y = y} L s more) = behind y (our_turn entries new r more)

pub apart_a : {C : Config} {a b : Session} {entries : List Happening} → IsSound C → Played C a b entries → AreAway (mains a.rx.table) × (AreApart (lines a.tx) × (lines a.tx ≡ C.outgoing A))
apart_a {C} sound h =
    let half = half_a h in
    let tx = sides (sound.apart A) half.tx in
    (subst AreAway (sym (side_mains half.rx)) (streams_away sound A), (subst AreApart (sym tx.same) (sound.apart A), tx.same))

pub apart_b : {C : Config} {a b : Session} {entries : List Happening} → IsSound C → Played C a b entries → AreAway (mains b.rx.table) × (AreApart (lines b.tx) × (lines b.tx ≡ C.outgoing B))
apart_b {C} sound h =
    let half = half_b h in
    let tx = sides (sound.apart B) half.tx in
    (subst AreAway (sym (side_mains half.rx)) (streams_away sound B), (subst AreApart (sym tx.same) (sound.apart B), tx.same))

-- the steps of a turn for the outgoing streams, at the side's clock
sent_steps : {C : Config} {side : Side} {a b : Session} {events new : List Event} → Half C side a events → AreApart (lines a.tx) → Turns C side a b new → Steps C.types (C.seals side) (clock events) new a.tx b.tx
sent_steps {C} {side} {a} {b} {events} {new} half apart t = side_steps (subst (λ now. SideStep C.types (C.seals side) now a.tx b.tx new) (half_clock half) (turn_tx t)) apart

pub runs_a : {C : Config} {a b : Session} {entries : List Happening} → IsSound C → Played C a b entries → AllRuns C A entries b.tx a.rx.table
runs_a {C} sound begun = behind new_rx (begin_runs C A (C.outgoing B))
runs_a sound (of_a {entries = entries} {new = new} h t) = our_turns entries new (runs_a sound h) (turn_streams t (apart_a sound h).0)
runs_a sound (of_b {entries = entries} {new = new} h t) = their_turns entries new (runs_a sound h) (sent_steps (half_b h) (apart_b sound h).1.0 t)

pub runs_b : {C : Config} {a b : Session} {entries : List Happening} → IsSound C → Played C a b entries → AllRuns C B entries a.tx b.rx.table
runs_b {C} sound begun = behind new_rx (begin_runs C B (C.outgoing A))
runs_b sound (of_b {entries = entries} {new = new} h t) = our_turns entries new (runs_b sound h) (turn_streams t (apart_b sound h).0)
runs_b sound (of_a {entries = entries} {new = new} h t) = their_turns entries new (runs_b sound h) (sent_steps (half_a h) (apart_a sound h).1.0 t)

run_of : {C : Config} {side : Side} {entries : List Happening} (M : Outgoing) {ts : Table} {xs : List (Incoming × RxRecord)} → AllRun C side entries ts xs → IsIn M (lines ts)
    → (t : TxRecord) × (x : RxRecord) × Runs C.types (C.seals (peer_of side)) C.threshold side M (incoming_of M) t x entries
run_of M no_runs i = absurd i
run_of {C} {side} {entries} M (and_run {t = t} {x = x} N r rest) (inl e) =
    (t, x, subst (λ (K : Outgoing). Runs C.types (C.seals (peer_of side)) C.threshold side K (incoming_of K) t x entries) (sym e) r)
run_of M (and_run N r rest) (inr i) = run_of M rest i

runs_of : {C : Config} {side : Side} {entries : List Happening} (M : Outgoing) {ts : Table} {xs : List (Incoming × RxRecord)} → AllRuns C side entries ts xs → IsIn M (lines ts)
    → (t : TxRecord) × (x : RxRecord) × Runs C.types (C.seals (peer_of side)) C.threshold side M (incoming_of M) t x entries
runs_of M (behind x r) i = run_of M r i

run_at : {C : Config} {a b : Session} {entries : List Happening} → IsSound C → Played C a b entries → (side : Side) (M : Outgoing) → IsIn M (C.outgoing (peer_of side))
    → (t : TxRecord) × (x : RxRecord) × Runs C.types (C.seals (peer_of side)) C.threshold side M (incoming_of M) t x entries
run_at sound h A M i = runs_of M (runs_a sound h) (subst (IsIn M) (sym (apart_b sound h).1.1) i)
run_at sound h B M i = runs_of M (runs_b sound h) (subst (IsIn M) (sym (apart_a sound h).1.1) i)

pub runs_yield_once : RunsYieldOnce
runs_yield_once C a b entries sound h side M i =
    let r = run_at sound h side M i in none_twice C.types (incoming_of M) (C.seals (peer_of side)) C.threshold r.1 (events_of side entries) (rx_plays r.2)

pub runs_yield_writes : RunsYieldWrites
runs_yield_writes C a b entries sound h genuine widens side M i =
    let r = run_at sound h side M i in
    streams_yield_writes C.types (C.seals (peer_of side)) C.threshold side M (incoming_of M) r.0 r.1 entries (sound.seals (peer_of side)) sound.types refl
    (apart_in (C.outgoing (peer_of side)) M (sound.apart (peer_of side)) i) r.2 genuine (widens side M i)

none_has : (M : Outgoing) (Ms : List Outgoing) → AllStrange M Ms → NoneHas M.ssrc (map incoming_of Ms)
none_has M [] h = tt
none_has M (N ∷ Ms) h = (turned (eqb M.ssrc N.ssrc) (eqb N.ssrc M.ssrc) refl refl, none_has M Ms h.1)
  where
    away : eqb M.ssrc N.ssrc ≡ false
    away = not_main (eqb M.ssrc N.ssrc) (is_just M.ssrc N.rtx) (h.0 M.ssrc (own_main M))

    turned : (x y : Bool) → eqb M.ssrc N.ssrc ≡ x → eqb N.ssrc M.ssrc ≡ y → y ≡ false
    turned x false e f = refl
    turned x true e f = absurd (false≢true (sym away ∙ eq-eqb M.ssrc N.ssrc (sym (eqb-true N.ssrc M.ssrc f))))

mains_apart : (Ms : List Outgoing) → AreApart Ms → MainsApart (map incoming_of Ms)
mains_apart [] h = tt
mains_apart (M ∷ Ms) h = (none_has M Ms h.1.0, mains_apart Ms h.1.1)

-- the SSRC of probes is no main SSRC
pub not_zero : (M : Outgoing) → has M 0 ≡ false → (M.ssrc == 0) ≡ false
not_zero M none = elim (tested (eqb M.ssrc 0)) [ inl t ↦ absurd (false≢true (sym none ∙ subst (λ r. has M r ≡ true) (eqb-true M.ssrc 0 t) (own_main M))) | inr t ↦ t ]

none_is_zero : (Ms : List Outgoing) → ((M : Outgoing) → IsIn M Ms → has M 0 ≡ false) → NoneHas 0 (map incoming_of Ms)
none_is_zero [] none = tt
none_is_zero (M ∷ Ms) none = (not_zero M (none M (inl refl)), none_is_zero Ms (λ N i. none N (inr i)))

pub runs_ask_the_due : RunsAskTheDue
runs_ask_the_due C a b c entries side time new sound h turn s i =
    rounds_ask_the_due (setup_of C side) (C.seals (peer_of side)) (session_of side a b).rx c.rx (events_of side entries) time new
    (none_is_zero (C.outgoing (peer_of side)) (sound.nonzero (peer_of side)), mains_apart (C.outgoing (peer_of side)) (sound.apart (peer_of side))) (half_of h side).rx (turn_rx turn) s i

-- a tick, for one of the streams
stream_answers : {T : Types} {seal : Sealing} {now : ℕ} (events : List Event) (time : ℕ) (new : List Event) → now ≡ clock events → now ≤ time → list_all is_sealing new ≡ true → (xs : Table) {ys : Table}
    → Shares T seal time new (map (begun_at time) xs) ys → AreIdle ys → AllPlay T seal events xs → AreApart (lines xs) → (M : Outgoing) → IsIn M (lines xs)
    → Answers T M (IsCapped M events time) (sendings M.ssrc events) new
stream_answers events time new at late all [] shares idle plays apart M i = absurd i
stream_answers {T} {seal} events time new at late all ((L, t) ∷ xs) (and_one {u = u} K d rest) idle plays apart M (inl e) =
    subst (λ (N : Outgoing). Answers T N (IsCapped N events time) (sendings N.ssrc events) new) (sym e)
    (ticks_answer T L seal t u events time new apart.0 plays.0 (subst (λ n. n ≤ time) (at ∙ sym (clock_is L.ssrc events nothing_sent)) late)
    (record { share = filter (is_of L) new; drain = record { serves = d; no_resends = idle.0; no_queue = idle.1.0 }; own = refl; sealings = all }))
stream_answers events time new at late all ((L, t) ∷ xs) (and_one K d rest) idle plays apart M (inr i) = stream_answers events time new at late all xs rest idle.1.1 plays.1 apart.1.1 M i

stream_answers_partly : {T : Types} {seal : Sealing} {now : ℕ} (events : List Event) (time : ℕ) (new : List Event) → now ≡ clock events → now ≤ time → list_all is_sealing new ≡ true → (xs : Table) {ys : Table}
    → Shares T seal time new (map (begun_at time) xs) ys → AllPlay T seal events xs → AreApart (lines xs) → (M : Outgoing) → IsIn M (lines xs) → AnswersPartly T M (sendings M.ssrc events) new
stream_answers_partly events time new at late all [] shares plays apart M i = absurd i
stream_answers_partly {T} {seal} events time new at late all ((L, t) ∷ xs) (and_one {u = u} K d rest) plays apart M (inl e) =
    subst (λ (N : Outgoing). AnswersPartly T N (sendings N.ssrc events) new) (sym e)
    (cut_ticks_answer T L seal t u events time new apart.0 plays.0 (subst (λ n. n ≤ time) (at ∙ sym (clock_is L.ssrc events nothing_sent)) late)
    (record { share = filter (is_of L) new; serves = d; own = refl; sealings = all }))
stream_answers_partly events time new at late all ((L, t) ∷ xs) (and_one K d rest) plays apart M (inr i) = stream_answers_partly events time new at late all xs rest plays.1 apart.1.1 M i

-- the streams of a side, each with its share of what leaves in a tick
module _ {C : Config} {side : Side} {a : Session} {events : List Event} (apart : AreApart (C.outgoing side)) (h : Half C side a events) where
  both : Sides C.types (C.seals side) (C.outgoing side) a.tx events
  both = sides apart h.tx

  streams_apart : AreApart (lines a.tx)
  streams_apart = subst AreApart (sym both.same) apart

  in_lines : (M : Outgoing) → IsIn M (C.outgoing side) → IsIn M (lines a.tx)
  in_lines M i = subst (IsIn M) (sym both.same) i

  tick_shares : {ys : Table} {new : List Event} (time : ℕ) → ServesAll C.types (C.seals side) time (map (begun_at time) a.tx) ys new → Shares C.types (C.seals side) time new (map (begun_at time) a.tx) ys
  tick_shares time serves = (serve_shares serves (subst AreApart (sym (begun_lines time a.tx)) streams_apart)).0

turn_answers : {C : Config} {side : Side} {a b : Session} (events : List Event) (time : ℕ) (new all : List Event) → all ≡ ticked time ∷ new → AreApart (C.outgoing side) → Half C side a events → Turns C side a b all
    → (M : Outgoing) → IsIn M (C.outgoing side) → Answers C.types M (IsCapped M events time) (sendings M.ssrc events) new
turn_answers {C} {side} {a} events time new all e apart h (ticks t more next late d f count) M i =
    subst (λ es. Answers C.types M (IsCapped M events time) (sendings M.ssrc events) es) rest
    (subst (λ m. Answers C.types M (IsCapped M events m) (sendings M.ssrc events) more) same
    (stream_answers events t more (half_clock h) late (serve_seals d.serves) a.tx (tick_shares apart h t d.serves) d.idle (both apart h).all (streams_apart apart h) M (in_lines apart h M i)))
  where
    rest : more ≡ new
    rest = cc

    same : t ≡ time
    same = cc
turn_answers events time new all e apart h (writes t w late unused) M i = absurd cc
turn_answers events time new all e apart h (opens t bytes ssrc n p s late k o) M i = absurd cc
turn_answers events time new all e apart h (calls t items late others) M i = absurd cc
turn_answers events time new all e apart h (requests t late) M i = absurd cc
turn_answers events time new all e apart h (hears t bytes index items late report k) M i = absurd cc
turn_answers events time new all e apart h (stays t kind bytes late out unread) M i = absurd cc

pub runs_answer : RunsAnswer
runs_answer C a b c entries side time new sound h turn = turn_answers (events_of side entries) time new (ticked time ∷ new) refl (sound.apart side) (half_of h side) turn

pub runs_answer_partly : RunsAnswerPartly
runs_answer_partly C a b entries side time streams next new sound h cut M i =
    let apart : AreApart (C.outgoing side) = sound.apart side in
    let half = half_of h side in
    stream_answers_partly (events_of side entries) time new (half_clock half) cut.late (serve_seals cut.serves) (session_of side a b).tx (tick_shares apart half time cut.serves) (both apart half).all
    (streams_apart apart half) M (in_lines apart half M i)
