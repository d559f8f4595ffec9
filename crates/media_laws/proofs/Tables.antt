-- What a side does is, for each of its outgoing streams, a step of that stream.
use Rattle.std.proofs.Common.{◌≡◌, inl, inr, ℕ, ◌≤◌, true, false, eqb, List, [], ◌∷◌, ◌++◌, map, Some, refl, sym, ap, ◌∙◌, subst}
use Rattle.std.specs.Prelude.{filter, ◌==◌, if◌then◌else◌}
use Rattle.std.specs.List.{fold, list_all}
use Rattle.std.proofs.lemmas.Bool.{or_right, eq-eqb, eqb-true, false≢true}
use Rattle.rtp_base.specs.declared.kind.Kind.TheVariants.{Rtcp}
use Rattle.media_model.specs.declared.entry.Write.{Write}
use Rattle.rtcp_wire.specs.declared.rtcp_fb.RtcpFb.{RtcpFb}
use Rattle.run_model.specs.Events.{Event, wrote, ticked, called, got, sealed, sealed_items, opened, opened_items, yielded, Types, Outgoing}
use Rattle.run_model.specs.Listing.{IsIn}
use Rattle.run_model.specs.Sending.{Sendings, sending_step, nothing_sent}
use Rattle.run_model.specs.Seals.{Sealing}
use Rattle.run_model.specs.TxPlay.{TxRecord, new_tx, after_write, Polls, drops, misses, resends, sends, Serves, rests as tx_rests, polls, is_of, is_sealing, IsBeside, clock_step, AreBeside, TxStep, writes as tx_writes, ticks as tx_ticks, hears as tx_hears, passes as tx_passes, TxPlays, begun as tx_begun, step as tx_step, TxEnds, at_step as tx_at_step, in_tick as tx_in_tick}
use Rattle.run_model.specs.Tables.{begun_at, Table, lines, clock, has, AllStrange, AreApart, PollsOne, here, there, AreIdle, ServesAll, rests, reports, more, written_to, IsUnused, Hears, none, one, IsElsewhere, AreElsewhere, SideStep, writes, ticks, hears, passes, SidePlays, begun, step, SideEnds, at_step, in_tick}
use Rattle.media_laws.proofs.TxPlays.{step_clock}
use Rattle.media_laws.proofs.Lists.{IsIn-append, filter-append, filter_all, filter_none, tested}
use Rattle.rtp_base.specs.Window.{is_just}

-- a poll brings datagrams of its own stream alone

pub own_main : (L : Outgoing) → has L L.ssrc ≡ true
own_main L = let same : eqb L.ssrc L.ssrc ≡ true = eq-eqb L.ssrc L.ssrc refl in rw same refl

own_rtx : (L : Outgoing) (x : ℕ) → L.rtx ≡ Some x → has L x ≡ true
own_rtx L x is = or_right (eqb x L.ssrc) (is_just x L.rtx) (subst (λ o. is_just x o ≡ true) (sym is) (eq-eqb x x refl))

polls_own : {T : Types} {L : Outgoing} {seal : Sealing} {now : ℕ} {t u : TxRecord} {events : List Event} → Polls T L seal now t u events → (e : Event) → IsIn e events
    → (is_of L e ≡ true) × (is_sealing e ≡ true)
polls_own (drops is) e i = absurd i
polls_own (misses n rest is out) e i = absurd i
polls_own {L = L} (resends n rest w x pt bytes is held own type made) e (inl f) = (ap (is_of L) f ∙ own_rtx L x own, ap is_sealing f)
polls_own (resends n rest w x pt bytes is held own type made) e (inr i) = absurd i
polls_own {L = L} (sends w rest store bytes idle is caches made) e (inl f) = (ap (is_of L) f ∙ own_main L, ap is_sealing f)
polls_own (sends w rest store bytes idle is caches made) e (inr i) = absurd i

-- what is of one stream is not of another
abbrev pub AreStrange : Outgoing → Outgoing → Type 0
AreStrange L M = (ssrc : ℕ) → has L ssrc ≡ true → has M ssrc ≡ false

strange_event : (L M : Outgoing) (e : Event) → AreStrange L M → is_of L e ≡ true → is_of M e ≡ false
strange_event L M (sealed ssrc n p bytes) apart own = apart ssrc own
strange_event L M (wrote time w) apart own = refl
strange_event L M (ticked time) apart own = refl
strange_event L M (called time) apart own = refl
strange_event L M (got time kind bytes) apart own = refl
strange_event L M (sealed_items index items) apart own = refl
strange_event L M (opened ssrc n p) apart own = refl
strange_event L M (opened_items index items) apart own = refl
strange_event L M (yielded packet) apart own = refl

pub strange_back : (L M : Outgoing) → AreStrange L M → AreStrange M L
strange_back L M apart ssrc own = elim (tested (has L ssrc)) [ inl t ↦ absurd (false≢true (sym (apart ssrc t) ∙ own)) | inr t ↦ t ]

-- the shares of what leaves a side in a tick: each stream's part of it are polls of that stream
pub data Shares (T : Types) (seal : Sealing) (now : ℕ) (events : List Event) : Table → Table → Type 0 where
  no_streams : Shares T seal now events [] []
  and_one : {xs ys : Table} {t u : TxRecord} (L : Outgoing) → Serves T L seal now t u (filter (is_of L) events) → Shares T seal now events xs ys
      → Shares T seal now events ((L, t) ∷ xs) ((L, u) ∷ ys)

no_shares : {T : Types} {seal : Sealing} {now : ℕ} (xs : Table) → Shares T seal now [] xs xs
no_shares [] = no_streams
no_shares ((L, t) ∷ xs) = and_one L tx_rests (no_shares xs)

-- events that are of none of the streams
shares_other : {T : Types} {seal : Sealing} {now : ℕ} (new events : List Event) {xs ys : Table} → ((L : Outgoing) → IsIn L (lines xs) → filter (is_of L) new ≡ []) → Shares T seal now events xs ys
    → Shares T seal now (new ++ events) xs ys
shares_other new events other no_streams = no_streams
shares_other {T} {seal} {now} new events other (and_one {t = t} {u = u} L d rest) =
    and_one L (subst (Serves T L seal now t u) (sym (filter-append (is_of L) new events ∙ ap (λ es. es ++ filter (is_of L) events) (other L (inl refl)))) d)
    (shares_other new events (λ M i. other M (inr i)) rest)

pub strange_in : (L : Outgoing) (Ls : List Outgoing) (M : Outgoing) → AllStrange L Ls → IsIn M Ls → AreStrange L M
strange_in L [] M all i = absurd i
strange_in L (N ∷ Ls) M all (inl e) = subst (AreStrange L) (sym e) all.0
strange_in L (N ∷ Ls) M all (inr i) = strange_in L Ls M all.1 i

one_lines : {T : Types} {seal : Sealing} {now : ℕ} {xs ys : Table} {events : List Event} → PollsOne T seal now xs ys events → lines ys ≡ lines xs
one_lines (here {rest = rest} L p) = refl
one_lines (there s p) = ap (λ ls. s.0 ∷ ls) (one_lines p)

-- what is polled of one of the streams is of one of the lines
one_own : {T : Types} {seal : Sealing} {now : ℕ} {xs ys : Table} {events : List Event} → PollsOne T seal now xs ys events
    → (L : Outgoing) × IsIn L (lines xs) × ((e : Event) → IsIn e events → (is_of L e ≡ true) × (is_sealing e ≡ true))
one_own (here L p) = (L, inl refl, polls_own p)
one_own (there s p) = let r = one_own p in (r.0, inr r.1, r.2)

shares_poll : {T : Types} {seal : Sealing} {now : ℕ} {xs ys zs : Table} {events rest : List Event} → PollsOne T seal now xs ys events → AreApart (lines xs) → Shares T seal now rest ys zs
    → Shares T seal now (events ++ rest) xs zs
shares_poll {T} {seal} {now} {events = events} {rest = rest} (here {t = t} L p) apart (and_one {u = v} M d s) =
    and_one L
    (subst (Serves T L seal now t v) (sym (filter-append (is_of L) events rest ∙ ap (λ es. es ++ filter (is_of L) rest) (filter_all (is_of L) events (λ e i. (polls_own p e i).0)))) (polls p d))
    (shares_other events rest (λ N i. filter_none (is_of N) events (λ e j. strange_event L N e (strange_in L _ N apart.1.0 i) (polls_own p e j).0)) s)
shares_poll {T} {seal} {now} {events = events} {rest = rest} (there s p) apart (and_one {t = t} {u = v} M d others) =
    let own = one_own p in
    let apart_from : AreStrange own.0 M = strange_back M own.0 (strange_in M _ own.0 apart.1.0 own.1) in
    and_one M
    (subst (Serves T M seal now t v) (sym (filter-append (is_of M) events rest ∙ ap (λ es. es ++ filter (is_of M) rest) (filter_none (is_of M) events (λ e i. strange_event own.0 M e apart_from (own.2 e i).0)))) d)
    (shares_poll p apart.1.1 others)

-- all that leaves

sealings-append : (xs ys : List Event) → ((e : Event) → IsIn e xs → is_sealing e ≡ true) → list_all is_sealing ys ≡ true → list_all is_sealing (xs ++ ys) ≡ true
sealings-append [] ys all h = h
sealings-append (x ∷ xs) ys all h = rw (all x (inl refl)) (sealings-append xs ys (λ e i. all e (inr i)) h)

pub serve_shares : {T : Types} {seal : Sealing} {now : ℕ} {xs ys : Table} {events : List Event} → ServesAll T seal now xs ys events → AreApart (lines xs)
    → Shares T seal now events xs ys × (list_all is_sealing events ≡ true)
serve_shares (rests {xs}) apart = (no_shares xs, refl)
serve_shares (reports {events = events} index items d) apart = let r = serve_shares d apart in (shares_other (sealed_items index items ∷ []) events (λ L i. refl) r.0, r.1)
serve_shares (more {events = events} {rest = rest} p d) apart =
    let r = serve_shares d (subst AreApart (sym (one_lines p)) apart) in
    (shares_poll p apart r.0, sealings-append events rest (λ e i. ((one_own p).2 e i).1) r.1)

pub serve_seals : {T : Types} {seal : Sealing} {now : ℕ} {xs ys : Table} {events : List Event} → ServesAll T seal now xs ys events → list_all is_sealing events ≡ true
serve_seals rests = refl
serve_seals (reports index items d) = serve_seals d
serve_seals (more {events = events} {rest = rest} p d) = sealings-append events rest (λ e i. ((one_own p).2 e i).1) (serve_seals d)

serve_lines : {T : Types} {seal : Sealing} {now : ℕ} {xs ys : Table} {events : List Event} → ServesAll T seal now xs ys events → lines ys ≡ lines xs
serve_lines rests = refl
serve_lines (reports index items d) = serve_lines d
serve_lines (more p d) = serve_lines d ∙ one_lines p

-- a step of a side is a step of each stream

pub data Steps (T : Types) (seal : Sealing) (now : ℕ) (new : List Event) : Table → Table → Type 0 where
  no_steps : Steps T seal now new [] []
  and_step : {xs ys : Table} {t u : TxRecord} (L : Outgoing) → TxStep T L seal now t u new → Steps T seal now new xs ys → Steps T seal now new ((L, t) ∷ xs) ((L, u) ∷ ys)

write_steps : {T : Types} {seal : Sealing} {now : ℕ} (time : ℕ) (w : Write) → now ≤ time → (xs : Table) → IsUnused w xs → Steps T seal now (wrote time w ∷ []) xs (map (written_to w) xs)
write_steps time w late [] unused = no_steps
write_steps {T} {seal} {now} time w late ((L, t) ∷ xs) unused = and_step L here_step (write_steps time w late xs unused.1)
  where
    here_step : TxStep T L seal now t (if w.ssrc == L.ssrc then after_write w t else t) (wrote time w ∷ [])
    here_step =
        elim (tested (eqb w.ssrc L.ssrc)) [
          | inl is ↦ rw is (tx_writes time w (eqb-true w.ssrc L.ssrc is) (unused.0 (eqb-true w.ssrc L.ssrc is)) late)
          | inr is ↦ rw is (tx_passes (wrote time w ∷ []) ((late, is), tt))
        ]

tick_steps : {T : Types} {seal : Sealing} {now : ℕ} (time : ℕ) (new : List Event) → now ≤ time → list_all is_sealing new ≡ true → (xs : Table) {ys : Table} → Shares T seal time new (map (begun_at time) xs) ys
    → AreIdle ys → Steps T seal now (ticked time ∷ new) xs ys
tick_steps time new late all [] no_streams idle = no_steps
tick_steps time new late all ((L, t) ∷ xs) (and_one M d rest) idle =
    and_step L (tx_ticks time new late (record { share = filter (is_of L) new; drain = record { serves = d; no_resends = idle.0; no_queue = idle.1.0 }; own = refl; sealings = all }))
    (tick_steps time new late all xs rest idle.1.1)

pub begun_lines : (time : ℕ) (xs : Table) → lines (map (begun_at time) xs) ≡ lines xs
begun_lines time [] = refl
begun_lines time (s ∷ xs) = ap (λ ls. s.0 ∷ ls) (begun_lines time xs)

hear_steps : {T : Types} {seal : Sealing} {now : ℕ} (time : ℕ) (bytes : List ℕ) (index : ℕ) (items : List RtcpFb) → now ≤ time → {xs ys : Table} → Hears items xs ys
    → Steps T seal now (got time Rtcp bytes ∷ opened_items index items ∷ []) xs ys
hear_steps time bytes index items late none = no_steps
hear_steps time bytes index items late (one L t queued q rest) = and_step L (tx_hears time bytes index items queued late q) (hear_steps time bytes index items late rest)

elsewhere : (L : Outgoing) (now : ℕ) (e : Event) → IsElsewhere now e → IsBeside L now e
elsewhere L now (called time) h = h
elsewhere L now (got time kind bytes) h = h
elsewhere L now (sealed_items index items) h = tt
elsewhere L now (opened ssrc n p) h = tt
elsewhere L now (yielded packet) h = tt
elsewhere L now (wrote time w) h = absurd h
elsewhere L now (ticked time) h = h
elsewhere L now (sealed ssrc n p bytes) h = h
elsewhere L now (opened_items index items) h = h

all_elsewhere : (L : Outgoing) (now : ℕ) (new : List Event) → AreElsewhere now new → AreBeside L now new
all_elsewhere L now [] h = tt
all_elsewhere L now (e ∷ new) h = (elsewhere L now e h.0, all_elsewhere L (clock_step now e) new h.1)

pass_steps : {T : Types} {seal : Sealing} {now : ℕ} (new : List Event) → AreElsewhere now new → (xs : Table) → Steps T seal now new xs xs
pass_steps new h [] = no_steps
pass_steps {now = now} new h ((L, t) ∷ xs) = and_step L (tx_passes new (all_elsewhere L now new h)) (pass_steps new h xs)

pub side_steps : {T : Types} {seal : Sealing} {now : ℕ} {xs ys : Table} {new : List Event} → SideStep T seal now xs ys new → AreApart (lines xs) → Steps T seal now new xs ys
side_steps (writes {xs} time w late unused) apart = write_steps time w late xs unused
side_steps (ticks {xs} {new = new} time late d) apart = let r = serve_shares d.serves (subst AreApart (sym (begun_lines time xs)) apart) in tick_steps time new late r.1 xs r.0 d.idle
side_steps (hears time bytes index items late h) apart = hear_steps time bytes index items late h
side_steps (passes {xs} new h) apart = pass_steps new h xs

steps_lines : {T : Types} {seal : Sealing} {now : ℕ} {new : List Event} {xs ys : Table} → Steps T seal now new xs ys → lines ys ≡ lines xs
steps_lines no_steps = refl
steps_lines (and_step L s rest) = ap (λ ls. L ∷ ls) (steps_lines rest)

-- the moment of the last step is the same for all

pub clock_is : (m : ℕ) (events : List Event) (s : Sendings) → (fold (sending_step m) s events).now ≡ fold clock_step s.now events
clock_is m [] s = refl
clock_is m (e ∷ events) s = clock_is m events (sending_step m s e) ∙ ap (λ n. fold clock_step n events) (step_clock m s e)

-- each stream of a side plays

abbrev pub AllPlay : Types → Sealing → List Event → Table → Type 0
AllPlay T seal events [] = Unit {0}
AllPlay T seal events (s ∷ rest) = TxPlays T s.0 seal s.1 events × AllPlay T seal events rest

all_begin : (T : Types) (seal : Sealing) (Ls : List Outgoing) → AllPlay T seal [] (map (λ L. (L, new_tx L)) Ls)
all_begin T seal [] = tt
all_begin T seal (L ∷ Ls) = (tx_begun, all_begin T seal Ls)

all_step : {T : Types} {seal : Sealing} (events new : List Event) {xs ys : Table} → Steps T seal (clock events) new xs ys → AllPlay T seal events xs → AllPlay T seal (events ++ new) ys
all_step events new no_steps h = tt
all_step {T} {seal} events new (and_step {t = t} {u = u} L s rest) h =
    (tx_step h.0 (subst (λ now. TxStep T L seal now t u new) (sym (clock_is L.ssrc events nothing_sent)) s), all_step events new rest h.1)

new_lines : (Ls : List Outgoing) → lines (map (λ L. (L, new_tx L)) Ls) ≡ Ls
new_lines [] = refl
new_lines (L ∷ Ls) = ap (λ ls. L ∷ ls) (new_lines Ls)

pub record Sides (T : Types) (seal : Sealing) (Ls : List Outgoing) (xs : Table) (events : List Event) : Type 0 where
  pub all : AllPlay T seal events xs
  pub same : lines xs ≡ Ls

pub sides : {T : Types} {seal : Sealing} {Ls : List Outgoing} {xs : Table} {events : List Event} → AreApart Ls → SidePlays T seal Ls xs events → Sides T seal Ls xs events
sides {T} {seal} {Ls} apart begun = record { all = all_begin T seal Ls; same = new_lines Ls }
sides apart (step {events = events} {new = new} h s) =
    let r = sides apart h in
    let steps = side_steps s (subst AreApart (sym r.same) apart) in
    record { all = all_step events new steps r.all; same = steps_lines steps ∙ r.same }

-- or plays up to a tick that is cut off

abbrev pub AllEnd : Types → Sealing → List Event → Table → Type 0
AllEnd T seal events [] = Unit {0}
AllEnd T seal events (s ∷ rest) = TxEnds T s.0 seal s.1 events × AllEnd T seal events rest

all_at_step : (T : Types) (seal : Sealing) (events : List Event) (xs : Table) → AllPlay T seal events xs → AllEnd T seal events xs
all_at_step T seal events [] h = tt
all_at_step T seal events (s ∷ xs) h = (tx_at_step h.0, all_at_step T seal events xs h.1)

all_in_tick : {T : Types} {seal : Sealing} (events : List Event) (time : ℕ) (new : List Event) → clock events ≤ time → list_all is_sealing new ≡ true → (xs : Table) {ys : Table}
    → Shares T seal time new (map (begun_at time) xs) ys → AllPlay T seal events xs → AllEnd T seal (events ++ ticked time ∷ new) ys
all_in_tick events time new late all [] no_streams h = tt
all_in_tick events time new late all ((L, t) ∷ xs) (and_one M d rest) h = (
  tx_in_tick h.0 time new (subst (λ n. n ≤ time) (sym (clock_is L.ssrc events nothing_sent)) late) (record { share = filter (is_of L) new; serves = d; own = refl; sealings = all }),
  all_in_tick events time new late all xs rest h.1,
)

-- the stream of a record
pub end_in : {T : Types} {seal : Sealing} {events : List Event} (xs : Table) (s : Outgoing × TxRecord) → AllEnd T seal events xs → IsIn s xs → TxEnds T s.0 seal s.1 events
end_in [] s all i = absurd i
end_in {T} {seal} {events} (t ∷ xs) s all (inl e) = subst (λ (u : Outgoing × TxRecord). TxEnds T u.0 seal u.1 events) (sym e) all.0
end_in (t ∷ xs) s all (inr i) = end_in xs s all.1 i

pub record Ended (T : Types) (seal : Sealing) (Ls : List Outgoing) (xs : Table) (events : List Event) : Type 0 where
  pub all : AllEnd T seal events xs
  pub same : lines xs ≡ Ls

pub ended : {T : Types} {seal : Sealing} {Ls : List Outgoing} {xs : Table} {events : List Event} → AreApart Ls → SideEnds T seal Ls xs events → Ended T seal Ls xs events
ended {T} {seal} {xs = xs} {events} apart (at_step h) = let r = sides apart h in record { all = all_at_step T seal events xs r.all; same = r.same }
ended apart (in_tick {xs = xs} {events = events} {new = new} h time late serves) =
    let r = sides apart h in
    let s = serve_shares serves (subst AreApart (sym (begun_lines time xs ∙ r.same)) apart) in
    record { all = all_in_tick events time new late s.1 xs s.0 r.all; same = serve_lines serves ∙ begun_lines time xs ∙ r.same }

-- what a side seals is of one of its streams

abbrev pub IsKnown : List Outgoing → Event → Type 0
IsKnown Ls (sealed ssrc n p bytes) = (L : Outgoing) × IsIn L Ls × (has L ssrc ≡ true)
IsKnown Ls _ = Unit {0}

known_of : (Ls : List Outgoing) (L : Outgoing) (e : Event) → IsIn L Ls → is_of L e ≡ true → IsKnown Ls e
known_of Ls L (sealed ssrc n p bytes) i own = (L, i, own)
known_of Ls L (wrote time w) i own = tt
known_of Ls L (ticked time) i own = tt
known_of Ls L (called time) i own = tt
known_of Ls L (got time kind bytes) i own = tt
known_of Ls L (sealed_items index items) i own = tt
known_of Ls L (opened ssrc n p) i own = tt
known_of Ls L (opened_items index items) i own = tt
known_of Ls L (yielded packet) i own = tt

serve_known : {T : Types} {seal : Sealing} {now : ℕ} {xs ys : Table} {events : List Event} → ServesAll T seal now xs ys events → (e : Event) → IsIn e events → IsKnown (lines xs) e
serve_known rests e i = absurd i
serve_known {xs = xs} (reports index items d) e (inl f) = subst (IsKnown (lines xs)) (sym f) tt
serve_known (reports index items d) e (inr i) = serve_known d e i
serve_known {xs = xs} (more {events = events} {rest = rest} p d) e i =
    elim (IsIn-append e events rest i) [
      | inl j ↦ let own = one_own p in known_of (lines xs) own.0 e own.1 (own.2 e j).0
      | inr j ↦ subst (λ ls. IsKnown ls e) (one_lines p) (serve_known d e j)
    ]

tick_known : {T : Types} {seal : Sealing} {ys : Table} {new : List Event} (time : ℕ) (xs : Table) → ServesAll T seal time (map (begun_at time) xs) ys new → (e : Event) → IsIn e (ticked time ∷ new)
    → IsKnown (lines xs) e
tick_known time xs serves e (inl f) = subst (IsKnown (lines xs)) (sym f) tt
tick_known time xs serves e (inr i) = subst (λ ls. IsKnown ls e) (begun_lines time xs) (serve_known serves e i)

elsewhere_known : (Ls : List Outgoing) (now : ℕ) (e : Event) → IsElsewhere now e → IsKnown Ls e
elsewhere_known Ls now (sealed ssrc n p bytes) h = absurd h
elsewhere_known Ls now (wrote time w) h = tt
elsewhere_known Ls now (ticked time) h = tt
elsewhere_known Ls now (called time) h = tt
elsewhere_known Ls now (got time kind bytes) h = tt
elsewhere_known Ls now (sealed_items index items) h = tt
elsewhere_known Ls now (opened ssrc n p) h = tt
elsewhere_known Ls now (opened_items index items) h = tt
elsewhere_known Ls now (yielded packet) h = tt

all_known : (Ls : List Outgoing) (now : ℕ) (new : List Event) → AreElsewhere now new → (e : Event) → IsIn e new → IsKnown Ls e
all_known Ls now [] h e i = absurd i
all_known Ls now (f ∷ new) h e (inl is) = subst (IsKnown Ls) (sym is) (elsewhere_known Ls now f h.0)
all_known Ls now (f ∷ new) h e (inr i) = all_known Ls (clock_step now f) new h.1 e i

step_known : {T : Types} {seal : Sealing} {now : ℕ} {xs ys : Table} {new : List Event} → SideStep T seal now xs ys new → (e : Event) → IsIn e new → IsKnown (lines xs) e
step_known {xs = xs} (writes time w late unused) e (inl f) = subst (IsKnown (lines xs)) (sym f) tt
step_known (writes time w late unused) e (inr i) = absurd i
step_known {xs = xs} (ticks time late d) e i = tick_known time xs d.serves e i
step_known {xs = xs} (hears time bytes index items late h) e (inl f) = subst (IsKnown (lines xs)) (sym f) tt
step_known {xs = xs} (hears time bytes index items late h) e (inr (inl f)) = subst (IsKnown (lines xs)) (sym f) tt
step_known (hears time bytes index items late h) e (inr (inr i)) = absurd i
step_known {now = now} {xs = xs} (passes new h) e i = all_known (lines xs) now new h e i

plays_known : {T : Types} {seal : Sealing} {Ls : List Outgoing} {xs : Table} {events : List Event} → AreApart Ls → SidePlays T seal Ls xs events → (e : Event) → IsIn e events → IsKnown Ls e
plays_known apart begun e i = absurd i
plays_known apart (step {events = events} {new = new} h s) e i =
    elim (IsIn-append e events new i) [
      | inl j ↦ plays_known apart h e j
      | inr j ↦ subst (λ ls. IsKnown ls e) (sides apart h).same (step_known s e j)
    ]

pub ends_known : {T : Types} {seal : Sealing} {Ls : List Outgoing} {xs : Table} {events : List Event} → AreApart Ls → SideEnds T seal Ls xs events → (e : Event) → IsIn e events → IsKnown Ls e
ends_known apart (at_step h) e i = plays_known apart h e i
ends_known apart (in_tick {xs = xs} {events = events} {new = new} h time late serves) e i =
    elim (IsIn-append e events (ticked time ∷ new) i) [
      | inl j ↦ plays_known apart h e j
      | inr j ↦ subst (λ ls. IsKnown ls e) (sides apart h).same (tick_known time xs serves e j)
    ]
