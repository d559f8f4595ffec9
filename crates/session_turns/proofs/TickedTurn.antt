-- A tick of a session, with its drain, is a turn of the plain session.
use Rattle.std.proofs.Common.{◌≡◌, ℕ, ◌+◌, ◌-◌, ◌≤◌, ◌<◌, ◌^◌, Bool, true, false, List, [], ◌∷◌, ◌++◌, map, Some, None, is_some, is_none, refl, sym, ap, ◌∙◌, subst, arith, append_assoc}
use Rattle.std.specs.Prelude.{◌&&◌, ◌||◌, ◌==◌, nat_eq, nat_le, position, if◌then◌else◌}
use Rattle.std.specs.List.{AllByRecursion, AllZip, flat_map}
use Rattle.std.specs.Map.{keys_of}
use Rattle.std.proofs.lemmas.List.{append-nil, map-append}
use Rattle.media_units.specs.Wallclock.{ntp_nanos}
use Rattle.rtp_wire.specs.declared.extension.ExtensionMap.{ExtensionMap}
use Rattle.rtcp_wire.specs.declared.packet.Rtcp.{Rtcp}
use Rattle.rtcp_wire.specs.declared.rtcp_fb.RtcpFb.{RtcpFb}
use Rattle.rtcp_wire.specs.Laws.{ItemsReadBack, ItemsFitByLengths}
use Rattle.srtp_core.specs.Cipher.{CipherMeaning}
use Rattle.srtp_core.specs.Contexts.{SrtpState}
use Rattle.repair_core.specs.Entries.{RoundsNameTheDue}
use Rattle.repair_core.specs.Rounds.{wait_of}
use Rattle.report_core.specs.Moments.{unanswered}
use Rattle.stream_core.specs.declared.reports.Tick.{Tick}
use Rattle.stream_core.specs.declared.transport.Transport.{Transport}
use Rattle.stream_core.specs.Pauses.{checked, on_record, told as stream_told}
use Rattle.stream_core.specs.Repairing.{RepairsRecord, rtx_type_of}
use Rattle.stream_core.specs.Reporting.{due_mids, items_with, incoming_after}
use Rattle.stream_core.specs.Tables.{each}
use Rattle.stream_core.specs.TxRecord.{TxRecord as StreamTx}
use Rattle.session_core.specs.declared.datagram.Datagram.{Datagram}
use Rattle.session_core.specs.declared.error.RtcError.{RtcError}
use Rattle.session_core.specs.Calls.{lacks_keys, silenced, after_events}
use Rattle.session_core.specs.News.{no_news}
use Rattle.session_core.specs.Draining.{IsDrainCut}
use Rattle.session_core.specs.Hearing.{trip_of}
use Rattle.session_core.specs.Reports.{sender_ssrc, tick_at, some_reports, due_senders, sender_items, after_senders, answers, after_answers}
use Rattle.session_core.specs.Rounds.{is_round, round_interval, after_outgoing, after_checks, after_timeout}
use Rattle.session_core.specs.Sending.{Drains}
use Rattle.session_core.specs.SessionRecord.{SessionState, SessionRecord}
use Rattle.media_model.specs.declared.entry.Side.{Side}
use Rattle.media_model.specs.Sides.{peer_of}
use Rattle.run_model.specs.Events.{Event, ticked, Types}
use Rattle.run_model.specs.Asking.{any_enabled as any_plain_enabled, is_round as is_plain_round, item_in, items_in, Feedback, ticked_in, ticked_side}
use Rattle.run_model.specs.Seals.{Sealing}
use Rattle.run_model.specs.Tables.{Table, lines, AreApart, begun_at, ServesAll, rests, DrainsAll}
use Rattle.run_model.specs.Whole.{Config, Session, ticks, Counts, CutsOff, index_of, indices}
use Rattle.session_turns.specs.Laws.{TurnsTo, TicksTurn, IsCutFor, CutsTo, TicksCut}
use Rattle.session_turns.specs.Mirrors.{TxMirrors, IsWide, IsFit, Mirrors}
use Rattle.session_turns.specs.Packets.{PacketsDrain, DrainsPackets, PacketsCut, CutsPackets}
use Rattle.session_turns.specs.Reading.{event_of, events_of, types_in, sealing_of}
use Rattle.session_turns.proofs.Lists.{map_map, flat_map_append, all_append, and_turned, far_enough}
use Rattle.session_turns.proofs.Items.{IsRead, told_of}
use Rattle.session_turns.proofs.Others.{IsAside, asides_read, asides_told, sender_asides, answers_if}
use Rattle.session_turns.proofs.IncomingStreams.{ticked_rx, enabled_mirrored, rx_ticked_mirror}
use Rattle.session_turns.proofs.Compounds.{IsRtp, Splits, splits, CutBy, in_compounds, in_packets, SplitsCut, splits_cut, no_items, no_indices}
use Rattle.session_turns.proofs.Asks.{incoming_read, feedback_is}
use Rattle.session_turns.proofs.Outgoing.{begun_tx, begun_keys, all_begun}

-- which streams report, and what all say, in a tick that may be a round
abbrev tick : ℕ → Bool → SessionRecord → Tick
tick now b r = tick_at now b r.state

abbrev due_incoming : ℕ → SessionRecord → List (List ℕ)
due_incoming now r = due_mids r.state.intervals now r.rx

abbrev incoming_said : ℕ → Bool → SessionRecord → List Rtcp
incoming_said now b r = items_with (tick now b r) (due_incoming now r) r.rx

abbrev some_report : ℕ → SessionRecord → Bool
some_report now r = some_reports r.state.medias (due_senders now r.state) r.state.tx

abbrev answers_said : ℕ → SessionRecord → List Rtcp
answers_said now r = if some_report now r then answers now (sender_ssrc (after_senders now r.state)) r.state.moments else []

abbrev outgoing_said : ℕ → SessionRecord → List Rtcp
outgoing_said now r = sender_items now r.state ++ answers_said now r

-- a session after a tick, which may be a round, and after all was told
abbrev begun_session : ℕ → Bool → SessionRecord → SessionRecord
begun_session now b r = record {
  state = record r.state {
    tx = begun_tx r.state.medias now (due_senders now r.state) r.state.tx;
    released = true;
    feedback = incoming_said now b r ++ outgoing_said now r;
    moments = if some_report now r then unanswered r.state.moments else r.state.moments;
    last_round = if b then now else r.state.last_round;
    application = None;
    packet = None;
    news = no_news;
  };
  rx = ticked_rx r.state.pause_threshold r.seen (tick now b r) (due_incoming now r) r.rx;
  known = r.known;
  probes = on_record (checked now) r.probes;
  seen = r.seen;
  repairs = r.repairs;
}

-- after incoming streams reported and asked
abbrev incoming_session : ℕ → Bool → SessionRecord → SessionRecord
incoming_session now b r = record r {
  state = record r.state {
    feedback = r.state.feedback ++ incoming_said now b r;
    last_round = if b then now else r.state.last_round;
  };
  rx = incoming_after (tick now b r) r.rx;
}

-- and after answers
abbrev answered_state : ℕ → Bool → SessionState → SessionState
answered_state now b s = record s {
  feedback = s.feedback ++ (if b then answers now (sender_ssrc s) s.moments else []);
  moments = if b then unanswered s.moments else s.moments;
}

answered_is : (now : ℕ) (b : Bool) (s : SessionState) → after_answers now b s ≡ answered_state now b s
answered_is now true s = refl
answered_is now false s = ap (λ (l : List Rtcp). record s { feedback = l }) (sym (append-nil s.feedback))

abbrev checked_session : ℕ → Bool → SessionRecord → SessionRecord
checked_session now b r =
    let x : SessionRecord = incoming_session now b r in
    after_checks now (record x { state = answered_state now (some_report now r) (after_senders now x.state) })

timed_is : (now : ℕ) (b : Bool) (r : SessionRecord) → is_round now r ≡ b → after_timeout now r ≡ checked_session now b r
timed_is now b r round =
    ap {A = Bool} {B = SessionRecord} (λ c. after_checks now (after_outgoing now (incoming_session now c r))) round
    ∙ ap {A = SessionState} {B = SessionRecord} (λ s. after_checks now (record (incoming_session now b r) { state = s }))
    (answered_is now (some_report now r) (after_senders now (incoming_session now b r).state))

told_all : (s : SessionRecord) → lacks_keys s.state ≡ false → after_events s ≡ record s { state = silenced s.state; rx = each (on_record stream_told) s.rx }
told_all s keys = λ j. record s {
  state = if keys j then s.state else silenced s.state;
  rx = if keys j then s.rx else each (on_record stream_told) s.rx;
}

begun_is : (now : ℕ) (b : Bool) (r : SessionRecord) {own other : SrtpState} → is_round now r ≡ b → r.state.sealing ≡ Some own → r.state.opening ≡ Some other → r.state.feedback ≡ []
    → after_events (after_timeout now r) ≡ begun_session now b r
begun_is now b r {own} {other} round seals opens quiet =
    let keys : lacks_keys r.state ≡ false = λ i. is_none (seals i) || is_none (opens i) in
    let said : List Rtcp = incoming_said now b r in
    let all : ((r.state.feedback ++ said) ++ sender_items now r.state) ++ answers_said now r ≡ said ++ outgoing_said now r =
    ap (λ (l : List Rtcp). ((l ++ said) ++ sender_items now r.state) ++ answers_said now r) quiet ∙ append_assoc said (sender_items now r.state) (answers_said now r) in
    ap after_events (timed_is now b r round) ∙ told_all (checked_session now b r) keys
    ∙ ap {A = List Rtcp} {B = SessionRecord} (λ f. record (begun_session now b r) { state = record (begun_session now b r).state { feedback = f } }) all

module _ (read_back : ItemsReadBack) (lengths : ItemsFitByLengths)
    (cipher : CipherMeaning) (C : Config) (side : Side) (r : SessionRecord) (a : Session) (time : ℕ) (fit : IsFit C) (m : Mirrors cipher C side r a) (later : 0 < time) (after_now : a.rx.now ≤ time) where
  abbrev round : Bool
  round = is_plain_round a.rx time

  abbrev exts : ExtensionMap
  exts = r.state.transport.exts

  round_is : is_round time r ≡ round
  round_is =
      (λ i. nat_le round_interval (time - m.last_round i) && enabled_mirrored C.threshold a.rx.trip r a.rx.table m.rx i)
      ∙ ap (λ (b : Bool). b && any_plain_enabled a.rx.table) (far_enough a.rx.last_round time)
      ∙ and_turned (nat_le (a.rx.last_round + 33000000) time) (any_plain_enabled a.rx.table)

  abbrev first : SessionRecord
  first = begun_session time round r

  outgoing_asides : AllByRecursion IsAside (outgoing_said time r)
  outgoing_asides =
      all_append IsAside (sender_items time r.state) (answers_said time r) (sender_asides lengths time r.state)
      (answers_if lengths (some_report time r) time (sender_ssrc (after_senders time r.state)) r.state.moments)

  items_read : AllByRecursion IsRead first.state.feedback
  items_read =
      all_append IsRead (incoming_said time round r) (outgoing_said time r)
      (incoming_read C.threshold a.rx.trip r (C.outgoing (peer_of side)) a.rx.table lengths (tick time round r) (due_incoming time r) m.rx m.incoming (fit.words (peer_of side)))
      (asides_read (outgoing_said time r) outgoing_asides)

  index_left : m.own.srtcp_index ≤ 2 ^ 31
  index_left = let is = m.index in let most = m.bounded in omega (arith, is, most)

  abbrev SplitsTo : SessionRecord → List Datagram → Type 0
  SplitsTo after all = Splits cipher time later read_back first m.own index_left m.seals exts items_read after all

  split : (after : SessionRecord) (all : List Datagram) → Drains cipher time (after_events (after_timeout time r)) after all → SplitsTo after all
  split after all drains =
      splits cipher time later read_back first m.own index_left m.seals exts items_read after all
      (subst (λ (x : SessionRecord). Drains cipher time x after all) (begun_is time round r round_is m.seals m.opens m.feedback) drains)

  -- the session before packets leave
  abbrev before_packets : ℕ → SessionRecord
  before_packets next = record first { state = record first.state { feedback = []; sealing = Some (record m.own { srtcp_index = next }) } }

  abbrev own_at : ℕ → SrtpState
  own_at next = record m.own { srtcp_index = next }

  streams_apart : AreApart (lines a.tx)
  streams_apart = subst AreApart (sym m.outgoing) (fit.apart side)

  streams_wide : AllByRecursion IsWide (lines a.tx)
  streams_wide = subst (AllByRecursion IsWide) (sym m.outgoing) (fit.words side)

  types_fit : (pt rtx : ℕ) → rtx_type_of r.state.types pt ≡ Some rtx → rtx < 2 ^ 7
  types_fit pt rtx e = fit.rtx_types pt rtx (ap (λ (T : Types). T.rtx_of pt) m.types ∙ e)

  streams_stamped : AllZip (TxMirrors r.state.types r.state.medias time (Some time) r.repairs) first.state.tx a.tx
  streams_stamped = all_begun r.state.types r.state.medias a.rx.now time after_now r.repairs (due_senders time r.state) r.state.tx a.tx m.tx

  abbrev begun : Table
  begun = map (begun_at time) a.tx

  abbrev Served : Table → List Event → Type 0
  Served streams events = ServesAll (types_in r.state.types) (sealing_of cipher exts m.own) time begun streams events

  -- what leaves of the plain streams behind compounds, as that of the side of the configuration
  served : (streams : Table) (ones others : List Event)
      → ((T : Types) (seal : Sealing) (now : ℕ) (xs ys : Table) (events : List Event) → ServesAll T seal now xs ys events → ServesAll T seal now xs ys (ones ++ events))
      → Served streams others → ServesAll C.types (C.seals side) time begun streams (ones ++ others)
  served streams ones others behind serves =
      subst (λ (T : Types). ServesAll T (C.seals side) time begun streams (ones ++ others)) (sym m.types)
      (subst (λ (S : Sealing). ServesAll (types_in r.state.types) S time begun streams (ones ++ others)) (sym m.own_seals)
      (behind (types_in r.state.types) (sealing_of cipher exts m.own) time begun streams others serves))

  -- packets behind compounds take no index
  counted : (front rest : List Datagram) (next : ℕ) → AllByRecursion IsRtp rest → Counts m.own.srtcp_index (indices (events_of exts front)) next
      → Counts a.rtcp (indices (events_of exts front ++ events_of exts rest)) next
  counted front rest next rtp counts =
      let ones : List Event = events_of exts front in
      let same : indices (ones ++ events_of exts rest) ≡ indices ones =
      flat_map_append index_of ones (events_of exts rest) ∙ ap (λ (l : List ℕ). indices ones ++ l) (no_indices exts rest rtp) ∙ append-nil (indices ones) in
      subst (λ (l : List ℕ). Counts a.rtcp l next) (sym same) (subst (λ (k : ℕ). Counts k (indices ones) next) m.index counts)

  module _ (drain : PacketsDrain) (names : RoundsNameTheDue) where
    abbrev Emptied : ℕ → SessionRecord → List Datagram → Type 0
    Emptied next after rest = DrainsPackets cipher (before_packets next) after (own_at next) time a.tx rest

    emptied : (next : ℕ) (after : SessionRecord) (rest : List Datagram) → Drains cipher time (before_packets next) after rest → Emptied next after rest
    emptied next after rest drains =
        drain cipher (before_packets next) after (own_at next) time a.tx rest later refl refl refl streams_apart streams_wide types_fit streams_stamped drains

    -- the session after all left
    abbrev drained : ℕ → List (ℕ × StreamTx) → Transport → List (ℕ × RepairsRecord) → SessionRecord
    drained next tx transport repairs = record (before_packets next) {
      state = record (before_packets next).state { tx = tx; transport = transport; released = false };
      repairs = repairs;
    }

    turned : (after : SessionRecord) (all : List Datagram) → (s : SplitsTo after all) → Emptied s.next after s.rest → TurnsTo cipher C side r a after (ticked time ∷ events_of exts all)
    turned after all s d =
        let ones : List Event = events_of exts s.front in
        let others : List Event = events_of exts s.rest in
        let events : events_of exts all ≡ ones ++ others = ap (events_of exts) s.is ∙ map-append (event_of exts) s.front s.rest in
        let drains : DrainsAll C.types (C.seals side) time begun d.streams (ones ++ others) =
        record { serves = served d.streams ones others s.serves d.drains.serves; idle = d.drains.idle } in
        let items : items_in (ones ++ others) ≡ flat_map told_of (incoming_said time round r) ++ flat_map told_of (outgoing_said time r) =
        flat_map_append item_in ones others ∙ ap (λ (l : List RtcpFb). items_in ones ++ l) (no_items exts s.rest s.rtp) ∙ append-nil (items_in ones) ∙ s.told
        ∙ flat_map_append told_of (incoming_said time round r) (outgoing_said time r) in
        let feedback : Feedback a.rx time a.rx.table (items_in (ones ++ others)) =
        subst (λ (l : List RtcpFb). Feedback a.rx time a.rx.table l) (sym items)
        (feedback_is a.rx (tick time round r) read_back lengths names C.threshold refl (flat_map told_of (outgoing_said time r)) (asides_told read_back (outgoing_said time r) outgoing_asides)
        (due_incoming time r) r (C.outgoing (peer_of side)) a.rx.table m.rx m.incoming (fit.words (peer_of side))) in
        let counts : Counts a.rtcp (indices (ones ++ others)) s.next = counted s.front s.rest s.next s.rtp s.counts in
        let x : SessionRecord = drained s.next after.state.tx after.state.transport after.repairs in
        let keys : keys_of after.state.tx ≡ keys_of r.state.tx = d.keys ∙ begun_keys r.state.medias time (due_senders time r.state) r.state.tx in
        subst (λ (l : List Event). TurnsTo cipher C side r a after (ticked time ∷ l)) (sym events)
        (subst (λ (y : SessionRecord). TurnsTo cipher C side r a y (ticked time ∷ ones ++ others)) (sym d.rest)
        (record {
          session = record { tx = d.streams; rx = ticked_side a.rx time; rtcp = s.next };
          turn = ticks time (ones ++ others) s.next after_now drains feedback counts;
          mirrors = record {
            own = own_at s.next;
            other = m.other;
            seals = refl;
            opens = m.opens;
            own_seals = m.own_seals ∙ ap (λ (e : ExtensionMap). sealing_of cipher e m.own) (sym d.exts);
            other_seals = m.other_seals ∙ ap (λ (e : ExtensionMap). sealing_of cipher e m.other) (sym d.exts);
            own_reports = m.own_reports;
            other_reports = m.other_reports;
            index = refl;
            bounded = s.bounded;
            types = m.types;
            trip = m.trip ∙ (λ i now delay. trip_of (ntp_nanos (sym d.beginning i).unix_secs now) delay);
            owns = m.owns ∙ (λ i ssrc. ssrc == r.state.local_ssrc || is_some (position (nat_eq ssrc) (sym keys i)));
            outgoing = d.same_lines ∙ m.outgoing;
            incoming = map_map (λ s. s.0) (ticked_in time round (wait_of a.rx.trip)) a.rx.table ∙ m.incoming;
            tx = d.tx;
            rx = rx_ticked_mirror C.threshold a.rx.trip (tick time round r) (due_incoming time r) r x a.rx.table m.rx refl refl refl;
            originals = m.originals;
            sections = m.sections;
            known = m.known;
            last_round = λ i. if round then time else m.last_round i;
            target = m.target;
            feedback = refl;
            released = refl;
            application = refl;
            packet = refl;
          };
          types = refl;
          exts = d.exts;
          runs = refl;
        }))

    pub turns : (after : SessionRecord) (all : List Datagram) → Drains cipher time (after_events (after_timeout time r)) after all → TurnsTo cipher C side r a after (ticked time ∷ events_of exts all)
    turns after all drains = let s = split after all drains in turned after all s (emptied s.next after s.rest s.packets)

  module _ (cuts : PacketsCut) where
    abbrev SplitsCutTo : RtcError → List Datagram → Type 0
    SplitsCutTo error sent = SplitsCut cipher time later read_back first m.own index_left m.seals exts items_read error sent

    cut_split : (error : RtcError) (after : SessionRecord) (sent : List Datagram) → IsDrainCut cipher time (after_events (after_timeout time r)) error after sent
        → SplitsCutTo error sent
    cut_split error after sent drain =
        splits_cut cipher time later read_back first m.own index_left m.seals exts items_read error after sent
        (subst (λ (x : SessionRecord). IsDrainCut cipher time x error after sent) (begun_is time round r round_is m.seals m.opens m.feedback) drain)

    cut_to : (error : RtcError) (sent : List Datagram) → (s : SplitsCutTo error sent) → (streams : Table) → Served streams (events_of exts s.rest) → IsCutFor error streams s.next
        → CutsTo cipher C side r a time error sent
    cut_to error sent s streams serves cause =
        let ones : List Event = events_of exts s.front in
        let others : List Event = events_of exts s.rest in
        let events : events_of exts sent ≡ ones ++ others = ap (events_of exts) s.is ∙ map-append (event_of exts) s.front s.rest in
        let cut : CutsOff C side a time streams s.next (ones ++ others) = record {
          late = after_now;
          serves = served streams ones others s.serves serves;
          counts = counted s.front s.rest s.next s.rtp s.counts;
        } in
        record { streams = streams; next = s.next; cut = subst (λ (l : List Event). CutsOff C side a time streams s.next l) (sym events) cut; cause = cause }

    cut_by : (error : RtcError) (sent : List Datagram) → (s : SplitsCutTo error sent)
        → CutBy cipher time later read_back first m.own index_left m.seals exts items_read error s.next s.rest → CutsTo cipher C side r a time error sent
    cut_by error sent s (in_compounds none cause) =
        cut_to error sent s begun (subst (λ (ds : List Datagram). Served begun (events_of exts ds)) (sym none) rests) (cause begun)
    cut_by error sent s (in_packets after drain cause) =
        let p : CutsPackets cipher (before_packets s.next) (own_at s.next) time a.tx error s.rest =
        cuts cipher (before_packets s.next) after (own_at s.next) time a.tx error s.rest later refl refl streams_apart streams_wide types_fit streams_stamped drain in
        cut_to error sent s p.streams p.serves (cause p.streams p.used_up)

    pub turns_cut : (error : RtcError) (after : SessionRecord) (sent : List Datagram) → IsDrainCut cipher time (after_events (after_timeout time r)) error after sent
        → CutsTo cipher C side r a time error sent
    turns_cut error after sent drain = let s = cut_split error after sent drain in cut_by error sent s s.cut

pub ticks_turn : PacketsDrain → RoundsNameTheDue → ItemsReadBack → ItemsFitByLengths → TicksTurn
ticks_turn drain names read_back lengths cipher C side r after a time all fit m after_now later small drains =
    turns read_back lengths cipher C side r a time fit m later after_now drain names after all drains

pub ticks_cut : PacketsCut → ItemsReadBack → ItemsFitByLengths → TicksCut
ticks_cut cuts read_back lengths cipher C side r after a time error sent fit m after_now later small drain =
    turns_cut read_back lengths cipher C side r a time fit m later after_now cuts error after sent drain
