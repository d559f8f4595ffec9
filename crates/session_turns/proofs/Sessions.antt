-- A session that is drained, as its plain streams are.
use Rattle.std.proofs.Common.{◌≡◌, ◌⊎◌, inl, inr, ℕ, suc, ◌<◌, ◌^◌, Bool, true, false, ◌&&◌, ◌||◌, List, [], ◌∷◌, ◌++◌, length, map, Option, Some, None, refl, sym, ap, ◌∙◌, subst, arith}
use Rattle.std.specs.Prelude.{◌==◌, not, is_some, is_none, if◌then◌else◌}
use Rattle.std.specs.List.{AllByRecursion, AllZip}
use Rattle.std.specs.Map.{keys_of}
use Rattle.std.specs.Option.{option_map}
use Rattle.std.proofs.lemmas.Bool.Decides.{nat_tests}
use Rattle.std.proofs.lemmas.List.{append-nil, map-append}
use Rattle.std.proofs.lemmas.Option.{same_Some}
use Rattle.rtp_wire.specs.HeaderLaws.{WrittenIsReadAgain}
use Rattle.rtx_core.specs.Ratio.{CapRecord, after_reading}
use Rattle.rtx_core.specs.Resends.{cap_after}
use Rattle.rtx_core.specs.declared.resend.Resend.{Resend}
use Rattle.srtp_core.specs.Cipher.{CipherMeaning}
use Rattle.srtp_core.specs.Contexts.{SrtpState}
use Rattle.srtp_core.specs.declared.counter.Counter.TheVariants as srtcp
use Rattle.stream_core.specs.declared.payload_types.TypeRow.{TypeRow}
use Rattle.stream_core.specs.declared.stream_tx.PacketReceipt.{PacketReceipt}
use Rattle.stream_core.specs.declared.transport.Transport.{Transport}
use Rattle.stream_core.specs.Queue.{next_of}
use Rattle.stream_core.specs.Repairing.{RepairsRecord, rtx_type_of, Polls, has_asked, state_in, repairs_of, with_repairs}
use Rattle.stream_core.specs.Sealing.{after_packet}
use Rattle.stream_core.specs.StreamsRecord.{StreamsRecord, polls_at, is_asked, IsUsedUpAt}
use Rattle.stream_core.specs.Tables.{change_place}
use Rattle.stream_core.specs.TxRecord.{TxRecord as StreamTx}
use Rattle.session_core.specs.declared.datagram.Datagram.{Datagram}
use Rattle.session_core.specs.declared.error.RtcError.{RtcError}
use Rattle.session_core.specs.declared.error.RtcError.TheVariants.{Memory, KeyExhausted, RepairsExhausted}
use Rattle.session_core.specs.Draining.{PacketFails, stream_stays, packet_lost, used_up, after_pass, PollFails, packet as packet_fails, key_used_up, compound_kept, compound_lost, IsDrainCut, at_poll, between_polls}
use Rattle.session_core.specs.Feedback.{due_of, some_due}
use Rattle.session_core.specs.SessionRecord.{SessionRecord, streams_in}
use Rattle.session_core.specs.Sending.{has_mid, is_due, first_due, next_place, sealed_as, sealed_by, after_streams, unreleased, Gives, NextPacket, none_due, given, passed, NextDatagram, silent, packet, compound, DrainsTo, start, more, Drains}
use Rattle.run_model.specs.Capping.{reading_after, reading_for}
use Rattle.run_model.specs.Events.{Event, Outgoing}
use Rattle.run_model.specs.TxPlay.{TxRecord, begun_tick}
use Rattle.run_model.specs.Tables.{Table, lines, AreApart, AreIdle, ServesAll, rests, begun_at, IsUsedUpIn}
use Rattle.session_turns.specs.Reading.{event_of, events_of}
use Rattle.session_turns.specs.Mirrors.{TxMirrors, MirrorsRepairs, IsWide}
use Rattle.session_turns.specs.Packets.{DrainsPackets, CutsPackets}
use Rattle.session_turns.proofs.Asked.{suc_asked, numbers_in, no_numbers}
use Rattle.session_turns.proofs.Caps.{MirrorsMid, mid_from, mid_to, begin_mirrors}
use Rattle.session_turns.proofs.Polls.{MirrorsAgain, NoFront, Front, front_of}
use Rattle.session_turns.proofs.Tables.{many_append, T, S, given_in, MidAt, table_polls, table_used_up, keys_changed}

pub not_zero : (now : ℕ) → 0 < now → (now == 0) ≡ false
not_zero now later = grind (arith, nat_tests)

no_resends : (rs : List Resend) → not (length rs == 0) ≡ false → rs ≡ []
no_resends [] e = refl
no_resends (r ∷ rs) e =
    let asked : not (length (r ∷ rs) == 0) ≡ true = ap not (suc_asked (length rs)) in
    let wrong : true ≡ false = sym asked ∙ e in
    absurd cc

-- as a drain begins
module _ (now : ℕ) (L : Outgoing) (t : TxRecord) where
  begin_cap : (rs : List Resend) (cap : Option CapRecord) → numbers_in rs ≡ t.resends → MirrorsMid now L.cap t.sent t.resent t.reading cap
      → MirrorsMid now L.cap t.sent t.resent (reading_for t.resends t.reading (reading_after L.cap t.sent t.resent t.reading now)) (if length rs == 0 then cap else option_map (after_reading now) cap)
  begin_cap [] cap e m = subst (λ (ns : List ℕ). MirrorsMid now L.cap t.sent t.resent (reading_for ns t.reading (reading_after L.cap t.sent t.resent t.reading now)) cap) e m
  begin_cap (r ∷ rs) cap e m =
      subst (λ (b : Bool). MirrorsMid now L.cap t.sent t.resent (reading_for t.resends t.reading (reading_after L.cap t.sent t.resent t.reading now)) (if b then cap else option_map (after_reading now) cap))
      (sym (suc_asked (length rs)))
      (subst (λ (ns : List ℕ). MirrorsMid now L.cap t.sent t.resent (reading_for ns t.reading (reading_after L.cap t.sent t.resent t.reading now)) (option_map (after_reading now) cap)) e
      (begin_mirrors now L.cap t.sent t.resent t.reading cap m))

  begin_repairs : (rows : List (ℕ × TypeRow)) (q : Option RepairsRecord) → MirrorsRepairs rows now L t q → MirrorsAgain rows now L (begun_tick L now t) q
  begin_repairs rows None m = record { has = m.has; resends = m.resends; store = m.store }
  begin_repairs rows (Some q) m = record {
    has = m.has;
    resends = m.resends;
    next = m.next;
    cap = begin_cap q.state.resends q.state.cap m.resends (mid_from now L t q.state.cap m.cap);
    same = record { initial = m.initial; age = m.age; greatest = m.greatest_is; events = m.events };
  }

  -- and as it ends
  end_repairs : (rows : List (ℕ × TypeRow)) (q : Option RepairsRecord) → t.resends ≡ [] → MirrorsAgain rows now L t q → MirrorsRepairs rows now L t q
  end_repairs rows None idle m = m
  end_repairs rows (Some q) idle m =
      let empty : q.state.resends ≡ [] = no_numbers q.state.resends (m.resends ∙ idle) in
      let same : cap_after now q.state ≡ q.state.cap = ap (λ (rs : List Resend). if length rs == 0 then q.state.cap else option_map (after_reading now) q.state.cap) empty in
      record {
        has = m.has;
        resends = m.resends;
        next = m.next;
        cap = mid_to now L t q.state.cap (subst (MirrorsMid now L.cap t.sent t.resent t.reading) same m.cap);
        initial = m.same.initial;
        age = m.same.age;
        greatest_is = m.same.greatest;
        events = m.same.events;
      }

-- of a stream that is not due nothing waits
quiet_is : (a b c d : Bool) → (a && (b || (c && d))) ≡ false → a ≡ true → c ≡ true → (b ≡ false) × (d ≡ false)
quiet_is true false true false e f g = (refl, refl)
quiet_is true false true true e f g = absurd cc
quiet_is true true true d e f g = absurd cc
quiet_is true b false d e f g = absurd cc
quiet_is false b c d e f g = absurd cc

none_is : (b : Bool) (o : Option ℕ) → (if b then Some 0 else option_map suc o) ≡ None → (b ≡ false) × (o ≡ None)
none_is true o e = absurd cc
none_is false None e = (refl, refl)
none_is false (Some i) e = absurd cc

module _ (cipher : CipherMeaning) (r : SessionRecord) (own : SrtpState) (read_again : WrittenIsReadAgain) (now : ℕ) where
  abbrev Ms : List (ℕ × RepairsRecord) → ℕ × StreamTx → Outgoing × TxRecord → Type 0
  Ms qs e s = MidAt cipher own r.state.transport.exts read_again r.state.types r.state.medias now qs e s

  abbrev many_of : Table → Table → List Event → Type 0
  many_of xs ys events =
      ServesAll (T cipher own r.state.transport.exts read_again r.state.types r.state.medias now) (S cipher own r.state.transport.exts read_again r.state.types r.state.medias now) now xs ys events

  abbrev events_in : Option PacketReceipt → List Event
  events_in o = given_in cipher own r.state.transport.exts read_again r.state.types r.state.medias now o

  begins : (qs : List (ℕ × RepairsRecord)) (es : List (ℕ × StreamTx)) (xs : Table) → AllZip (TxMirrors r.state.types r.state.medias now (Some now) qs) es xs → AllZip (Ms qs) es (map (begun_at now) xs)
  begins qs [] [] h = tt
  begins qs [] (s ∷ xs) h = absurd h
  begins qs (e ∷ es) [] h = absurd h
  begins qs (e ∷ es) (s ∷ xs) h = (
    record {
      key_is = h.0.key;
      ssrc = h.0.ssrc;
      rtx = h.0.rtx;
      mid = h.0.mid;
      queue = h.0.queue;
      given = h.0.given;
      cached = h.0.cached;
      again = begin_repairs now s.0 s.1 r.state.types (repairs_of e.1 qs) h.0.again;
    },
    begins qs es xs h.1,
  )

  begun_lines : (xs : Table) → lines (map (begun_at now) xs) ≡ lines xs
  begun_lines [] = refl
  begun_lines (s ∷ xs) = ap (λ (l : List Outgoing). s.0 ∷ l) (begun_lines xs)

  ends : (qs : List (ℕ × RepairsRecord)) (es : List (ℕ × StreamTx)) (ys : Table) → AllZip (Ms qs) es ys → AreIdle ys → AllZip (TxMirrors r.state.types r.state.medias now None qs) es ys
  ends qs [] [] h idle = tt
  ends qs [] (s ∷ ys) h idle = absurd h
  ends qs (e ∷ es) [] h idle = absurd h
  ends qs (e ∷ es) (s ∷ ys) h idle = (
    record {
      key = h.0.key_is;
      ssrc = h.0.ssrc;
      rtx = h.0.rtx;
      mid = h.0.mid;
      queue = h.0.queue ∙ ap (map _) idle.1.0 ∙ sym (ap (map _) idle.1.0);
      given = h.0.given;
      cached = h.0.cached;
      again = end_repairs now s.0 s.1 r.state.types (repairs_of e.1 qs) idle.0 h.0.again;
    },
    ends qs es ys h.1 idle.1.1,
  )

  no_front : (x : StreamTx) (t : TxRecord) → is_some (next_of x.queue) ≡ false → NoFront now x t ⊎ Front now x t → t.queue ≡ []
  no_front x t e (inl n) = n.none
  no_front x t e (inr f) =
      let wrong : true ≡ false = sym (ap is_some f.next) ∙ e in
      absurd cc

  nothing_asked : (q : Option RepairsRecord) (L : Outgoing) (t : TxRecord) → MirrorsAgain r.state.types now L t q → has_asked (state_in q) ≡ false → t.resends ≡ []
  nothing_asked None L t m e = m.resends
  nothing_asked (Some q) L t m e = sym m.resends ∙ ap numbers_in (no_resends q.state.resends e)

  -- where no stream is due, nothing waits
  idles : (released : Bool) → released ≡ true → (qs : List (ℕ × RepairsRecord)) (es : List (ℕ × StreamTx)) (ys : Table) → AllZip (Ms qs) es ys
      → first_due r.state.medias released qs es ≡ None → AreIdle ys
  idles released on qs [] [] h e = tt
  idles released on qs [] (s ∷ ys) h e = absurd h
  idles released on qs (e ∷ es) [] h due = absurd h
  idles released on qs (e ∷ es) (s ∷ ys) h due =
      let d = none_is (is_due r.state.medias released qs e.1) (first_due r.state.medias released qs es) due in
      let quiet = quiet_is (has_mid e.1.mid r.state.medias) (is_some (next_of e.1.queue)) released (is_asked qs e.1) d.0 h.0.mid on in (
        nothing_asked (repairs_of e.1 qs) s.0 s.1 h.0.again quiet.1,
        (no_front e.1 s.1 quiet.0 (front_of now e.1 s.1 h.0.queue), idles released on qs es ys h.1 d.1),
      )

  abbrev with_sent : SessionRecord → SessionRecord → SessionRecord
  with_sent a b = record a { state = record a.state { tx = b.state.tx; transport = b.state.transport }; repairs = b.repairs }

  -- polls brought these events, and change the outgoing streams, the next transport number and what streams send again alone
  record Stage (xs : Table) (b : SessionRecord) (events : List Event) : Type 0 where
    table : Table
    others : b ≡ with_sent r b
    exts : b.state.transport.exts ≡ r.state.transport.exts
    beginning : b.state.transport.beginning ≡ r.state.transport.beginning
    keys : keys_of b.state.tx ≡ keys_of r.state.tx
    many : many_of (map (begun_at now) xs) table events
    mid : AllZip (Ms b.repairs) b.state.tx table
    same_lines : lines table ≡ lines xs

  transport_given : (o : Option PacketReceipt) (t : Transport) → (let u : Transport = (if is_some o then after_packet t else t) in u.exts ≡ t.exts) × (let u : Transport = (if is_some o then after_packet t else t) in u.beginning ≡ t.beginning)
  transport_given None t = (refl, refl)
  transport_given (Some p) t = (refl, refl)

  module _ (types_fit : (pt rtx : ℕ) → rtx_type_of r.state.types pt ≡ Some rtx → rtx < 2 ^ 7) (xs : Table) (apart : AreApart (lines xs)) (wide : AllByRecursion IsWide (lines xs)) where
    polled : (b : SessionRecord) (events : List Event) (place : ℕ) (s : StreamsRecord) (o : Option PacketReceipt) → Stage xs b events → Gives now b place s o → Stage xs (after_streams b s o) (events ++ events_in o)
    polled b events place _ _ k (polls_at x y q o at poll) =
        let here : Polls r.state.types b.state.transport now x (repairs_of x b.repairs) y q o =
        subst (λ (rows : List (ℕ × TypeRow)). Polls rows b.state.transport now x (repairs_of x b.repairs) y q o) (ap (λ (z : SessionRecord). z.state.types) k.others) poll in
        let p = table_polls cipher own r.state.transport.exts read_again r.state.types r.state.medias now b.state.transport k.exts types_fit b.repairs x y q o here b.state.tx place k.table k.mid
        (subst AreApart (sym k.same_lines) apart) (subst (AllByRecursion IsWide) (sym k.same_lines) wide) at in
        let t = transport_given o b.state.transport in
        let s : StreamsRecord = record (streams_in b) { tx = change_place (λ old. y) b.state.tx place; repairs = with_repairs x.ssrc q b.repairs } in
        record {
          table = p.table;
          others = ap (λ (z : SessionRecord). with_sent z (after_streams b s o)) k.others;
          exts = t.0 ∙ k.exts;
          beginning = t.1 ∙ k.beginning;
          keys = keys_changed (λ old. y) b.state.tx place ∙ k.keys;
          many = many_append k.many p.many;
          mid = p.mid;
          same_lines = p.same_lines ∙ k.same_lines;
        }

    -- at the end none is due
    record Ended (after : SessionRecord) (events : List Event) : Type 0 where
      last : SessionRecord
      stage : Stage xs last events
      none_is_due : next_place last ≡ None
      is : after ≡ unreleased last

    abbrev Next : List Event → SessionRecord → Option PacketReceipt → Type 0
    Next events after None = Ended after events
    Next events after (Some p) = Stage xs after (events ++ events_in (Some p))

    next_packet : (b after : SessionRecord) (o : Option PacketReceipt) (events : List Event) → Stage xs b events → NextPacket now b after o → Next events after o
    next_packet _ _ _ events k (none_due b due) = record { last = b; stage = k; none_is_due = due; is = refl }
    next_packet _ _ _ events k (given b place s p at gives) = polled b events place s (Some p) k gives
    next_packet _ _ _ events k (passed b after place s o at gives rest) =
        next_packet (after_streams b s None) after o events (subst (λ (l : List Event). Stage xs (after_streams b s None) l) (append-nil events) (polled b events place s None k gives)) rest

    -- polls brought these events before an error, and this is what is left of the plain streams
    record Cut (error : RtcError) (events : List Event) : Type 0 where
      table : Table
      many : many_of (map (begun_at now) xs) table events
      used_up : (ssrc : ℕ) → error ≡ RepairsExhausted ssrc → IsUsedUpIn ssrc table

    -- where no number is missing, they are as the last poll left them
    cut_there : (b : SessionRecord) (events : List Event) (error : RtcError) → Stage xs b events → ((ssrc : ℕ) → error ≡ RepairsExhausted ssrc → ⊥) → Cut error events
    cut_there b events error k fine = record { table = k.table; many = k.many; used_up = λ ssrc e. absurd (fine ssrc e) }

    cut_used_up : (b : SessionRecord) (events : List Event) (place ssrc : ℕ) → Stage xs b events → IsUsedUpAt now place ssrc (streams_in b) → Cut (RepairsExhausted ssrc) events
    cut_used_up b events place ssrc k at =
        let u = table_used_up cipher own r.state.transport.exts read_again r.state.types r.state.medias now b.repairs at.0 ssrc at.3 at.1 at.4 at.5 b.state.tx place k.table k.mid at.2 in
        record {
          table = u.table;
          many = subst (λ (l : List Event). many_of (map (begun_at now) xs) u.table l) (append-nil events) (many_append k.many u.many);
          used_up = λ other e. let same : ssrc ≡ other = cc in subst (λ (n : ℕ). IsUsedUpIn n u.table) same u.used_up;
        }

    packet_cut : (b after : SessionRecord) (error : RtcError) (events : List Event) → Stage xs b events → PacketFails now b after error → Cut error events
    packet_cut _ _ _ events k (stream_stays b place s due stays) = cut_there b events Memory k (λ ssrc e. absurd cc)
    packet_cut _ _ _ events k (packet_lost b place s p due gives) = cut_there b events Memory k (λ ssrc e. absurd cc)
    packet_cut _ _ _ events k (used_up b place ssrc due at) = cut_used_up b events place ssrc k at
    packet_cut _ _ _ events k (after_pass b after place s error due gives rest) =
        packet_cut (after_streams b s None) after error events (subst (λ (l : List Event). Stage xs (after_streams b s None) l) (append-nil events) (polled b events place s None k gives)) rest

    poll_cut : (b after : SessionRecord) (error : RtcError) (events : List Event) → Stage xs b events → PollFails now b after error → Cut error events
    poll_cut b _ _ events k (packet_fails after error spoken due fails) = packet_cut b after error events k fails
    poll_cut b _ _ events k (key_used_up exhausts) = cut_there b events (KeyExhausted srtcp.Rtcp) k (λ ssrc e. absurd cc)
    poll_cut b _ _ events k (compound_kept some fresh) = cut_there b events Memory k (λ ssrc e. absurd cc)
    poll_cut b _ _ events k (compound_lost some fresh) = cut_there b events Memory k (λ ssrc e. absurd cc)

    module _ (later : (now == 0) ≡ false) (quiet : r.state.feedback ≡ []) (keys : r.state.sealing ≡ Some own) where
      no_feedback : (b : SessionRecord) (events : List Event) → Stage xs b events → due_of now b.state ≡ []
      no_feedback b events k = ap (λ (t : Bool). if t then [] else b.state.feedback) later ∙ ap (λ (z : SessionRecord). z.state.feedback) k.others ∙ quiet

      has_keys : (b : SessionRecord) (events : List Event) → Stage xs b events → b.state.sealing ≡ Some own
      has_keys b events k = ap (λ (z : SessionRecord). z.state.sealing) k.others ∙ keys

      record Gave (b after : SessionRecord) (o : Option Datagram) : Type 0 where
        receipt : Option PacketReceipt
        next : NextPacket now b after receipt
        is : o ≡ option_map (sealed_as cipher own) receipt

      gave : (b after : SessionRecord) (o : Option Datagram) (events : List Event) → Stage xs b events → NextDatagram cipher now b after o → Gave b after o
      gave b _ _ events k (silent is due) =
          let wrong : true ≡ false = sym is ∙ (λ i. later i || is_none (has_keys b events k i)) in
          absurd cc
      gave b _ _ events k (packet after o spoken due next) = record { receipt = o; next = next; is = ap (λ (s : Option SrtpState). sealed_by cipher s o) (has_keys b events k) }
      gave b _ _ events k (compound some fresh) =
          let wrong : true ≡ false = sym some ∙ ap some_due (no_feedback b events k) in
          absurd cc

      gives_one : (b after : SessionRecord) (d : Datagram) (events : List Event) (receipt : Option PacketReceipt) → Some d ≡ option_map (sealed_as cipher own) receipt → Next events after receipt
          → Stage xs after (events ++ event_of r.state.transport.exts d ∷ [])
      gives_one b after d events None e n = absurd cc
      gives_one b after d events (Some p) e n =
          let same : sealed_as cipher own p ≡ d = sym (same_Some d (sealed_as cipher own p) e) in
          subst (λ (z : Datagram). Stage xs after (events ++ event_of r.state.transport.exts z ∷ [])) same n

      gives_none : (after : SessionRecord) (events : List Event) (receipt : Option PacketReceipt) → None ≡ option_map (sealed_as cipher own) receipt → Next events after receipt → Ended after events
      gives_none after events None e n = n
      gives_none after events (Some p) e n = absurd cc

      module _ (mirrors : AllZip (TxMirrors r.state.types r.state.medias now (Some now) r.repairs) r.state.tx xs) where
        all_sent : (b : SessionRecord) (ds : List Datagram) → DrainsTo cipher now r b ds → Stage xs b (events_of r.state.transport.exts ds)
        all_sent _ _ start = record {
          table = map (begun_at now) xs;
          others = refl;
          exts = refl;
          beginning = refl;
          keys = refl;
          many = rests;
          mid = begins r.repairs r.state.tx xs mirrors;
          same_lines = begun_lines xs;
        }
        all_sent _ _ (more between after ds d h next) =
            let k = all_sent between ds h in
            let g = gave between after (Some d) (events_of r.state.transport.exts ds) k next in
            subst (λ (l : List Event). Stage xs after l) (sym (map-append (event_of r.state.transport.exts) ds (d ∷ [])))
            (gives_one between after d (events_of r.state.transport.exts ds) g.receipt g.is (next_packet between after g.receipt (events_of r.state.transport.exts ds) k g.next))

        ended_drain : (after : SessionRecord) (all : List Datagram) → r.state.released ≡ true → Ended after (events_of r.state.transport.exts all) → DrainsPackets cipher r after own now xs all
        ended_drain after all released e =
            let last : SessionRecord = e.last in
            let s = e.stage in
            let due : first_due r.state.medias last.state.released last.repairs last.state.tx ≡ None =
            ap (λ (z : SessionRecord). first_due z.state.medias last.state.released last.repairs last.state.tx) (sym s.others) ∙ e.none_is_due in
            let on : last.state.released ≡ true = ap (λ (z : SessionRecord). z.state.released) s.others ∙ released in
            let idle : AreIdle s.table = idles last.state.released on last.repairs last.state.tx s.table s.mid due in
            subst (λ (z : SessionRecord). DrainsPackets cipher r z own now xs all) (sym e.is)
            (record {
              streams = s.table;
              drains = record { serves = s.many; idle = idle };
              same_lines = s.same_lines;
              tx = ends last.repairs last.state.tx s.table s.mid idle;
              keys = s.keys;
              rest = ap unreleased s.others;
              exts = s.exts;
              beginning = s.beginning;
            })

        pub all_drained : (after : SessionRecord) (all : List Datagram) → r.state.released ≡ true → Drains cipher now r after all → DrainsPackets cipher r after own now xs all
        all_drained after all released d =
            let events : List Event = events_of r.state.transport.exts all in
            let k = all_sent d.last all d.sent in
            let g = gave d.last after None events k d.ended in
            ended_drain after all released (gives_none after events g.receipt g.is (next_packet d.last after g.receipt events k g.next))

        cut_packets : (error : RtcError) (sent : List Datagram) → Cut error (events_of r.state.transport.exts sent) → CutsPackets cipher r own now xs error sent
        cut_packets error sent c = record { streams = c.table; serves = c.many; used_up = c.used_up }

        pub all_cut : (error : RtcError) (after : SessionRecord) (sent : List Datagram) → IsDrainCut cipher now r error after sent → CutsPackets cipher r own now xs error sent
        all_cut _ _ _ (at_poll between after error sent drains fails) =
            cut_packets error sent (poll_cut between after error (events_of r.state.transport.exts sent) (all_sent between sent drains) fails)
        all_cut _ _ _ (between_polls between sent drains) =
            cut_packets Memory sent (cut_there between (events_of r.state.transport.exts sent) Memory (all_sent between sent drains) (λ ssrc e. absurd cc))
