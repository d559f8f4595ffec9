-- An RTP datagram that comes is a turn of the plain session.
use Rattle.std.proofs.Common.{◌≡◌, inl, inr, ℕ, ◌+◌, ◌*◌, ◌%◌, ◌^◌, ◌<◌, ◌≤◌, Bool, true, false, List, [], ◌∷◌, length, map, drop, Option, Some, None, is_some, refl, sym, ap, ◌∙◌, subst, arith}
use Rattle.std.specs.Prelude.{◌==◌, ◌||◌, if◌then◌else◌, option_and_then, slice_index}
use Rattle.std.specs.Option.{option_map_or}
use Rattle.std.proofs.lemmas.Bool.{eq-eqb, ne_eqb, false≢true, or_left, or_right, cases_Bool, cases_eq}
use Rattle.rtp_base.specs.declared.kind.Kind.TheVariants.{Rtp}
use Rattle.rtp_base.specs.declared.media_time.MediaTime.{MediaTime}
use Rattle.rtp_base.specs.Widen.{widen16}
use Rattle.repair_core.specs.Fresh.{greatest_of, is_fresh}
use Rattle.rtp_wire.specs.declared.header.RtpHeader.{RtpHeader}
use Rattle.rtp_wire.specs.Header.{header_of, csrc_of}
use Rattle.rtp_wire.specs.HeaderLaws.{ReadsOwnBytes}
use Rattle.srtp_core.specs.Cipher.{CipherMeaning}
use Rattle.stream_core.specs.declared.packet.RtpPacket.{RtpPacket}
use Rattle.stream_core.specs.Repairing.{primary_type_of}
use Rattle.stream_core.specs.declared.reports.Arrival.{Arrival}
use Rattle.stream_core.specs.RxRecord.{RxRecord as StreamRx, fresh_number, opened_as}
use Rattle.stream_core.specs.RxRepairs.{repair_came, restored as restored_fresh, restored_for, after_restored}
use Rattle.stream_core.specs.Seen.{seen_of, saw}
use Rattle.stream_core.specs.StreamsRecord.{restored_on, restored_number_on}
use Rattle.stream_core.specs.Tables.{value_under, place_of, change_place, change_at}
use Rattle.session_core.specs.declared.datagram.Opened.{Opened as Opening}
use Rattle.session_core.specs.Calls.{after_events}
use Rattle.session_core.specs.Receiving.{time_taken, time_restored, packet_from, packet_after, packet_restored, rx_opened as real_opened, probes_opened, arrival_of, cut as cut_here, after_opened, after_repair, after_restoring, after_repaired, opening_of, Opens as OpensHere, OpensRepair as OpensRepairHere, Takes, takes_packet, takes_repair, takes_nothing, HeaderNumbersFit}
use Rattle.session_core.specs.Repairs.{is_known, repair_accepted, restored_header}
use Rattle.rtp_wire.specs.Repairs.{original_number}
use Rattle.session_core.specs.SessionRecord.{SessionRecord}
use Rattle.media_model.specs.declared.entry.Side.{Side}
use Rattle.media_model.specs.declared.entry.Packet.{Packet}
use Rattle.media_model.specs.Sides.{peer_of}
use Rattle.run_model.specs.Events.{Incoming, Types, got, yielded}
use Rattle.run_model.specs.Listing.{IsIn}
use Rattle.run_model.specs.Receiving.{concerns, begun_taken, floor_of, base_with, is_repair, behind_two, with_tried, restored_by, restored, first_packet, restored_packet, repair_yields, yields, Opens}
use Rattle.run_model.specs.RxPlay.{RxRecord, lists_in, rx_first, rx_tried, rx_restored}
use Rattle.run_model.specs.Whole.{Config, Session, probes, stays}
use Rattle.session_turns.specs.Reading.{types_in, packet_told, yields_of, events_opened}
use Rattle.session_turns.specs.Mirrors.{TxMirrors, RxMirrors, RxStands, Mirrors, IsFit}
use Rattle.session_turns.specs.Laws.{TurnsTo, MapsNothing, OpensTurn}
use Rattle.session_turns.proofs.Records.{low_again, where_fresh, fresh_where}
use Rattle.session_turns.proofs.Keyed.{place_changed, changed_again, value_changed}
use Rattle.session_turns.proofs.Changes.{restored_at, own_at, is_own_fresh, number_is, restored_is, restored_where, accepted_is, others_same, first_opened, repair_opened_as, original_opened, same_state}
use Rattle.session_turns.proofs.Later.{keys_there, told_all, tx_later}
use Rattle.session_turns.proofs.Sealing.{plain_by}
use Rattle.session_turns.proofs.Session.{RxParts, repair_main, repair_rtx, repair_probes, zero_repaired, zero_number, main_repaired, main_number, rtx_repaired, rtx_number, away_repaired, away_number}
use Rattle.session_turns.proofs.Opening.{parts, fits, no_zero, originals, Comes, first_opens, repair_opens, opened_to, in_none, none_some, nothing_opens}
use Rattle.session_turns.proofs.OpenedTurn.{made, moves, Made, turn_from, moved_to, streams_at, streams_first, rx_told}
use Rattle.session_turns.proofs.OpenedStreams.{Real, Plain, IsLine, AllAway, IsAt, in_at, at_stands, at_place, at_value, concerned, concerns_main, find_one}
use Rattle.rtp_base.specs.Window.{is_just}
use Rattle.session_turns.proofs.Keys.{zip_weaker}

-- what a repair carries

behind_same : (l : List ℕ) → drop 2 l ≡ behind_two l
behind_same [] = refl
behind_same (a ∷ []) = refl
behind_same (a ∷ b ∷ rest) = refl

module _ (cipher : CipherMeaning) (C : Config) (side : Side) (r : SessionRecord) (a : Session) (fit : IsFit C) (mirrors : Mirrors cipher C side r a) (own : ReadsOwnBytes) (bytes : List ℕ)
    (time : ℕ) (le : a.rx.now ≤ time) (early : time ≤ 10 ^ 16) (are : (i : ℕ) → slice_index bytes i < 256) (small : HeaderNumbersFit) where
  abbrev p : RxParts C.threshold a.rx.trip r a.rx.table
  p = parts cipher C side r a fit mirrors own bytes

  abbrev R : Real → Plain → Type 0
  R = RxStands C.threshold a.rx.trip r.seen

  key : (e : Real) (s : Plain) → R e s → e.0 ≡ s.0.ssrc
  key e s stands = stands.key

  zero_out : AllAway 0 p.rest
  zero_out = no_zero cipher C side r a fit mirrors own bytes

  -- how a packet of a header comes with a payload
  abbrev arrival : RtpHeader → List ℕ → Arrival
  arrival h l = arrival_of r.state.types time h (length l)

  -- the RTP time of the packet that is told of it
  abbrev time_first : RtpHeader → List ℕ → MediaTime
  time_first h payload = time_taken (arrival h (cut_here h payload)) r.rx h.ssrc

  -- what a stream is told as, in a turn
  abbrev Turn : SessionRecord → RtpHeader → ℕ → List ℕ → Type 0
  Turn after h n payload = TurnsTo cipher C side r a (after_events after) (got time Rtp bytes ∷ events_opened r.state.transport.exts (Some (opening_of bytes h n payload)) after.state.packet)

  widened_low : (h : RtpHeader) (n : ℕ) (o : Option ℕ) → header_of r.state.transport.exts bytes ≡ Some h → n ≡ widen16 o h.sequence_number → h.sequence_number ≡ n % 65536
  widened_low h n o reads is = sym (ap (λ (m : ℕ). m % 65536) is ∙ low_again o h.sequence_number (small r.state.transport.exts bytes h are reads))

  -- no stream but that of the probes has the SSRC 0
  probe_away : (s : Plain) → IsIn s p.rest → (k : ℕ) → concerns s.0 k ≡ true → concerns probes k ≡ false
  probe_away s i k of =
      elim (cases_Bool (concerns probes k)) [
        | inr t ↦ t
        | inl t ↦ elim (concerned probes k t) [
          | inl is ↦ absurd (false≢true (sym (in_none cipher C side r a fit mirrors own bytes 0 s p.rest zero_out i) ∙ sym (ap (concerns s.0) is) ∙ of))
          | inr e ↦ absurd (none_some k e)
        ]
      ]

  nonzero_in : (s : Plain) (m : ℕ) → IsIn s p.rest → concerns s.0 m ≡ true → m ≡ 0 → ⊥
  nonzero_in s m i of is = false≢true (sym (in_none cipher C side r a fit mirrors own bytes 0 s p.rest zero_out i) ∙ sym (ap (concerns s.0) is) ∙ of)

  -- a probe opens

  module _ (h : RtpHeader) (n : ℕ) (payload : List ℕ) (o : OpensHere cipher r bytes h n payload) (zero : h.ssrc ≡ 0) where
    head_line : IsLine p.head.0
    head_line = record { apart = ap (λ (L : Incoming). is_just L.ssrc L.rtx) p.probes_is }

    head_of : concerns p.head.0 h.ssrc ≡ true
    head_of = ap (λ (L : Incoming). concerns L h.ssrc) p.probes_is ∙ ap (concerns probes) zero

    head_ssrc : p.head.0.ssrc ≡ 0
    head_ssrc = ap (λ (L : Incoming). L.ssrc) p.probes_is

    head_first : is_repair C.types p.head.0 h.ssrc (plain_by h payload) ≡ false
    head_first = repair_probes C.types p.head.0 h.ssrc (plain_by h payload) p.probes_is

    probe_number : (is_fresh (begun_taken (lists_in p.head.1)) (restored_at (lists_in p.head.1) h.sequence_number) ≡ true) × (restored_at (lists_in p.head.1) h.sequence_number ≡ n)
    probe_number =
        fresh_where (is_fresh (begun_taken (lists_in p.head.1)) (restored_at (lists_in p.head.1) h.sequence_number)) (restored_at (lists_in p.head.1) h.sequence_number) n
        (sym (zero_number r h zero ∙ sym (ap (λ (j : ℕ). fresh_number (seen_of j r.seen) r.probes h.sequence_number) head_ssrc) ∙ number_is p.mirrors h.sequence_number) ∙ o.accepts)

    probe_comes : Comes cipher C side r a fit mirrors own bytes h n payload
    probe_comes = record {
      reads = o.reads;
      to = opened_to cipher C side r a fit mirrors own bytes h n payload o.opens;
      unpads = o.unpads;
      low = widened_low h n (greatest_of (begun_taken (lists_in p.head.1))) o.reads (sym probe_number.1);
    }

    probe_opens : Opens C.types p.head.0 (C.seals (peer_of side)) (lists_in p.head.1) bytes h.ssrc n (plain_by h payload)
    probe_opens =
        first_opens cipher C side r a fit mirrors own bytes p.head h n payload probe_comes head_of head_first
        (or_left (p.head.0.ssrc == 0) (is_known r.state.types h.payload_type) (eq-eqb p.head.0.ssrc 0 head_ssrc))
        (sym probe_number.1) (subst (λ (m : ℕ). is_fresh (begun_taken (lists_in p.head.1)) m ≡ true) probe_number.1 probe_number.0)

    probe_rx : real_opened (seen_of h.ssrc r.seen) (arrival h (cut_here h payload)) h.ssrc n r.rx ≡ r.rx
    probe_rx = ap (λ b. if b then r.rx else change_at h.ssrc (opened_as (seen_of h.ssrc r.seen) (arrival h (cut_here h payload)) n) r.rx) (eq-eqb h.ssrc 0 zero)

    probe_first : probes_opened (seen_of h.ssrc r.seen) (arrival h (cut_here h payload)) h.ssrc n r.probes ≡ opened_as (seen_of p.head.0.ssrc r.seen) (arrival h (cut_here h payload)) n r.probes
    probe_first =
        ap (λ b. if b then opened_as (seen_of h.ssrc r.seen) (arrival h (cut_here h payload)) n r.probes else r.probes) (eq-eqb h.ssrc 0 zero)
        ∙ ap (λ (j : ℕ). opened_as (seen_of j r.seen) (arrival h (cut_here h payload)) n r.probes) (zero ∙ sym head_ssrc)

    probe_seen : saw h.ssrc n r.seen ≡ saw p.head.0.ssrc n r.seen
    probe_seen = ap (λ (j : ℕ). saw j n r.seen) (zero ∙ sym head_ssrc)

    probe_packet : packet_after (time_first h payload) time h n (cut_here h payload) r.state.packet ≡ None
    probe_packet = ap (λ b. if b then r.state.packet else Some (packet_from (time_first h payload) time h n (cut_here h payload))) (eq-eqb h.ssrc 0 zero) ∙ mirrors.packet

    probe_yields : [] ≡ yields C.types p.head.0 (lists_in p.head.1) h.ssrc n (plain_by h payload)
    probe_yields =
        sym (ap (λ b. if b then repair_yields C.types p.head.0 (with_tried p.head.0 (lists_in p.head.1) h.ssrc n) (restored p.head.0 (lists_in p.head.1) h.ssrc n (plain_by h payload)) (plain_by h payload)
        else (if p.head.0.ssrc == 0 then [] else first_packet p.head.0 n (plain_by h payload) ∷ [])) head_first
        ∙ ap (λ b. if b then [] else first_packet p.head.0 n (plain_by h payload) ∷ []) (eq-eqb p.head.0.ssrc 0 head_ssrc))

    probe_moved : (p.head.0, rx_first (time + C.threshold) n p.head.1) ≡ moves cipher C side r a fit mirrors own bytes time le h n payload p.head
    probe_moved =
        sym (ap (λ b. (
          p.head.0,
          if b then rx_restored (restored p.head.0 (lists_in p.head.1) h.ssrc n (plain_by h payload)) (rx_tried p.head.0 (time + C.threshold) h.ssrc n p.head.1)
              else rx_first (time + C.threshold) n p.head.1,
        )) head_first)
        ∙ moved_to cipher C side r a fit mirrors own bytes time le h n payload p p.head head_of

    probe_opened : Turn (after_opened time h n payload r) h n payload
    probe_opened =
        turn_from cipher C side r a fit mirrors own bytes time le h n payload p.head (subst (IsIn p.head) (sym p.is) (inl refl)) probe_comes probe_opens (record {
          packet = None;
          rx = r.rx;
          first = opened_as (seen_of p.head.0.ssrc r.seen) (arrival h (cut_here h payload)) n r.probes;
          seen = saw p.head.0.ssrc n r.seen;
          is = λ j. made r (probe_packet j) (probe_rx j) (probe_first j) (probe_seen j);
          streams = streams_first cipher C side r a fit mirrors own bytes time le h n payload p None (saw p.head.0.ssrc n r.seen) (opened_as (seen_of p.head.0.ssrc r.seen) (arrival h (cut_here h payload)) n r.probes)
              (rx_first (time + C.threshold) n p.head.1)
              (subst (λ (j : ℕ). AllAway j p.rest) (sym zero) zero_out)
              (λ z t k none. others_same k p.head.0.ssrc n (subst (λ (j : ℕ). concerns t.0 j ≡ false) (zero ∙ sym head_ssrc) none))
              probe_moved
              (first_opened p.mirrors (arrival h (cut_here h payload)) n early fit.threshold head_line);
          told = ap (map yielded) probe_yields;
        })

  -- on another stream

  module _ (h : RtpHeader) (n : ℕ) (payload : List ℕ) (s : Plain) (i : IsIn s p.rest) (of : concerns s.0 h.ssrc ≡ true) where
    spot : IsAt R s r.rx p.rest
    spot = in_at R s r.rx p.rest p.others (fits cipher C side r a fit mirrors own bytes) i

    nonzero : h.ssrc ≡ 0 → ⊥
    nonzero = nonzero_in s h.ssrc i of

    main_nonzero : s.0.ssrc ≡ 0 → ⊥
    main_nonzero = nonzero_in s s.0.ssrc i (concerns_main s.0)

    stands : R spot.real s
    stands = at_stands R spot.at

    in_table : IsIn s a.rx.table
    in_table = subst (IsIn s) (sym p.is) (inr i)

    placed : place_of s.0.ssrc r.rx ≡ Some spot.place
    placed = at_place R key spot.at

    valued : value_under s.0.ssrc r.rx ≡ Some spot.real.1
    valued = at_value R key spot.at

    away : (k : ℕ) → concerns s.0 k ≡ true → concerns probes k ≡ false
    away = probe_away s i

    changed : (f : StreamRx → StreamRx) → change_at s.0.ssrc f r.rx ≡ change_place f r.rx spot.place
    changed f = ap (λ o. option_map_or (change_place f r.rx) o r.rx) placed

    -- a first sending
    module _ (o : OpensHere cipher r bytes h n payload) (is : h.ssrc ≡ s.0.ssrc) where
      no_primary : is_some (primary_type_of r.state.types h.payload_type) ≡ false
      no_primary =
          elim (cases_Bool (is_some (primary_type_of r.state.types h.payload_type))) [
            | inl t ↦ absurd (none_some h.ssrc (sym o.original ∙ main_repaired r h nonzero C.threshold a.rx.trip p.rest p.others (originals cipher C side r a fit mirrors own bytes) spot.at is
                ∙ ap (λ b. if b then Some h.ssrc else None) t))
            | inr t ↦ t
          ]

      main_first : is_repair C.types s.0 h.ssrc (plain_by h payload) ≡ false
      main_first =
          ap (λ (T : Types). is_repair T s.0 h.ssrc (plain_by h payload)) mirrors.types
          ∙ repair_main r.state.types s.0 h.ssrc (plain_by h payload) spot.line is nonzero ∙ no_primary

      placed_type : is_some (place_of h.payload_type r.state.types) ≡ true
      placed_type = sym (ap (λ b. b || is_some (place_of h.payload_type r.state.types)) (ne_eqb h.ssrc 0 nonzero)) ∙ o.claimed

      first_number : (is_fresh (begun_taken (lists_in s.1)) (restored_at (lists_in s.1) h.sequence_number) ≡ true) × (restored_at (lists_in s.1) h.sequence_number ≡ n)
      first_number =
          fresh_where (is_fresh (begun_taken (lists_in s.1)) (restored_at (lists_in s.1) h.sequence_number)) (restored_at (lists_in s.1) h.sequence_number) n
          (sym (main_number r h nonzero C.threshold a.rx.trip p.rest p.others (originals cipher C side r a fit mirrors own bytes) spot.at is ∙ number_is stands.mirrors h.sequence_number) ∙ o.accepts)

      first_comes : Comes cipher C side r a fit mirrors own bytes h n payload
      first_comes = record {
        reads = o.reads;
        to = opened_to cipher C side r a fit mirrors own bytes h n payload o.opens;
        unpads = o.unpads;
        low = widened_low h n (greatest_of (begun_taken (lists_in s.1))) o.reads (sym first_number.1);
      }

      opens_first : Opens C.types s.0 (C.seals (peer_of side)) (lists_in s.1) bytes h.ssrc n (plain_by h payload)
      opens_first =
          first_opens cipher C side r a fit mirrors own bytes s h n payload first_comes of main_first
          (or_right (s.0.ssrc == 0) (is_known r.state.types h.payload_type)
          (or_left (is_some (place_of h.payload_type r.state.types)) (is_some (primary_type_of r.state.types h.payload_type)) placed_type))
          (sym first_number.1) (subst (λ (m : ℕ). is_fresh (begun_taken (lists_in s.1)) m ≡ true) first_number.1 first_number.0)

      first_rx : real_opened (seen_of h.ssrc r.seen) (arrival h (cut_here h payload)) h.ssrc n r.rx ≡ change_place (opened_as (seen_of s.0.ssrc r.seen) (arrival h (cut_here h payload)) n) r.rx spot.place
      first_rx =
          ap (λ b. if b then r.rx else change_at h.ssrc (opened_as (seen_of h.ssrc r.seen) (arrival h (cut_here h payload)) n) r.rx) (ne_eqb h.ssrc 0 nonzero)
          ∙ ap (λ (j : ℕ). change_at j (opened_as (seen_of j r.seen) (arrival h (cut_here h payload)) n) r.rx) is
          ∙ changed (opened_as (seen_of s.0.ssrc r.seen) (arrival h (cut_here h payload)) n)

      first_probes : probes_opened (seen_of h.ssrc r.seen) (arrival h (cut_here h payload)) h.ssrc n r.probes ≡ r.probes
      first_probes = ap (λ b. if b then opened_as (seen_of h.ssrc r.seen) (arrival h (cut_here h payload)) n r.probes else r.probes) (ne_eqb h.ssrc 0 nonzero)

      first_seen : saw h.ssrc n r.seen ≡ saw s.0.ssrc n r.seen
      first_seen = ap (λ (j : ℕ). saw j n r.seen) is

      first_told : packet_after (time_first h payload) time h n (cut_here h payload) r.state.packet ≡ Some (packet_from (time_first h payload) time h n (cut_here h payload))
      first_told = ap (λ b. if b then r.state.packet else Some (packet_from (time_first h payload) time h n (cut_here h payload))) (ne_eqb h.ssrc 0 nonzero)

      abbrev packet_under : ℕ → Packet
      packet_under j = record { ssrc = j; number = n; pt = h.payload_type; rtp_time = h.timestamp; marker = h.marker; csrc = csrc_of h; payload = cut_here h payload }

      first_yields : packet_told (packet_from (time_first h payload) time h n (cut_here h payload)) ∷ [] ≡ yields C.types s.0 (lists_in s.1) h.ssrc n (plain_by h payload)
      first_yields =
          ap (λ (j : ℕ). packet_under j ∷ []) is
          ∙ sym (ap (λ b. if b then repair_yields C.types s.0 (with_tried s.0 (lists_in s.1) h.ssrc n) (restored s.0 (lists_in s.1) h.ssrc n (plain_by h payload)) (plain_by h payload)
          else (if s.0.ssrc == 0 then [] else first_packet s.0 n (plain_by h payload) ∷ [])) main_first
          ∙ ap (λ b. if b then [] else first_packet s.0 n (plain_by h payload) ∷ []) (ne_eqb s.0.ssrc 0 main_nonzero))

      first_moved : (s.0, rx_first (time + C.threshold) n s.1) ≡ moves cipher C side r a fit mirrors own bytes time le h n payload s
      first_moved =
          sym (ap (λ b. (
            s.0,
            if b then rx_restored (restored s.0 (lists_in s.1) h.ssrc n (plain_by h payload)) (rx_tried s.0 (time + C.threshold) h.ssrc n s.1)
                else rx_first (time + C.threshold) n s.1,
          )) main_first)
          ∙ moved_to cipher C side r a fit mirrors own bytes time le h n payload p s of

      first_turn : Turn (after_opened time h n payload r) h n payload
      first_turn =
          turn_from cipher C side r a fit mirrors own bytes time le h n payload s in_table first_comes opens_first (record {
            packet = Some (packet_from (time_first h payload) time h n (cut_here h payload));
            rx = change_place (opened_as (seen_of s.0.ssrc r.seen) (arrival h (cut_here h payload)) n) r.rx spot.place;
            first = r.probes;
            seen = saw s.0.ssrc n r.seen;
            is = λ j. made r (first_told j) (first_rx j) (first_probes j) (first_seen j);
            streams = streams_at cipher C side r a fit mirrors own bytes time le h n payload p (Some (packet_from (time_first h payload) time h n (cut_here h payload))) (saw s.0.ssrc n r.seen)
                (opened_as (seen_of s.0.ssrc r.seen) (arrival h (cut_here h payload)) n) (rx_first (time + C.threshold) n s.1) spot.at of away
                (λ x t k strange. others_same k s.0.ssrc n (strange s.0.ssrc (concerns_main s.0)))
                first_moved
                (first_opened stands.mirrors (arrival h (cut_here h payload)) n early fit.threshold spot.line)
                refl;
            told = ap (map yielded) first_yields;
          })

    -- a repair
    module _ (repair : is_repair C.types s.0 h.ssrc (plain_by h payload) ≡ true) (known : is_known r.state.types h.payload_type ≡ true) (o : OpensRepairHere cipher r bytes h s.0.ssrc n payload) where
      own_number : (is_own_fresh s.0 (lists_in s.1) h.ssrc h.has_padding (own_at s.0 (lists_in s.1) h.ssrc h.sequence_number) ≡ true) × (own_at s.0 (lists_in s.1) h.ssrc h.sequence_number ≡ n)
      own_number =
          fresh_where (is_own_fresh s.0 (lists_in s.1) h.ssrc h.has_padding (own_at s.0 (lists_in s.1) h.ssrc h.sequence_number)) (own_at s.0 (lists_in s.1) h.ssrc h.sequence_number) n
          (sym (ap (option_and_then (repair_accepted r.seen h)) valued ∙ accepted_is stands.mirrors h.ssrc spot.line of h refl) ∙ o.accepts)

      repair_comes : Comes cipher C side r a fit mirrors own bytes h n payload
      repair_comes = record {
        reads = o.reads;
        to = opened_to cipher C side r a fit mirrors own bytes h n payload o.opens;
        unpads = o.unpads;
        low = widened_low h n (base_with (floor_of s.0 (lists_in s.1) h.ssrc) s.1.tried) o.reads (sym own_number.1);
      }

      opens_repair : Opens C.types s.0 (C.seals (peer_of side)) (lists_in s.1) bytes h.ssrc n (plain_by h payload)
      opens_repair =
          repair_opens cipher C side r a fit mirrors own bytes s h n payload repair_comes of repair known
          (sym own_number.1) (subst (λ (m : ℕ). is_own_fresh s.0 (lists_in s.1) h.ssrc h.has_padding m ≡ true) own_number.1 own_number.0)

      -- the stream once the repair's own number is known
      abbrev tried : RxRecord
      tried = rx_tried s.0 (time + C.threshold) h.ssrc n s.1

      abbrev came : StreamRx → StreamRx
      came x = repair_came (seen_of h.ssrc r.seen) time n x

      abbrev seen_own : List (ℕ × List ℕ)
      seen_own = saw h.ssrc n r.seen

      own_mirrors : RxMirrors C.threshold seen_own (came spot.real.1) (s.0, tried)
      own_mirrors = repair_opened_as stands.mirrors h.ssrc time n early fit.threshold spot.line of

      abbrev carried : List ℕ
      carried = cut_here h payload

      abbrev restores : Option ℕ → SessionRecord
      restores low = after_restoring time h s.0.ssrc low (drop 2 carried) (after_repair time h s.0.ssrc n r)

      -- how the plain stream moves, where the repair carries so much
      repair_moved : (low : Option ℕ) → original_number carried ≡ low → (s.0, rx_restored (restored_by (lists_in tried) low) tried) ≡ moves cipher C side r a fit mirrors own bytes time le h n payload s
      repair_moved low is =
          sym (ap (λ b. (s.0, if b then rx_restored (restored s.0 (lists_in s.1) h.ssrc n (plain_by h payload)) tried else rx_first (time + C.threshold) n s.1)) repair
          ∙ ap (λ (x : Option ℕ). (s.0, rx_restored (restored_by (lists_in tried) x) tried)) is)
          ∙ moved_to cipher C side r a fit mirrors own bytes time le h n payload p s of

      repair_told : (low : Option ℕ) → original_number carried ≡ low
          → repair_yields C.types s.0 (lists_in tried) (restored_by (lists_in tried) low) (plain_by h payload) ≡ yields C.types s.0 (lists_in s.1) h.ssrc n (plain_by h payload)
      repair_told low is =
          sym (ap (λ b. if b then repair_yields C.types s.0 (with_tried s.0 (lists_in s.1) h.ssrc n) (restored s.0 (lists_in s.1) h.ssrc n (plain_by h payload)) (plain_by h payload)
          else (if s.0.ssrc == 0 then [] else first_packet s.0 n (plain_by h payload) ∷ [])) repair
          ∙ ap (λ (x : Option ℕ). repair_yields C.types s.0 (lists_in tried) (restored_by (lists_in tried) x) (plain_by h payload)) is)

      keeps_own : (x : StreamRx) (t : Plain) → RxMirrors C.threshold r.seen x t → ((k : ℕ) → concerns s.0 k ≡ true → concerns t.0 k ≡ false) → RxMirrors C.threshold seen_own x t
      keeps_own x t k strange = others_same k h.ssrc n (strange h.ssrc of)

      nothing_restored : original_number carried ≡ None → Made cipher C side r a fit mirrors own bytes time le h n payload s (restores None)
      nothing_restored is = record {
        packet = r.state.packet;
        rx = change_place came r.rx spot.place;
        first = r.probes;
        seen = seen_own;
        is = λ j. made r r.state.packet (changed came j) r.probes seen_own;
        streams = streams_at cipher C side r a fit mirrors own bytes time le h n payload p r.state.packet seen_own came tried spot.at of away keeps_own (repair_moved None is) own_mirrors refl;
        told = ap yields_of mirrors.packet ∙ ap (map yielded) (repair_told None is);
      }

      -- the number that is restored, where the repair carries so much
      module _ (low : ℕ) (is : original_number carried ≡ Some low) where
        abbrev q : ℕ
        q = restored_at (lists_in tried) low

        abbrev fresh : Bool
        fresh = is_fresh (begun_taken (lists_in tried)) q

        -- how the packet that is restored came
        abbrev arrival_restored : Arrival
        arrival_restored = arrival (restored_header r.state.types s.0.ssrc low h) (drop 2 carried)

        abbrev original : StreamRx → StreamRx
        original x = after_restored (seen_of s.0.ssrc seen_own) arrival_restored low x

        abbrev rx_own : List Real
        rx_own = change_at s.0.ssrc came r.rx

        value_own : value_under s.0.ssrc rx_own ≡ Some (came spot.real.1)
        value_own = ap (value_under s.0.ssrc) (changed came) ∙ value_changed s.0.ssrc came r.rx spot.place spot.real.1 placed valued

        place_own : place_of s.0.ssrc rx_own ≡ Some spot.place
        place_own = ap (place_of s.0.ssrc) (changed came) ∙ place_changed s.0.ssrc came r.rx spot.place ∙ placed

        rx_again : change_at s.0.ssrc original rx_own ≡ change_place (λ x. original (came x)) r.rx spot.place
        rx_again =
            ap (λ o. option_map_or (change_place original rx_own) o rx_own) place_own
            ∙ ap (λ l. change_place original l spot.place) (changed came)
            ∙ changed_again came original r.rx spot.place

        fresh_restored : restored_on (seen_of s.0.ssrc seen_own) rx_own s.0.ssrc low ≡ where_fresh fresh q
        fresh_restored = ap (option_and_then (λ x. restored_fresh (seen_of s.0.ssrc seen_own) x low)) value_own ∙ restored_where own_mirrors low

        number_restored : restored_number_on (seen_of s.0.ssrc seen_own) rx_own s.0.ssrc low ≡ Some q
        number_restored = ap (option_and_then (λ x. Some (restored_for (seen_of s.0.ssrc seen_own) x low))) value_own ∙ ap Some (restored_is own_mirrors low)

        seen_again : option_map_or (λ m. saw s.0.ssrc m seen_own) (restored_number_on (seen_of s.0.ssrc seen_own) rx_own s.0.ssrc low) seen_own ≡ saw s.0.ssrc q seen_own
        seen_again = ap (λ o. option_map_or (λ m. saw s.0.ssrc m seen_own) o seen_own) number_restored

        abbrev time_again : MediaTime
        time_again = time_restored arrival_restored rx_own s.0.ssrc

        abbrev packet_with : Option ℕ → Option RtpPacket
        packet_with o = packet_restored time_again r.state.types time h s.0.ssrc (drop 2 carried) o None

        packet_again : packet_restored time_again r.state.types time h s.0.ssrc (drop 2 carried) (restored_on (seen_of s.0.ssrc seen_own) rx_own s.0.ssrc low) r.state.packet ≡ packet_with (where_fresh fresh q)
        packet_again =
            ap (λ (b : Option RtpPacket). packet_restored time_again r.state.types time h s.0.ssrc (drop 2 carried) (restored_on (seen_of s.0.ssrc seen_own) rx_own s.0.ssrc low) b) mirrors.packet
            ∙ ap packet_with fresh_restored

        abbrev packet_typed : Types → List ℕ → Packet
        packet_typed T l = record { ssrc = s.0.ssrc; number = q; pt = T.primary_of h.payload_type; rtp_time = h.timestamp; marker = h.marker; csrc = csrc_of h; payload = l }

        told_again : (b : Bool) → yields_of (packet_with (where_fresh b q)) ≡ map yielded (if b then restored_packet C.types s.0 q (plain_by h payload) ∷ [] else [])
        told_again true =
            ap (λ (l : List ℕ). yielded (packet_typed (types_in r.state.types) l) ∷ []) (behind_same carried)
            ∙ ap (λ (T : Types). yielded (packet_typed T (behind_two carried)) ∷ []) (sym mirrors.types)
        told_again false = refl

        keeps_again : (x : StreamRx) (t : Plain) → RxMirrors C.threshold r.seen x t → ((k : ℕ) → concerns s.0 k ≡ true → concerns t.0 k ≡ false)
            → RxMirrors C.threshold (saw s.0.ssrc q seen_own) x t
        keeps_again x t k strange = others_same (keeps_own x t k strange) s.0.ssrc q (strange s.0.ssrc (concerns_main s.0))

        original_restored : Made cipher C side r a fit mirrors own bytes time le h n payload s (restores (Some low))
        original_restored = record {
          packet = packet_with (where_fresh fresh q);
          rx = change_place (λ x. original (came x)) r.rx spot.place;
          first = r.probes;
          seen = saw s.0.ssrc q seen_own;
          is = λ j. made r (packet_again j) (rx_again j) r.probes (seen_again j);
          streams = streams_at cipher C side r a fit mirrors own bytes time le h n payload p (packet_with (where_fresh fresh q)) (saw s.0.ssrc q seen_own) (λ x. original (came x))
              (rx_restored (Some q) tried) spot.at of away keeps_again (repair_moved (Some low) is) (original_opened own_mirrors arrival_restored low spot.line)
              (ap (λ t. t.trip) (same_state own_mirrors arrival_restored (restored_fresh (seen_of s.0.ssrc seen_own) (came spot.real.1) low)));
          told = told_again fresh ∙ ap (map yielded) (repair_told (Some low) is);
        }

      restored_all : (low : Option ℕ) → original_number carried ≡ low → Made cipher C side r a fit mirrors own bytes time le h n payload s (restores low)
      restored_all None is = nothing_restored is
      restored_all (Some low) is = original_restored low is

      repair_turn : Turn (after_repaired time h s.0.ssrc n payload r) h n payload
      repair_turn =
          turn_from cipher C side r a fit mirrors own bytes time le h n payload s in_table repair_comes opens_repair
          (restored_all (original_number carried) refl)

    -- of which stream a repair is
    pub record IsOf (original : ℕ) : Type 0 where
      pub repair : is_repair C.types s.0 h.ssrc (plain_by h payload) ≡ true
      pub known : is_known r.state.types h.payload_type ≡ true
      pub same : s.0.ssrc ≡ original

    where_some : (b : Bool) (m k : ℕ) → (if b then Some m else None) ≡ Some k → (b ≡ true) × (m ≡ k)
    where_some b m k e = fresh_where b m k e

    is_of : (original : ℕ) → OpensRepairHere cipher r bytes h original n payload → IsOf original
    is_of original o =
        elim (concerned s.0 h.ssrc of) [
          | inl is ↦
              let found = where_some (is_some (primary_type_of r.state.types h.payload_type)) h.ssrc original
              (sym (main_repaired r h nonzero C.threshold a.rx.trip p.rest p.others (originals cipher C side r a fit mirrors own bytes) spot.at is) ∙ o.repairs) in record {
                repair = ap (λ (T : Types). is_repair T s.0 h.ssrc (plain_by h payload)) mirrors.types
                    ∙ repair_main r.state.types s.0 h.ssrc (plain_by h payload) spot.line is nonzero ∙ found.0;
                known = or_right (is_some (place_of h.payload_type r.state.types)) (is_some (primary_type_of r.state.types h.payload_type)) found.0;
                same = sym is ∙ found.1;
              }
          | inr is ↦
              let found = where_some (is_known r.state.types h.payload_type) s.0.ssrc original
              (sym (rtx_repaired r h nonzero C.threshold a.rx.trip p.rest p.others (originals cipher C side r a fit mirrors own bytes) spot.at spot.line is) ∙ o.repairs) in record {
                repair = repair_rtx C.types s.0 h.ssrc (plain_by h payload) is;
                known = found.0;
                same = found.1;
              }
        ]

    repairs_turn : (original : ℕ) → OpensRepairHere cipher r bytes h original n payload → Turn (after_repaired time h original n payload r) h n payload
    repairs_turn original o =
        let so = is_of original o in
        subst (λ (k : ℕ). OpensRepairHere cipher r bytes h k n payload → Turn (after_repaired time h k n payload r) h n payload) so.same (repair_turn so.repair so.known) o

    firsts_turn : OpensHere cipher r bytes h n payload → Turn (after_opened time h n payload r) h n payload
    firsts_turn o =
        elim (concerned s.0 h.ssrc of) [
          | inl is ↦ first_turn o is
          | inr is ↦ absurd (none_some n (sym (rtx_number r h nonzero C.threshold a.rx.trip p.rest p.others (originals cipher C side r a fit mirrors own bytes) spot.at spot.line is) ∙ o.accepts))
        ]

  -- all that opens

  opened_turn : (h : RtpHeader) (n : ℕ) (payload : List ℕ) → OpensHere cipher r bytes h n payload → Turn (after_opened time h n payload r) h n payload
  opened_turn h n payload o =
      elim (cases_eq h.ssrc 0) [
        | inl zero ↦ probe_opened h n payload o zero
        | inr other ↦ elim (find_one h.ssrc p.rest) [
          | inl found ↦ firsts_turn h n payload found.one found.is_in found.of o
          | inr none ↦ absurd (none_some n (sym (away_number r h other C.threshold a.rx.trip p.rest p.others (originals cipher C side r a fit mirrors own bytes) none) ∙ o.accepts))
        ]
      ]

  repaired_turn : (h : RtpHeader) (original n : ℕ) (payload : List ℕ) → OpensRepairHere cipher r bytes h original n payload → Turn (after_repaired time h original n payload r) h n payload
  repaired_turn h original n payload o =
      elim (cases_eq h.ssrc 0) [
        | inl zero ↦ absurd (none_some original (sym (zero_repaired r h zero) ∙ o.repairs))
        | inr other ↦ elim (find_one h.ssrc p.rest) [
          | inl found ↦ repairs_turn h n payload found.one found.is_in found.of original o
          | inr none ↦ absurd (none_some original (sym (away_repaired r h other C.threshold a.rx.trip p.rest p.others (originals cipher C side r a fit mirrors own bytes) none) ∙ o.repairs))
        ]
      ]

  -- nothing opens

  stays_turn : ((h : RtpHeader) (n : ℕ) (payload : List ℕ) → OpensHere cipher r bytes h n payload → ⊥)
      → ((h : RtpHeader) (original n : ℕ) (payload : List ℕ) → OpensRepairHere cipher r bytes h original n payload → ⊥)
      → TurnsTo cipher C side r a (after_events r) (got time Rtp bytes ∷ [])
  stays_turn no_first no_repair =
      subst (λ (x : SessionRecord). TurnsTo cipher C side r a x (got time Rtp bytes ∷ [])) (sym (told_all r (keys_there r.state mirrors.seals mirrors.opens))) (record {
        session = record { tx = a.tx; rx = record (a.rx) { now = time }; rtcp = a.rtcp };
        turn = stays time Rtp bytes le (λ e. nothing_opens cipher C side r a fit mirrors own bytes no_first no_repair) (λ e index items is. absurd (cc e));
        mirrors = record {
          own = mirrors.own;
          other = mirrors.other;
          seals = mirrors.seals;
          opens = mirrors.opens;
          own_seals = mirrors.own_seals;
          other_seals = mirrors.other_seals;
          own_reports = mirrors.own_reports;
          other_reports = mirrors.other_reports;
          index = mirrors.index;
          bounded = mirrors.bounded;
          types = mirrors.types;
          trip = mirrors.trip;
          owns = mirrors.owns;
          outgoing = mirrors.outgoing;
          incoming = mirrors.incoming;
          tx =
              zip_weaker (TxMirrors r.state.types r.state.medias a.rx.now None r.repairs) (TxMirrors r.state.types r.state.medias time None r.repairs)
              (tx_later r.state.types a.rx.now time le r.state.medias None r.repairs) r.state.tx a.tx mirrors.tx;
          rx = rx_told C.threshold a.rx.trip r a.rx.table mirrors.rx;
          originals = mirrors.originals;
          sections = mirrors.sections;
          known = mirrors.known;
          last_round = mirrors.last_round;
          target = mirrors.target;
          feedback = mirrors.feedback;
          released = mirrors.released;
          application = refl;
          packet = refl;
        };
        types = refl;
        exts = refl;
        runs = refl;
      })

  pub turns_so : (after : SessionRecord) (o : Option Opening) → Takes cipher r bytes time after o
      → TurnsTo cipher C side r a (after_events after) (got time Rtp bytes ∷ events_opened r.state.transport.exts o after.state.packet)
  turns_so _ _ (takes_packet h n payload o) = opened_turn h n payload o
  turns_so _ _ (takes_repair h original n payload o) = repaired_turn h original n payload o
  turns_so _ _ (takes_nothing no_first no_repair) = stays_turn no_first no_repair

pub opens_turn : ReadsOwnBytes → HeaderNumbersFit → MapsNothing → OpensTurn
opens_turn own small alone cipher C side r after a time bytes o fit h le early are receives =
    turns_so cipher C side r a fit h own bytes time le early are small after o (alone cipher C side r after a time bytes o h receives)
