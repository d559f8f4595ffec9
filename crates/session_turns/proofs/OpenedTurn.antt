-- A session to which a datagram opened mirrors the plain session to which it opened.
use Rattle.std.proofs.Common.{◌≡◌, ℕ, ◌+◌, ◌≤◌, true, false, List, [], ◌∷◌, map, Option, Some, None, refl, sym, ap, ◌∙◌, subst}
use Rattle.std.specs.Prelude.{if◌then◌else◌}
use Rattle.rtp_base.specs.declared.kind.Kind.TheVariants.{Rtp}
use Rattle.rtp_wire.specs.declared.header.RtpHeader.{RtpHeader}
use Rattle.rtp_wire.specs.HeaderLaws.{ReadsOwnBytes}
use Rattle.srtp_core.specs.Cipher.{CipherMeaning}
use Rattle.stream_core.specs.declared.packet.RtpPacket.{RtpPacket}
use Rattle.stream_core.specs.Pauses.{on_record, told as stream_told}
use Rattle.stream_core.specs.RxRecord.{RxRecord as StreamRx}
use Rattle.stream_core.specs.Tables.{change_place}
use Rattle.session_core.specs.Calls.{after_events}
use Rattle.session_core.specs.Receiving.{opening_of}
use Rattle.session_core.specs.SessionRecord.{SessionRecord}
use Rattle.media_model.specs.declared.entry.Side.{Side}
use Rattle.media_model.specs.Sides.{peer_of}
use Rattle.run_model.specs.Events.{Incoming, Event, got, opened, yielded}
use Rattle.run_model.specs.Listing.{IsIn}
use Rattle.run_model.specs.Receiving.{concerns, yields, Opens}
use Rattle.run_model.specs.RxPlay.{RxRecord, lists_in, rx_opened}
use Rattle.run_model.specs.Asking.{opened_in}
use Rattle.run_model.specs.Whole.{Config, Session, setup_of, probes, opens}
use Rattle.session_turns.specs.Reading.{yields_of, events_opened}
use Rattle.session_turns.specs.Mirrors.{TxMirrors, RxMirrors, RxStands, RxMirror, rx_mirror, Mirrors, IsFit}
use Rattle.session_turns.specs.Laws.{TurnsTo}
use Rattle.session_turns.proofs.Later.{tx_later, keys_there, told_record, told_all}
use Rattle.session_turns.proofs.Sealing.{plain_by, plain_is}
use Rattle.session_turns.proofs.Session.{RxParts}
use Rattle.session_turns.proofs.Opening.{Comes}
use Rattle.session_turns.proofs.OpenedStreams.{Real, Plain, IsStrange, AllAway, At, zip_changed, zip_away, zip_each}
use Rattle.session_turns.proofs.Keys.{zip_weaker}

-- what is told changes nothing that is mirrored

stands_told : (threshold : ℕ) (trip : Option ℕ) (seen : List (ℕ × List ℕ)) (e : Real) (s : Plain) → RxStands threshold trip seen e s
    → RxStands threshold trip seen (e.0, on_record stream_told e.1) s
stands_told threshold trip seen e s h =
    let k = h.mirrors in record {
      key = h.key;
      trip_is = h.trip_is;
      mirrors = record {
        ssrc = k.ssrc;
        roc = k.roc;
        suppressed = k.suppressed;
        threshold_is = k.threshold_is;
        pause = k.pause;
        numbers = k.numbers;
        begun = k.begun;
        repairs = k.repairs;
        seen_main = k.seen_main;
        seen_rtx = k.seen_rtx;
      };
    }

pub rx_told : (threshold : ℕ) (trip : Option ℕ) (x : SessionRecord) (table : List Plain) → RxMirror threshold trip x table → RxMirror threshold trip (told_record x) table
rx_told threshold trip x _ (rx_mirror s rest is mirrors others) =
    rx_mirror s rest is mirrors (zip_each (RxStands threshold trip x.seen) (on_record stream_told) (stands_told threshold trip x.seen) x.rx rest others)

lines_kept : (g : Plain → Plain) → ((s : Plain) → (g s).0 ≡ s.0) → (ss : List Plain) → map (λ s. s.0) (map g ss) ≡ map (λ s. s.0) ss
lines_kept g same [] = refl
lines_kept g same (s ∷ ss) = λ j. same s j ∷ lines_kept g same ss j

-- a session whose incoming streams changed
abbrev pub made : SessionRecord → Option RtpPacket → List Real → StreamRx → List (ℕ × List ℕ) → SessionRecord
made r packet rx first seen = record r { state = record r.state { packet = packet }; rx = rx; probes = first; seen = seen }

module _ (cipher : CipherMeaning) (C : Config) (side : Side) (r : SessionRecord) (a : Session) (fit : IsFit C) (mirrors : Mirrors cipher C side r a) (own : ReadsOwnBytes) (bytes : List ℕ)
    (time : ℕ) (le : a.rx.now ≤ time) where
  -- how the plain streams change
  abbrev pub moves : RtpHeader → ℕ → List ℕ → Plain → Plain
  moves h n payload = opened_in (setup_of C side) time h.ssrc n (plain_by h payload)

  -- a session after a datagram opened
  pub record Made (h : RtpHeader) (n : ℕ) (payload : List ℕ) (s : Plain) (after : SessionRecord) : Type 0 where
    pub packet : Option RtpPacket
    pub rx : List Real
    pub first : StreamRx
    pub seen : List (ℕ × List ℕ)
    pub is : after ≡ made r packet rx first seen
    pub streams : RxMirror C.threshold a.rx.trip (made r packet rx first seen) (map (moves h n payload) a.rx.table)
    pub told : yields_of packet ≡ map yielded (yields C.types s.0 (lists_in s.1) h.ssrc n (plain_by h payload))

  module _ (h : RtpHeader) (n : ℕ) (payload : List ℕ) (s : Plain) where
    abbrev left : Session
    left = record { tx = a.tx; rx = record (a.rx) { now = time; table = map (moves h n payload) a.rx.table }; rtcp = a.rtcp }

    left_mirrors : {after : SessionRecord} (m : Made h n payload s after) → Mirrors cipher C side (told_record (made r m.packet m.rx m.first m.seen)) left
    left_mirrors m = record {
      own = mirrors.own;
      other = mirrors.other;
      seals = mirrors.seals;
      opens = mirrors.opens;
      own_seals = mirrors.own_seals;
      other_seals = mirrors.other_seals;
      own_reports = mirrors.own_reports;
      other_reports = mirrors.other_reports;
      index = mirrors.index;
      bounded = mirrors.bounded;
      types = mirrors.types;
      trip = mirrors.trip;
      owns = mirrors.owns;
      outgoing = mirrors.outgoing;
      incoming = lines_kept (moves h n payload) (λ t. refl) a.rx.table ∙ mirrors.incoming;
      tx =
          zip_weaker (TxMirrors r.state.types r.state.medias a.rx.now None r.repairs) (TxMirrors r.state.types r.state.medias time None r.repairs)
          (tx_later r.state.types a.rx.now time le r.state.medias None r.repairs) r.state.tx a.tx mirrors.tx;
      rx = rx_told C.threshold a.rx.trip (made r m.packet m.rx m.first m.seen) (map (moves h n payload) a.rx.table) m.streams;
      originals = mirrors.originals;
      sections = mirrors.sections;
      known = mirrors.known;
      last_round = mirrors.last_round;
      target = mirrors.target;
      feedback = mirrors.feedback;
      released = mirrors.released;
      application = refl;
      packet = refl;
    }

    pub turn_from : {after : SessionRecord} → IsIn s a.rx.table → Comes cipher C side r a fit mirrors own bytes h n payload
        → Opens C.types s.0 (C.seals (peer_of side)) (lists_in s.1) bytes h.ssrc n (plain_by h payload) → Made h n payload s after
        → TurnsTo cipher C side r a (after_events after) (got time Rtp bytes ∷ events_opened r.state.transport.exts (Some (opening_of bytes h n payload)) after.state.packet)
    turn_from {after} i c o m =
        let whole : SessionRecord = made r m.packet m.rx m.first m.seen in
        let events : events_opened r.state.transport.exts (Some (opening_of bytes h n payload)) m.packet
        ≡ opened h.ssrc n (plain_by h payload) ∷ map yielded (yields C.types s.0 (lists_in s.1) h.ssrc n (plain_by h payload)) =
        (λ j. opened h.ssrc n (plain_is cipher r.state.transport.exts mirrors.other own bytes h payload c.reads j) ∷ m.told j) in
        let turn : TurnsTo cipher C side r a (told_record whole)
        (got time Rtp bytes ∷ opened h.ssrc n (plain_by h payload) ∷ map yielded (yields C.types s.0 (lists_in s.1) h.ssrc n (plain_by h payload))) = record {
          session = left;
          turn = opens time bytes h.ssrc n (plain_by h payload) s le i o;
          mirrors = left_mirrors m;
          types = refl;
          exts = refl;
          runs = refl;
        } in
        subst (λ (x : SessionRecord). TurnsTo cipher C side r a (after_events x) (got time Rtp bytes ∷ events_opened r.state.transport.exts (Some (opening_of bytes h n payload)) x.state.packet)) (sym m.is)
        (subst (λ (x : SessionRecord). TurnsTo cipher C side r a x (got time Rtp bytes ∷ events_opened r.state.transport.exts (Some (opening_of bytes h n payload)) m.packet))
        (sym (told_all whole (keys_there whole.state mirrors.seals mirrors.opens)))
        (subst (λ (l : List Event). TurnsTo cipher C side r a (told_record whole) (got time Rtp bytes ∷ l)) (sym events) turn))

  -- the streams, where one of them but that of the probes changes
  module _ (h : RtpHeader) (n : ℕ) (payload : List ℕ) (p : RxParts C.threshold a.rx.trip r a.rx.table) where
    abbrev moved : Plain → Plain
    moved = moves h n payload

    stays_so : (t : Plain) → concerns t.0 h.ssrc ≡ false → t ≡ moved t
    stays_so t none = sym (ap (λ b. (t.0, if b then rx_opened C.types t.0 (time + C.threshold) h.ssrc n (plain_by h payload) t.1 else t.1)) none)

    pub moved_to : (s : Plain) → concerns s.0 h.ssrc ≡ true → (s.0, rx_opened C.types s.0 (time + C.threshold) h.ssrc n (plain_by h payload) s.1) ≡ moved s
    moved_to s of = sym (ap (λ b. (s.0, if b then rx_opened C.types s.0 (time + C.threshold) h.ssrc n (plain_by h payload) s.1 else s.1)) of)

    abbrev before : Real → Plain → Type 0
    before = RxStands C.threshold a.rx.trip r.seen

    pub streams_at : {s : Plain} {e : Real} {i : ℕ} (packet : Option RtpPacket) (seen : List (ℕ × List ℕ)) (f : StreamRx → StreamRx) (y : RxRecord)
        → At before e s i r.rx p.rest → concerns s.0 h.ssrc ≡ true → ((k : ℕ) → concerns s.0 k ≡ true → concerns probes k ≡ false)
        → ((x : StreamRx) (t : Plain) → RxMirrors C.threshold r.seen x t → ((k : ℕ) → concerns s.0 k ≡ true → concerns t.0 k ≡ false) → RxMirrors C.threshold seen x t)
        → (s.0, y) ≡ moved s → RxMirrors C.threshold seen (f e.1) (s.0, y) → (f e.1).state.trip ≡ e.1.state.trip
        → RxMirror C.threshold a.rx.trip (made r packet (change_place f r.rx i) r.probes seen) (map moved a.rx.table)
    streams_at {s} {e} {i} packet seen f y at of away keeps to one trip =
        subst (λ (l : List Plain). RxMirror C.threshold a.rx.trip (made r packet (change_place f r.rx i) r.probes seen) (map moved l)) (sym p.is)
        (rx_mirror (moved p.head) (map moved p.rest) p.probes_is
        (subst (RxMirrors C.threshold seen r.probes) (stays_so p.head (head_away h.ssrc of)) (keeps r.probes p.head p.mirrors head_away))
        (zip_changed before after_it f moved here others at))
      where
        after_it : Real → Plain → Type 0
        after_it = RxStands C.threshold a.rx.trip seen

        head_away : (k : ℕ) → concerns s.0 k ≡ true → concerns p.head.0 k ≡ false
        head_away k has = ap (λ (L : Incoming). concerns L k) p.probes_is ∙ away k has

        here : before e s → RxStands C.threshold a.rx.trip seen (e.0, f e.1) (moved s)
        here stands = record { key = stands.key; trip_is = trip ∙ stands.trip_is; mirrors = subst (RxMirrors C.threshold seen (f e.1)) to one }

        others : (d : Real) (t : Plain) → before d t → IsStrange s.0 t.0 → RxStands C.threshold a.rx.trip seen d (moved t)
        others d t stands strange = record {
          key = stands.key;
          trip_is = stands.trip_is;
          mirrors = subst (RxMirrors C.threshold seen d.1) (stays_so t (strange.strange h.ssrc of)) (keeps d.1 t stands.mirrors strange.strange);
        }

    -- where that of the probes changes
    pub streams_first : (packet : Option RtpPacket) (seen : List (ℕ × List ℕ)) (x : StreamRx) (y : RxRecord) → AllAway h.ssrc p.rest
        → ((z : StreamRx) (t : Plain) → RxMirrors C.threshold r.seen z t → concerns t.0 h.ssrc ≡ false → RxMirrors C.threshold seen z t)
        → (p.head.0, y) ≡ moved p.head → RxMirrors C.threshold seen x (p.head.0, y)
        → RxMirror C.threshold a.rx.trip (made r packet r.rx x seen) (map moved a.rx.table)
    streams_first packet seen x y away keeps to one =
        subst (λ (l : List Plain). RxMirror C.threshold a.rx.trip (made r packet r.rx x seen) (map moved l)) (sym p.is)
        (rx_mirror (moved p.head) (map moved p.rest) p.probes_is (subst (RxMirrors C.threshold seen x) to one)
        (zip_away before (RxStands C.threshold a.rx.trip seen) moved h.ssrc others r.rx p.rest p.others away))
      where
        others : (d : Real) (t : Plain) → before d t → concerns t.0 h.ssrc ≡ false → RxStands C.threshold a.rx.trip seen d (moved t)
        others d t stands none = record {
          key = stands.key;
          trip_is = stands.trip_is;
          mirrors = subst (RxMirrors C.threshold seen d.1) (stays_so t none) (keeps d.1 t stands.mirrors none);
        }
