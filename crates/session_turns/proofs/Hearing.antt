-- RTCP that comes is a turn.
use Rattle.std.proofs.Common.{◌≡◌, ℕ, ◌≤◌, Bool, List, [], ◌∷◌, ◌++◌, Option, None, refl, sym, ap, ◌∙◌, subst}
use Rattle.std.specs.List.{AllZip, fold, flat_map}
use Rattle.std.specs.Map.{keys_of}
use Rattle.rtp_base.specs.declared.kind.Kind.TheVariants.{Rtcp}
use Rattle.rtcp_items.specs.declared.extended.DlrrItem.{DlrrItem as Delay}
use Rattle.rtcp_wire.specs.declared.rtcp_fb.RtcpFb.{RtcpFb}
use Rattle.rtcp_wire.specs.declared.rtcp_fb.RtcpFb.TheVariants.{SenderInfo, ReceptionReport, SourceDescription, Goodbye, Rrtr, DlrrItem, Nack, Pli, Fir, Twcc, Remb, AppSpecificFeedback}
use Rattle.report_core.specs.declared.loss.ReportedLoss.{ReportedLoss}
use Rattle.srtp_core.specs.Cipher.{CipherMeaning}
use Rattle.srtp_core.specs.RtcpSeals.{RtcpOpensTo, sealed_rtcp, stated_bit, stated_index}
use Rattle.stream_core.specs.declared.payload_types.TypeRow.{TypeRow}
use Rattle.stream_core.specs.declared.reports.TxReports.{TxReports}
use Rattle.stream_core.specs.Repairing.{RepairsRecord, repairs_of}
use Rattle.stream_core.specs.Tables.{place_of}
use Rattle.stream_core.specs.TxRecord.{TxRecord as StreamTx, told_by}
use Rattle.session_core.specs.declared.datagram.Opened.{Opened as Opening}
use Rattle.session_core.specs.Calls.{after_events}
use Rattle.session_core.specs.Hearing.{RtcpOpensIn, stated, feedback_in, tx_heard_by, tx_heard, AskedByAll, last_delay, ntp_of, measured, after_rtcp, ReceivesRtcp, opened as opened_so, stays as stays_so}
use Rattle.session_core.specs.SessionRecord.{MediaRecord, SessionRecord}
use Rattle.media_model.specs.declared.entry.Side.{Side}
use Rattle.media_model.specs.Sides.{peer_of}
use Rattle.run_model.specs.Events.{Outgoing, Incoming, got, opened_items}
use Rattle.run_model.specs.Seals.{Reporting, IsReport}
use Rattle.run_model.specs.Sending.{named_on}
use Rattle.run_model.specs.RxPlay.{RxRecord}
use Rattle.run_model.specs.TxPlay.{TxRecord}
use Rattle.run_model.specs.Asking.{trip_after}
use Rattle.run_model.specs.Tables.{Table, lines, Hears, none as hears_none, one as hears_one}
use Rattle.run_model.specs.Whole.{Config, Session, setup_of, hears, stays}
use Rattle.session_turns.specs.Laws.{TurnsTo, HearsTurn}
use Rattle.session_turns.specs.Mirrors.{TxMirrors, RxStands, RxMirror, rx_mirror, Mirrors}
use Rattle.session_turns.specs.Reading.{reporting_of, events_opened}
use Rattle.session_turns.proofs.Keys.{same_owns, keys_changed_at, zip_changed_at, zip_weaker}
use Rattle.session_turns.proofs.Later.{tx_later, keys_there, told_record, told_all}
use Rattle.session_turns.proofs.Asking.{Heard, heard_on}
use Rattle.session_turns.proofs.Queued.{Queued, queued_of}
use Rattle.session_turns.proofs.Trips.{told_trip, trip_told, all_told, all_measured}
use Rattle.session_turns.proofs.News.{all_news}

-- what a stream that sends is told leaves what waits

keys_by : (f : RtcpFb) (es : List (ℕ × StreamTx)) → keys_of (tx_heard_by f es) ≡ keys_of es
keys_by (ReceptionReport b) es = keys_changed_at (told_by (ReceptionReport b)) es (place_of b.ssrc es)
keys_by (SenderInfo a) es = refl
keys_by (SourceDescription a) es = refl
keys_by (Goodbye a) es = refl
keys_by (Rrtr a b) es = refl
keys_by (DlrrItem a) es = refl
keys_by (Nack a b) es = keys_changed_at (told_by (Nack a b)) es (place_of a es)
keys_by (Pli a) es = keys_changed_at (told_by (Pli a)) es (place_of a.ssrc es)
keys_by (Fir a) es = keys_changed_at (told_by (Fir a)) es (place_of a.ssrc es)
keys_by (Twcc a) es = refl
keys_by (Remb a b) es = refl
keys_by (AppSpecificFeedback a) es = refl

all_keys : (fs : List RtcpFb) (es : List (ℕ × StreamTx)) → keys_of (tx_heard fs es) ≡ keys_of es
all_keys [] es = refl
all_keys (f ∷ fs) es = all_keys fs (tx_heard_by f es) ∙ keys_by f es

module _ (rows : List (ℕ × TypeRow)) (medias : List MediaRecord) (now : ℕ) (repairs : List (ℕ × RepairsRecord)) where
  abbrev Stands : ℕ × StreamTx → Outgoing × TxRecord → Type 0
  Stands = TxMirrors rows medias now None repairs

  -- a stream of which only what it counts and what its peer knows changes
  same_stands : (x : StreamTx) (acknowledged : Bool) (reports : TxReports) (losses : Option (List ReportedLoss)) (k : ℕ) (s : Outgoing × TxRecord) → Stands (k, x) s
      → Stands (k, record x { acknowledged = acknowledged; reports = reports; losses = losses }) s
  same_stands x acknowledged reports losses k s h =
      record { key = h.key; ssrc = h.ssrc; rtx = h.rtx; mid = h.mid; queue = h.queue; given = h.given; cached = h.cached; again = h.again }

  told_stands : (f : RtcpFb) (e : ℕ × StreamTx) (s : Outgoing × TxRecord) → Stands e s → Stands (e.0, told_by f e.1) s
  told_stands (ReceptionReport b) e s h = same_stands e.1 (told_by (ReceptionReport b) e.1).acknowledged e.1.reports (told_by (ReceptionReport b) e.1).losses e.0 s h
  told_stands (Nack a b) e s h = same_stands e.1 e.1.acknowledged (told_by (Nack a b) e.1).reports e.1.losses e.0 s h
  told_stands (Pli a) e s h = same_stands e.1 e.1.acknowledged (told_by (Pli a) e.1).reports e.1.losses e.0 s h
  told_stands (Fir a) e s h = same_stands e.1 e.1.acknowledged (told_by (Fir a) e.1).reports e.1.losses e.0 s h
  told_stands (SenderInfo a) e s h = h
  told_stands (SourceDescription a) e s h = h
  told_stands (Goodbye a) e s h = h
  told_stands (Rrtr a b) e s h = h
  told_stands (DlrrItem a) e s h = h
  told_stands (Twcc a) e s h = h
  told_stands (Remb a b) e s h = h
  told_stands (AppSpecificFeedback a) e s h = h

  still_by : (f : RtcpFb) (es : List (ℕ × StreamTx)) (xs : Table) → AllZip Stands es xs → AllZip Stands (tx_heard_by f es) xs
  still_by (ReceptionReport b) es xs h = zip_changed_at Stands (told_by (ReceptionReport b)) (told_stands (ReceptionReport b)) es xs (place_of b.ssrc es) h
  still_by (Nack a b) es xs h = zip_changed_at Stands (told_by (Nack a b)) (told_stands (Nack a b)) es xs (place_of a es) h
  still_by (Pli a) es xs h = zip_changed_at Stands (told_by (Pli a)) (told_stands (Pli a)) es xs (place_of a.ssrc es) h
  still_by (Fir a) es xs h = zip_changed_at Stands (told_by (Fir a)) (told_stands (Fir a)) es xs (place_of a.ssrc es) h
  still_by (SenderInfo a) es xs h = h
  still_by (SourceDescription a) es xs h = h
  still_by (Goodbye a) es xs h = h
  still_by (Rrtr a b) es xs h = h
  still_by (DlrrItem a) es xs h = h
  still_by (Twcc a) es xs h = h
  still_by (Remb a b) es xs h = h
  still_by (AppSpecificFeedback a) es xs h = h

  still_all : (fs : List RtcpFb) (es : List (ℕ × StreamTx)) (xs : Table) → AllZip Stands es xs → AllZip Stands (tx_heard fs es) xs
  still_all [] es xs h = h
  still_all (f ∷ fs) es xs h = still_all fs (tx_heard_by f es) xs (still_by f es xs h)

-- each stream takes the NACKs on it

module _ (rows : List (ℕ × TypeRow)) (medias : List MediaRecord) (now time : ℕ) (le : now ≤ time) (items : List RtcpFb) (repairs after : List (ℕ × RepairsRecord))
    (asked : AskedByAll time items repairs after) where
  record HearsTo (es : List (ℕ × StreamTx)) (xs : Table) : Type 0 where
    streams : Table
    hears : Hears items xs streams
    zip : AllZip (TxMirrors rows medias time None after) es streams
    same : lines streams ≡ lines xs

  hears_to : (es : List (ℕ × StreamTx)) (xs : Table) → AllZip (TxMirrors rows medias now None repairs) es xs → HearsTo es xs
  hears_to [] [] h = record { streams = []; hears = hears_none; zip = h; same = refl }
  hears_to [] (s ∷ xs) h = absurd h
  hears_to (e ∷ es) [] h = absurd h
  hears_to (e ∷ es) (s ∷ xs) h =
      let k = h.0 in
      let rest : HearsTo es xs = hears_to es xs h.1 in
      let heard : Heard time (flat_map (named_on s.0.ssrc) items) (repairs_of e.1 repairs) (repairs_of e.1 after) =
      subst (λ (n : ℕ). Heard time (flat_map (named_on n) items) (repairs_of e.1 repairs) (repairs_of e.1 after)) k.ssrc (heard_on e.1 items repairs after asked) in
      let q : Queued rows time s.0 s.1 (flat_map (named_on s.0.ssrc) items) (repairs_of e.1 after) =
      queued_of rows now time le s.0 s.1 (flat_map (named_on s.0.ssrc) items) (repairs_of e.1 repairs) (repairs_of e.1 after) k.again heard in
      record {
        streams = (s.0, record (s.1) { resends = s.1.resends ++ q.queued }) ∷ rest.streams;
        hears = hears_one s.0 s.1 q.queued q.queues rest.hears;
        zip = (
          record { key = k.key; ssrc = k.ssrc; rtx = k.rtx; mid = k.mid; queue = k.queue; given = k.given; cached = k.cached; again = q.again },
          rest.zip,
        );
        same = ap (λ (ls : List Outgoing). s.0 ∷ ls) rest.same;
      }

module _ (cipher : CipherMeaning) (C : Config) (side : Side) (r : SessionRecord) (a : Session) (time : ℕ) (bytes : List ℕ) (h : Mirrors cipher C side r a) (le : a.rx.now ≤ time) where
  -- what opens, opens to a packet of the plain session
  report : (plain : List ℕ) → RtcpOpensIn cipher r.state.opening bytes plain → IsReport (C.reports (peer_of side)) bytes (stated r.state.opening bytes) (feedback_in plain)
  report plain opens =
      let to : RtcpOpensTo cipher h.other.profile h.other.keys bytes plain = subst (λ k. RtcpOpensIn cipher k bytes plain) h.opens opens in
      let base : IsReport (reporting_of cipher h.other) bytes (stated_index h.other.profile bytes) (feedback_in plain) =
      record { packet = plain; long = to.header; stated = refl; held = refl; sealed = to.seal } in
      subst (λ (n : ℕ). IsReport (C.reports (peer_of side)) bytes n (feedback_in plain)) (sym (ap (λ k. stated k bytes) h.opens))
      (subst (λ (R : Reporting). IsReport R bytes (stated_index h.other.profile bytes) (feedback_in plain)) (sym h.other_reports) base)

  unreported : ((plain : List ℕ) → RtcpOpensIn cipher r.state.opening bytes plain → ⊥) → (index : ℕ) (items : List RtcpFb) → IsReport (C.reports (peer_of side)) bytes index items → ⊥
  unreported not index items is =
      let of : IsReport (reporting_of cipher h.other) bytes index items = subst (λ (R : Reporting). IsReport R bytes index items) h.other_reports is in
      let to : RtcpOpensTo cipher h.other.profile h.other.keys bytes of.packet = record {
        header = of.long;
        seal = ap (λ (n : ℕ). sealed_rtcp cipher h.other.profile h.other.keys (stated_bit h.other.profile bytes) n of.packet) (sym of.stated) ∙ of.sealed;
      } in
      not of.packet (subst (λ k. RtcpOpensIn cipher k bytes of.packet) (sym h.opens) to)

  abbrev unheard : Session
  unheard = record { tx = a.tx; rx = record (a.rx) { now = time }; rtcp = a.rtcp }

  unheard_mirrors : Mirrors cipher C side (told_record r) unheard
  unheard_mirrors = record {
    own = h.own;
    other = h.other;
    seals = h.seals;
    opens = h.opens;
    own_seals = h.own_seals;
    other_seals = h.other_seals;
    own_reports = h.own_reports;
    other_reports = h.other_reports;
    index = h.index;
    bounded = h.bounded;
    types = h.types;
    trip = h.trip;
    owns = h.owns;
    outgoing = h.outgoing;
    incoming = h.incoming;
    tx =
        zip_weaker (TxMirrors r.state.types r.state.medias a.rx.now None r.repairs) (TxMirrors r.state.types r.state.medias time None r.repairs)
        (tx_later r.state.types a.rx.now time le r.state.medias None r.repairs) r.state.tx a.tx h.tx;
    rx = go a.rx.table h.rx;
    originals = h.originals;
    sections = h.sections;
    known = h.known;
    last_round = h.last_round;
    target = h.target;
    feedback = h.feedback;
    released = h.released;
    application = refl;
    packet = refl;
  }
    where
      go : (table : List (Incoming × RxRecord)) → RxMirror C.threshold a.rx.trip r table → RxMirror C.threshold a.rx.trip (told_record r) table
      go _ (rx_mirror s rest is probes others) = rx_mirror s rest is probes (all_told C.threshold r.seen a.rx.trip r.rx rest others)

  hears_nothing : ((plain : List ℕ) → RtcpOpensIn cipher r.state.opening bytes plain → ⊥) → TurnsTo cipher C side r a (after_events r) (got time Rtcp bytes ∷ [])
  hears_nothing not =
      subst (λ (s : SessionRecord). TurnsTo cipher C side r a s (got time Rtcp bytes ∷ [])) (sym (told_all r (keys_there r.state h.seals h.opens))) (record {
        session = unheard;
        turn = stays time Rtcp bytes le (λ e s there ssrc n p opens. absurd (cc e)) (λ e index items is. unreported not index items is);
        mirrors = unheard_mirrors;
        types = refl;
        exts = refl;
        runs = refl;
      })

  module _ (plain : List ℕ) (repairs : List (ℕ × RepairsRecord)) (asked : AskedByAll time (feedback_in plain) r.repairs repairs) where
    abbrev items : List RtcpFb
    items = feedback_in plain

    abbrev delay : Option Delay
    delay = last_delay r.state.local_ssrc r.state.tx items None

    abbrev trip : Option ℕ
    trip = fold (trip_after (setup_of C side) time) a.rx.trip items

    abbrev left : SessionRecord
    left = after_rtcp time plain repairs r

    hears_all : HearsTo r.state.types r.state.medias a.rx.now time le items r.repairs repairs asked r.state.tx a.tx
    hears_all = hears_to r.state.types r.state.medias a.rx.now time le items r.repairs repairs asked r.state.tx a.tx h.tx

    abbrev heard : Session
    heard = record { tx = hears_all.streams; rx = record (a.rx) { now = time; trip = trip }; rtcp = a.rtcp }

    rx_heard : (table : List (Incoming × RxRecord)) → RxMirror C.threshold a.rx.trip r table → RxMirror C.threshold trip (told_record left) table
    rx_heard _ (rx_mirror s rest is probes others) =
        let ntp : ℕ = ntp_of r.state time in
        rx_mirror s rest is probes
        (all_told C.threshold r.seen trip left.rx rest
        (all_news C.threshold r.seen trip time items (measured ntp delay r.rx) rest
        (subst (λ (o : Option ℕ). AllZip (RxStands C.threshold o r.seen) (measured ntp delay r.rx) rest) (trip_told C side r.state.local_ssrc r.state.tx time h.owns a.rx.trip items)
        (all_measured C.threshold r.seen a.rx.trip ntp (told_trip C side r.state.local_ssrc r.state.tx time h.owns) (λ o. refl) (λ o d. ap {A = ℕ → Delay → Option ℕ} {B = Option ℕ} (λ f. f time d) h.trip)
        delay r.rx rest others))))

    heard_mirrors : Mirrors cipher C side (told_record left) heard
    heard_mirrors = record {
      own = h.own;
      other = h.other;
      seals = h.seals;
      opens = h.opens;
      own_seals = h.own_seals;
      other_seals = h.other_seals;
      own_reports = h.own_reports;
      other_reports = h.other_reports;
      index = h.index;
      bounded = h.bounded;
      types = h.types;
      trip = h.trip;
      owns = h.owns ∙ sym (same_owns r.state.local_ssrc (tx_heard items r.state.tx) r.state.tx (all_keys items r.state.tx));
      outgoing = hears_all.same ∙ h.outgoing;
      incoming = h.incoming;
      tx = still_all r.state.types r.state.medias time repairs items r.state.tx hears_all.streams hears_all.zip;
      rx = rx_heard a.rx.table h.rx;
      originals = h.originals;
      sections = h.sections;
      known = h.known;
      last_round = h.last_round;
      target = h.target;
      feedback = h.feedback;
      released = h.released;
      application = refl;
      packet = refl;
    }

    hears_packet : (opens : RtcpOpensIn cipher r.state.opening bytes plain)
        → TurnsTo cipher C side r a (after_events left) (got time Rtcp bytes ∷ opened_items (stated r.state.opening bytes) items ∷ [])
    hears_packet opens =
        subst (λ (s : SessionRecord). TurnsTo cipher C side r a s (got time Rtcp bytes ∷ opened_items (stated r.state.opening bytes) items ∷ []))
        (sym (told_all left (keys_there left.state h.seals h.opens))) (record {
          session = heard;
          turn = hears time bytes (stated r.state.opening bytes) items le (report plain opens) hears_all.hears;
          mirrors = heard_mirrors;
          types = refl;
          exts = refl;
          runs = refl;
        })

  hears_so : (after : SessionRecord) (o : Option Opening) → ReceivesRtcp cipher r bytes time after o
      → TurnsTo cipher C side r a (after_events after) (got time Rtcp bytes ∷ events_opened r.state.transport.exts o None)
  hears_so _ _ (opened_so plain repairs opens asked) = hears_packet plain repairs asked opens
  hears_so _ _ (stays_so not) = hears_nothing not

pub hears_turn : HearsTurn
hears_turn cipher C side r after a time bytes o fit h le small receives = hears_so cipher C side r a time bytes h le after o receives
