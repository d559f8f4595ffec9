-- A request to the sender of a stream is a turn.
use Rattle.std.proofs.Common.{ℕ, zero, suc, ◌≤◌, List, [], ◌∷◌, Option, None, refl}
use Rattle.std.specs.List.{AllZip}
use Rattle.srtp_core.specs.Cipher.{CipherMeaning}
use Rattle.stream_core.specs.declared.requests.RxRequests.{RxRequests}
use Rattle.stream_core.specs.Pauses.{on_record}
use Rattle.stream_core.specs.RxRecord.{RxRecord as StreamRx}
use Rattle.stream_core.specs.Tables.{change_place}
use Rattle.session_core.specs.SessionRecord.{SessionRecord}
use Rattle.media_model.specs.declared.entry.Side.{Side}
use Rattle.run_model.specs.Events.{Incoming, called}
use Rattle.run_model.specs.RxPlay.{RxRecord}
use Rattle.run_model.specs.Whole.{Config, Session, requests}
use Rattle.session_turns.specs.Laws.{TurnsTo, requesting, RequestsTurn}
use Rattle.session_turns.specs.Mirrors.{TxMirrors, RxStands, RxMirror, rx_mirror, Mirrors}
use Rattle.session_turns.proofs.Keys.{zip_weaker}
use Rattle.session_turns.proofs.Later.{tx_later}

-- what a stream asks of its sender is not mirrored
module _ (threshold : ℕ) (trip : Option ℕ) (seen : List (ℕ × List ℕ)) (f : RxRequests → RxRequests) where
  one_stands : (e : ℕ × StreamRx) (s : Incoming × RxRecord) → RxStands threshold trip seen e s → RxStands threshold trip seen (e.0, on_record (requesting f) e.1) s
  one_stands e s h =
      let m = h.mirrors in
      record {
        key = h.key;
        trip_is = h.trip_is;
        mirrors = record {
          ssrc = m.ssrc;
          roc = m.roc;
          suppressed = m.suppressed;
          threshold_is = m.threshold_is;
          pause = m.pause;
          numbers = m.numbers;
          begun = m.begun;
          repairs = m.repairs;
          seen_main = m.seen_main;
          seen_rtx = m.seen_rtx;
        };
      }

  all_stand : (es : List (ℕ × StreamRx)) (ss : List (Incoming × RxRecord)) (place : ℕ) → AllZip (RxStands threshold trip seen) es ss
      → AllZip (RxStands threshold trip seen) (change_place (on_record (requesting f)) es place) ss
  all_stand [] [] place h = h
  all_stand [] (s ∷ ss) place h = absurd h
  all_stand (e ∷ es) [] place h = absurd h
  all_stand (e ∷ es) (s ∷ ss) zero h = (one_stands e s h.0, h.1)
  all_stand (e ∷ es) (s ∷ ss) (suc place) h = (h.0, all_stand es ss place h.1)

module _ (cipher : CipherMeaning) (C : Config) (side : Side) (r : SessionRecord) (a : Session) (place time : ℕ) (f : RxRequests → RxRequests) (h : Mirrors cipher C side r a) (le : a.rx.now ≤ time) where
  abbrev left : SessionRecord
  left = record r { rx = change_place (on_record (requesting f)) r.rx place }

  abbrev later : Session
  later = record { tx = a.tx; rx = record (a.rx) { now = time }; rtcp = a.rtcp }

  rx_left : (table : List (Incoming × RxRecord)) → RxMirror C.threshold a.rx.trip r table → RxMirror C.threshold a.rx.trip left table
  rx_left _ (rx_mirror s rest is probes others) = rx_mirror s rest is probes (all_stand C.threshold a.rx.trip r.seen f r.rx rest place others)

  left_mirrors : Mirrors cipher C side left later
  left_mirrors = record {
    own = h.own;
    other = h.other;
    seals = h.seals;
    opens = h.opens;
    own_seals = h.own_seals;
    other_seals = h.other_seals;
    own_reports = h.own_reports;
    other_reports = h.other_reports;
    index = h.index;
    bounded = h.bounded;
    types = h.types;
    trip = h.trip;
    owns = h.owns;
    outgoing = h.outgoing;
    incoming = h.incoming;
    tx =
        zip_weaker (TxMirrors r.state.types r.state.medias a.rx.now None r.repairs) (TxMirrors r.state.types r.state.medias time None r.repairs)
        (tx_later r.state.types a.rx.now time le r.state.medias None r.repairs) r.state.tx a.tx h.tx;
    rx = rx_left a.rx.table h.rx;
    originals = h.originals;
    sections = h.sections;
    known = h.known;
    last_round = h.last_round;
    target = h.target;
    feedback = h.feedback;
    released = h.released;
    application = h.application;
    packet = h.packet;
  }

  requests_so : TurnsTo cipher C side r a left (called time ∷ [])
  requests_so = record {
    session = later;
    turn = requests time le;
    mirrors = left_mirrors;
    types = refl;
    exts = refl;
    runs = refl;
  }

pub requests_turn : RequestsTurn
requests_turn cipher C side r a place time f fit h le = requests_so cipher C side r a place time f h le
