-- What mirrors a plain session goes on to do so as time passes.
use Rattle.std.proofs.Common.{◌≡◌, ℕ, ◌≤◌, List, Option, Some, None, is_none, ap, ◌∙◌, arith, cond, ◌||◌, false}
use Rattle.rtx_core.specs.Ratio.{CapRecord}
use Rattle.stream_core.specs.declared.payload_types.TypeRow.{TypeRow}
use Rattle.stream_core.specs.Repairing.{RepairsRecord, repairs_of}
use Rattle.stream_core.specs.TxRecord.{TxRecord as StreamTx}
use Rattle.srtp_core.specs.Contexts.{SrtpState}
use Rattle.stream_core.specs.Pauses.{on_record, told as stream_told}
use Rattle.stream_core.specs.Tables.{each}
use Rattle.session_core.specs.Calls.{lacks_keys, silenced, after_events}
use Rattle.session_core.specs.SessionRecord.{MediaRecord, SessionState, SessionRecord}
use Rattle.media_model.specs.declared.entry.Write.{Write}
use Rattle.run_model.specs.Events.{Outgoing, Incoming}
use Rattle.run_model.specs.RxPlay.{RxRecord}
use Rattle.run_model.specs.TxPlay.{TxRecord}
use Rattle.session_turns.specs.Mirrors.{IsRecent, MirrorsCap, MirrorsRepairs, TxMirrors, RxMirror, rx_mirror}

-- all but what was written, what waits and what is sent again
abbrev pub changed : TxRecord → List ℕ → List Write → List ℕ → TxRecord
changed t written queue resends = record t { written = written; queue = queue; resends = resends }

module _ (rows : List (ℕ × TypeRow)) (now time : ℕ) (le : now ≤ time) where
  recent_later : (all kept : List (ℕ × ℕ)) → IsRecent now all kept → IsRecent time all kept
  recent_later all kept h = let past = h.past in record { moment = h.moment; past = omega (arith, past, le); kept_is = h.kept_is }

  pub cap_later : (L : Outgoing) (t : TxRecord) (written : List ℕ) (queue : List Write) (resends : List ℕ) (c : Option CapRecord)
      → MirrorsCap now L t c → MirrorsCap time L (changed t written queue resends) c
  cap_later L t written queue resends None h = h
  cap_later L t written queue resends (Some c) h = record {
    cap = h.cap;
    sent = recent_later t.sent c.sent h.sent;
    resent = recent_later t.resent c.resent h.resent;
    read_at = h.read_at;
    met = h.met;
  }

  pub again_later : (L : Outgoing) (t : TxRecord) (written : List ℕ) (queue : List Write) (o : Option RepairsRecord)
      → MirrorsRepairs rows now L t o → MirrorsRepairs rows time L (changed t written queue t.resends) o
  again_later L t written queue None h = record { has = h.has; resends = h.resends; store = h.store }
  again_later L t written queue (Some q) h = record {
    has = h.has;
    resends = h.resends;
    next = h.next;
    cap = cap_later L t written queue t.resends q.state.cap h.cap;
    initial = h.initial;
    age = h.age;
    greatest_is = h.greatest_is;
    events = h.events;
  }

  pub tx_later : (medias : List MediaRecord) (stamp : Option ℕ) (repairs : List (ℕ × RepairsRecord)) (e : ℕ × StreamTx) (s : Outgoing × TxRecord)
      → TxMirrors rows medias now stamp repairs e s → TxMirrors rows medias time stamp repairs e s
  tx_later medias stamp repairs e s h = record {
    key = h.key;
    ssrc = h.ssrc;
    rtx = h.rtx;
    mid = h.mid;
    queue = h.queue;
    given = h.given;
    cached = h.cached;
    again = again_later s.0 s.1 s.1.written s.1.queue (repairs_of e.1 repairs) h.again;
  }

-- the incoming streams do not depend on the rest of a session
pub rx_still : (threshold : ℕ) (trip : Option ℕ) (r : SessionRecord) (state : SessionState) (repairs : List (ℕ × RepairsRecord)) (table : List (Incoming × RxRecord))
    → RxMirror threshold trip r table → RxMirror threshold trip (record r { state = state; repairs = repairs }) table
rx_still threshold trip r state repairs _ (rx_mirror s rest is probes others) = rx_mirror s rest is probes others

-- there are keys
pub keys_there : (s : SessionState) {a b : SrtpState} → s.sealing ≡ Some a → s.opening ≡ Some b → lacks_keys s ≡ false
keys_there s seals keyed = ap (λ x. is_none x || is_none s.opening) seals ∙ ap is_none keyed

-- and all is told
abbrev pub told_record : SessionRecord → SessionRecord
told_record s = record s { state = silenced s.state; rx = each (on_record stream_told) s.rx }

pub told_all : (s : SessionRecord) → lacks_keys s.state ≡ false → after_events s ≡ told_record s
told_all s keys = λ j. record s {
  state = cond (keys j) s.state (silenced s.state);
  rx = cond (keys j) s.rx (each (on_record stream_told) s.rx);
}
