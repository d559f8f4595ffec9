-- What a tick makes of the outgoing streams: some report, all that waits is stamped, and each is told its kind.
use Rattle.std.proofs.Common.{◌≡◌, ℕ, ◌≤◌, Bool, true, false, List, [], ◌∷◌, map, Option, Some, None, refl, ap, ◌∙◌, arith}
use Rattle.std.specs.Prelude.{is_some, if◌then◌else◌}
use Rattle.std.specs.List.{AllZip}
use Rattle.std.specs.Map.{keys_of}
use Rattle.rtx_core.specs.Ratio.{CapRecord}
use Rattle.stream_core.specs.declared.payload_types.TypeRow.{TypeRow}
use Rattle.stream_core.specs.declared.reports.TxReports.{TxReports}
use Rattle.stream_core.specs.Queue.{with_stamp}
use Rattle.stream_core.specs.Reporting.{tx_reported, with_kind}
use Rattle.stream_core.specs.Repairing.{RepairsRecord, repairs_of}
use Rattle.stream_core.specs.Tables.{each}
use Rattle.stream_core.specs.TxRecord.{TxRecord as StreamTx, after_timeout}
use Rattle.session_core.specs.Medias.{media_of}
use Rattle.session_core.specs.Reports.{reports_in, sender_after, is_sound, of_kind, told_kind}
use Rattle.session_core.specs.SessionRecord.{MediaRecord}
use Rattle.run_model.specs.Events.{Outgoing}
use Rattle.run_model.specs.TxPlay.{TxRecord}
use Rattle.session_turns.specs.Mirrors.{packet_at, IsRecent, MirrorsCap, MirrorsRepairs, TxMirrors}
use Rattle.session_turns.proofs.Lists.{map_map}

-- the outgoing streams after those of these media sections reported: all that waits is stamped, and each is told its kind
abbrev pub begun_tx : List MediaRecord → ℕ → List (List ℕ) → List (ℕ × StreamTx) → List (ℕ × StreamTx)
begun_tx medias now mids es = each (told_kind medias) (each (after_timeout now) (each (sender_after medias now mids) es))

same_keys : (f : StreamTx → StreamTx) (es : List (ℕ × StreamTx)) → keys_of (each f es) ≡ keys_of es
same_keys f [] = refl
same_keys f (e ∷ es) = ap (λ (ks : List ℕ). e.0 ∷ ks) (same_keys f es)

pub begun_keys : (medias : List MediaRecord) (now : ℕ) (mids : List (List ℕ)) (es : List (ℕ × StreamTx)) → keys_of (begun_tx medias now mids es) ≡ keys_of es
begun_keys medias now mids es =
    let said : List (ℕ × StreamTx) = each (sender_after medias now mids) es in
    same_keys (told_kind medias) (each (after_timeout now) said) ∙ same_keys (after_timeout now) said ∙ same_keys (sender_after medias now mids) es

-- at a later moment a mirror is one too
later_recent : (now time : ℕ) (all kept : List (ℕ × ℕ)) → now ≤ time → IsRecent now all kept → IsRecent time all kept
later_recent now time all kept later h = let past = h.past in record { moment = h.moment; past = omega arith; kept_is = h.kept_is }

later_cap : (now time : ℕ) (L : Outgoing) (t : TxRecord) (o : Option CapRecord) → now ≤ time → MirrorsCap now L t o → MirrorsCap time L t o
later_cap now time L t None later h = h
later_cap now time L t (Some c) later h = record {
  cap = h.cap;
  sent = later_recent now time t.sent c.sent later h.sent;
  resent = later_recent now time t.resent c.resent later h.resent;
  read_at = h.read_at;
  met = h.met;
}

later_repairs : (rows : List (ℕ × TypeRow)) (now time : ℕ) (L : Outgoing) (t : TxRecord) (o : Option RepairsRecord) → now ≤ time → MirrorsRepairs rows now L t o → MirrorsRepairs rows time L t o
later_repairs rows now time L t None later h = h
later_repairs rows now time L t (Some q) later h = record {
  has = h.has;
  resends = h.resends;
  next = h.next;
  cap = later_cap now time L t q.state.cap later h.cap;
  initial = h.initial;
  age = h.age;
  greatest_is = h.greatest_is;
  events = h.events;
}

module _ (rows : List (ℕ × TypeRow)) (medias : List MediaRecord) (now time : ℕ) (later : now ≤ time) (repairs : List (ℕ × RepairsRecord)) where
  one_stamped : (e : ℕ × StreamTx) (s : Outgoing × TxRecord) → TxMirrors rows medias now None repairs e s → TxMirrors rows medias time (Some time) repairs (e.0, after_timeout time e.1) s
  one_stamped e s h = record {
    key = h.key;
    ssrc = h.ssrc;
    rtx = h.rtx;
    mid = h.mid;
    queue = ap (map (with_stamp time)) h.queue ∙ map_map (with_stamp time) (packet_at None) s.1.queue;
    given = h.given;
    cached = h.cached;
    again = later_repairs rows now time s.0 s.1 (repairs_of e.1 repairs) later h.again;
  }

  -- reports, and the kind that a stream is told, are no part of its mirror
  counted : (stamp : Option ℕ) (at : ℕ) (k : ℕ) (x : StreamTx) (s : Outgoing × TxRecord) (counts : TxReports) → TxMirrors rows medias at stamp repairs (k, x) s
      → TxMirrors rows medias at stamp repairs (k, record x { reports = counts }) s
  counted stamp at k x s counts h = record {
    key = h.key;
    ssrc = h.ssrc;
    rtx = h.rtx;
    mid = h.mid;
    queue = h.queue;
    given = h.given;
    cached = h.cached;
    again = h.again;
  }

  reports_mirror : (b : Bool) (e : ℕ × StreamTx) (s : Outgoing × TxRecord) → TxMirrors rows medias now None repairs e s
      → TxMirrors rows medias now None repairs (e.0, if b then tx_reported time e.1 else e.1) s
  reports_mirror true e s h = counted None now e.0 e.1 s (tx_reported time e.1).reports h
  reports_mirror false e s h = h

  kind_mirrors : (told : Option Bool) (o : Option MediaRecord) (k : ℕ) (x : StreamTx) (s : Outgoing × TxRecord) → TxMirrors rows medias time (Some time) repairs (k, x) s
      → TxMirrors rows medias time (Some time) repairs (k, of_kind told o x) s
  kind_mirrors (Some told) o k x s h = h
  kind_mirrors None None k x s h = h
  kind_mirrors None (Some m) k x s h = counted (Some time) time k x s (with_kind (is_sound m.kind) x).reports h

  one_begun : (mids : List (List ℕ)) (e : ℕ × StreamTx) (s : Outgoing × TxRecord) → TxMirrors rows medias now None repairs e s
      → TxMirrors rows medias time (Some time) repairs (e.0, told_kind medias (after_timeout time (sender_after medias time mids e.1))) s
  one_begun mids e s h =
      let x : StreamTx = sender_after medias time mids e.1 in
      let y : StreamTx = after_timeout time x in
      kind_mirrors y.reports.clock.is_audio (media_of y.mid medias) e.0 y s
      (one_stamped (e.0, x) s (reports_mirror (is_some (reports_in mids medias e.1)) e s h))

  pub all_begun : (mids : List (List ℕ)) (es : List (ℕ × StreamTx)) (xs : List (Outgoing × TxRecord)) → AllZip (TxMirrors rows medias now None repairs) es xs
      → AllZip (TxMirrors rows medias time (Some time) repairs) (begun_tx medias time mids es) xs
  all_begun mids [] [] h = tt
  all_begun mids [] (x ∷ xs) h = absurd h
  all_begun mids (e ∷ es) [] h = absurd h
  all_begun mids (e ∷ es) (x ∷ xs) h = (one_begun mids e x h.0, all_begun mids es xs h.1)
