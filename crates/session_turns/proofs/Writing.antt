-- A write is a turn.
use Rattle.std.proofs.Common.{◌≡◌, inl, inr, ℕ, zero, suc, ◌≤◌, Bool, true, false, cond, ◌||◌, List, [], ◌∷◌, ◌++◌, map, slice_get, Some, None, refl, sym, ap, ◌∙◌, subst}
use Rattle.std.specs.Prelude.{◌==◌}
use Rattle.std.specs.List.{AllZip}
use Rattle.std.specs.Map.{keys_of}
use Rattle.std.proofs.lemmas.Bool.{eqb-true, eq-eqb, false≢true}
use Rattle.std.proofs.lemmas.List.{map-append}
use Rattle.std.proofs.lemmas.Option.{none-some, same_Some}
use Rattle.stream_core.specs.declared.payload_types.TypeRow.{TypeRow}
use Rattle.stream_core.specs.Repairing.{RepairsRecord, repairs_of}
use Rattle.stream_core.specs.Tables.{change_place}
use Rattle.stream_core.specs.TxRecord.{TxRecord as StreamTx, written}
use Rattle.stream_core.specs.Write.{packet_of}
use Rattle.session_core.specs.SessionRecord.{MediaRecord}
use Rattle.media_model.specs.declared.entry.Write.{Write}
use Rattle.run_model.specs.Events.{Outgoing}
use Rattle.run_model.specs.TxPlay.{TxRecord, after_write}
use Rattle.run_model.specs.Tables.{Table, lines, has, AllStrange, AreApart, written_to}
use Rattle.run_model.specs.Whole.{writes}
use Rattle.session_turns.specs.Laws.{WritesTurn}
use Rattle.session_turns.specs.Mirrors.{IsGiven, write_at, packet_at, TxMirrors}
use Rattle.session_turns.proofs.Keys.{left_false, key_at, keys_changed, same_owns, all_push}
use Rattle.session_turns.proofs.Later.{again_later, tx_later, rx_still}
use Rattle.rtp_base.specs.Window.{is_just}
use Rattle.session_turns.proofs.Tests.{tested}

has_own : (L : Outgoing) (ssrc : ℕ) → ssrc ≡ L.ssrc → has L ssrc ≡ true
has_own L ssrc is = ap (λ (b : Bool). b || is_just ssrc L.rtx) (eq-eqb ssrc L.ssrc is)

pub lines_written : (w : Write) (xs : Table) → lines (map (written_to w) xs) ≡ lines xs
lines_written w [] = refl
lines_written w (s ∷ xs) = ap (λ (ls : List Outgoing). s.0 ∷ ls) (lines_written w xs)

module _ (rows : List (ℕ × TypeRow)) (medias : List MediaRecord) (now time : ℕ) (le : now ≤ time) (repairs : List (ℕ × RepairsRecord)) (w : Write) (given : IsGiven w.ssrc w) where
  abbrev Before : ℕ × StreamTx → Outgoing × TxRecord → Type 0
  Before = TxMirrors rows medias now None repairs

  abbrev After : ℕ × StreamTx → Outgoing × TxRecord → Type 0
  After = TxMirrors rows medias time None repairs

  abbrev put : StreamTx → StreamTx
  put = written (write_at time w)

  written_here : (s : Outgoing × TxRecord) → w.ssrc ≡ s.0.ssrc → written_to w s ≡ (s.0, after_write w s.1)
  written_here s is = ap {A = Bool} {B = Outgoing × TxRecord} (λ b. (s.0, cond b (after_write w s.1) s.1)) (eq-eqb w.ssrc s.0.ssrc is)

  written_other : (s : Outgoing × TxRecord) → (w.ssrc == s.0.ssrc) ≡ false → written_to w s ≡ s
  written_other s other = ap {A = Bool} {B = Outgoing × TxRecord} (λ b. (s.0, cond b (after_write w s.1) s.1)) other

  here : (e : ℕ × StreamTx) (s : Outgoing × TxRecord) → w.ssrc ≡ s.0.ssrc → Before e s → After (e.0, put e.1) (written_to w s)
  here e s is h =
      subst (After (e.0, put e.1)) (sym (written_here s is)) (record {
        key = h.key;
        ssrc = h.ssrc;
        rtx = h.rtx;
        mid = h.mid;
        queue = ap (λ (n : ℕ). e.1.queue ++ packet_of n (write_at time w) ∷ []) (h.ssrc ∙ sym is)
            ∙ ap (λ q. q ++ packet_at None w ∷ []) h.queue
            ∙ sym (map-append (packet_at None) s.1.queue (w ∷ []));
        given = all_push (IsGiven s.0.ssrc) s.1.queue w h.given (subst (λ (n : ℕ). IsGiven n w) is given);
        cached = h.cached;
        again = again_later rows now time le s.0 s.1 (s.1.written ++ w.number ∷ []) (s.1.queue ++ w ∷ []) (repairs_of e.1 repairs) h.again;
      })

  other_here : (e : ℕ × StreamTx) (s : Outgoing × TxRecord) → (w.ssrc == s.0.ssrc) ≡ false → Before e s → After e (written_to w s)
  other_here e s other h = subst (After e) (sym (written_other s other)) (tx_later rows now time le medias None repairs e s h)

  beside : (es : List (ℕ × StreamTx)) (ss : Table) (L : Outgoing) → w.ssrc ≡ L.ssrc → AllStrange L (lines ss) → AllZip Before es ss → AllZip After es (map (written_to w) ss)
  beside [] [] L is strange h = h
  beside [] (s ∷ ss) L is strange h = absurd h
  beside (e ∷ es) [] L is strange h = absurd h
  beside (e ∷ es) (s ∷ ss) L is strange h = (
    other_here e s (left_false (w.ssrc == s.0.ssrc) (is_just w.ssrc s.0.rtx) (strange.0 w.ssrc (has_own L w.ssrc is))) h.0,
    beside es ss L is strange.1 h.1,
  )

  strange_at : (es : List (ℕ × StreamTx)) (ss : Table) (i : ℕ) (L : Outgoing) → slice_get (keys_of es) i ≡ Some w.ssrc → AllStrange L (lines ss) → AllZip Before es ss
      → (w.ssrc == L.ssrc) ≡ false
  strange_at [] ss i L at strange h = absurd (none-some w.ssrc at)
  strange_at (e ∷ es) [] i L at strange h = absurd h
  strange_at (e ∷ es) (s ∷ ss) zero L at strange h =
      elim (tested (w.ssrc == L.ssrc)) [
        | inl t ↦
            let no : has s.0 w.ssrc ≡ false = strange.0 w.ssrc (has_own L w.ssrc (eqb-true w.ssrc L.ssrc t)) in
            let yes : has s.0 w.ssrc ≡ true = has_own s.0 w.ssrc (sym (same_Some e.0 w.ssrc at) ∙ h.0.key) in
            absurd (false≢true (sym no ∙ yes))
        | inr t ↦ t
      ]
  strange_at (e ∷ es) (s ∷ ss) (suc i) L at strange h = strange_at es ss i L at strange.1 h.1

  pub put_zip : (es : List (ℕ × StreamTx)) (ss : Table) (i : ℕ) → slice_get (keys_of es) i ≡ Some w.ssrc → AreApart (lines ss) → AllZip Before es ss
      → AllZip After (change_place put es i) (map (written_to w) ss)
  put_zip [] ss i at apart h = absurd (none-some w.ssrc at)
  put_zip (e ∷ es) [] i at apart h = absurd h
  put_zip (e ∷ es) (s ∷ ss) zero at apart h =
      let is : w.ssrc ≡ s.0.ssrc = sym (same_Some e.0 w.ssrc at) ∙ h.0.key in
      (here e s is h.0, beside es ss s.0 is apart.1.0 h.1)
  put_zip (e ∷ es) (s ∷ ss) (suc i) at apart h =
      (other_here e s (strange_at es ss i s.0 at apart.1.0 h.1) h.0, put_zip es ss i at apart.1.1 h.1)

pub writes_turn : WritesTurn
writes_turn cipher C side r a place time w fit h le given unused there =
    let put : StreamTx → StreamTx = written (write_at time w) in
    record {
      session = record { tx = map (written_to w) a.tx; rx = record (a.rx) { now = time }; rtcp = a.rtcp };
      turn = writes time w le unused;
      mirrors = record {
        own = h.own;
        other = h.other;
        seals = h.seals;
        opens = h.opens;
        own_seals = h.own_seals;
        other_seals = h.other_seals;
        own_reports = h.own_reports;
        other_reports = h.other_reports;
        index = h.index;
        bounded = h.bounded;
        types = h.types;
        trip = h.trip;
        owns = h.owns ∙ sym (same_owns r.state.local_ssrc (change_place put r.state.tx place) r.state.tx (keys_changed put r.state.tx place));
        outgoing = lines_written w a.tx ∙ h.outgoing;
        incoming = h.incoming;
        tx = put_zip r.state.types r.state.medias a.rx.now time le r.repairs w given r.state.tx a.tx place (key_at w.ssrc (keys_of r.state.tx) place there)
            (subst AreApart (sym h.outgoing) (fit.apart side)) h.tx;
        rx = rx_still C.threshold a.rx.trip r (record r.state { tx = change_place put r.state.tx place }) r.repairs a.rx.table h.rx;
        originals = h.originals;
        sections = h.sections;
        known = h.known;
        last_round = h.last_round;
        target = h.target;
        feedback = h.feedback;
        released = h.released;
        application = h.application;
        packet = h.packet;
      };
      types = refl;
      exts = refl;
      runs = refl;
    }
