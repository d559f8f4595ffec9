-- A session with all the streams of its setup mirrors the plain session of it.
use Rattle.std.proofs.Common.{◌≡◌, inl, inr, ℕ, Bool, false, ◌||◌, List, [], ◌∷◌, ◌++◌, map, nat_eq, Option, Some, None, is_some, refl, sym, ap, ◌∙◌, subst, ◌≤◌, ◌^◌, arith}
use Rattle.std.specs.Prelude.{◌==◌, option_and_then, option_to_list}
use Rattle.std.specs.List.{AllByRecursion, AllZip, flat_map}
use Rattle.std.specs.Map.{keys_of}
use Rattle.std.proofs.lemmas.Bool.{eq-eqb, eqb-true}
use Rattle.rtcp_items.specs.declared.extended.DlrrItem.{DlrrItem as Delay}
use Rattle.rtp_wire.specs.declared.extension.ExtensionMap.{ExtensionMap}
use Rattle.media_units.specs.declared.wallclock.Beginning.{Beginning}
use Rattle.media_units.specs.Wallclock.{ntp_nanos}
use Rattle.rtx_core.specs.Ratio.{uncounted}
use Rattle.rtx_core.specs.Resends.{created, recached, recapped}
use Rattle.srtp_core.specs.Cipher.{CipherMeaning}
use Rattle.srtp_core.specs.Contexts.{new_state}
use Rattle.stream_core.specs.declared.payload_types.TypeRow.{TypeRow}
use Rattle.stream_core.specs.Repairing.{RepairsRecord, repairs_of}
use Rattle.stream_core.specs.Tables.{value_under}
use Rattle.stream_core.specs.TxRecord.{TxRecord as StreamTx}
use Rattle.session_core.specs.Hearing.{is_own, trip_of}
use Rattle.session_core.specs.SessionRecord.{MediaRecord, SessionRecord}
use Rattle.session_turns.specs.Reading.{sealing_of as seals_of}
use Rattle.session_turns.specs.Mirrors.{ExpectsNone, TxMirrors, MirrorsRepairs, MirrorsCap, RxMirrors, RxStands, rx_mirror, Mirrors}
use Rattle.media_model.specs.declared.entry.Side.{Side}
use Rattle.media_model.specs.declared.setup.Setup.{Setup}
use Rattle.media_model.specs.Setup.{material_of, local_of, streams_of, types_of as type_numbers}
use Rattle.run_model.specs.Listing.{NoRepeat, IsIn}
use Rattle.media_model.specs.Sides.{peer_of}
use Rattle.run_model.specs.Events.{Outgoing, Incoming}
use Rattle.run_model.specs.RxPlay.{new_rx}
use Rattle.run_model.specs.TxPlay.{new_tx}
use Rattle.run_model.specs.Transcripts.{outgoing_of}
use Rattle.run_model.specs.Whole.{incoming_of, probes, new_session}
use Rattle.media_play.proofs.Lists.{IsIn-right, IsIn-flat_map, tested}
use Rattle.media_laws.specs.Config.{config_of, owns}
use Rattle.media_laws.specs.Keys.{is_left, sealing_of}
use Rattle.media_laws.specs.Rules.{has}
use Rattle.media_play.specs.Ends.{EndSession}
use Rattle.media_play.specs.Starting.{AreOnce, ssrcs_in, IsIdle, kept_for, kept_in, IsSection, Begun, Starts, IsStarted}
use Rattle.media_play.proofs.StartingLists.{zip_keys, zip_map, place_in, value_first, value_next, NoRepeat-right}
use Rattle.media_play.proofs.StartingFit.{fits}
use Rattle.media_play.proofs.StartingSetup.{Facts, mains_of, same_types, type_places}

cap_new : (L : Outgoing) (cap : Option ℕ) → L.cap ≡ cap → MirrorsCap 0 L (new_tx L) (recapped cap (Some (uncounted 15)))
cap_new L None is = is
cap_new L (Some hundredths) is = record {
  cap = is;
  sent = record { moment = 0; past = omega arith; kept_is = refl };
  resent = record { moment = 0; past = omega arith; kept_is = refl };
  read_at = refl;
  met = refl;
}

-- what a stream keeps is what was declared for it
kept_first : (M L : Outgoing) (rtx : ℕ) (rest : List (ℕ × RepairsRecord)) → L ≡ M → L.rtx ≡ Some rtx → value_under L.ssrc (kept_in M ++ rest) ≡ Some (recached L.packets L.age L.cap (created L.start))
kept_first M L rtx rest same has =
    subst (λ (K : Outgoing). value_under L.ssrc (kept_in K ++ rest) ≡ Some (recached L.packets L.age L.cap (created L.start))) same
    (subst (λ (o : Option ℕ). value_under L.ssrc (kept_for L o ++ rest) ≡ Some (recached L.packets L.age L.cap (created L.start))) (sym has)
    (value_first L.ssrc (L.ssrc, recached L.packets L.age L.cap (created L.start)) rest (eq-eqb L.ssrc L.ssrc refl)))

kept_later : (M : Outgoing) (k : ℕ) (o : Option ℕ) (rest : List (ℕ × RepairsRecord)) → nat_eq k M.ssrc ≡ false → value_under k (kept_for M o ++ rest) ≡ value_under k rest
kept_later M k None rest other = refl
kept_later M k (Some rtx) rest other = value_next k (M.ssrc, recached M.packets M.age M.cap (created M.start)) rest other

kept_value : (Ls : List Outgoing) (L : Outgoing) (rtx : ℕ) → IsIn L Ls → AreOnce Ls → L.rtx ≡ Some rtx → value_under L.ssrc (flat_map kept_in Ls) ≡ Some (recached L.packets L.age L.cap (created L.start))
kept_value [] L rtx i once has = absurd i
kept_value (M ∷ Ls) L rtx (inl e) once has = kept_first M L rtx (flat_map kept_in Ls) e has
kept_value (M ∷ Ls) L rtx (inr i) once has =
    let other : nat_eq L.ssrc M.ssrc ≡ false = elim (tested (nat_eq L.ssrc M.ssrc)) [
      | inl t ↦ absurd (once.0 (IsIn-right M.ssrc (option_to_list M.rtx) (flat_map ssrcs_in Ls) (subst (λ n. IsIn n (flat_map ssrcs_in Ls)) (eqb-true L.ssrc M.ssrc t) (IsIn-flat_map ssrcs_in L L.ssrc Ls i (inl refl)))))
      | inr t ↦ t
    ] in
    kept_later M L.ssrc M.rtx (flat_map kept_in Ls) other ∙ kept_value Ls L rtx i (NoRepeat-right (ssrcs_in M) (flat_map ssrcs_in Ls) once) has

again_for : (rows : List (ℕ × TypeRow)) (L : Outgoing) (qs : List (ℕ × RepairsRecord)) (o : Option ℕ) → L.rtx ≡ o
    → ((rtx : ℕ) → L.rtx ≡ Some rtx → value_under L.ssrc qs ≡ Some (recached L.packets L.age L.cap (created L.start)))
    → MirrorsRepairs rows 0 L (new_tx L) (option_and_then (λ (rtx : ℕ). value_under L.ssrc qs) o)
again_for rows L qs None is kept = record { has = is; resends = refl; store = refl }
again_for rows L qs (Some rtx) is kept =
    subst (MirrorsRepairs rows 0 L (new_tx L)) (sym (kept rtx is))
    (record { has = ap is_some is; resends = refl; next = refl; cap = cap_new L L.cap refl; initial = refl; age = refl; greatest_is = refl; events = refl })

module _ (rows : List (ℕ × TypeRow)) (medias : List MediaRecord) (qs : List (ℕ × RepairsRecord)) (Ls : List Outgoing) (once : AreOnce Ls) (are : qs ≡ flat_map kept_in Ls) where
  idle_mirrors : (e : ℕ × StreamTx) (L : Outgoing) → IsIn L Ls → IsIdle medias e L → TxMirrors rows medias 0 None qs e (L, new_tx L)
  idle_mirrors e L i k =
      let same : repairs_of e.1 qs ≡ option_and_then (λ (rtx : ℕ). value_under L.ssrc (flat_map kept_in Ls)) L.rtx =
      λ j. option_and_then (λ (rtx : ℕ). value_under (k.ssrc j) (are j)) (k.rtx j) in
      record {
        key = k.key;
        ssrc = k.ssrc;
        rtx = k.rtx;
        mid = k.mid;
        queue = k.queue;
        given = tt;
        cached = tt;
        again = subst (MirrorsRepairs rows 0 L (new_tx L)) (sym same) (again_for rows L (flat_map kept_in Ls) L.rtx refl (λ rtx has. kept_value Ls L rtx i once has));
      }

  all_mirror : (es : List (ℕ × StreamTx)) (Ms : List Outgoing) → ((L : Outgoing) → IsIn L Ms → IsIn L Ls) → AllZip (IsIdle medias) es Ms
      → AllZip (TxMirrors rows medias 0 None qs) es (map (λ L. (L, new_tx L)) Ms)
  all_mirror [] [] says h = tt
  all_mirror [] (M ∷ Ms) says h = absurd h
  all_mirror (e ∷ es) [] says h = absurd h
  all_mirror (e ∷ es) (M ∷ Ms) says h = (idle_mirrors e M (says M (inl refl)) h.0, all_mirror es Ms (λ L i. says L (inr i)) h.1)

firsts_of : {X Y : Type 0} (f : X → Y) (xs : List X) → map (λ (s : X × Y). s.0) (map (λ x. (x, f x)) xs) ≡ xs
firsts_of f [] = refl
firsts_of f (x ∷ xs) = ap (λ l. x ∷ l) (firsts_of f xs)

module _ (cipher : CipherMeaning) (setup : Setup) (side : Side) where
  expect_none : (ms : List MediaRecord) → AllByRecursion (IsSection setup) ms → AllByRecursion ExpectsNone ms
  expect_none [] h = tt
  expect_none (m ∷ ms) h = (h.0.expects, expect_none ms h.1)

  same_owns : (s : SessionRecord) → Begun cipher setup side (outgoing_of side setup) (outgoing_of (peer_of side) setup) s → (ssrc : ℕ) → owns setup side ssrc ≡ is_own s.state.local_ssrc s.state.tx ssrc
  same_owns s b ssrc =
      let keys = zip_keys (IsIdle s.state.medias) (λ (L : Outgoing). L.ssrc) (λ e L k. k.key) s.state.tx (outgoing_of side setup) b.sends ∙ mains_of setup side in
      ap (λ (n : ℕ). (ssrc == n) || has (streams_of side setup) ssrc) (sym b.local_ssrc)
      ∙ ap (λ (x : Bool). (ssrc == s.state.local_ssrc) || x) (sym (place_in ssrc (keys_of s.state.tx) ∙ ap (λ ns. has ns ssrc) keys))

  begun_mirrors : (s : SessionRecord) → (local_of side setup).srtcp_index ≤ 2 ^ 31 → AreOnce (outgoing_of side setup) → NoRepeat (type_numbers setup)
      → Begun cipher setup side (outgoing_of side setup) (outgoing_of (peer_of side) setup) s → Mirrors cipher (config_of (sealing_of cipher setup) setup) side s (new_session (config_of (sealing_of cipher setup) setup) side)
  begun_mirrors s bounded once types b =
      let own = new_state cipher setup.profile (material_of setup) (is_left side) (local_of side setup).srtcp_index in
      let other = new_state cipher setup.profile (material_of setup) (is_left (peer_of side)) 0 in
      let outs = outgoing_of side setup in
      let ins = map incoming_of (outgoing_of (peer_of side) setup) in
      record {
        own = own;
        other = other;
        seals = b.seals;
        opens = b.opens;
        own_seals = ap (λ (exts : ExtensionMap). seals_of cipher exts own) (sym b.exts);
        other_seals = ap (λ (exts : ExtensionMap). seals_of cipher exts other) (sym b.exts);
        own_reports = refl;
        other_reports = refl;
        index = refl;
        bounded = bounded;
        types = sym (same_types s.state.types setup types b.types);
        trip = ap {A = Beginning} {B = ℕ → Delay → Option ℕ} (λ at now d. trip_of (ntp_nanos at.unix_secs now) d) (sym b.beginning);
        owns = λ i ssrc. same_owns s b ssrc i;
        outgoing = firsts_of new_tx outs;
        incoming = firsts_of (λ (L : Incoming). new_rx) (probes ∷ ins);
        tx = all_mirror s.state.types s.state.medias s.repairs outs once b.repairs s.state.tx outs (λ L i. i) b.sends;
        rx = rx_mirror (probes, new_rx) (map (λ L. (L, new_rx)) ins) refl
            (subst (λ seen. RxMirrors setup.pause_threshold seen s.probes (probes, new_rx)) (sym b.seen) b.probes_stand)
            (subst (λ seen. AllZip (RxStands setup.pause_threshold None seen) s.rx (map (λ L. (L, new_rx)) ins)) (sym b.seen)
            (zip_map (RxStands setup.pause_threshold None []) (λ L. (L, new_rx)) s.rx ins
            (zip_map (λ e L. RxStands setup.pause_threshold None [] e (L, new_rx)) incoming_of s.rx (outgoing_of (peer_of side) setup) b.takes)));
        originals = b.originals;
        sections = expect_none s.state.medias b.sections;
        known = b.known;
        last_round = b.last_round;
        target = b.wide;
        feedback = b.feedback;
        released = b.released;
        application = b.application;
        packet = b.packet;
      }

  pub started : (v : EndSession) → Facts setup → Starts cipher setup side (outgoing_of side setup) (outgoing_of (peer_of side) setup) v → IsStarted cipher setup side v
  started v f h = record {
    session = h.session;
    stands = h.stands;
    mirrors = begun_mirrors h.session h.bounded (f.once side) f.types h.begun;
    types = λ pt. type_places pt h.session.state.types setup.types h.begun.types;
    exts = h.begun.exts;
    intervals = h.begun.intervals;
    runs = h.begun.runs;
    fit = fits cipher setup side f h.sent_words h.heard_words;
  }
