-- What leaves a session is right.
use Rattle.std.proofs.Common.{◌≡◌, inl, inr, ℕ, ◌<◌, ◌≤◌, ◌^◌, Bool, true, false, ◌||◌, ◌&&◌, List, [], ◌∷◌, map, length, Option, Some, None, refl, sym, ap, ◌∙◌, subst, arith}
use Rattle.std.specs.Prelude.{◌==◌, if◌then◌else◌, is_some}
use Rattle.std.specs.List.{list_any, flat_map, AllByRecursion, AllZip}
use Rattle.std.specs.Option.{option_map}
use Rattle.std.proofs.lemmas.Bool.Decides.{nat_tests}
use Rattle.resend_core.specs.ResendStore.{Event as Stored, pushed, evicted}
use Rattle.rtcp_wire.specs.declared.packet.Rtcp.{Rtcp}
use Rattle.rtp_wire.specs.declared.extension.ExtensionMap.{ExtensionMap}
use Rattle.rtp_wire.specs.HeaderLaws.{WrittenIsReadAgain}
use Rattle.srtp_core.specs.Cipher.{CipherMeaning}
use Rattle.srtp_core.specs.Contexts.{SrtpState}
use Rattle.srtp_core.specs.Keys.{SessionKeys}
use Rattle.srtp_core.specs.Seals.{sealed_rtp}
use Rattle.srtp_core.specs.RtcpSeals.{sealed_rtcp}
use Rattle.srtp_core.specs.declared.profile.SrtpProfile.{SrtpProfile}
use Rattle.stream_core.specs.declared.payload_types.TypeRow.{TypeRow}
use Rattle.stream_core.specs.declared.stream_tx.PacketReceipt.{PacketReceipt}
use Rattle.stream_core.specs.Repairing.{RepairsRecord, repairs_of}
use Rattle.stream_core.specs.Reporting.{incoming_items}
use Rattle.stream_core.specs.Sealing.{after_packet}
use Rattle.stream_core.specs.StreamsRecord.{StreamsRecord}
use Rattle.stream_core.specs.Tables.{each}
use Rattle.stream_core.specs.TxRecord.{TxRecord as StreamTx, after_timeout as stream_after_timeout}
use Rattle.session_core.specs.declared.datagram.Datagram.{Datagram}
use Rattle.session_core.specs.Calls.{lacks_keys, silenced, after_events}
use Rattle.session_core.specs.Feedback.{FitsAlone, compound_of, sealed_compound, due_of, some_due, exhausts, is_used_up, leaving, after_compound, counted}
use Rattle.session_core.specs.Reports.{sender_ssrc, tick_at, due_senders, some_reports, sender_items, after_senders, answers, after_answers, TickItemsFit}
use Rattle.session_core.specs.Rounds.{tick_of, after_incoming, after_outgoing, after_checks, after_timeout}
use Rattle.session_core.specs.Sending.{sealed_as, sealed_by, after_streams, Gives, NextPacket, none_due, given, passed, NextDatagram, silent, packet as leaves, compound, DrainsTo, start, more}
use Rattle.session_core.specs.SessionRecord.{MediaRecord, SessionState, SessionRecord}
use Rattle.media_model.specs.declared.entry.Write.{Write}
use Rattle.run_model.specs.Events.{Outgoing}
use Rattle.run_model.specs.Tables.{has, lines}
use Rattle.run_model.specs.TxPlay.{TxRecord}
use Rattle.session_turns.specs.Mirrors.{IsGiven, IsKept, packet_at, sent_event, write_in, MirrorsRepairs, TxMirrors, IsWide}
use Rattle.session_turns.specs.Rights.{IsRightRtp, IsRightRtcp, IsRight, right_rtp, right_rtcp, SealsAreRight}
use Rattle.session_turns.proofs.Calls.{compound_long, index_left, right_compound}
use Rattle.session_turns.proofs.Headers.{given_fine}
use Rattle.session_turns.proofs.SealedStreams.{IsQueued, AreCached, IsOf, AreSound, ticked_sound, reported_sound, told_sound, place_right}
use Rattle.session_turns.proofs.Tests.{tested}
use Rattle.rtp_base.specs.Window.{is_just}
use Rattle.session_turns.proofs.Lists.{all_append}
use Rattle.session_turns.proofs.Items.{all_drop}

-- the keys under which a session seals are those of a context, and an index is left or the last one is used up
pub record IsKeyed (own : SrtpState) (o : Option SrtpState) : Type 0 where
  pub state : SrtpState
  pub is : o ≡ Some state
  pub profile : state.profile ≡ own.profile
  pub keys : state.keys ≡ own.keys
  pub bounded : state.srtcp_index ≤ 2 ^ 31

-- what holds of a session while it is drained
pub record Stands (own : SrtpState) (exts : ExtensionMap) (ls : List Outgoing) (s : SessionState) (qs : List (ℕ × RepairsRecord)) : Type 0 where
  pub ids : s.transport.exts ≡ exts
  pub keyed : IsKeyed own s.sealing
  pub wide : 900 ≤ s.target
  pub fit : AllByRecursion FitsAlone s.feedback
  pub tx : AreSound ls qs s.tx

-- seals under the keys of one context
right_under : (cipher : CipherMeaning) (own : SrtpState) (exts : ExtensionMap) (ls : List Outgoing) (state : SrtpState) (p : PacketReceipt) → state.profile ≡ own.profile
    → state.keys ≡ own.keys → IsRightRtp cipher exts own ls (sealed_as cipher own p) → IsRightRtp cipher exts own ls (sealed_as cipher state p)
right_under cipher own exts ls state p profile keys h =
    let bytes : SrtpProfile → SessionKeys → Datagram =
    λ f k. record (sealed_as cipher own p) { bytes = sealed_rtp cipher f k p.header.ssrc p.seq_no p.header.header_len p.plain } in
    let same : sealed_as cipher own p ≡ sealed_as cipher state p = (λ i. bytes (sym profile i) (sym keys i)) in
    subst (IsRightRtp cipher exts own ls) same h

rtcp_under : (cipher : CipherMeaning) (own state : SrtpState) (plain : List ℕ) → state.profile ≡ own.profile → state.keys ≡ own.keys
    → IsRightRtcp cipher state (sealed_compound cipher plain state) → IsRightRtcp cipher own (sealed_compound cipher plain state)
rtcp_under cipher own state plain profile keys h = record {
  rtcp = h.rtcp;
  header = h.header;
  source = h.source;
  small = h.small;
  sealed = λ i. sealed_rtcp cipher (profile i) (keys i) true state.srtcp_index plain;
}

module _ (again : WrittenIsReadAgain) (cipher : CipherMeaning) (own : SrtpState) (exts : ExtensionMap) (ls : List Outgoing) where
  abbrev GivesRight : Option PacketReceipt → Type 0
  GivesRight o = (p : PacketReceipt) → o ≡ Some p → IsRightRtp cipher exts own ls (sealed_as cipher own p)

  -- a stream gave something, or nothing
  stream_right : (now place : ℕ) (r : SessionRecord) (s : StreamsRecord) (o : Option PacketReceipt) → Stands own exts ls r.state r.repairs → Gives now r place s o
      → Stands own exts ls (after_streams r s o).state (after_streams r s o).repairs × GivesRight o
  stream_right now place r s o h g =
      let p = place_right ls again cipher own r.state.types r.state.transport now place (record { threshold = r.state.pause_threshold; rx = r.rx; known = r.known; tx = r.state.tx; repairs = r.repairs }) s o g h.tx in (
        record { ids = same (is_some o) ∙ h.ids; keyed = h.keyed; wide = h.wide; fit = h.fit; tx = p.0 },
        λ q e. subst (λ x. IsRightRtp cipher x own ls (sealed_as cipher own q)) h.ids (p.1 q e),
      )
    where
      same : (b : Bool) → (if b then after_packet r.state.transport else r.state.transport).exts ≡ r.state.transport.exts
      same true = refl
      same false = refl

  packet_right : (now : ℕ) (r after : SessionRecord) (o : Option PacketReceipt) → NextPacket now r after o → Stands own exts ls r.state r.repairs
      → Stands own exts ls after.state after.repairs × GivesRight o
  packet_right now _ _ _ (none_due r none) h = (record { ids = h.ids; keyed = h.keyed; wide = h.wide; fit = h.fit; tx = h.tx }, λ p e. absurd cc)
  packet_right now _ _ _ (given r place s p next gives) h = stream_right now place r s (Some p) h gives
  packet_right now _ _ _ (passed r after place s o next gives rest) h =
      packet_right now (after_streams r s None) after o rest (stream_right now place r s None h gives).0

  sealed_right : (o : Option SrtpState) (p : Option PacketReceipt) (d : Datagram) → IsKeyed own o → GivesRight p → sealed_by cipher o p ≡ Some d → IsRight cipher exts own ls d
  sealed_right None p d k g e = absurd (let no = k.is in cc)
  sealed_right (Some state) None d k g e = absurd cc
  sealed_right (Some state) (Some p) d k g e =
      let is : k.state ≡ state = let both = k.is in cc in
      let same : sealed_as cipher state p ≡ d = cc in
      let profile : state.profile ≡ own.profile = ap (λ (s : SrtpState). s.profile) (sym is) ∙ k.profile in
      let keys : state.keys ≡ own.keys = ap (λ (s : SrtpState). s.keys) (sym is) ∙ k.keys in
      right_rtp (subst (IsRightRtp cipher exts own ls) same (right_under cipher own exts ls state p profile keys (g p refl)))

  -- a compound
  due_waits : (now : ℕ) (s : SessionState) → some_due (due_of now s) ≡ true → (now == 0) ≡ false
  due_waits now s e = elim (tested (now == 0)) [ inl t ↦ absurd (let both = rw t at e in cc) | inr f ↦ f ]

  all_due : (now : ℕ) (s : SessionState) → some_due (due_of now s) ≡ true → due_of now s ≡ s.feedback
  all_due now s e = ap (λ (b : Bool). if b then [] else s.feedback) (due_waits now s e)

  long_plain : (target : ℕ) (items : List Rtcp) → 900 ≤ target → AllByRecursion FitsAlone items → some_due items ≡ true → 8 ≤ length (compound_of target items)
  long_plain target [] wide fit some = absurd cc
  long_plain target (x ∷ xs) wide fit some = compound_long target x xs wide fit.0

  compound_right : (now : ℕ) (r : SessionRecord) (d : Datagram) → Stands own exts ls r.state r.repairs → some_due (due_of now r.state) ≡ true → exhausts now r.state ≡ false
      → option_map (sealed_compound cipher (compound_of r.state.target r.state.feedback)) r.state.sealing ≡ Some d
      → IsRight cipher exts own ls d × Stands own exts ls (after_compound r.state) r.repairs
  compound_right now r d h some left e =
      let k = h.keyed in
      let bounded = k.bounded in
      let plain : List ℕ = compound_of r.state.target r.state.feedback in
      let waits : some_due r.state.feedback ≡ true = sym (ap some_due (all_due now r.state some)) ∙ some in
      let long : 8 ≤ length plain = long_plain r.state.target r.state.feedback h.wide h.fit waits in
      let not_used : (k.state.srtcp_index == 2 ^ 31) ≡ false =
      sym (ap (λ (b : Bool). b && is_used_up (Some k.state)) some) ∙ (ap (λ (o : Option SrtpState). some_due (due_of now r.state) && is_used_up o) (sym k.is) ∙ left) in
      let small : k.state.srtcp_index < 2 ^ 31 = index_left k.state.srtcp_index bounded not_used in
      let is : Some (sealed_compound cipher plain k.state) ≡ Some d = ap (option_map (sealed_compound cipher plain)) (sym k.is) ∙ e in
      let same : sealed_compound cipher plain k.state ≡ d = cc in (
        right_rtcp (subst (IsRightRtcp cipher own) same
            (rtcp_under cipher own k.state plain k.profile k.keys (right_compound cipher k.state plain long small))),
        record {
          ids = h.ids;
          keyed = record { state = counted k.state; is = ap (option_map counted) k.is; profile = k.profile; keys = k.keys; bounded = omega (arith, small) };
          wide = h.wide;
          fit = all_drop FitsAlone (leaving r.state.target r.state.feedback) r.state.feedback h.fit;
          tx = h.tx;
        },
      )

  next_right : (now : ℕ) (r after : SessionRecord) (o : Option Datagram) (d : Datagram) → NextDatagram cipher now r after o → o ≡ Some d → Stands own exts ls r.state r.repairs
      → IsRight cipher exts own ls d × Stands own exts ls after.state after.repairs
  next_right now r _ _ d (silent quiet none) e h = absurd cc
  next_right now r _ _ d (leaves after o loud none next) e h =
      let p = packet_right now r after o next h in
      (sealed_right r.state.sealing o d h.keyed p.1 e, p.0)
  next_right now r _ _ d (compound some left) e h = compound_right now r d h some left e

  drained_right : (now : ℕ) (r last : SessionRecord) (all : List Datagram) → DrainsTo cipher now r last all → Stands own exts ls r.state r.repairs
      → AllByRecursion (IsRight cipher exts own ls) all × Stands own exts ls last.state last.repairs
  drained_right now r _ _ start h = (tt, h)
  drained_right now r _ _ (more between after done d sent next) h =
      let before = drained_right now r between done sent h in
      let one = next_right now between after (Some d) d next refl before.1 in
      (all_append (IsRight cipher exts own ls) done (d ∷ []) before.0 (one.0, tt), one.1)

-- a tick

module _ (own : SrtpState) (exts : ExtensionMap) (ls : List Outgoing) (items : TickItemsFit) where
  incoming_stand : (now : ℕ) (r : SessionRecord) → Stands own exts ls r.state r.repairs → Stands own exts ls (after_incoming now r).state (after_incoming now r).repairs
  incoming_stand now r h = record {
    ids = h.ids;
    keyed = h.keyed;
    wide = h.wide;
    fit = all_append FitsAlone r.state.feedback (incoming_items (tick_of now r) r.rx) h.fit (items now (tick_of now r) r.state r.rx []).0;
    tx = h.tx;
  }

  senders_stand : (now : ℕ) (s : SessionState) (qs : List (ℕ × RepairsRecord)) → Stands own exts ls s qs → Stands own exts ls (after_senders now s) qs
  senders_stand now s qs h = record {
    ids = h.ids;
    keyed = h.keyed;
    wide = h.wide;
    fit = all_append FitsAlone s.feedback (sender_items now s) h.fit (items now (tick_at now false s) s [] []).1;
    tx = reported_sound ls qs s.medias now (due_senders now s) s.tx h.tx;
  }

  answers_stand : (now : ℕ) (reports : Bool) (s : SessionState) (qs : List (ℕ × RepairsRecord)) → Stands own exts ls s qs → Stands own exts ls (after_answers now reports s) qs
  answers_stand now true s qs h = record {
    ids = h.ids;
    keyed = h.keyed;
    wide = h.wide;
    fit = all_append FitsAlone s.feedback (answers now (sender_ssrc s) s.moments) h.fit (items now (tick_at now false s) s [] s.moments).2;
    tx = h.tx;
  }
  answers_stand now false s qs h = h

  outgoing_stand : (now : ℕ) (r : SessionRecord) → Stands own exts ls r.state r.repairs → Stands own exts ls (after_outgoing now r).state (after_outgoing now r).repairs
  outgoing_stand now r h =
      answers_stand now (some_reports r.state.medias (due_senders now r.state) r.state.tx) (after_senders now r.state) r.repairs (senders_stand now r.state r.repairs h)

  checks_stand : (now : ℕ) (r : SessionRecord) → Stands own exts ls r.state r.repairs → Stands own exts ls (after_checks now r).state (after_checks now r).repairs
  checks_stand now r h = record {
    ids = h.ids;
    keyed = h.keyed;
    wide = h.wide;
    fit = h.fit;
    tx = told_sound ls r.repairs r.state.medias (each (stream_after_timeout now) r.state.tx) (ticked_sound ls r.repairs now r.state.tx h.tx);
  }

  told_stand : (r : SessionRecord) → Stands own exts ls r.state r.repairs → Stands own exts ls (after_events r).state (after_events r).repairs
  told_stand r h = by (lacks_keys r.state)
    where
      by : (b : Bool) → Stands own exts ls (if b then r.state else silenced r.state) r.repairs
      by true = h
      by false = record { ids = h.ids; keyed = h.keyed; wide = h.wide; fit = h.fit; tx = h.tx }

  tick_stands : (now : ℕ) (r : SessionRecord) → Stands own exts ls r.state r.repairs
      → Stands own exts ls (after_events (after_timeout now r)).state (after_events (after_timeout now r)).repairs
  tick_stands now r h =
      told_stand (after_timeout now r) (checks_stand now (after_outgoing now (after_incoming now r)) (outgoing_stand now (after_incoming now r) (incoming_stand now r h)))

-- what a session holds that mirrors a plain one

queued_from : (stamp : Option ℕ) (ssrc : ℕ) (ws : List Write) → AllByRecursion (IsGiven ssrc) ws → AllByRecursion (IsQueued ssrc) (map (packet_at stamp) ws)
queued_from stamp ssrc [] h = tt
queued_from stamp ssrc (w ∷ ws) h = (record { fine = given_fine stamp ssrc w h.0; on = h.0.on }, queued_from stamp ssrc ws h.1)

cached_from : (rows : List (ℕ × TypeRow)) (ssrc : ℕ) (es : List (Stored Write)) → AllByRecursion (IsKept rows ssrc) (flat_map write_in es) → AreCached (map (sent_event rows) es)
cached_from rows ssrc [] h = tt
cached_from rows ssrc (pushed n t w stored ∷ es) h = (given_fine (Some t) ssrc w h.0.given, cached_from rows ssrc es h.1)
cached_from rows ssrc (evicted t ∷ es) h = cached_from rows ssrc es h

again_from : (rows : List (ℕ × TypeRow)) (now : ℕ) (L : Outgoing) (t : TxRecord) (o : Option RepairsRecord) (q : RepairsRecord) → AllByRecursion (IsKept rows L.ssrc) (flat_map write_in t.store)
    → MirrorsRepairs rows now L t o → o ≡ Some q → AreCached q.cache.events
again_from rows now L t None q h m e = absurd cc
again_from rows now L t (Some v) q h m e =
    let same : v ≡ q = cc in
    subst (λ (w : RepairsRecord). AreCached w.cache.events) same (subst AreCached (sym m.events) (cached_from rows L.ssrc t.store h))

has_main : (L : Outgoing) → has L L.ssrc ≡ true
has_main L = let e : (L.ssrc == L.ssrc) ≡ true = grind (arith, nat_tests) in ap (λ (b : Bool). b || is_just L.ssrc L.rtx) e

or_true : (a b : Bool) → b ≡ true → (a || b) ≡ true
or_true true b e = refl
or_true false b e = e

has_rtx : (L : Outgoing) (ssrc : ℕ) → L.rtx ≡ Some ssrc → has L ssrc ≡ true
has_rtx L ssrc e =
    let is : (ssrc == ssrc) ≡ true = grind (arith, nat_tests) in
    or_true (ssrc == L.ssrc) (is_just ssrc L.rtx) (ap (is_just ssrc) e ∙ is)

any_first : (a b : Bool) → a ≡ true → (a || b) ≡ true
any_first true b e = refl
any_first false b e = absurd cc

sound_from : (rows : List (ℕ × TypeRow)) (medias : List MediaRecord) (now : ℕ) (qs : List (ℕ × RepairsRecord)) (ls : List Outgoing) (es : List (ℕ × StreamTx)) (xs : List (Outgoing × TxRecord))
    → AllZip (TxMirrors rows medias now None qs) es xs → AllByRecursion IsWide (lines xs)
    → ((p : Outgoing → Bool) → list_any p (lines xs) ≡ true → list_any p ls ≡ true) → AreSound ls qs es
sound_from rows medias now qs ls [] xs h wide among = tt
sound_from rows medias now qs ls (e ∷ es) [] h wide among = absurd h
sound_from rows medias now qs ls (e ∷ es) (x ∷ xs) h wide among =
    let m = h.0 in
    let of : (ssrc : ℕ) → has x.0 ssrc ≡ true → ssrc < 2 ^ 32 → IsOf ls ssrc =
    λ ssrc is word. record { stream = among (λ L. has L ssrc) (any_first (has x.0 ssrc) (list_any (λ L. has L ssrc) (lines xs)) is); word = word } in (
      record {
        own = subst (IsOf ls) (sym m.ssrc) (of x.0.ssrc (has_main x.0) wide.0.ssrc.1);
        rtx = λ ssrc is. let has_it : x.0.rtx ≡ Some ssrc = sym m.rtx ∙ is in of ssrc (has_rtx x.0 ssrc has_it) (wide.0.rtx ssrc has_it).1;
        queue = subst (λ s. AllByRecursion (IsQueued s) e.1.queue) (sym m.ssrc)
            (subst (AllByRecursion (IsQueued x.0.ssrc)) (sym m.queue) (queued_from None x.0.ssrc x.1.queue m.given));
        again = λ q is. again_from rows now x.0 x.1 (repairs_of e.1 qs) q m.cached m.again is;
      },
      sound_from rows medias now qs ls es xs h.1 wide.1 (λ p is. among p (or_true (p x.0) (list_any p (lines xs)) is)),
    )

pub seals_are_right : WrittenIsReadAgain → TickItemsFit → SealsAreRight
seals_are_right again items cipher C side r after a own time all fit mirrors key late drains =
    let is : mirrors.own ≡ own = let both : Some mirrors.own ≡ Some own = sym mirrors.seals ∙ key in cc in
    let index : own.srtcp_index ≡ a.rtcp = ap (λ (s : SrtpState). s.srtcp_index) (sym is) ∙ mirrors.index in
    let bound = mirrors.bounded in
    let ls : List Outgoing = C.outgoing side in
    let wide : AllByRecursion IsWide (lines a.tx) = subst (AllByRecursion IsWide) (sym mirrors.outgoing) (fit.words side) in
    let begin : Stands own r.state.transport.exts ls r.state r.repairs = record {
      ids = refl;
      keyed = record { state = own; is = key; profile = refl; keys = refl; bounded = omega (arith, index, bound) };
      wide = mirrors.target;
      fit = subst (AllByRecursion FitsAlone) (sym mirrors.feedback) tt;
      tx = sound_from r.state.types r.state.medias a.rx.now r.repairs ls r.state.tx a.tx mirrors.tx wide
          (λ p e. subst (λ (l : List Outgoing). list_any p l ≡ true) mirrors.outgoing e);
    } in
    (drained_right again cipher own r.state.transport.exts ls time (after_events (after_timeout time r)) after all drains
    (tick_stands own r.state.transport.exts ls items time r begin)).0
