-- What opens in a session opens on a plain stream, and what opens on a plain stream opens in the session.
use Rattle.std.proofs.Common.{◌≡◌, inl, inr, ℕ, ◌%◌, Bool, true, false, List, [], ◌∷◌, map, Option, Some, None, is_some, refl, sym, ap, ◌∙◌, subst}
use Rattle.std.specs.Prelude.{◌==◌, ◌||◌, if◌then◌else◌, option_and_then}
use Rattle.std.specs.List.{flat_map}
use Rattle.std.proofs.lemmas.Bool.{eq-eqb, ne_eqb, false≢true, or_left, or_right, cases_Bool}
use Rattle.repair_core.specs.Fresh.{is_fresh}
use Rattle.rtp_wire.specs.declared.header.RtpHeader.{RtpHeader}
use Rattle.rtp_wire.specs.Header.{header_of}
use Rattle.rtp_wire.specs.HeaderLaws.{ReadsOwnBytes}
use Rattle.srtp_core.specs.Cipher.{CipherMeaning}
use Rattle.srtp_core.specs.Contexts.{SrtpState}
use Rattle.srtp_core.specs.Seals.{OpensTo}
use Rattle.stream_core.specs.Repairing.{primary_type_of}
use Rattle.stream_core.specs.RxRecord.{fresh_number}
use Rattle.stream_core.specs.Seen.{seen_of}
use Rattle.stream_core.specs.Tables.{place_of}
use Rattle.session_core.specs.Receiving.{Unpads, OpensIn, Opens as OpensHere, OpensRepair as OpensRepairHere}
use Rattle.session_core.specs.Repairs.{is_known, repair_accepted}
use Rattle.session_core.specs.SessionRecord.{SessionRecord}
use Rattle.media_model.specs.declared.entry.Side.{Side}
use Rattle.media_model.specs.Sides.{peer_of}
use Rattle.run_model.specs.Events.{Incoming, Types, Plain as Datagram}
use Rattle.run_model.specs.Listing.{IsIn}
use Rattle.run_model.specs.Seals.{Sealing, IsSeal}
use Rattle.run_model.specs.Receiving.{concerns, begun_taken, is_repair, Opens}
use Rattle.run_model.specs.RxPlay.{lists_in}
use Rattle.run_model.specs.Whole.{Config, Session, incoming_of, probes}
use Rattle.session_turns.specs.Reading.{types_in, sealing_of}
use Rattle.session_turns.specs.Mirrors.{original_in, RxMirrors, RxStands, Mirrors, IsFit}
use Rattle.session_turns.proofs.Records.{where_fresh}
use Rattle.session_turns.proofs.Changes.{restored_at, own_at, is_own_fresh, number_is, accepted_is}
use Rattle.session_turns.proofs.Sealing.{plain_by, is_seal, seal_opens}
use Rattle.session_turns.proofs.Session.{RxParts, parts_of, lines_of, fit_of, away_zero, repair_main, repair_rtx, repair_probes, repaired_here, zero_repaired, zero_number, main_repaired, main_number, rtx_repaired}
use Rattle.session_turns.proofs.OpenedStreams.{Plain, AreFit, AllAway, IsAt, in_at, at_stands, at_in, at_value, originals_of, concerned, concerns_main}

-- numbers that are as the plain stream has them

fresh_back : (f : ℕ → Bool) (q n : ℕ) → n ≡ q → f n ≡ true → where_fresh (f q) q ≡ Some n
fresh_back f q n is fresh = sym (ap (λ (m : ℕ). where_fresh (f m) m) is) ∙ ap (λ b. where_fresh b n) fresh

pub none_some : {X : Type 0} (x : X) → None ≡ Some x → ⊥
none_some x e = absurd cc

known_either : (a b : Bool) → (a || b) ≡ true → b ≡ false → a ≡ true
known_either true b e f = refl
known_either false b e f = absurd (false≢true (sym f ∙ e))

module _ (cipher : CipherMeaning) (C : Config) (side : Side) (r : SessionRecord) (a : Session) (fit : IsFit C) (mirrors : Mirrors cipher C side r a) (own : ReadsOwnBytes) (bytes : List ℕ) where
  abbrev pub peer : Sealing
  peer = C.seals (peer_of side)

  pub parts : RxParts C.threshold a.rx.trip r a.rx.table
  parts = parts_of a.rx.table mirrors.rx

  lines_same : lines_of parts.rest ≡ map incoming_of (C.outgoing (peer_of side))
  lines_same = let whole : parts.head.0 ∷ lines_of parts.rest ≡ probes ∷ map incoming_of (C.outgoing (peer_of side)) = ap lines_of (sym parts.is) ∙ mirrors.incoming in cc

  pub fits : AreFit parts.rest
  fits = fit_of (C.outgoing (peer_of side)) parts.rest lines_same (fit.apart (peer_of side))

  pub no_zero : AllAway 0 parts.rest
  no_zero = away_zero (C.outgoing (peer_of side)) parts.rest lines_same (fit.words (peer_of side))

  pub originals : r.known.originals ≡ originals_of parts.rest
  originals = mirrors.originals ∙ ap (flat_map original_in) (sym lines_same)

  -- a datagram that opens, to some payload
  pub record Comes (h : RtpHeader) (n : ℕ) (payload : List ℕ) : Type 0 where
    pub reads : header_of r.state.transport.exts bytes ≡ Some h
    pub to : OpensTo cipher mirrors.other.profile mirrors.other.keys h.ssrc n h.header_len bytes payload
    pub unpads : Unpads h payload
    pub low : h.sequence_number ≡ n % 65536

  seals : (h : RtpHeader) (n : ℕ) (payload : List ℕ) → Comes h n payload → IsSeal peer h.ssrc n (plain_by h payload) bytes
  seals h n payload c =
      subst (λ (S : Sealing). IsSeal S h.ssrc n (plain_by h payload) bytes) (sym mirrors.other_seals)
      (is_seal cipher r.state.transport.exts mirrors.other own bytes h payload c.reads n c.low c.to)

  types_claim : (pt : ℕ) → C.types.claims pt ≡ is_known r.state.types pt
  types_claim pt = ap (λ (T : Types). T.claims pt) mirrors.types

  -- a first sending and a repair open on a stream

  pub first_opens : (s : Plain) (h : RtpHeader) (n : ℕ) (payload : List ℕ) → Comes h n payload → concerns s.0 h.ssrc ≡ true
      → is_repair C.types s.0 h.ssrc (plain_by h payload) ≡ false → ((s.0.ssrc == 0) || is_known r.state.types h.payload_type) ≡ true
      → n ≡ restored_at (lists_in s.1) h.sequence_number → is_fresh (begun_taken (lists_in s.1)) n ≡ true
      → Opens C.types s.0 peer (lists_in s.1) bytes h.ssrc n (plain_by h payload)
  first_opens s h n payload c mine first claimed number fresh = record {
    short = c.to.within;
    mine = mine;
    claimed = ap (λ b. (s.0.ssrc == 0) || b) (types_claim h.payload_type) ∙ claimed;
    number = number ∙ ap (restored_at (lists_in s.1)) c.low
        ∙ sym (ap (λ b. if b then own_at s.0 (lists_in s.1) h.ssrc (n % 65536) else restored_at (lists_in s.1) (n % 65536)) first);
    fresh = ap (λ b. if b then is_own_fresh s.0 (lists_in s.1) h.ssrc h.has_padding n else is_fresh (begun_taken (lists_in s.1)) n) first ∙ fresh;
    sealed = seals h n payload c;
    unpads = c.unpads;
  }

  pub repair_opens : (s : Plain) (h : RtpHeader) (n : ℕ) (payload : List ℕ) → Comes h n payload → concerns s.0 h.ssrc ≡ true
      → is_repair C.types s.0 h.ssrc (plain_by h payload) ≡ true → is_known r.state.types h.payload_type ≡ true
      → n ≡ own_at s.0 (lists_in s.1) h.ssrc h.sequence_number → is_own_fresh s.0 (lists_in s.1) h.ssrc h.has_padding n ≡ true
      → Opens C.types s.0 peer (lists_in s.1) bytes h.ssrc n (plain_by h payload)
  repair_opens s h n payload c mine repair claimed number fresh = record {
    short = c.to.within;
    mine = mine;
    claimed = or_right (s.0.ssrc == 0) (C.types.claims h.payload_type) (types_claim h.payload_type ∙ claimed);
    number = number ∙ ap (own_at s.0 (lists_in s.1) h.ssrc) c.low
        ∙ sym (ap (λ b. if b then own_at s.0 (lists_in s.1) h.ssrc (n % 65536) else restored_at (lists_in s.1) (n % 65536)) repair);
    fresh = ap (λ b. if b then is_own_fresh s.0 (lists_in s.1) h.ssrc h.has_padding n else is_fresh (begun_taken (lists_in s.1)) n) repair ∙ fresh;
    sealed = seals h n payload c;
    unpads = c.unpads;
  }

  -- and back

  module _ (s : Plain) (h : RtpHeader) (n : ℕ) (payload : List ℕ) (o : Opens C.types s.0 peer (lists_in s.1) bytes h.ssrc n (plain_by h payload)) (low : h.sequence_number ≡ n % 65536) where
    first_number : is_repair C.types s.0 h.ssrc (plain_by h payload) ≡ false
        → where_fresh (is_fresh (begun_taken (lists_in s.1)) (restored_at (lists_in s.1) h.sequence_number)) (restored_at (lists_in s.1) h.sequence_number) ≡ Some n
    first_number first =
        fresh_back (is_fresh (begun_taken (lists_in s.1))) (restored_at (lists_in s.1) h.sequence_number) n
        (o.number ∙ ap (λ b. if b then own_at s.0 (lists_in s.1) h.ssrc (n % 65536) else restored_at (lists_in s.1) (n % 65536)) first ∙ ap (restored_at (lists_in s.1)) (sym low))
        (sym (ap (λ b. if b then is_own_fresh s.0 (lists_in s.1) h.ssrc h.has_padding n else is_fresh (begun_taken (lists_in s.1)) n) first) ∙ o.fresh)

    repair_number : is_repair C.types s.0 h.ssrc (plain_by h payload) ≡ true
        → where_fresh (is_own_fresh s.0 (lists_in s.1) h.ssrc h.has_padding (own_at s.0 (lists_in s.1) h.ssrc h.sequence_number)) (own_at s.0 (lists_in s.1) h.ssrc h.sequence_number) ≡ Some n
    repair_number repair =
        fresh_back (is_own_fresh s.0 (lists_in s.1) h.ssrc h.has_padding) (own_at s.0 (lists_in s.1) h.ssrc h.sequence_number) n
        (o.number ∙ ap (λ b. if b then own_at s.0 (lists_in s.1) h.ssrc (n % 65536) else restored_at (lists_in s.1) (n % 65536)) repair ∙ ap (own_at s.0 (lists_in s.1) h.ssrc) (sym low))
        (sym (ap (λ b. if b then is_own_fresh s.0 (lists_in s.1) h.ssrc h.has_padding n else is_fresh (begun_taken (lists_in s.1)) n) repair) ∙ o.fresh)

  repair_same : (L : Incoming) (m : ℕ) (p : Datagram) → is_repair C.types L m p ≡ is_repair (types_in r.state.types) L m p
  repair_same L m p = ap (λ (T : Types). is_repair T L m p) mirrors.types

  opening_in : (h : RtpHeader) (n : ℕ) (payload : List ℕ) → OpensTo cipher mirrors.other.profile mirrors.other.keys h.ssrc n h.header_len bytes payload
      → OpensIn cipher r.state.opening h n bytes payload
  opening_in h n payload to = subst (λ (o : Option SrtpState). OpensIn cipher o h n bytes payload) (sym mirrors.opens) to

  pub opened_to : (h : RtpHeader) (n : ℕ) (payload : List ℕ) → OpensIn cipher r.state.opening h n bytes payload
      → OpensTo cipher mirrors.other.profile mirrors.other.keys h.ssrc n h.header_len bytes payload
  opened_to h n payload to = subst (λ (o : Option SrtpState). OpensIn cipher o h n bytes payload) mirrors.opens to

  pub in_none : (m : ℕ) (s : Plain) (ss : List Plain) → AllAway m ss → IsIn s ss → concerns s.0 m ≡ false
  in_none m s [] away i = absurd i
  in_none m s (t ∷ ss) away (inl is) = ap (λ (x : Plain). concerns x.0 m) is ∙ away.0
  in_none m s (t ∷ ss) away (inr i) = in_none m s ss away.1 i

  -- nothing opens on a plain stream where nothing opens in the session
  module _ (no_first : (h : RtpHeader) (n : ℕ) (payload : List ℕ) → OpensHere cipher r bytes h n payload → ⊥)
      (no_repair : (h : RtpHeader) (original n : ℕ) (payload : List ℕ) → OpensRepairHere cipher r bytes h original n payload → ⊥) where
    module _ (s : Plain) (h : RtpHeader) (n : ℕ) (payload : List ℕ) (o : Opens C.types s.0 peer (lists_in s.1) bytes h.ssrc n (plain_by h payload)) (c : Comes h n payload) where
      on_probes : s ≡ parts.head → ⊥
      on_probes is =
          let line : s.0 ≡ probes = ap (λ (x : Plain). x.0) is ∙ parts.probes_is in
          let zero : h.ssrc ≡ 0 = elim (concerned probes h.ssrc (sym (ap (λ (L : Incoming). concerns L h.ssrc) line) ∙ o.mine)) [ inl e ↦ e | inr e ↦ absurd (none_some h.ssrc e) ] in
          let k : RxMirrors C.threshold r.seen r.probes s = subst (RxMirrors C.threshold r.seen r.probes) (sym is) parts.mirrors in
          no_first h n payload (record {
            reads = c.reads;
            original = zero_repaired r h zero;
            claimed = or_left (h.ssrc == 0) (is_some (place_of h.payload_type r.state.types)) (eq-eqb h.ssrc 0 zero);
            accepts = zero_number r h zero ∙ sym (ap (λ (L : Incoming). fresh_number (seen_of L.ssrc r.seen) r.probes h.sequence_number) line)
                ∙ number_is k h.sequence_number ∙ first_number s h n payload o c.low (repair_probes C.types s.0 h.ssrc (plain_by h payload) line);
            opens = opening_in h n payload c.to;
            unpads = c.unpads;
          })

      module _ (nonzero : h.ssrc ≡ 0 → ⊥) (at : IsAt (RxStands C.threshold a.rx.trip r.seen) s r.rx parts.rest) where
        stands : RxStands C.threshold a.rx.trip r.seen at.real s
        stands = at_stands (RxStands C.threshold a.rx.trip r.seen) at.at

        known : (s.0.ssrc ≡ 0 → ⊥) → is_known r.state.types h.payload_type ≡ true
        known other = sym (types_claim h.payload_type) ∙ (sym (ap (λ b. b || C.types.claims h.payload_type) (ne_eqb s.0.ssrc 0 other)) ∙ o.claimed)

        main_nonzero : s.0.ssrc ≡ 0 → ⊥
        main_nonzero is =
            false≢true (sym (in_none 0 s parts.rest no_zero (at_in (RxStands C.threshold a.rx.trip r.seen) at.at)) ∙ sym (ap (concerns s.0) is) ∙ concerns_main s.0)

        as_repair : repaired_here r h ≡ Some s.0.ssrc → is_repair C.types s.0 h.ssrc (plain_by h payload) ≡ true → ⊥
        as_repair repairs repair =
            no_repair h s.0.ssrc n payload (record {
              reads = c.reads;
              repairs = repairs;
              accepts = ap (option_and_then (repair_accepted r.seen h)) (at_value (RxStands C.threshold a.rx.trip r.seen) (λ e t stands. stands.key) at.at)
                  ∙ accepted_is stands.mirrors h.ssrc at.line o.mine h refl ∙ repair_number s h n payload o c.low repair;
              opens = opening_in h n payload c.to;
              unpads = c.unpads;
            })

        on_main : h.ssrc ≡ s.0.ssrc → ⊥
        on_main is =
            let same : is_repair C.types s.0 h.ssrc (plain_by h payload) ≡ is_some (primary_type_of r.state.types h.payload_type) =
            repair_same s.0 h.ssrc (plain_by h payload) ∙ repair_main r.state.types s.0 h.ssrc (plain_by h payload) at.line is nonzero in
            let repairs = main_repaired r h nonzero C.threshold a.rx.trip parts.rest parts.others originals at.at is in
            elim (cases_Bool (is_some (primary_type_of r.state.types h.payload_type))) [
              | inl t ↦ as_repair (repairs ∙ ap (λ b. if b then Some h.ssrc else None) t ∙ ap Some is) (same ∙ t)
              | inr t ↦
                  no_first h n payload (record {
                    reads = c.reads;
                    original = repairs ∙ ap (λ b. if b then Some h.ssrc else None) t;
                    claimed = or_right (h.ssrc == 0) (is_some (place_of h.payload_type r.state.types))
                        (known_either (is_some (place_of h.payload_type r.state.types)) (is_some (primary_type_of r.state.types h.payload_type)) (known main_nonzero) t);
                    accepts = main_number r h nonzero C.threshold a.rx.trip parts.rest parts.others originals at.at is ∙ number_is stands.mirrors h.sequence_number
                        ∙ first_number s h n payload o c.low (same ∙ t);
                    opens = opening_in h n payload c.to;
                    unpads = c.unpads;
                  })
            ]

        on_rtx : s.0.rtx ≡ Some h.ssrc → ⊥
        on_rtx is =
            as_repair (rtx_repaired r h nonzero C.threshold a.rx.trip parts.rest parts.others originals at.at at.line is ∙ ap (λ b. if b then Some s.0.ssrc else None) (known main_nonzero))
            (repair_rtx C.types s.0 h.ssrc (plain_by h payload) is)

      pub refuted : IsIn s (parts.head ∷ parts.rest) → ⊥
      refuted (inl is) = on_probes is
      refuted (inr i) =
          let nonzero : h.ssrc ≡ 0 → ⊥ = λ is. false≢true (sym (in_none 0 s parts.rest no_zero i) ∙ sym (ap (concerns s.0) is) ∙ o.mine) in
          let at = in_at (RxStands C.threshold a.rx.trip r.seen) s r.rx parts.rest parts.others fits i in
          elim (concerned s.0 h.ssrc o.mine) [
            | inl is ↦ on_main nonzero at is
            | inr is ↦ on_rtx nonzero at is
          ]

    pub nothing_opens : (s : Plain) → IsIn s a.rx.table → (ssrc n : ℕ) (p : Datagram) → Opens C.types s.0 peer (lists_in s.1) bytes ssrc n p → ⊥
    nothing_opens s i ssrc n p o =
        let sealed : IsSeal (sealing_of cipher r.state.transport.exts mirrors.other) ssrc n p bytes = subst (λ (S : Sealing). IsSeal S ssrc n p bytes) mirrors.other_seals o.sealed in
        let so = seal_opens cipher r.state.transport.exts mirrors.other own bytes ssrc n p o.short sealed in
        let here : Opens C.types s.0 peer (lists_in s.1) bytes so.header.ssrc n (plain_by so.header so.payload) =
        subst (λ (m : ℕ). Opens C.types s.0 peer (lists_in s.1) bytes m n (plain_by so.header so.payload)) (sym so.source)
        (subst (λ (q : Datagram). Opens C.types s.0 peer (lists_in s.1) bytes ssrc n q) (sym so.is) o) in
        refuted s so.header n so.payload here (record { reads = so.reads; to = so.to; unpads = here.unpads; low = so.low })
        (subst (IsIn s) parts.is i)
