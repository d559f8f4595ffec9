use Rattle.std.proofs.Common.{◌≡◌, ℕ, true, false, List, [], ◌∷◌, length, Option, Some, None, refl, sym, ap, subst, ◌∙◌, arith}
use Rattle.std.specs.Prelude.{◌==◌}
use Rattle.std.proofs.lemmas.Bool.{eqb-true, false≢true}
use Rattle.rtp_base.specs.declared.kind.Kind.TheVariants.{Rtp}
use Rattle.rtp_wire.specs.declared.header.RtpHeader.{RtpHeader}
use Rattle.rtp_wire.specs.Header.{header_of}
use Rattle.mapping_core.specs.Mapped.{is_early_padding}
use Rattle.srtp_core.specs.Cipher.{CipherMeaning}
use Rattle.srtp_core.specs.Contexts.{SrtpState}
use Rattle.srtp_core.specs.Laws.{RtpOpensOnce}
use Rattle.stream_core.specs.Repairing.{claims_in}
use Rattle.stream_core.specs.Seen.{saw}
use Rattle.session_core.specs.Mapping.{rids_for, is_standing, mapped_in, mapping_for, taken_up_for, is_nowhere, unseen_number}
use Rattle.session_core.specs.Receiving.{Unpads, OpensIn, IsOpening, OpensPadding, Receives, cut, padding, opening_number}
use Rattle.session_core.specs.SessionRecord.{SessionState, SessionRecord, StandsFor}
use Rattle.session_core.proofs.Openings.{strange, nothing_opens}
use Rattle.session_core.proofs.Others.{opening_kept}
use Rattle.session_core.proofs.Taking.{strange_mapped, nowhere_same, stays_closed, no_packet, no_repair}
use Rattle.session_core.proofs.session.Session.receive_padding.Goals as goal

empty_of : (l : List ℕ) → (length l == 0) ≡ true → l ≡ []
empty_of [] e = refl
empty_of (x ∷ xs) e = let none = eqb-true (length (x ∷ xs)) 0 e in absurd (omega arith)

-- a datagram of an SSRC that stays unknown opens as padding, or not at all
module _ (cipher : CipherMeaning) (r : SessionRecord) (bytes : List ℕ) (h : RtpHeader) (reads : header_of r.state.transport.exts bytes ≡ Some h)
    (away : is_standing h.ssrc r.rx r.known.originals ≡ false) (nowhere : is_nowhere (mapped_in h r) ≡ true) where
  unknown : is_nowhere (mapping_for h r) ≡ true
  unknown = ap is_nowhere (strange_mapped h r away) ∙ nowhere

  none : opening_number h (taken_up_for h r) ≡ None
  none =
      let s = strange h r away in
      ap (opening_number h) (nowhere_same h r unknown) ∙ nothing_opens r h s.nonzero s.no_stream s.no_repairs

  closed : (now : ℕ) → ((n : ℕ) (payload : List ℕ) → OpensPadding cipher r bytes h n payload → ⊥) → Receives cipher r bytes now r None
  closed now refuted = stays_closed cipher r bytes h reads now (no_packet cipher (taken_up_for h r) bytes h none) (no_repair cipher (taken_up_for h r) bytes h none) refuted

  late : is_early_padding (rids_for h r.state.medias) (claims_in r.state.types) h ≡ false → (n : ℕ) (payload : List ℕ) → OpensPadding cipher r bytes h n payload → ⊥
  late e n payload o = absurd (cc (e, o.early))

  seen_before : unseen_number r.seen h ≡ None → (n : ℕ) (payload : List ℕ) → OpensPadding cipher r bytes h n payload → ⊥
  seen_before e n payload o = absurd (cc (e, o.accepts))

  sealed : (m : ℕ) → unseen_number r.seen h ≡ Some m → ((p : List ℕ) → OpensIn cipher r.state.opening h m bytes p → Unpads h p → ⊥)
      → (n : ℕ) (payload : List ℕ) → OpensPadding cipher r bytes h n payload → ⊥
  sealed m e shut n payload o =
      let same : n ≡ m = cc (e, o.accepts) in
      shut payload (subst (λ (k : ℕ). OpensIn cipher r.state.opening h k bytes payload) same o.opens) o.unpads

  opens_once : RtpOpensOnce cipher → (state : Option SrtpState) (n : ℕ) (p q : List ℕ) → OpensIn cipher state h n bytes p → OpensIn cipher state h n bytes q → p ≡ q
  opens_once once None n p q a b = absurd a
  opens_once once (Some s) n p q a b = once s.profile s.keys h.ssrc n h.header_len bytes p q a b

  filled : RtpOpensOnce cipher → (m : ℕ) (p : List ℕ) → unseen_number r.seen h ≡ Some m → OpensIn cipher r.state.opening h m bytes p → (cut h p ≡ [] → ⊥)
      → (n : ℕ) (payload : List ℕ) → OpensPadding cipher r bytes h n payload → ⊥
  filled once m p e opens full n payload o =
      let same : n ≡ m = cc (e, o.accepts) in
      let plain : payload ≡ p = opens_once once r.state.opening m payload p (subst (λ (k : ℕ). OpensIn cipher r.state.opening h k bytes payload) same o.opens) opens in
      full (ap (cut h) (sym plain) ∙ o.empty)

pub returns-then-not-is_early_padding-clause-received : goal.returns-then-not-is_early_padding-clause-received
returns-then-not-is_early_padding-clause-received g c = λ r now h reads away nowhere.
    let K = g.C.SrtpCipher.meaning in
    let mine = subst (λ s. StandsFor g.W.GapWindow.remembers g.S.ResendStore.stands_for s r) (sym c.self.view_is) h in
    let x = c.args.header.now in
    let early : is_early_padding (rids_for x r.state.medias) (claims_in r.state.types) x ≡ false =
    ap (λ (s : SessionState). is_early_padding (rids_for x s.medias) (claims_in s.types) x) (sym mine.state)
    ∙ ap (λ l. is_early_padding (rids_for x l) (claims_in c.self.inside.types) x) (sym c.as_slice.ensures.value)
    ∙ (λ j. is_early_padding (sym c.rids_for-rids.ensures j) (sym c.claims.ensures j) x) ∙ sym c.is_early_padding.ensures ∙ c.if-not-is_early_padding.true in
    (r, closed K r c.args.bytes.now x reads away nowhere now (late K r c.args.bytes.now x reads away nowhere early), h)

pub returns-in_default-clause-received : goal.returns-in_default-clause-received
returns-in_default-clause-received g c = λ r now h reads away nowhere.
    let K = g.C.SrtpCipher.meaning in
    let mine = subst (λ s. StandsFor g.W.GapWindow.remembers g.S.ResendStore.stands_for s r) (sym c.self.view_is) h in
    let x = c.args.header.now in
    let number : unseen_number r.seen x ≡ None = sym (c.in_default.ensures.number r.seen mine.seen) in
    (r, closed K r c.args.bytes.now x reads away nowhere now (seen_before K r c.args.bytes.now x reads away nowhere number), h)

pub returns-in_default-2-clause-received : goal.returns-in_default-2-clause-received
returns-in_default-2-clause-received g c = λ r now h reads away nowhere.
    let K = g.C.SrtpCipher.meaning in
    let mine = subst (λ s. StandsFor g.W.GapWindow.remembers g.S.ResendStore.stands_for s r) (sym c.self.view_is) h in
    let x = c.args.header.now in
    let n = c.in-Some.number in
    let number : unseen_number r.seen x ≡ Some n = sym (c.in-Some.ensures.number r.seen mine.seen) in
    let shut : (p : List ℕ) → OpensIn K c.self.inside.opening x n c.args.bytes.now p → Unpads x p → ⊥ = rw c.in_default-2.is at c.in_ok-opening.ensures.none in
    let none_opens : (p : List ℕ) → OpensIn K r.state.opening x n c.args.bytes.now p → Unpads x p → ⊥ =
    subst (λ (s : SessionState). (p : List ℕ) → OpensIn K s.opening x n c.args.bytes.now p → Unpads x p → ⊥) mine.state shut in (
      r,
      closed K r c.args.bytes.now x reads away nowhere now (sealed K r c.args.bytes.now x reads away nowhere n number none_opens),
      record {
        state = opening_kept _ r.state c.open.new.opening mine.state c.open.ensures.same;
        rx = mine.rx;
        known = mine.known;
        probes = mine.probes;
        seen = mine.seen;
        repairs = mine.repairs;
      },
    )

pub returns-then-not-is_empty-clause-received : goal.returns-then-not-is_empty-clause-received
returns-then-not-is_empty-clause-received g c = λ r now h reads away nowhere.
    let K = g.C.SrtpCipher.meaning in
    let mine = subst (λ s. StandsFor g.W.GapWindow.remembers g.S.ResendStore.stands_for s r) (sym c.self.view_is) h in
    let x = c.args.header.now in
    let n = c.in-Some.number in
    let number : unseen_number r.seen x ≡ Some n = sym (c.in-Some.ensures.number r.seen mine.seen) in
    let o : IsOpening K c.self.inside.opening x n false c.args.bytes.now c.in-Some-2.opening.plain c.in-Some-2.opening.original c.in-Some-2.opening.payload = rw c.in-Some-2.is at c.in_ok-opening.ensures.opened in
    let opens = subst (λ (s : SessionState). OpensIn K s.opening x n c.args.bytes.now o.payload) mine.state o.opens in
    let full : cut x o.payload ≡ [] → ⊥ = (λ e. false≢true (sym c.if-not-is_empty.true ∙ c.is_empty.ensures ∙ ap (λ (l : List ℕ). length l == 0) (o.cuts ∙ e))) in (
      r,
      closed K r c.args.bytes.now x reads away nowhere now (filled K r c.args.bytes.now x reads away nowhere c.rtp_opens_once.ensures n o.payload number opens full),
      record {
        state = opening_kept _ r.state c.open.new.opening mine.state c.open.ensures.same;
        rx = mine.rx;
        known = mine.known;
        probes = mine.probes;
        seen = mine.seen;
        repairs = mine.repairs;
      },
    )

pub returns-clause-received : goal.returns-clause-received
returns-clause-received g c = λ r now h reads away nowhere.
    let K = g.C.SrtpCipher.meaning in
    let mine = subst (λ s. StandsFor g.W.GapWindow.remembers g.S.ResendStore.stands_for s r) (sym c.self.view_is) h in
    let x = c.args.header.now in
    let n = c.in-Some.number in
    let number : unseen_number r.seen x ≡ Some n = sym (c.in-Some.ensures.number r.seen mine.seen) in
    let early : is_early_padding (rids_for x r.state.medias) (claims_in r.state.types) x ≡ true =
    ap (λ (s : SessionState). is_early_padding (rids_for x s.medias) (claims_in s.types) x) (sym mine.state)
    ∙ ap (λ l. is_early_padding (rids_for x l) (claims_in c.self.inside.types) x) (sym c.as_slice.ensures.value)
    ∙ (λ j. is_early_padding (sym c.rids_for-rids.ensures j) (sym c.claims.ensures j) x) ∙ sym c.is_early_padding.ensures ∙ c.if-not-is_early_padding.false in
    let o : IsOpening K c.self.inside.opening x n false c.args.bytes.now c.in-Some-2.opening.plain c.in-Some-2.opening.original c.in-Some-2.opening.payload = rw c.in-Some-2.is at c.in_ok-opening.ensures.opened in
    let opens = subst (λ (s : SessionState). OpensIn K s.opening x n c.args.bytes.now o.payload) mine.state o.opens in
    let empty : cut x o.payload ≡ [] = sym o.cuts ∙ empty_of c.in-Some-2.opening.payload (sym c.is_empty.ensures ∙ c.if-not-is_empty.false) in (
      record r { seen = saw x.ssrc n r.seen },
      subst (λ l. Receives K r c.args.bytes.now now (record r { seen = saw x.ssrc n r.seen }) (Some (record { kind = Rtp; ssrc = x.ssrc; index = n; plain = l }))) (sym o.whole)
          (padding x n o.payload (record {
            reads = reads;
            unknown = ap is_nowhere (strange_mapped x r away) ∙ nowhere;
            early = early;
            accepts = number;
            opens = opens;
            unpads = o.unpads;
            empty = empty;
          })),
      record {
        state = opening_kept _ r.state c.open.new.opening mine.state c.open.ensures.same;
        rx = mine.rx;
        known = mine.known;
        probes = mine.probes;
        seen = c.in_ok-put.ensures.ok r.seen mine.seen;
        repairs = mine.repairs;
      },
    )
