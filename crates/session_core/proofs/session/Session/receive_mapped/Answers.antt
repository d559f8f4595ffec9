use Rattle.std.proofs.Common.{◌≡◌, ℕ, Bool, true, false, List, ◌++◌, Option, Some, None, is_some, take, drop, refl, sym, ap, subst, ◌∙◌}
use Rattle.std.specs.Prelude.{◌==◌}
use Rattle.repair_core.specs.Rounds.{Heard}
use Rattle.resend_core.specs.ResendStore.{Past}
use Rattle.rtp_wire.specs.declared.header.RtpHeader.{RtpHeader}
use Rattle.rtp_wire.specs.Header.{header_of}
use Rattle.srtp_core.specs.Cipher.{CipherMeaning}
use Rattle.rtp_base.specs.declared.kind.Kind.TheVariants.{Rtp}
use Rattle.mapping_core.specs.declared.mapping.Mapping.{Mapping}
use Rattle.stream_core.specs.Repairing.{SentPacket, RepairsStandFor}
use Rattle.stream_core.specs.StreamsRecord.{taken_up, StandsFor as StreamsStand}
use Rattle.stream_core.specs.Tables.{place_of, Along}
use Rattle.session_core.specs.Mapping.{mapping_for, taken_up_for, is_nowhere}
use Rattle.session_core.specs.Receiving.{Unpads, OpensIn, IsOpening, Receives, cut, opened, repaired, after_opened, after_repaired, opening_number, carried_in, original_in}
use Rattle.session_core.specs.Repairs.{repaired_by}
use Rattle.rtp_wire.specs.Repairs.{original_number}
use Rattle.session_core.specs.SessionRecord.{streams_in, with_incoming, SessionState, SessionRecord, SessionView, StandsFor}
use Rattle.session_core.proofs.Openings.{strange, has_place}
use Rattle.session_core.proofs.Others.{opening_kept, mapped_state}
use Rattle.session_core.proofs.StreamsIn.{streams_stand}
use Rattle.session_core.proofs.Taking.{strange_mapped, stays_closed, no_packet, no_repair, sealed_packet, sealed_repair, number_of_repair, number_of_packet}
use Rattle.stream_core.specs.RxRecord.{StandsFor as StreamStandsFor}
use Rattle.stream_core.specs.StreamsRecord.{StreamsView}
use Rattle.session_core.specs.Mapping.{is_standing, mapped_in}
use Rattle.session_core.proofs.Failing.{on_err_any}
use Rattle.session_core.proofs.session.Session.receive_mapped.Goals as goal

-- a datagram that opened, as a packet or as a repair
opens_either : {W S : Type 0} (cipher : CipherMeaning) (r : SessionRecord) (bytes : List ℕ) (h : RtpHeader) → header_of r.state.transport.exts bytes ≡ Some h
    → (now n : ℕ) (b : Bool) (payload plain : List ℕ) (original : Option ℕ) (carried : List ℕ) (remembers : W → Heard → Type 0) (stands_for : S → Past SentPacket → Type 0) (new : SessionView W S)
    → opening_number h (taken_up_for h r) ≡ Some (n, b) → OpensIn cipher r.state.opening h n bytes payload → Unpads h payload → plain ≡ take h.header_len bytes ++ payload
    → original ≡ original_in b h payload → carried ≡ carried_in b h payload → (h.ssrc == 0) ≡ false
    → ((p : List ℕ) → repaired_by r.state.types (taken_up_for h r).rx (taken_up_for h r).known.originals h ≡ None → is_some (place_of h.ssrc (taken_up_for h r).rx) ≡ true → carried ≡ cut h p
    → StandsFor remembers stands_for new (after_opened now h n p (taken_up_for h r)))
    → ((p : List ℕ) (main : ℕ) → repaired_by r.state.types (taken_up_for h r).rx (taken_up_for h r).known.originals h ≡ Some main → original ≡ original_number (cut h p) → carried ≡ drop 2 (cut h p)
    → StandsFor remembers stands_for new (after_repaired now h main n p (taken_up_for h r)))
    → (o : Option ℕ) → repaired_by r.state.types (taken_up_for h r).rx (taken_up_for h r).known.originals h ≡ o
    → (after : SessionRecord) × Receives cipher r bytes now after (Some (record { kind = Rtp; ssrc = h.ssrc; index = n; plain = plain })) × StandsFor remembers stands_for new after
opens_either cipher r bytes h reads now n b payload plain original carried remembers stands_for new one opens unpads whole number cuts nonzero packet repair None none =
    let u : SessionRecord = taken_up_for h r in
    let k = number_of_packet u h n b one none in (
      after_opened now h n payload u,
      subst (λ l. Receives cipher r bytes now (after_opened now h n payload u) (Some (record { kind = Rtp; ssrc = h.ssrc; index = n; plain = l }))) (sym whole)
          (opened h n payload (record { reads = reads; original = none; claimed = k.0; accepts = k.1; opens = opens; unpads = unpads })),
      packet payload none (has_place u h nonzero n k.1) (cuts ∙ ap (λ z. carried_in z h payload) k.2),
    )
opens_either cipher r bytes h reads now n b payload plain original carried remembers stands_for new one opens unpads whole number cuts nonzero packet repair (Some main) some =
    let u : SessionRecord = taken_up_for h r in
    let k = number_of_repair u h n b one main some in (
      after_repaired now h main n payload u,
      subst (λ l. Receives cipher r bytes now (after_repaired now h main n payload u) (Some (record { kind = Rtp; ssrc = h.ssrc; index = n; plain = l }))) (sym whole)
          (repaired h main n payload (record { reads = reads; repairs = some; accepts = k.0; opens = opens; unpads = unpads })),
      repair payload main some (number ∙ ap (λ z. original_in z h payload) k.1) (cuts ∙ ap (λ z. carried_in z h payload) k.1),
    )

-- a datagram that maps to a stream is no padding of a stream to come
no_padding : (h : RtpHeader) (r : SessionRecord) → is_nowhere (mapping_for h r) ≡ false → is_nowhere (mapping_for h r) ≡ true → ⊥
no_padding h r a b = absurd cc

pub returns-in_default-clause-received : goal.returns-in_default-clause-received
returns-in_default-clause-received g c = λ r h reads away mapped somewhere.
    let K = g.C.SrtpCipher.meaning in
    let R = g.W.GapWindow.remembers in
    let S = g.S.ResendStore.stands_for in
    let mine = subst (λ s. StandsFor R S s r) (sym c.self.view_is) h in
    let x = c.args.header.now in
    let bytes = c.args.bytes.now in
    let is = strange_mapped x r away in
    let none : opening_number x (taken_up_for x r) ≡ None =
    ap (λ (m : Mapping). opening_number x (with_incoming (taken_up x.ssrc m (streams_in r)) r)) (is ∙ sym mapped)
    ∙ sym (c.in_default.ensures.number r (streams_stand R S _ r mine) mine.seen (ap (λ (s : SessionState). s.types) mine.state) away mapped) in
    let known : is_nowhere (mapping_for x r) ≡ false = ap is_nowhere (is ∙ sym mapped) ∙ somewhere in (
      r,
      stays_closed K r bytes x reads c.args.now (no_packet K (taken_up_for x r) bytes x none) (no_repair K (taken_up_for x r) bytes x none)
          (λ n payload o. no_padding x r known o.unknown),
      h,
    )

pub returns-in_default-2-clause-received : goal.returns-in_default-2-clause-received
returns-in_default-2-clause-received g c = λ r h reads away mapped somewhere.
    let K = g.C.SrtpCipher.meaning in
    let R = g.W.GapWindow.remembers in
    let S = g.S.ResendStore.stands_for in
    let mine = subst (λ s. StandsFor R S s r) (sym c.self.view_is) h in
    let x = c.args.header.now in
    let bytes = c.args.bytes.now in
    let n = c.in-Some.found.0 in
    let b = c.in-Some.found.1 in
    let is = strange_mapped x r away in
    let one : opening_number x (taken_up_for x r) ≡ Some (n, b) =
    ap (λ (m : Mapping). opening_number x (with_incoming (taken_up x.ssrc m (streams_in r)) r)) (is ∙ sym mapped)
    ∙ sym (c.in-Some.ensures.number r (streams_stand R S _ r mine) mine.seen (ap (λ (s : SessionState). s.types) mine.state) away mapped) in
    let known : is_nowhere (mapping_for x r) ≡ false = ap is_nowhere (is ∙ sym mapped) ∙ somewhere in
    let none : (p : List ℕ) → OpensIn K c.self.inside.opening x n bytes p → Unpads x p → ⊥ = rw c.in_default-2.is at c.in_ok-opening.ensures.none in
    let closed : (p : List ℕ) → OpensIn K r.state.opening x n bytes p → Unpads x p → ⊥ =
    subst (λ (s : SessionState). (p : List ℕ) → OpensIn K s.opening x n bytes p → Unpads x p → ⊥) mine.state none in (
      r,
      stays_closed K r bytes x reads c.args.now (sealed_packet K (taken_up_for x r) bytes x n b one closed) (sealed_repair K (taken_up_for x r) bytes x n b one closed)
          (λ m payload o. no_padding x r known o.unknown),
      record {
        state = opening_kept _ r.state c.open.new.opening mine.state c.open.ensures.same;
        rx = mine.rx;
        known = mine.known;
        probes = mine.probes;
        seen = mine.seen;
        repairs = mine.repairs;
      },
    )

pub returns-clause-received : goal.returns-clause-received
returns-clause-received g c = λ r h reads away mapped somewhere.
    let K = g.C.SrtpCipher.meaning in
    let R = g.W.GapWindow.remembers in
    let S = g.S.ResendStore.stands_for in
    let mine = subst (λ s. StandsFor R S s r) (sym c.self.view_is) h in
    let x = c.args.header.now in
    let bytes = c.args.bytes.now in
    let now = c.args.now in
    let n = c.in-Some.found.0 in
    let b = c.in-Some.found.1 in
    let is = strange_mapped x r away in
    let u : SessionRecord = taken_up_for x r in
    let one : opening_number x u ≡ Some (n, b) =
    ap (λ (m : Mapping). opening_number x (with_incoming (taken_up x.ssrc m (streams_in r)) r)) (is ∙ sym mapped)
    ∙ sym (c.in-Some.ensures.number r (streams_stand R S _ r mine) mine.seen (ap (λ (s : SessionState). s.types) mine.state) away mapped) in
    let o : IsOpening K c.self.inside.opening x n b bytes c.in-Some-2.opening.plain c.in-Some-2.opening.original c.in-Some-2.opening.payload =
    rw c.in-Some-2.is at c.in_ok-opening.ensures.opened in
    let opens = subst (λ (s : SessionState). OpensIn K s.opening x n bytes o.payload) mine.state o.opens in
    let up : StreamsStand R S c.take_up.new.self (taken_up x.ssrc (mapping_for x r) (streams_in r)) =
    subst (λ (m : Mapping). StreamsStand R S c.take_up.new.self (taken_up x.ssrc m (streams_in r))) (mapped ∙ sym is) (c.in_ok-take_up.ensures.ok (streams_in r) (streams_stand R S _ r mine)) in
    let stands : StandsFor R S _ u = record {
      state = mapped_state _ r.state c.take_up.new.self.threshold c.open.new.opening c.take_up.new.self.tx mine.state c.in_ok-take_up.ensures.threshold c.open.ensures.same c.in_ok-take_up.ensures.tx;
      rx = up.rx;
      known = up.known;
      probes = mine.probes;
      seen = mine.seen;
      repairs = subst (λ l. Along (RepairsStandFor S) l r.repairs) (sym c.in_ok-take_up.ensures.repairs) mine.repairs;
    } in
    let ends = opens_either K r bytes x reads now n b o.payload c.in-Some-2.opening.plain c.in-Some-2.opening.original c.in-Some-2.opening.payload R S c.take_in.new.self one opens o.unpads o.whole o.number o.cuts (strange x r away).nonzero
    (λ p plain some cuts. c.in_ok-take_in.ensures.packet u p stands plain (strange x r away).nonzero some cuts)
    (λ p original repairs low cuts. c.in_ok-take_in.ensures.repair u p original stands repairs low cuts) in
    ends (repaired_by u.state.types u.rx u.known.originals x) refl

pub returns-in_err-opening-clause-stands : goal.returns-in_err-opening-clause-stands
returns-in_err-opening-clause-stands g c =
    let R = g.W.GapWindow.remembers in
    let S = g.S.ResendStore.stands_for in
    let front : (r : SessionRecord) → StandsFor R S c.args.self.now r → is_standing c.args.header.now.ssrc r.rx r.known.originals ≡ false → c.args.mapping.now ≡ mapped_in c.args.header.now r
    → (after : SessionRecord) × StandsFor R S _ after =
    λ r h away mapped.
    let mine = subst (λ s. StandsFor R S s r) (sym c.self.view_is) h in
    let kept : StandsFor R S _ r = record {
      state = opening_kept _ r.state c.open.new.opening mine.state c.open.ensures.same;
      rx = mine.rx;
      known = mine.known;
      probes = mine.probes;
      seen = mine.seen;
      repairs = mine.repairs;
    } in
    (r, kept) in
    on_err_any _ front

pub returns-in_err-take_up-clause-stands : goal.returns-in_err-take_up-clause-stands
returns-in_err-take_up-clause-stands g c =
    let R = g.W.GapWindow.remembers in
    let S = g.S.ResendStore.stands_for in
    let front : (r : SessionRecord) → StandsFor R S c.args.self.now r → is_standing c.args.header.now.ssrc r.rx r.known.originals ≡ false → c.args.mapping.now ≡ mapped_in c.args.header.now r
    → (after : SessionRecord) × StandsFor R S _ after =
    λ r h away mapped.
    let mine = subst (λ s. StandsFor R S s r) (sym c.self.view_is) h in
    let same = c.in_err-take_up.ensures.err in (
      r,
      record {
        state = mapped_state _ r.state c.take_up.new.self.threshold c.open.new.opening c.take_up.new.self.tx mine.state c.in_err-take_up.ensures.threshold c.open.ensures.same c.in_err-take_up.ensures.tx;
        rx = subst (λ (v : StreamsView g.row.W.Denot g.row.S.Denot). Along (StreamStandsFor R) v.rx r.rx) (sym same) mine.rx;
        known = ap (λ (v : StreamsView g.row.W.Denot g.row.S.Denot). v.known) same ∙ mine.known;
        probes = mine.probes;
        seen = mine.seen;
        repairs = subst (λ l. Along (RepairsStandFor S) l r.repairs) (sym c.in_err-take_up.ensures.repairs) mine.repairs;
      },
    ) in
    on_err_any _ front

pub returns-in_err-take_in-clause-stands : goal.returns-in_err-take_in-clause-stands
returns-in_err-take_in-clause-stands g c =
    let R = g.W.GapWindow.remembers in
    let S = g.S.ResendStore.stands_for in
    let front : (r : SessionRecord) → StandsFor R S c.args.self.now r → is_standing c.args.header.now.ssrc r.rx r.known.originals ≡ false → c.args.mapping.now ≡ mapped_in c.args.header.now r
    → (after : SessionRecord) × StandsFor R S _ after =
    λ r h away mapped.
    let mine = subst (λ s. StandsFor R S s r) (sym c.self.view_is) h in
    let x = c.args.header.now in
    let n = c.in-Some.found.0 in
    let b = c.in-Some.found.1 in
    let is = strange_mapped x r away in
    let u : SessionRecord = taken_up_for x r in
    let one : opening_number x u ≡ Some (n, b) =
    ap (λ (m : Mapping). opening_number x (with_incoming (taken_up x.ssrc m (streams_in r)) r)) (is ∙ sym mapped)
    ∙ sym (c.in-Some.ensures.number r (streams_stand R S _ r mine) mine.seen (ap (λ (s : SessionState). s.types) mine.state) away mapped) in
    let up : StreamsStand R S c.take_up.new.self (taken_up x.ssrc (mapping_for x r) (streams_in r)) =
    subst (λ (m : Mapping). StreamsStand R S c.take_up.new.self (taken_up x.ssrc m (streams_in r))) (mapped ∙ sym is) (c.in_ok-take_up.ensures.ok (streams_in r) (streams_stand R S _ r mine)) in
    let stands : StandsFor R S _ u = record {
      state = mapped_state _ r.state c.take_up.new.self.threshold c.open.new.opening c.take_up.new.self.tx mine.state c.in_ok-take_up.ensures.threshold c.open.ensures.same c.in_ok-take_up.ensures.tx;
      rx = up.rx;
      known = up.known;
      probes = mine.probes;
      seen = mine.seen;
      repairs = subst (λ l. Along (RepairsStandFor S) l r.repairs) (sym c.in_ok-take_up.ensures.repairs) mine.repairs;
    } in
    let nonzero = (strange x r away).nonzero in
    c.in_err-take_in.ensures.stands u stands nonzero (λ none. has_place u x nonzero n (number_of_packet u x n b one none).1) in
    on_err_any _ front
