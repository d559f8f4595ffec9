use Rattle.std.proofs.Common.{◌≡◌, ℕ, false, List, Some, None, sym, ap, subst, ◌∙◌}
use Rattle.rtp_base.specs.declared.kind.Kind.TheVariants.{Rtp}
use Rattle.session_core.specs.SessionRecord.{streams_in, SessionRecord, SessionState, StandsFor}
use Rattle.session_core.proofs.StreamsIn.{streams_stand}
use Rattle.session_core.specs.Receiving.{Unpads, OpensIn, IsOpening, Takes, number_of, after_opened, takes_packet, takes_nothing}
use Rattle.stream_core.specs.Seen.{seen_of}
use Rattle.session_core.proofs.Others.{opening_kept}
use Rattle.session_core.proofs.Staying.{stays_unaccepted, stays_sealed, packet_only}
use Rattle.session_core.proofs.Failing.{on_err_any}
use Rattle.session_core.proofs.session.Session.receive_under.Goals as goal

pub returns-in_default-clause-received : goal.returns-in_default-clause-received
returns-in_default-clause-received g c = λ r h reads plain claimed.
    let mine = subst (λ s. StandsFor g.W.GapWindow.remembers g.S.ResendStore.stands_for s r) (sym c.self.view_is) h in
    let x = c.args.header.now in
    let none : number_of (seen_of x.ssrc r.seen) r.rx r.probes x.ssrc x.sequence_number ≡ None =
    ap (λ o. number_of o r.rx r.probes x.ssrc x.sequence_number) (sym (c.get-remembered.ensures.value r.seen mine.seen))
    ∙ sym (c.in_default.ensures.number (streams_in r) r.probes (streams_stand g.W.GapWindow.remembers g.S.ResendStore.stands_for _ r mine) mine.probes) in
    (r, takes_nothing (stays_unaccepted g.C.SrtpCipher.meaning r c.args.bytes.now x reads none) (packet_only g.C.SrtpCipher.meaning r c.args.bytes.now x reads plain), h)

pub returns-in_default-2-clause-received : goal.returns-in_default-2-clause-received
returns-in_default-2-clause-received g c = λ r h reads plain claimed.
    let K = g.C.SrtpCipher in
    let mine = subst (λ s. StandsFor g.W.GapWindow.remembers g.S.ResendStore.stands_for s r) (sym c.self.view_is) h in
    let x = c.args.header.now in
    let n = c.in-Some.found.1 in
    let number : number_of (seen_of x.ssrc r.seen) r.rx r.probes x.ssrc x.sequence_number ≡ Some n =
    ap (λ o. number_of o r.rx r.probes x.ssrc x.sequence_number) (sym (c.get-remembered.ensures.value r.seen mine.seen))
    ∙ sym (c.in-Some.ensures.number (streams_in r) r.probes (streams_stand g.W.GapWindow.remembers g.S.ResendStore.stands_for _ r mine) mine.probes) in
    let none : (p : List ℕ) → OpensIn K.meaning c.self.inside.opening x n c.args.bytes.now p → Unpads x p → ⊥ = rw c.in_default-2.is at c.in_ok-opening.ensures.none in (
      r,
      takes_nothing (stays_sealed K.meaning r c.args.bytes.now x reads n number
          (subst (λ (s : SessionState). (p : List ℕ) → OpensIn K.meaning s.opening x n c.args.bytes.now p → Unpads x p → ⊥) mine.state none))
          (packet_only K.meaning r c.args.bytes.now x reads plain),
      record {
        state = opening_kept _ r.state c.open.new.opening mine.state c.open.ensures.same;
        rx = mine.rx;
        probes = mine.probes;
        seen = mine.seen;
        known = mine.known;
        repairs = mine.repairs;
      },
    )

pub returns-clause-received : goal.returns-clause-received
returns-clause-received g c = λ r h reads plain claimed.
    let K = g.C.SrtpCipher in
    let R = g.W.GapWindow.remembers in
    let S = g.S.ResendStore.stands_for in
    let mine = subst (λ s. StandsFor R S s r) (sym c.self.view_is) h in
    let x = c.args.header.now in
    let n = c.in-Some.found.1 in
    let memory : c.get-remembered.result ≡ seen_of x.ssrc r.seen = c.get-remembered.ensures.value r.seen mine.seen in
    let number : number_of (seen_of x.ssrc r.seen) r.rx r.probes x.ssrc x.sequence_number ≡ Some n =
    ap (λ o. number_of o r.rx r.probes x.ssrc x.sequence_number) (sym memory) ∙ sym (c.in-Some.ensures.number (streams_in r) r.probes (streams_stand R S _ r mine) mine.probes) in
    let o : IsOpening K.meaning c.self.inside.opening x n false c.args.bytes.now c.in-Some-2.opening.plain c.in-Some-2.opening.original c.in-Some-2.opening.payload = rw c.in-Some-2.is at c.in_ok-opening.ensures.opened in
    let opens = subst (λ (s : SessionState). OpensIn K.meaning s.opening x n c.args.bytes.now o.payload) mine.state o.opens in
    let kept : StandsFor R S _ r = record {
      state = opening_kept _ r.state c.open.new.opening mine.state c.open.ensures.same;
      rx = mine.rx;
      known = mine.known;
      probes = mine.probes;
      seen = mine.seen;
      repairs = mine.repairs;
    } in (
      after_opened c.args.now x n o.payload r,
      subst (λ l. Takes K.meaning r c.args.bytes.now c.args.now (after_opened c.args.now x n o.payload r) (Some (record { kind = Rtp; ssrc = x.ssrc; index = n; plain = l }))) (sym o.whole)
          (takes_packet x n o.payload (record { reads = reads; original = plain; claimed = claimed; accepts = number; opens = opens; unpads = o.unpads })),
      c.in_ok-take_packet.ensures.ok r o.payload kept memory c.in-Some.ensures.probe c.in-Some.ensures.place o.cuts,
    )

pub returns-in_err-opening-clause-stands : goal.returns-in_err-opening-clause-stands
returns-in_err-opening-clause-stands g c =
    let R = g.W.GapWindow.remembers in
    let S = g.S.ResendStore.stands_for in
    let front : (r : SessionRecord) → StandsFor R S c.args.self.now r → (after : SessionRecord) × StandsFor R S _ after =
    λ r h.
    let mine = subst (λ s. StandsFor R S s r) (sym c.self.view_is) h in
    let kept : StandsFor R S _ r = record {
      state = opening_kept _ r.state c.open.new.opening mine.state c.open.ensures.same;
      rx = mine.rx;
      known = mine.known;
      probes = mine.probes;
      seen = mine.seen;
      repairs = mine.repairs;
    } in
    (r, kept) in
    on_err_any _ front

pub returns-in_err-take_packet-clause-stands : goal.returns-in_err-take_packet-clause-stands
returns-in_err-take_packet-clause-stands g c =
    let R = g.W.GapWindow.remembers in
    let S = g.S.ResendStore.stands_for in
    let front : (r : SessionRecord) → StandsFor R S c.args.self.now r → (after : SessionRecord) × StandsFor R S _ after =
    λ r h.
    let mine = subst (λ s. StandsFor R S s r) (sym c.self.view_is) h in
    let kept : StandsFor R S _ r = record {
      state = opening_kept _ r.state c.open.new.opening mine.state c.open.ensures.same;
      rx = mine.rx;
      known = mine.known;
      probes = mine.probes;
      seen = mine.seen;
      repairs = mine.repairs;
    } in
    c.in_err-take_packet.ensures.stands r kept c.in-Some.ensures.probe c.in-Some.ensures.place in
    on_err_any _ front
