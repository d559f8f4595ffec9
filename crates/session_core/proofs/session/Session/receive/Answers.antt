use Rattle.std.proofs.Common.{◌≡◌, Some, None, Ok, Err, sym, ap, subst, ◌∙◌}
use Rattle.std.specs.Prelude.{true, false, Result, IfOk}
use Rattle.rtp_wire.specs.Header.{header_of}
use Rattle.session_core.specs.Mapping.{is_standing, is_nowhere, mapped_in}
use Rattle.session_core.specs.SessionRecord.{SessionState, SessionView, StandsFor, streams_in}
use Rattle.session_core.proofs.StreamsIn.{streams_stand}
use Rattle.session_core.proofs.Taking.{stays_headless, received_standing}
use Rattle.session_core.proofs.Failing.{on_err_map}
use Rattle.session_core.proofs.session.Session.receive.Goals as goal

if_ok_map : {X E : Type 0} (o : Result X E) (P Q : X → Type 0) → ((x : X) → P x → Q x) → IfOk o P → IfOk o Q
if_ok_map (Ok x) P Q f p = f x p
if_ok_map (Err e) P Q f p = tt

pub returns-in_default-clause-received : goal.returns-in_default-clause-received
returns-in_default-clause-received g c = λ r h.
    let mine = subst (λ s. StandsFor g.W.GapWindow.remembers g.S.ResendStore.stands_for s r) (sym c.self.view_is) h in
    let none : header_of r.state.transport.exts c.args.bytes.now ≡ None =
    ap (λ (s : SessionState). header_of s.transport.exts c.args.bytes.now) (sym mine.state) ∙ sym c.parse-read.ensures ∙ c.in_default.is in
    (r, stays_headless g.C.SrtpCipher.meaning r c.args.bytes.now c.args.now none, h)

pub returns-then-is_standing-clause-received : goal.returns-then-is_standing-clause-received
returns-then-is_standing-clause-received g c =
    let R = g.W.GapWindow.remembers in
    let S = g.S.ResendStore.stands_for in
    let x = c.in-Some.header in
    if_ok_map c.receive_standing.result _ _ (λ o says r h.
    let mine = subst (λ s. StandsFor R S s r) (sym c.self.view_is) h in
    let reads : header_of r.state.transport.exts c.args.bytes.now ≡ Some x =
    ap (λ (s : SessionState). header_of s.transport.exts c.args.bytes.now) (sym mine.state) ∙ sym c.parse-read.ensures ∙ c.in-Some.is in
    let stands : is_standing x.ssrc r.rx r.known.originals ≡ true =
    sym (c.is_standing.ensures (streams_in r) (streams_stand R S _ r mine)) ∙ c.if-is_standing.true in
    let k = says r h reads in
    (k.0, received_standing g.C.SrtpCipher.meaning r c.args.bytes.now x reads stands c.args.now k.0 o k.1, k.2)) c.receive_standing.ensures.received

pub returns-then-is_nowhere-clause-received : goal.returns-then-is_nowhere-clause-received
returns-then-is_nowhere-clause-received g c =
    let R = g.W.GapWindow.remembers in
    let S = g.S.ResendStore.stands_for in
    let x = c.in-Some.header in
    if_ok_map c.receive_padding.result _ _ (λ o says r h.
    let mine = subst (λ s. StandsFor R S s r) (sym c.self.view_is) h in
    let reads : header_of r.state.transport.exts c.args.bytes.now ≡ Some x =
    ap (λ (s : SessionState). header_of s.transport.exts c.args.bytes.now) (sym mine.state) ∙ sym c.parse-read.ensures ∙ c.in-Some.is in
    let away : is_standing x.ssrc r.rx r.known.originals ≡ false =
    sym (c.is_standing.ensures (streams_in r) (streams_stand R S _ r mine)) ∙ c.if-is_standing.false in
    let nowhere : is_nowhere (mapped_in x r) ≡ true = sym (ap is_nowhere (c.map-mapping.ensures r h)) ∙ sym c.is_nowhere.ensures ∙ c.if-is_nowhere.true in
    says r c.args.now h reads away nowhere) c.receive_padding.ensures.received

pub returns-clause-received : goal.returns-clause-received
returns-clause-received g c =
    let R = g.W.GapWindow.remembers in
    let S = g.S.ResendStore.stands_for in
    let x = c.in-Some.header in
    if_ok_map c.receive_mapped.result _ _ (λ o says r h.
    let mine = subst (λ s. StandsFor R S s r) (sym c.self.view_is) h in
    let reads : header_of r.state.transport.exts c.args.bytes.now ≡ Some x =
    ap (λ (s : SessionState). header_of s.transport.exts c.args.bytes.now) (sym mine.state) ∙ sym c.parse-read.ensures ∙ c.in-Some.is in
    let away : is_standing x.ssrc r.rx r.known.originals ≡ false =
    sym (c.is_standing.ensures (streams_in r) (streams_stand R S _ r mine)) ∙ c.if-is_standing.false in
    says r h reads away (c.map-mapping.ensures r h) (sym c.is_nowhere.ensures ∙ c.if-is_nowhere.false)) c.receive_mapped.ensures.received

pub returns-then-is_nowhere-clause-stands : goal.returns-then-is_nowhere-clause-stands
returns-then-is_nowhere-clause-stands g c =
    let R = g.W.GapWindow.remembers in
    let S = g.S.ResendStore.stands_for in
    on_err_map c.receive_padding.result _ _ (λ same r h. (r, subst (λ (v : SessionView g.row.W.Denot g.row.S.Denot). StandsFor R S v r) (sym same) h)) c.receive_padding.ensures.err

pub returns-clause-stands : goal.returns-clause-stands
returns-clause-stands g c =
    let R = g.W.GapWindow.remembers in
    let S = g.S.ResendStore.stands_for in
    let x = c.in-Some.header in
    on_err_map c.receive_mapped.result _ _ (λ says r h.
    let mine = subst (λ s. StandsFor R S s r) (sym c.self.view_is) h in
    let away : is_standing x.ssrc r.rx r.known.originals ≡ false =
    sym (c.is_standing.ensures (streams_in r) (streams_stand R S _ r mine)) ∙ c.if-is_standing.false in
    says r h away (c.map-mapping.ensures r h)) c.receive_mapped.ensures.stands
