use Rattle.std.proofs.Common.{◌≡◌, ℕ, List, Some, None, Ok, Err, sym, ap, subst, ◌∙◌}
use Rattle.std.specs.Prelude.{true, false, Option, Result, IfOk}
use Rattle.std.specs.Option.{option_map}
use Rattle.std.specs.declared.alloc.AllocError.{AllocError}
use Rattle.repair_core.specs.Rounds.{Heard}
use Rattle.srtp_core.specs.Cipher.{CipherMeaning}
use Rattle.rtp_wire.specs.Header.{header_of}
use Rattle.session_core.specs.declared.datagram.Opened.{Opened}
use Rattle.session_core.specs.SessionRecord.{SessionRecord, SessionState, SessionView, StandsFor, streams_in}
use Rattle.resend_core.specs.ResendStore.{Past}
use Rattle.stream_core.specs.Repairing.{SentPacket}
use Rattle.stream_core.specs.Tables.{place_of}
use Rattle.session_core.specs.Receiving.{Takes, is_claimed, takes_nothing}
use Rattle.session_core.specs.Repairs.{repaired_by}
use Rattle.session_core.proofs.Staying.{stays_unclaimed, packet_only}
use Rattle.session_core.proofs.StreamsIn.{streams_stand}
use Rattle.session_core.proofs.Failing.{on_err_map}
use Rattle.session_core.proofs.session.Session.receive_standing.Goals as goal

-- a call that needs three facts of a session that hold of this one
received_of : {W S : Type 0} (remembers : W → Heard → Type 0) (stands_for : S → Past SentPacket → Type 0) (cipher : CipherMeaning) (o : Result (Option Opened) AllocError) (bytes : List ℕ) (now : ℕ) (A B C : SessionRecord → Type 0) (v new : SessionView W S)
    → IfOk o (λ opened. (r : SessionRecord) → StandsFor remembers stands_for v r → A r → B r → C r
    → (after : SessionRecord) × Takes cipher r bytes now after opened × StandsFor remembers stands_for new after)
    → ((r : SessionRecord) → StandsFor remembers stands_for v r → A r → B r × C r)
    → IfOk o (λ opened. (r : SessionRecord) → StandsFor remembers stands_for v r → A r → (after : SessionRecord) × Takes cipher r bytes now after opened × StandsFor remembers stands_for new after)
received_of remembers stands_for cipher (Ok x) bytes now A B C v new f known = λ r s a. let k = known r s a in f r s a k.0 k.1
received_of remembers stands_for cipher (Err x) bytes now A B C v new f known = tt

pub returns-in-Some-clause-received : goal.returns-in-Some-clause-received
returns-in-Some-clause-received g c =
    let R = g.W.GapWindow.remembers in
    let S = g.S.ResendStore.stands_for in
    let x = c.args.header.now in
    let original = c.in-Some.found.0 in
    let place = c.in-Some.found.1 in
    let there : place_of original c.args.self.now.rx ≡ Some place =
    ap (λ (v : SessionView g.row.W.Denot g.row.S.Denot). place_of original v.rx) (sym c.self.view_is) ∙ c.in-Some.ensures.place in
    received_of R S g.C.SrtpCipher.meaning c.receive_repair.result c.args.bytes.now c.args.now
    (λ r. header_of r.state.transport.exts c.args.bytes.now ≡ Some x) (λ r. repaired_by r.state.types r.rx r.known.originals x ≡ Some original) (λ r. place_of original c.args.self.now.rx ≡ Some place)
    c.args.self.now c.receive_repair.new.self c.receive_repair.ensures.received
    (λ r h reads.
    let mine = subst (λ s. StandsFor R S s r) (sym c.self.view_is) h in
    let repairs : repaired_by r.state.types r.rx r.known.originals x ≡ Some original =
    ap (λ (s : SessionState). repaired_by s.types r.rx r.known.originals x) (sym mine.state)
    ∙ sym (c.repaired_by.ensures.original (streams_in r) (streams_stand R S _ r mine)) ∙ ap (option_map (λ f. f.0)) c.in-Some.is in
    (repairs, there))

pub returns-then-not-is_claimed-clause-received : goal.returns-then-not-is_claimed-clause-received
returns-then-not-is_claimed-clause-received g c = λ r h reads.
    let R = g.W.GapWindow.remembers in
    let S = g.S.ResendStore.stands_for in
    let mine = subst (λ s. StandsFor R S s r) (sym c.self.view_is) h in
    let x = c.args.header.now in
    let plain : repaired_by r.state.types r.rx r.known.originals x ≡ None =
    ap (λ (s : SessionState). repaired_by s.types r.rx r.known.originals x) (sym mine.state)
    ∙ sym (c.repaired_by.ensures.original (streams_in r) (streams_stand R S _ r mine)) ∙ ap (option_map (λ f. f.0)) c.in_default.is in
    let none : is_claimed r.state.types x ≡ false = ap (λ (s : SessionState). is_claimed s.types x) (sym mine.state) ∙ sym c.is_claimed.ensures ∙ c.if-not-is_claimed.true in
    (r, takes_nothing (stays_unclaimed g.C.SrtpCipher.meaning r c.args.bytes.now x reads none) (packet_only g.C.SrtpCipher.meaning r c.args.bytes.now x reads plain), h)

pub returns-clause-received : goal.returns-clause-received
returns-clause-received g c =
    let R = g.W.GapWindow.remembers in
    let S = g.S.ResendStore.stands_for in
    let x = c.args.header.now in
    received_of R S g.C.SrtpCipher.meaning c.receive_under.result c.args.bytes.now c.args.now
    (λ r. header_of r.state.transport.exts c.args.bytes.now ≡ Some x) (λ r. repaired_by r.state.types r.rx r.known.originals x ≡ None) (λ r. is_claimed r.state.types x ≡ true)
    c.args.self.now c.receive_under.new.self c.receive_under.ensures.received
    (λ r h reads.
    let mine = subst (λ s. StandsFor R S s r) (sym c.self.view_is) h in
    let plain : repaired_by r.state.types r.rx r.known.originals x ≡ None =
    ap (λ (s : SessionState). repaired_by s.types r.rx r.known.originals x) (sym mine.state)
    ∙ sym (c.repaired_by.ensures.original (streams_in r) (streams_stand R S _ r mine)) ∙ ap (option_map (λ f. f.0)) c.in_default.is in
    let claimed : is_claimed r.state.types x ≡ true = ap (λ (s : SessionState). is_claimed s.types x) (sym mine.state) ∙ sym c.is_claimed.ensures ∙ c.if-not-is_claimed.false in
    (plain, claimed))

pub returns-in-Some-clause-stands : goal.returns-in-Some-clause-stands
returns-in-Some-clause-stands g c =
    let there : place_of c.in-Some.found.0 c.args.self.now.rx ≡ Some c.in-Some.found.1 =
    ap (λ (v : SessionView g.row.W.Denot g.row.S.Denot). place_of c.in-Some.found.0 v.rx) (sym c.self.view_is) ∙ c.in-Some.ensures.place in
    on_err_map c.receive_repair.result _ _ (λ stands r h. stands r h there) c.receive_repair.ensures.stands
