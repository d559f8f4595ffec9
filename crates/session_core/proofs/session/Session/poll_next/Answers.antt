use Rattle.std.proofs.Common.{◌≡◌, ℕ, [], false, true, None, Some, length, sym, ap, subst, ◌∙◌, arith}
use Rattle.std.proofs.lemmas.Bool.Decides.{nat_tests}
use Rattle.std.specs.Prelude.{◌==◌}
use Rattle.session_core.specs.SessionRecord.{SessionView, StandsFor}
use Rattle.session_core.specs.declared.error.RtcError.TheVariants.{Memory}
use Rattle.session_core.specs.Sending.{NextPacket, sealed_by}
use Rattle.session_core.proofs.Failing.{empty_of}
use Rattle.session_core.proofs.Passing.{zero_given, keyless_given, packet_given, packet_failed, compound_given, compound_failed, given_from, failed_from, none_when, sealed_none, sealed_stands, lost_packet}
use Rattle.session_core.proofs.session.Session.poll_next.Goals as goal

pub returns-then-eq-clause-polled : goal.returns-then-eq-clause-polled
returns-then-eq-clause-polled g c = λ r h.
    let zero : (c.args.now == 0) ≡ true = ap (λ (z : ℕ). c.args.now == z) (sym c.already_happened.ensures) ∙ sym c.eq.ensures ∙ c.if-eq.true in
    zero_given g.W.GapWindow.remembers g.S.ResendStore.stands_for g.C.SrtpCipher.meaning c.args.now _ r h zero

pub returns-then-not-is_empty-clause-polled : goal.returns-then-not-is_empty-clause-polled
returns-then-not-is_empty-clause-polled g c =
    let later : (c.args.now == 0) ≡ false = ap (λ (z : ℕ). c.args.now == z) (sym c.already_happened.ensures) ∙ sym c.eq.ensures ∙ c.if-eq.false in
    let there = sym c.is_empty.ensures ∙ c.if-not-is_empty.true in
    let some : c.self.inside.feedback.items ≡ [] → ⊥ = λ empty. (let len : length c.self.inside.feedback.items ≡ 0 = ap length empty in let ok = c.self.inside.feedback.ok in grind (arith, nat_tests)) in
    let said = c.poll_compound.ensures in
    given_from g.W.GapWindow.remembers g.S.ResendStore.stands_for c.poll_compound.result _ c.args.self.now c.self.view_is _
    (compound_given g.W.GapWindow.remembers g.S.ResendStore.stands_for g.C.SrtpCipher.meaning c.args.now _ later some c.poll_compound.new.sealing c.poll_compound.new.items.items c.poll_compound.result
    said.exhausted said.sealed said.left said.next)

pub returns-then-not-is_empty-clause-failed : goal.returns-then-not-is_empty-clause-failed
returns-then-not-is_empty-clause-failed g c =
    let later : (c.args.now == 0) ≡ false = ap (λ (z : ℕ). c.args.now == z) (sym c.already_happened.ensures) ∙ sym c.eq.ensures ∙ c.if-eq.false in
    let there = sym c.is_empty.ensures ∙ c.if-not-is_empty.true in
    let some : c.self.inside.feedback.items ≡ [] → ⊥ = λ empty. (let len : length c.self.inside.feedback.items ≡ 0 = ap length empty in let ok = c.self.inside.feedback.ok in grind (arith, nat_tests)) in
    let said = c.poll_compound.ensures in
    failed_from g.W.GapWindow.remembers g.S.ResendStore.stands_for c.poll_compound.result _ c.args.self.now c.self.view_is _
    (compound_failed g.W.GapWindow.remembers g.S.ResendStore.stands_for g.C.SrtpCipher.meaning c.args.now _ later some c.poll_compound.new.sealing c.poll_compound.new.items.items c.poll_compound.result
    said.exhausted said.memory said.unsealed (λ t. ap (λ q. q.items) (said.kept t)) said.lost)

pub returns-then-is_none-clause-polled : goal.returns-then-is_none-clause-polled
returns-then-is_none-clause-polled g c = λ r h.
    let mine = subst (λ v. StandsFor g.W.GapWindow.remembers g.S.ResendStore.stands_for v r) (sym c.self.view_is) h in
    let later : (c.args.now == 0) ≡ false = ap (λ (z : ℕ). c.args.now == z) (sym c.already_happened.ensures) ∙ sym c.eq.ensures ∙ c.if-eq.false in
    let there = sym c.is_empty.ensures ∙ c.if-not-is_empty.false in
    let len : length c.self.inside.feedback.items ≡ 0 = (let ok = c.self.inside.feedback.ok in grind (arith, nat_tests)) in
    let empty : c.self.inside.feedback.items ≡ [] = empty_of c.self.inside.feedback.items len in
    let k = keyless_given g.W.GapWindow.remembers g.S.ResendStore.stands_for g.C.SrtpCipher.meaning c.args.now _ r mine later empty (none_when c.self.inside.sealing c.is_none.result true c.is_none.ensures c.if-is_none.true) in
    (k.0, k.1, subst (λ v. StandsFor g.W.GapWindow.remembers g.S.ResendStore.stands_for v k.0) c.self.view_is k.2)

pub returns-in-Ok-None-clause-polled : goal.returns-in-Ok-None-clause-polled
returns-in-Ok-None-clause-polled g c = λ r h.
    let mine = subst (λ v. StandsFor g.W.GapWindow.remembers g.S.ResendStore.stands_for v r) (sym c.self.view_is) h in
    let later : (c.args.now == 0) ≡ false = ap (λ (z : ℕ). c.args.now == z) (sym c.already_happened.ensures) ∙ sym c.eq.ensures ∙ c.if-eq.false in
    let there = sym c.is_empty.ensures ∙ c.if-not-is_empty.false in
    let len : length c.self.inside.feedback.items ≡ 0 = (let ok = c.self.inside.feedback.ok in grind (arith, nat_tests)) in
    let empty : c.self.inside.feedback.items ≡ [] = empty_of c.self.inside.feedback.items len in
    let k = c.in-Ok-None.ensures.polled r h in (
      k.0,
      packet_given g.W.GapWindow.remembers g.S.ResendStore.stands_for g.C.SrtpCipher.meaning c.args.now _ r mine later empty (none_when c.self.inside.sealing c.is_none.result false c.is_none.ensures c.if-is_none.false) k.0 None None
          (sym (sealed_none g.C.SrtpCipher.meaning c.self.inside.sealing)) (subst (λ o. NextPacket c.args.now r k.0 o) c.in-Ok-None.field-0-is k.1),
      k.2,
    )

pub returns-in-Err-clause-failed : goal.returns-in-Err-clause-failed
returns-in-Err-clause-failed g c = λ r h.
    let mine = subst (λ v. StandsFor g.W.GapWindow.remembers g.S.ResendStore.stands_for v r) (sym c.self.view_is) h in
    let later : (c.args.now == 0) ≡ false = ap (λ (z : ℕ). c.args.now == z) (sym c.already_happened.ensures) ∙ sym c.eq.ensures ∙ c.if-eq.false in
    let there = sym c.is_empty.ensures ∙ c.if-not-is_empty.false in
    let len : length c.self.inside.feedback.items ≡ 0 = (let ok = c.self.inside.feedback.ok in grind (arith, nat_tests)) in
    let empty : c.self.inside.feedback.items ≡ [] = empty_of c.self.inside.feedback.items len in
    let k = c.in-Err.ensures.failed r h in (
      k.0,
      packet_failed g.W.GapWindow.remembers g.S.ResendStore.stands_for g.C.SrtpCipher.meaning c.args.now _ r mine later empty (none_when c.self.inside.sealing c.is_none.result false c.is_none.ensures c.if-is_none.false) k.0 c.in-Err.error k.1,
      k.2,
    )

pub returns-clause-polled : goal.returns-clause-polled
returns-clause-polled g c = λ r h.
    let m = g.W.GapWindow.remembers in
    let S = g.S.ResendStore.stands_for in
    let K = g.C.SrtpCipher.meaning in
    let mine = subst (λ v. StandsFor m S v r) (sym c.self.view_is) h in
    let later : (c.args.now == 0) ≡ false = ap (λ (z : ℕ). c.args.now == z) (sym c.already_happened.ensures) ∙ sym c.eq.ensures ∙ c.if-eq.false in
    let there = sym c.is_empty.ensures ∙ c.if-not-is_empty.false in
    let len : length c.self.inside.feedback.items ≡ 0 = (let ok = c.self.inside.feedback.ok in grind (arith, nat_tests)) in
    let empty : c.self.inside.feedback.items ≡ [] = empty_of c.self.inside.feedback.items len in
    let k = c.in-Ok-Some.ensures.polled r h in
    let next = subst (λ o. NextPacket c.args.now r k.0 o) c.in-Ok-Some.field-0-is k.1 in
    let after = subst (λ v. StandsFor m S v k.0) (sym c.self-2.view_is) k.2 in
    let sealing : c.self-2.inside.sealing ≡ c.self.inside.sealing =
    ap (λ (v : SessionView g.row.W.Denot g.row.S.Denot). v.state.sealing) c.self-2.view_is ∙ c.in-Ok-Some.ensures.sealing
    ∙ ap (λ (v : SessionView g.row.W.Denot g.row.S.Denot). v.state.sealing) (sym c.self.view_is) in (
      k.0,
      packet_given m S K c.args.now _ r mine later empty (none_when c.self.inside.sealing c.is_none.result false c.is_none.ensures c.if-is_none.false) k.0 (Some c.in-Ok-Some.receipt) c.in-Ok.sealed
          (c.in-Ok.ensures.sealed ∙ ap (λ o. sealed_by K o (Some c.in-Ok-Some.receipt)) sealing) next,
      sealed_stands m S _ k.0 after c.seal.new.sealing c.in-Ok.ensures.same,
    )

pub returns-in-Err-seal-clause-failed : goal.returns-in-Err-seal-clause-failed
returns-in-Err-seal-clause-failed g c = λ r h.
    let m = g.W.GapWindow.remembers in
    let S = g.S.ResendStore.stands_for in
    let mine = subst (λ v. StandsFor m S v r) (sym c.self.view_is) h in
    let later : (c.args.now == 0) ≡ false = ap (λ (z : ℕ). c.args.now == z) (sym c.already_happened.ensures) ∙ sym c.eq.ensures ∙ c.if-eq.false in
    let there = sym c.is_empty.ensures ∙ c.if-not-is_empty.false in
    let len : length c.self.inside.feedback.items ≡ 0 = (let ok = c.self.inside.feedback.ok in grind (arith, nat_tests)) in
    let empty : c.self.inside.feedback.items ≡ [] = empty_of c.self.inside.feedback.items len in
    let k = c.in-Ok-Some.ensures.polled r h in
    let next = subst (λ o. NextPacket c.args.now r k.0 o) c.in-Ok-Some.field-0-is k.1 in
    let after = subst (λ v. StandsFor m S v k.0) (sym c.self-2.view_is) k.2 in (
      k.0,
      packet_failed m S g.C.SrtpCipher.meaning c.args.now _ r mine later empty (none_when c.self.inside.sealing c.is_none.result false c.is_none.ensures c.if-is_none.false) k.0 Memory (lost_packet c.args.now r k.0 c.in-Ok-Some.receipt next),
      sealed_stands m S _ k.0 after c.seal.new.sealing c.in-Err-seal.ensures.same,
    )
