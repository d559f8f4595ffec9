use Rattle.std.proofs.Common.{◌≡◌, [], true, false, Some, None, refl, sym, ap, ◌∙◌}
use Rattle.std.specs.Prelude.{if◌then◌else◌}
use Rattle.rtp_base.specs.Widen.{widen16}
use Rattle.stream_core.specs.RxRecord.{expected}
use Rattle.stream_core.specs.Seen.{is_unseen}
use Rattle.session_core.specs.Mapping.{number_near}
use Rattle.session_core.proofs.mapping.unseen_number.Goals as goal

pub returns-then-accepts-clause-number : goal.returns-then-accepts-clause-number
returns-then-accepts-clause-number c = λ numbers seen.
    let x = c.args.header.now in
    let n = c.first_repair_number-number.result in
    let near : n ≡ number_near numbers x =
    c.first_repair_number-number.ensures.number (expected 0 None [] None false 0) refl ∙ ap (λ o. widen16 o x.sequence_number) (c.get.ensures.value numbers seen) in
    let unseen : is_unseen x.ssrc (number_near numbers x) numbers ≡ true =
    ap (λ k. is_unseen x.ssrc k numbers) (sym near) ∙ sym (c.accepts.ensures numbers seen) ∙ c.if-accepts.true in
    ap Some near ∙ sym (ap (λ b. if b then Some (number_near numbers x) else None) unseen)

pub returns-else-accepts-clause-number : goal.returns-else-accepts-clause-number
returns-else-accepts-clause-number c = λ numbers seen.
    let x = c.args.header.now in
    let n = c.first_repair_number-number.result in
    let near : n ≡ number_near numbers x =
    c.first_repair_number-number.ensures.number (expected 0 None [] None false 0) refl ∙ ap (λ o. widen16 o x.sequence_number) (c.get.ensures.value numbers seen) in
    let unseen : is_unseen x.ssrc (number_near numbers x) numbers ≡ false =
    ap (λ k. is_unseen x.ssrc k numbers) (sym near) ∙ sym (c.accepts.ensures numbers seen) ∙ c.if-accepts.false in
    sym (ap (λ b. if b then Some (number_near numbers x) else None) unseen)
