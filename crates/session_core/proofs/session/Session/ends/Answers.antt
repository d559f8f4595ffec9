use Rattle.std.proofs.Common.{◌≡◌, ◌≤◌, ℕ, [], false, None, length, take, sym, ap, subst, ◌∙◌, arith}
use Rattle.std.proofs.lemmas.Bool.Decides.{nat_tests}
use Rattle.std.proofs.lemmas.List.{take_all}
use Rattle.std.specs.Prelude.{◌==◌}
use Rattle.session_core.specs.SessionRecord.{StandsFor}
use Rattle.session_core.specs.Sending.{first_due, unreleased, none_due}
use Rattle.session_core.proofs.Asked.{none_released}
use Rattle.session_core.proofs.Failing.{empty_of}
use Rattle.session_core.proofs.Passing.{place_is, unreleased_stands, packet_given, none_when, sealed_none}
use Rattle.session_core.proofs.session.Session.ends.Goals as goal

pub invariant_of-self : goal.invariant_of-self
invariant_of-self g c = record {
  polls = none_released c.self.inside.medias.items c.self.inside.released c.self.inside.streams.repairs (take c.self.inside.next_stream c.self.inside.streams.tx) c.self.invariant.polls;
  wide = c.self.invariant.wide;
  left = c.self.invariant.left;
  fit = c.self.invariant.fit;
}

pub returns-clause-ended : goal.returns-clause-ended
returns-clause-ended g c = λ r h.
    let m = g.W.GapWindow.remembers in
    let S = g.S.ResendStore.stands_for in
    let K = g.C.SrtpCipher.meaning in
    let qs = c.self.inside.streams.repairs in
    let tx = c.self.inside.streams.tx in
    let ms = c.self.inside.medias.items in
    let go = c.self.inside.released in
    let mine = subst (λ v. StandsFor m S v r) (sym c.self.view_is) h in
    let later : (c.args.now == 0) ≡ false = ap (λ (z : ℕ). c.args.now == z) (sym c.already_happened.ensures) ∙ sym c.eq.ensures ∙ c.if-eq.false in
    let there = sym c.is_empty.ensures ∙ c.if-not-is_empty.false in
    let len : length c.self.inside.feedback.items ≡ 0 = (let ok = c.self.inside.feedback.ok in grind (arith, nat_tests)) in
    let empty : c.self.inside.feedback.items ≡ [] = empty_of c.self.inside.feedback.items len in
    let behind : length tx ≤ c.self.inside.next_stream = (let n = c.tx_len.ensures in let is = c.if-self-tx_len.false in grind (arith, nat_tests)) in
    let none : None ≡ first_due ms go qs tx = sym (ap (first_due ms go qs) (sym (take_all c.self.inside.next_stream tx behind)) ∙ c.self.invariant.polls) in (
      unreleased r,
      packet_given m S K c.args.now _ r mine later empty (none_when c.self.inside.sealing c.is_none.result false c.is_none.ensures c.if-is_none.false) (unreleased r) None None
          (sym (sealed_none K c.self.inside.sealing)) (none_due r (place_is m S _ r mine None none)),
      unreleased_stands m S _ r mine,
    )
