use Rattle.std.proofs.Common.{◌≤◌, Some, None, refl, subst, ◌∙◌, arith}
use Rattle.session_core.specs.Sending.{Gives, after_streams, unreleased, none_due, given, passed, waiting_in}
use Rattle.session_core.specs.Draining.{after_pass}
use Rattle.session_core.specs.SessionRecord.{StandsFor}
use Rattle.session_core.proofs.Passing.{some_at, none_at}
use Rattle.session_core.proofs.session.Session.poll_packet.Goals as goal

pub loop-receipt-init : goal.loop-receipt-init
loop-receipt-init g c =
    let least : waiting_in c.args.self.now ≤ waiting_in c.args.self.now = omega arith in
    record {
      runs = refl;
      feedback = refl;
      sealing = refl;
      rx = refl;
      known = refl;
      probes = refl;
      seen = refl;
      fewer = least;
      goes = λ r h. (r, h, (λ after o n. n), (λ after e f. f));
    }

pub loop-receipt-preserved : goal.loop-receipt-preserved
loop-receipt-preserved g c =
    let said = c.in-Ok-Some-None.ensures in
    let l = c.loop-receipt.invariant in
    let less = some_at _ c.in-Ok-Some-None.field-0 c.in-Ok-Some-None.field-0-0 c.in-Ok-Some-None.field-0-is said.fewer in
    let most = l.fewer in
    record {
      runs = said.runs ∙ l.runs;
      feedback = said.feedback ∙ l.feedback;
      sealing = said.sealing ∙ l.sealing;
      rx = said.rx ∙ l.rx;
      known = said.known ∙ l.known;
      probes = said.probes ∙ l.probes;
      seen = said.seen ∙ l.seen;
      fewer = omega (arith, less, most);
      goes = λ r h.
          let here = l.goes r h in
          let k = some_at _ c.in-Ok-Some-None.field-0 c.in-Ok-Some-None.field-0-0 c.in-Ok-Some-None.field-0-is said.polled here.0 here.1 in
          let gives = subst (λ p. Gives c.args.now here.0 k.0 k.1 p) c.in-Ok-Some-None.field-0-0-is k.3 in (
            after_streams here.0 k.1 None,
            subst (λ p. StandsFor g.W.GapWindow.remembers g.S.ResendStore.stands_for c.poll_stream.new.self (after_streams here.0 k.1 p)) c.in-Ok-Some-None.field-0-0-is k.4,
            (λ after o n. here.2 after o (passed here.0 after k.0 k.1 o k.2 gives n)),
            (λ after e f. here.3 after e (after_pass here.0 after k.0 k.1 e k.2 gives f)),
          );
    }

pub returns-in-Ok-Some-Some-clause-polled : goal.returns-in-Ok-Some-Some-clause-polled
returns-in-Ok-Some-Some-clause-polled g c = λ r h.
    let here = c.loop-receipt.invariant.goes r h in
    let w = c.in-Ok-Some-Some in
    let k = some_at _ w.field-0 w.field-0-0 w.field-0-is w.ensures.polled here.0 here.1 in
    let gives = subst (λ p. Gives c.args.now here.0 k.0 k.1 p) w.field-0-0-is k.3 in (
      after_streams here.0 k.1 (Some w.receipt),
      here.2 (after_streams here.0 k.1 (Some w.receipt)) (Some w.receipt) (given here.0 k.0 k.1 w.receipt k.2 gives),
      subst (λ p. StandsFor g.W.GapWindow.remembers g.S.ResendStore.stands_for c.poll_stream.new.self (after_streams here.0 k.1 p)) w.field-0-0-is k.4,
    )

pub returns-in-Ok-None-clause-polled : goal.returns-in-Ok-None-clause-polled
returns-in-Ok-None-clause-polled g c = λ r h.
    let here = c.loop-receipt.invariant.goes r h in
    let k = none_at _ c.in-Ok-None.field-0 c.in-Ok-None.field-0-is c.in-Ok-None.ensures.none here.0 here.1 in
    (unreleased here.0, here.2 (unreleased here.0) None (none_due here.0 k.0), k.1)
