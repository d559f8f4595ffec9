use Rattle.std.proofs.Common.{◌++◌, refl, sym, ap, subst, ◌∙◌}
use Rattle.std.specs.Prelude.{List}
use Rattle.session_core.specs.declared.datagram.Event.{Event}
use Rattle.session_core.specs.Calls.{told}
use Rattle.session_core.specs.SessionRecord.{SessionRecord, StandsFor}
use Rattle.session_core.proofs.session.Session.take_events.Goals as goal

pub loop-self-init : goal.loop-self-init
loop-self-init g c = record {
  runs = refl;
  front = λ r h. (r, h, sym (ap (λ (l : List Event). l ++ told r) (c.reserve_exact.ensures.items ∙ c.requires.none)), refl);
}

pub loop-self-preserved : goal.loop-self-preserved
loop-self-preserved g c =
    let l = c.loop-self.invariant in
    record {
      runs = c.if-not-take_event.ensures.runs ∙ l.runs;
      front = λ r h.
          let k = l.front r h in
          let step = c.if-not-take_event.ensures.more k.0 k.1 in (
            step.0,
            step.1,
            k.2 ∙ ap (λ (t : List Event). t ++ told k.0) (sym c.reserve.ensures.items) ∙ step.2,
            step.3 ∙ k.3,
          );
    }

pub returns-then-not-take_event-clause-taken : goal.returns-then-not-take_event-clause-taken
returns-then-not-take_event-clause-taken g c = λ r h.
    let k = c.loop-self.invariant.front r h in
    let step = c.if-not-take_event.ensures.last k.0 k.1 in (
      sym (k.2 ∙ ap (λ (t : List Event). t ++ told k.0) (sym c.reserve.ensures.items) ∙ step.0),
      subst (λ (x : SessionRecord). StandsFor g.W.GapWindow.remembers g.S.ResendStore.stands_for c.take_event.new.self x) k.3 step.1,
    )
