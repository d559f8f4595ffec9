use Rattle.std.proofs.Common.{◌≡◌, ◌<◌, ◌≤◌, false, None, Some, sym, ap, subst, ◌∙◌, arith}
use Rattle.std.specs.Prelude.{ℕ, List, IfSome, if◌then◌else◌}
use Rattle.indexmap.specs.IndexMap.{set_value_at}
use Rattle.stream_core.specs.Pauses.{pause_of, first_where, view_untold, untold_in}
use Rattle.stream_core.specs.RxRecord.{RxView, RxRecord, StandsFor as RxStandsFor}
use Rattle.stream_core.specs.StreamsRecord.{StreamsView, StandsFor}
use Rattle.stream_core.specs.Tables.{Along}
use Rattle.stream_core.proofs.RxSteps.{nothing_told, told_next, after_next, first_has, fewer_untold, in_any, no_none}
use Rattle.stream_core.proofs.Untold.{none_behind}
use Rattle.stream_core.proofs.streams.Streams.poll_stream_paused.Goals as goal

pub returns-in_default-clause-event : goal.returns-in_default-clause-event
returns-in_default-clause-event g c = λ r h.
    let m = g.W.GapWindow.remembers in
    let mine = subst (λ s. StandsFor m g.S.ResendStore.stands_for s r) (sym c.self.view_is) h in
    let none : first_where view_untold c.self.inside.rx ≡ None = sym c.first_untold.ensures.place ∙ c.in_default.is in
    sym (nothing_told m c.self.inside.rx r.rx mine.rx none).0

pub returns-in_default-clause-after : goal.returns-in_default-clause-after
returns-in_default-clause-after g c = λ r h.
    let m = g.W.GapWindow.remembers in
    let mine = subst (λ s. StandsFor m g.S.ResendStore.stands_for s r) (sym c.self.view_is) h in
    let none : first_where view_untold c.self.inside.rx ≡ None = sym c.first_untold.ensures.place ∙ c.in_default.is in
    record {
      threshold = mine.threshold;
      known = mine.known;
      rx = subst (λ (l : List (ℕ × RxRecord)). Along (RxStandsFor m) c.self.inside.rx l) (sym (nothing_told m c.self.inside.rx r.rx mine.rx none).1) mine.rx;
      tx = mine.tx;
      repairs = mine.repairs;
    }

pub invariant_of-self-2 : goal.invariant_of-self-2
invariant_of-self-2 g c =
    let here : c.in-Some.place ≤ c.in-Some.place = omega arith in
    none_behind view_untold c.self.inside.rx c.in-Some.place c.in-Some.place c.poll_paused.new.self here c.in-Some.ensures.before

pub returns-clause-event : goal.returns-clause-event
returns-clause-event g c = λ r h.
    let m = g.W.GapWindow.remembers in
    let mine = subst (λ s. StandsFor m g.S.ResendStore.stands_for s r) (sym c.self.view_is) h in
    let first : first_where view_untold c.self.inside.rx ≡ Some c.in-Some.place = sym c.first_untold.ensures.place ∙ c.in-Some.is in
    c.poll_paused.ensures.event ∙ told_next m c.self.inside.rx r.rx mine.rx c.in-Some.place c.at_mut.result.now first c.at_mut.ensures.value

pub returns-clause-after : goal.returns-clause-after
returns-clause-after g c = λ r h.
    let m = g.W.GapWindow.remembers in
    let mine = subst (λ s. StandsFor m g.S.ResendStore.stands_for s r) (sym c.self.view_is) h in
    let first : first_where view_untold c.self.inside.rx ≡ Some c.in-Some.place = sym c.first_untold.ensures.place ∙ c.in-Some.is in
    record {
      threshold = mine.threshold;
      known = mine.known;
      rx = after_next m c.self.inside.rx r.rx mine.rx c.in-Some.place c.at_mut.result.now first c.at_mut.ensures.value c.poll_paused.new.self c.poll_paused.ensures.after;
      tx = mine.tx;
      repairs = mine.repairs;
    }

pub returns-clause-fewer : goal.returns-clause-fewer
returns-clause-fewer g c =
    let first : first_where view_untold c.self.inside.rx ≡ Some c.in-Some.place = sym c.first_untold.ensures.place ∙ c.in-Some.is in
    let has = first_has view_untold c.self.inside.rx c.in-Some.place c.at_mut.result.now first c.at_mut.ensures.value in
    let not : c.poll_paused.new.self.state.untold ≡ false = ap (λ (v : RxView g.row.W.Denot). v.state.untold) c.poll_paused.ensures.after in
    let less = fewer_untold c.self.inside.rx c.in-Some.place c.at_mut.result.now c.poll_paused.new.self c.at_mut.ensures.value has not in
    subst (λ n. IfSome c.poll_paused.result (λ p. untold_in (set_value_at c.self.inside.rx c.in-Some.place c.poll_paused.new.self) < n)) (ap (λ (v : StreamsView g.row.W.Denot g.row.S.Denot). untold_in v.rx) c.self.view_is)
    (in_any c.poll_paused.result less)

pub returns-clause-none : goal.returns-clause-none
returns-clause-none g c =
    let first : first_where view_untold c.self.inside.rx ≡ Some c.in-Some.place = sym c.first_untold.ensures.place ∙ c.in-Some.is in
    let has = first_has view_untold c.self.inside.rx c.in-Some.place c.at_mut.result.now first c.at_mut.ensures.value in
    let some : c.poll_paused.result ≡ Some (pause_of c.at_mut.result.now.state) = c.poll_paused.ensures.event ∙ ap (λ b. if b then Some (pause_of c.at_mut.result.now.state) else None) has in
    no_none _ c.poll_paused.result (pause_of c.at_mut.result.now.state) some
