use Rattle.std.proofs.Common.{refl, sym, subst, ap, ◌∙◌}
use Rattle.stream_core.specs.Pauses.{view_untold}
use Rattle.stream_core.specs.RxRecord.{RxState, RxRecord}
use Rattle.stream_core.specs.RxRepairs.{restored, after_restored}
use Rattle.stream_core.specs.StreamsRecord.{StreamsView, StandsFor}
use Rattle.stream_core.specs.Tables.{place_of}
use Rattle.std.specs.Map.{keys_of}
use Rattle.stream_core.proofs.TableSteps.{keys_set_value_at}
use Rattle.stream_core.proofs.Accepting.{says_at}
use Rattle.stream_core.proofs.StreamsSteps.{rx_changed}
use Rattle.stream_core.proofs.Untold.{none_same}
use Rattle.stream_core.proofs.streams.Streams.restore_at.Goals as goal

pub invariant_of-self : goal.invariant_of-self
invariant_of-self g c =
    none_same view_untold c.self.inside.rx c.args.place c.self.inside.next_untold c.at_mut.result.now c.restore.new.self c.at_mut.ensures.value
    (ap (λ (s : RxState). s.untold) c.restore.ensures.state) c.self.invariant

pub invariant_of-self-2 : goal.invariant_of-self-2
invariant_of-self-2 g c =
    none_same view_untold c.self.inside.rx c.args.place c.self.inside.next_untold c.at_mut.result.now c.restore.new.self c.at_mut.ensures.value
    (ap (λ (s : RxState). s.untold) c.restore.ensures.state) c.self.invariant

pub returns-clause-restored : goal.returns-clause-restored
returns-clause-restored g c = λ r ssrc h there.
    let mine = subst (λ s. StandsFor g.W.GapWindow.remembers g.S.ResendStore.stands_for s r) (sym c.self.view_is) h in
    says_at g.W.GapWindow.remembers c.self.inside.rx r.rx mine.rx ssrc c.args.place c.at_mut.result.now (λ (x : RxRecord). restored c.args.remembered x c.args.low) c.in_ok-number.number
    (ap (λ (v : StreamsView g.row.W.Denot g.row.S.Denot). place_of ssrc v.rx) c.self.view_is ∙ there) c.at_mut.ensures.value c.in_ok-number.ensures.restored

pub returns-clause-after : goal.returns-clause-after
returns-clause-after g c = λ r ssrc.
    rx_changed g.W.GapWindow.remembers g.S.ResendStore.stands_for ssrc c.args.self.now _ c.args.place c.at_mut.result.now c.restore.new.self (after_restored c.args.remembered c.args.arrival.now c.args.low) _ c.self.view_is c.at_mut.ensures.value c.in_ok-number.ensures.after refl r

pub returns-clause-places : goal.returns-clause-places
returns-clause-places g c =
    keys_set_value_at c.self.inside.rx c.args.place c.restore.new.self ∙ ap (λ (v : StreamsView g.row.W.Denot g.row.S.Denot). keys_of v.rx) c.self.view_is
