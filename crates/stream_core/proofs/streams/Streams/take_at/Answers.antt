use Rattle.std.proofs.Common.{◌≡◌, ◌≤◌, false, length, refl, sym, ap, ◌∙◌, arith}
use Rattle.stream_core.specs.Pauses.{view_untold}
use Rattle.stream_core.specs.RxRecord.{RxView, opened_as}
use Rattle.stream_core.specs.StreamsRecord.{StreamsView}
use Rattle.stream_core.proofs.RxSteps.{value_set}
use Rattle.stream_core.proofs.StreamsSteps.{rx_changed}
use Rattle.stream_core.proofs.TableSteps.{length_set_value_at}
use Rattle.stream_core.proofs.Untold.{none_before, none_behind, none_over}
use Rattle.stream_core.proofs.streams.Streams.take_at.Goals as goal

pub at-requires : goal.at-requires
at-requires g c =
    let same = length_set_value_at c.self.inside.rx c.args.place c.take.new.self in
    let view = ap (λ (v : StreamsView g.row.W.Denot g.row.S.Denot). length v.rx) c.self.view_is in
    let within = c.requires.place in
    omega arith

pub invariant_of-self-then-is_untold : goal.invariant_of-self-then-is_untold
invariant_of-self-then-is_untold g c =
    let least = c.min-self-inside.ensures in
    let here : c.min-self-inside.result ≤ c.args.place = omega arith in
    let there : c.min-self-inside.result ≤ c.self.inside.next_untold = omega arith in
    none_behind view_untold c.self.inside.rx c.args.place c.min-self-inside.result c.take.new.self here
    (none_before view_untold c.self.inside.rx c.min-self-inside.result c.self.inside.next_untold there c.self.invariant)

pub invariant_of-self-else-is_untold : goal.invariant_of-self-else-is_untold
invariant_of-self-else-is_untold g c =
    let same = value_set c.self.inside.rx c.args.place c.at_mut.result.now c.take.new.self c.at.result.now c.at_mut.ensures.value c.at.ensures in
    let not : c.take.new.self.state.untold ≡ false = ap (λ (v : RxView g.row.W.Denot). v.state.untold) (sym same) ∙ sym c.is_untold.ensures ∙ c.if-is_untold.false in
    none_over view_untold c.self.inside.rx c.args.place c.self.inside.next_untold c.take.new.self not c.self.invariant

pub returns-then-is_untold-clause-ok : goal.returns-then-is_untold-clause-ok
returns-then-is_untold-clause-ok g c = λ r ssrc.
    rx_changed g.W.GapWindow.remembers g.S.ResendStore.stands_for ssrc c.args.self.now _ c.args.place c.at_mut.result.now c.take.new.self (opened_as c.args.remembered c.args.arrival.now c.args.number) _ c.self.view_is c.at_mut.ensures.value c.in_ok-take.ensures.ok refl r

pub returns-else-is_untold-clause-ok : goal.returns-else-is_untold-clause-ok
returns-else-is_untold-clause-ok g c = λ r ssrc.
    rx_changed g.W.GapWindow.remembers g.S.ResendStore.stands_for ssrc c.args.self.now _ c.args.place c.at_mut.result.now c.take.new.self (opened_as c.args.remembered c.args.arrival.now c.args.number) _ c.self.view_is c.at_mut.ensures.value c.in_ok-take.ensures.ok refl r
