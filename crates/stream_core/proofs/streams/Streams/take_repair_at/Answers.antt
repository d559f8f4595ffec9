use Rattle.std.proofs.Common.{◌≡◌, ◌≤◌, false, length, refl, sym, ap, ◌∙◌, arith}
use Rattle.stream_core.specs.Pauses.{view_untold}
use Rattle.stream_core.specs.RxRecord.{RxView}
use Rattle.stream_core.specs.RxRepairs.{repair_came}
use Rattle.stream_core.specs.StreamsRecord.{StreamsView}
use Rattle.stream_core.proofs.RxSteps.{value_set}
use Rattle.stream_core.proofs.StreamsSteps.{rx_changed}
use Rattle.std.specs.Map.{keys_of}
use Rattle.stream_core.proofs.TableSteps.{length_set_value_at, keys_set_value_at}
use Rattle.stream_core.proofs.Untold.{none_before, none_behind, none_over}
use Rattle.stream_core.proofs.streams.Streams.take_repair_at.Goals as goal

pub at-requires : goal.at-requires
at-requires g c =
    let same = length_set_value_at c.self.inside.rx c.args.place c.take_repair.new.self in
    let view = ap (λ (v : StreamsView g.row.W.Denot g.row.S.Denot). length v.rx) c.self.view_is in
    let within = c.requires.place in
    omega arith

pub invariant_of-self : goal.invariant_of-self
invariant_of-self g c =
    let least = c.min-self-inside.ensures in
    let here : c.min-self-inside.result ≤ c.args.place = omega arith in
    let there : c.min-self-inside.result ≤ c.self.inside.next_untold = omega arith in
    none_behind view_untold c.self.inside.rx c.args.place c.min-self-inside.result c.take_repair.new.self here
    (none_before view_untold c.self.inside.rx c.min-self-inside.result c.self.inside.next_untold there c.self.invariant)

pub invariant_of-self-else-is_untold : goal.invariant_of-self-else-is_untold
invariant_of-self-else-is_untold g c =
    let same = value_set c.self.inside.rx c.args.place c.at_mut.result.now c.take_repair.new.self c.at.result.now c.at_mut.ensures.value c.at.ensures in
    let not : c.take_repair.new.self.state.untold ≡ false = ap (λ (v : RxView g.row.W.Denot). v.state.untold) (sym same) ∙ sym c.is_untold.ensures ∙ c.if-is_untold.false in
    none_over view_untold c.self.inside.rx c.args.place c.self.inside.next_untold c.take_repair.new.self not c.self.invariant

pub returns-then-is_untold-clause-taken : goal.returns-then-is_untold-clause-taken
returns-then-is_untold-clause-taken g c = λ r ssrc.
    rx_changed g.W.GapWindow.remembers g.S.ResendStore.stands_for ssrc c.args.self.now _ c.args.place c.at_mut.result.now c.take_repair.new.self (repair_came c.args.seen c.args.now c.args.number) _ c.self.view_is c.at_mut.ensures.value c.take_repair.ensures.taken refl r

pub returns-else-is_untold-clause-taken : goal.returns-else-is_untold-clause-taken
returns-else-is_untold-clause-taken g c = λ r ssrc.
    rx_changed g.W.GapWindow.remembers g.S.ResendStore.stands_for ssrc c.args.self.now _ c.args.place c.at_mut.result.now c.take_repair.new.self (repair_came c.args.seen c.args.now c.args.number) _ c.self.view_is c.at_mut.ensures.value c.take_repair.ensures.taken refl r

pub returns-then-is_untold-clause-places : goal.returns-then-is_untold-clause-places
returns-then-is_untold-clause-places g c =
    keys_set_value_at c.self.inside.rx c.args.place c.take_repair.new.self ∙ ap (λ (v : StreamsView g.row.W.Denot g.row.S.Denot). keys_of v.rx) c.self.view_is

pub returns-else-is_untold-clause-places : goal.returns-else-is_untold-clause-places
returns-else-is_untold-clause-places g c =
    keys_set_value_at c.self.inside.rx c.args.place c.take_repair.new.self ∙ ap (λ (v : StreamsView g.row.W.Denot g.row.S.Denot). keys_of v.rx) c.self.view_is
