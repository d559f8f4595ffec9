use Rattle.std.proofs.Common.{◌≤◌, length, sym, ap, ◌∙◌, arith}
use Rattle.stream_core.specs.Queue.{needs_tick}
use Rattle.stream_core.specs.StreamsRecord.{StreamsView}
use Rattle.stream_core.specs.TxRecord.{TxRecord, any_waits}
use Rattle.stream_core.proofs.Any.{none_more, none_all, any_there}
use Rattle.stream_core.proofs.streams.Streams.needs_timeout.Goals as goal

pub loop-place-preserved : goal.loop-place-preserved
loop-place-preserved g c =
    none_more (λ (r : TxRecord). needs_tick r.queue) c.self.inside.tx c.loop-place.place c.at.result.now c.loop-place.invariant c.at.ensures (sym c.need_timeout.ensures ∙ c.if-need_timeout.false)

pub returns-then-need_timeout : goal.returns-then-need_timeout
returns-then-need_timeout g c =
    sym (any_there (λ (r : TxRecord). needs_tick r.queue) c.self.inside.tx c.loop-place.place c.at.result.now c.at.ensures (sym c.need_timeout.ensures ∙ c.if-need_timeout.true))
    ∙ ap (λ (v : StreamsView g.row.W.Denot g.row.S.Denot). any_waits v.tx) c.self.view_is

pub returns : goal.returns
returns g c =
    let long : length c.self.inside.tx ≤ c.loop-place.place = omega arith in
    sym (none_all (λ (r : TxRecord). needs_tick r.queue) c.self.inside.tx c.loop-place.place c.loop-place.invariant long)
    ∙ ap (λ (v : StreamsView g.row.W.Denot g.row.S.Denot). any_waits v.tx) c.self.view_is
