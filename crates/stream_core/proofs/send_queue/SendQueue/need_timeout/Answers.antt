use Rattle.std.proofs.Common.{◌∙◌, ap}
use Rattle.std.specs.Prelude.{nat_lt}
use Rattle.stream_core.specs.Queue.{needs_tick}
use Rattle.stream_core.proofs.Stamps.{stamped_fewer}
use Rattle.stream_core.proofs.send_queue.SendQueue.need_timeout.Goals as goal

pub returns : goal.returns
returns c =
    ap (nat_lt c.self.inside.stamped) (c.len.ensures ∙ c.self.inside.packets.ok.0)
    ∙ stamped_fewer c.self.inside.stamped c.self.inside.packets.items c.self.invariant.in_front
    ∙ ap needs_tick c.self.view_is
