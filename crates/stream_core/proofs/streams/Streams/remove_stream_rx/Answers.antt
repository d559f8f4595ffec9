use Rattle.stream_core.proofs.StreamsSteps.{rx_removed}
use Rattle.stream_core.proofs.streams.Streams.remove_stream_rx.Goals as goal

pub returns-clause-removed : goal.returns-clause-removed
returns-clause-removed g c =
    rx_removed g.W.GapWindow.remembers g.S.ResendStore.stands_for c.args.ssrc c.args.self.now _ c.remove-2.new.self c.remove.new.self c.self.view_is c.remove-2.ensures.removed c.remove.ensures
