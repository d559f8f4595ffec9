use Rattle.std.proofs.Common.{sym, ap, ◌∙◌}
use Rattle.std.specs.Prelude.{◌||◌}
use Rattle.stream_core.specs.InUse.{is_sent, is_used}
use Rattle.stream_core.specs.StreamsRecord.{StreamsView}
use Rattle.stream_core.proofs.streams.in_use.StreamsUsedSsrcs.is_used.Goals as goal

pub returns-then-is_received : goal.returns-then-is_received
returns-then-is_received g c =
    sym (ap (λ b. b || is_sent c.args.ssrc c.self.inside.tx) (sym c.is_received.ensures ∙ c.if-is_received.true))
    ∙ ap (λ (v : StreamsView g.row.W.Denot g.row.S.Denot). is_used v c.args.ssrc) c.self.view_is

pub returns : goal.returns
returns g c =
    c.is_sent.ensures
    ∙ sym (ap (λ b. b || is_sent c.args.ssrc c.self.inside.tx) (sym c.is_received.ensures ∙ c.if-is_received.false))
    ∙ ap (λ (v : StreamsView g.row.W.Denot g.row.S.Denot). is_used v c.args.ssrc) c.self.view_is
