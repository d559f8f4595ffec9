use Rattle.std.proofs.Common.{sym, ◌∙◌}
use Rattle.stream_core.proofs.ResetSteps.{reset_absent}
use Rattle.stream_core.proofs.streams.Streams.reset_ssrc.Goals as goal

pub returns-in_default-clause-ok : goal.returns-in_default-clause-ok
returns-in_default-clause-ok g c =
    reset_absent g.W.GapWindow.remembers g.S.ResendStore.stands_for c.args.self.now c.args.ssrc c.args.new_ssrc c.args.rtx
    (sym c.tx_place.ensures.place ∙ c.in_default.is)
