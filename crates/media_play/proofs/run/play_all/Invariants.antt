use Rattle.std.proofs.Common.{◌≡◌, ◌+◌, ◌≤◌, false, List, length, map}
use Rattle.std.specs.Borrow.{Bor}
use Rattle.std.specs.Iterator.{Yields, IsFinite, size}
use Rattle.media_model.specs.declared.step.Step.{Step}
use Rattle.media_play.specs.Running.{IsRunOf}
use Rattle.media_play.proofs.run.play_all.Given as goal

abbrev pub invariant-loop-step : goal.invariant-loop-step
invariant-loop-step g l = (given : List (Bor Step)) × Yields g.I.Iterator.next_gives l.fn.steps given l.steps
    × g.I.Iterator.can_next l.steps × IsFinite (g.I.Iterator.remaining l.steps)
    × (size (g.I.Iterator.remaining l.steps) + length given ≤ size (g.I.Iterator.remaining l.fn.steps))
    × (length given ≡ l.number) × IsRunOf g.C.SrtpCipher.meaning l.setup (map (λ s. s.now) given) l.run.state × (l.run.stopped ≡ false)

abbrev pub decreases-loop-step : goal.decreases-loop-step
decreases-loop-step g l = size (g.I.Iterator.remaining l.steps)
