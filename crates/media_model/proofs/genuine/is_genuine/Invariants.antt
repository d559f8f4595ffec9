use Rattle.media_model.proofs.Seals.{Knows}
use Rattle.media_model.proofs.genuine.is_genuine.Given as goal

abbrev pub invariant-loop-entry : goal.invariant-loop-entry
invariant-loop-entry l = Knows l.entries l.entry-index l.sealed l.latest
