use Rattle.std.proofs.Common.{◌≡◌, length}
use Rattle.media_units.specs.History.{purged}
use Rattle.media_units.proofs.history.ValueHistory.purge_old.Given as goal

abbrev pub invariant-loop-now : goal.invariant-loop-now
invariant-loop-now g l = record {
  same : l.self ≡ record l.initial.self { held = l.self.held };
  rest : purged l.initial.self.limit l.now l.self.held ≡ purged l.initial.self.limit l.now l.initial.self.held;
}

abbrev pub decreases-loop-now : goal.decreases-loop-now
decreases-loop-now g l = length l.self.held
