-- The exit status of each end.
use Rattle.std.specs.Prelude.{ℕ, Result, Ok, Err}
use Rattle.mediabench.specs.declared.error.BenchError.{BenchError}
use Rattle.mediabench.specs.declared.error.BenchError.TheVariants.{Memory, Clock, Sink}
use Rattle.mediabench.specs.declared.error.End.{End}
use Rattle.mediabench.specs.declared.error.End.TheVariants.{Done, Usage, Stopped}

-- the end of a command that was done, or of one that was not
abbrev pub end_of : {T : Type 0} → Result T BenchError → End
end_of (Ok done) = Done
end_of (Err error) = Stopped error

abbrev pub status_of : End → ℕ
status_of Done = 0
status_of (Stopped Clock) = 4
status_of (Stopped Sink) = 5
status_of (Stopped Memory) = 6
status_of Usage = 64
