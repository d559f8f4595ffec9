-- A step of its parts.
use Rattle.std.specs.Prelude.{ℕ}
use Rattle.media_model.specs.declared.entry.Side.{Side}
use Rattle.media_model.specs.declared.step.Act.{Act}
use Rattle.media_model.specs.declared.step.Step.{Step}

abbrev pub step_at : Side → ℕ → Act → Step
step_at side time act = record { side = side; time = time; act = act }
