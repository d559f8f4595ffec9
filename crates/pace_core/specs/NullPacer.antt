-- What a null pacer stands for.
use Rattle.std.specs.Prelude.{◌≡◌, false}
use Rattle.pace_core.specs.declared.null.NullPacer.{NullPacer}
use Rattle.pace_core.specs.Null.{queues_in, unsent_in}
use Rattle.pace_core.specs.Past.{Past, is_leaky, sends_in}

-- the pacer was told this
pub record StandsFor (p : NullPacer) (past : Past) : Type 0 where
  pub does_not_leak : is_leaky past ≡ false
  pub holds : p.queues.items ≡ queues_in past
  pub has_sent : p.sends ≡ sends_in past
  pub waits : p.unsent_since ≡ unsent_in past
