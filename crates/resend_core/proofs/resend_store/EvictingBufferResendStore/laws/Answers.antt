use Rattle.resend_core.proofs.HeldLaws.{held_as, value_here, value_other}
use Rattle.resend_core.proofs.resend_store.EvictingBufferResendStore.laws.Goals as goal

pub returns-clause-holds : goal.returns-clause-holds
returns-clause-holds g c = held_as

pub returns-clause-here : goal.returns-clause-here
returns-clause-here g c = value_here

pub returns-clause-other : goal.returns-clause-other
returns-clause-other g c = value_other
