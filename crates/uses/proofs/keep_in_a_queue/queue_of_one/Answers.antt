use Rattle.std.proofs.Common.{ℕ, subst}
use Rattle.resend_core.specs.ResendStore.{made}
use Rattle.queue_store.specs.Queue.{StandsFor}
use Rattle.uses.proofs.keep_in_a_queue.queue_of_one.Goals as goal

-- a new queue stands for its limits, and the push was made into it
pub returns : goal.returns
returns c =
    c.in_ok-push.ensures.ok (made 10 3000000000 100)
    (subst (λ (n : ℕ). StandsFor c.in_ok-queue.queue (made 10 n 100)) c.from_secs.ensures c.in_ok-queue.ensures.stands)
