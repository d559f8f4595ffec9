use Rattle.std.proofs.Common.{drop}
use Rattle.pace_script.proofs.QueueLaws.{Joined}
use Rattle.pace_script.proofs.queues.queues.Given as goal

abbrev pub invariant-loop-word : goal.invariant-loop-word
invariant-loop-word l = Joined l.words l.queues (drop l.word-index l.words)
