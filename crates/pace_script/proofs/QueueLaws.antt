-- The queues of a timeout, word by word.
use Rattle.std.proofs.Common.{◌≡◌, ℕ, List, ◌++◌, Some}
use Rattle.std.specs.Borrow.{Bor}
use Rattle.media_script.specs.Grammar.{texts}
use Rattle.media_script.specs.Words.{◌>>=◌}
use Rattle.pace_core.specs.declared.run.PaceQueue.{PaceQueue}
use Rattle.pace_script.specs.Grammar.{queues_of}

-- the queues so far, and those of the words behind
abbrev pub Joined : List (Bor (List ℕ)) → List PaceQueue → List (Bor (List ℕ)) → Type 0
Joined words all rest = queues_of (texts words) ≡ (queues_of (texts rest) >>= λ qs. Some (all ++ qs))
