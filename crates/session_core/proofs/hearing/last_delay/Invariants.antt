use Rattle.std.proofs.Common.{◌≡◌, None, drop}
use Rattle.session_core.specs.Hearing.{last_delay}
use Rattle.session_core.proofs.hearing.last_delay.Given as goal

abbrev pub invariant-loop-item : goal.invariant-loop-item
invariant-loop-item g l = last_delay l.fn.local_ssrc l.fn.streams.tx (drop l.item-index l.fn.feedback) l.last ≡ last_delay l.fn.local_ssrc l.fn.streams.tx l.fn.feedback None
