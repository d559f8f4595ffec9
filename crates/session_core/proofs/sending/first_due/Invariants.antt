use Rattle.std.proofs.Common.{◌≡◌, None, take}
use Rattle.session_core.specs.Sending.{first_due}
use Rattle.session_core.proofs.sending.first_due.Given as goal

abbrev pub invariant-loop-place : goal.invariant-loop-place
invariant-loop-place g l = record {
  before : first_due l.medias l.fn.released l.streams.repairs (take l.place l.streams.tx) ≡ None;
}
