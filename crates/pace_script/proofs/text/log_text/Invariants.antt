use Rattle.std.proofs.Common.{◌≡◌, take, string_bytes}
use Rattle.pace_script.specs.Text.{log_text}
use Rattle.pace_script.proofs.text.log_text.Given as goal

abbrev pub invariant-loop-entry : goal.invariant-loop-entry
invariant-loop-entry l = string_bytes l.text ≡ log_text (take l.entry-index l.entry-items)
