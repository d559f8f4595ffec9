use Rattle.std.proofs.Common.{◌≡◌, take, string_bytes}
use Rattle.media_script.specs.Text.{entries_text}
use Rattle.media_script.proofs.text.entries_text.Given as goal

abbrev pub invariant-loop-entry : goal.invariant-loop-entry
invariant-loop-entry l = string_bytes l.text ≡ entries_text (take l.entry-index l.entries)
