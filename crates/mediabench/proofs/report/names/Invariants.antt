use Rattle.std.proofs.Common.{◌≡◌, take, string_bytes}
use Rattle.mediabench.specs.Text.{names_text}
use Rattle.mediabench.proofs.report.names.Given as goal

abbrev pub invariant-loop-row : goal.invariant-loop-row
invariant-loop-row l = string_bytes l.text ≡ names_text (take l.row-index l.rows)
