use Rattle.std.proofs.Common.{◌≡◌, ℕ, ◌≤◌, ◌++◌, take, string_bytes}
use Rattle.std.specs.Io.KnownBytes.{Appends}
use Rattle.media_script.specs.Text.{entries_text}
use Rattle.mediasim.proofs.lines.write_text.Given as goal

-- the lines of some entries were written, and those of the next ones are gathered
abbrev pub invariant-loop-entry : goal.invariant-loop-entry
invariant-loop-entry g l =
    (count : ℕ) × Appends (g.K.Sink.written l.fn.sink) (g.K.Sink.written l.sink) (entries_text (take count l.entries))
    × (entries_text (take count l.entries) ++ string_bytes l.gathered ≡ entries_text (take l.entry-index l.entries))
    × (g.K.Sink.fault_count l.fn.sink ≤ g.K.Sink.fault_count l.sink)
    × (g.K.Sink.fault_count l.sink ≡ g.K.Sink.fault_count l.fn.sink)
