-- A stream that a side receives, as it is watched.
use Rattle.std.specs.Prelude.{ℕ, Bool, ◌&&◌, ◌||◌, ◌==◌, not}
use Rattle.media_model.specs.declared.entry.Entry.{Entry}
use Rattle.run_model.specs.Events.{Types, Incoming}
use Rattle.run_model.specs.Runs.{Happening}
use Rattle.run_model.specs.Sending.{is_some}
use Rattle.run_model.specs.Transcripts.{types_of, happening_of}
use Rattle.run_widens.specs.declared.line.Line.{Line}
use Rattle.rtp_base.specs.Window.{is_just}

abbrev pub incoming_in : Line → Incoming
incoming_in line = record { ssrc = line.ssrc; rtx = line.rtx; suppressed = not (is_some line.rtx) }

abbrev pub types_in : Line → Types
types_in line = types_of line.setup.now

-- whether a datagram under an SSRC with a type is a repair
abbrev pub is_repair_type : Line → ℕ → ℕ → Bool
is_repair_type line ssrc pt = is_just ssrc line.rtx || ((types_in line).is_rtx pt && not (line.ssrc == 0))

abbrev pub happening_in : Line → Entry → Happening
happening_in line entry = happening_of line.exts.now entry
