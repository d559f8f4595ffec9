use Rattle.std.proofs.Common.{take}
use Rattle.std.specs.List.{filter_map}
use Rattle.media_model.specs.Sides.{peer_of}
use Rattle.run_model.specs.Transcripts.{outgoing_in}
use Rattle.run_widens.specs.Widens.{AllWiden}
use Rattle.run_widens.proofs.widens.streams_widen.Given as goal

abbrev pub invariant-loop-stream : goal.invariant-loop-stream
invariant-loop-stream l = AllWiden l.setup l.exts l.side (filter_map (outgoing_in l.setup (peer_of l.side)) (take l.stream-index l.streams)) l.entries
