use Rattle.std.proofs.Common.{take}
use Rattle.std.specs.List.{filter_map, flat_map}
use Rattle.media_model.specs.declared.setup.Media.{Media}
use Rattle.media_model.specs.Sides.{peer_of}
use Rattle.run_model.specs.Transcripts.{outgoing_in}
use Rattle.run_widens.specs.Widens.{AllWiden}
use Rattle.run_widens.proofs.widens.side_widens.Given as goal

abbrev pub invariant-loop-media : goal.invariant-loop-media
invariant-loop-media l =
    AllWiden l.setup l.exts l.side (flat_map (λ (m : Media). filter_map (outgoing_in l.setup (peer_of l.side)) m.streams) (take l.media-index l.setup.media)) l.entries
