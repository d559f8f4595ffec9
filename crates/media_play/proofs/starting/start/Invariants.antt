use Rattle.std.proofs.Common.{take}
use Rattle.std.specs.List.{flat_map}
use Rattle.media_model.specs.Sides.{peer_of}
use Rattle.media_play.specs.Starting.{outgoing_at, Starts}
use Rattle.media_play.proofs.starting.start.Given as goal

abbrev pub invariant-loop-media : goal.invariant-loop-media
invariant-loop-media g l =
    Starts g.C.SrtpCipher.meaning l.setup l.side (flat_map (outgoing_at l.setup l.side) (take l.media-index l.media-items))
    (flat_map (outgoing_at l.setup (peer_of l.side)) (take l.media-index l.media-items)) l.session.value
