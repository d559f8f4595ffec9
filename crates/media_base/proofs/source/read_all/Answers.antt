use Rattle.std.proofs.Common.{◌++◌}
use Rattle.std.proofs.KnownBytes.{Consumes-trans}
use Rattle.media_base.proofs.source.read_all.Goals as goal

pub returns-in_err-count-clause-some : goal.returns-in_err-count-clause-some
returns-in_err-count-clause-some g c =
    let piece = c.read_piece.ensures.some in
    (c.loop-turn.bytes.items ++ piece.0, Consumes-trans _ _ _ c.loop-turn.bytes.items piece.0 c.loop-turn.invariant.taken piece.1)
