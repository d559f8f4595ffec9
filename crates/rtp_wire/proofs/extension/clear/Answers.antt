use Rattle.std.proofs.Common.{None, get_or, ap, ◌∙◌, arith, length, length-append, length-take, length-drop}
use Rattle.std.proofs.Math.ListN.{set}
use Rattle.std.proofs.lemmas.List.Edits.{map_over_more}
use Rattle.std.proofs.lemmas.List.{get_or_default, length-map}
use Rattle.rtp_wire.specs.Extensions.{cleared}
use Rattle.rtp_wire.proofs.extension.clear.Goals as goal

pub loop-i-preserved : goal.loop-i-preserved
loop-i-preserved c =
    ap (set c.loop-i.places c.loop-i.i) c.cleared.ensures
    ∙ map_over_more (cleared c.args.extension) c.args.places.now c.loop-i.places c.loop-i.i (get_or c.loop-i.places c.loop-i.i None) (omega arith) c.loop-i.invariant (get_or_default c.loop-i.places c.loop-i.i None (get_or c.loop-i.places c.loop-i.i None) (omega (arith, simp (length-append, length-map, length-take, length-drop) at (ap length c.loop-i.invariant))))
