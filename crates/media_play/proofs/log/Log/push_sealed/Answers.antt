use Rattle.std.proofs.Common.{ap, length}
use Rattle.media_model.specs.declared.entry.Side.TheVariants.{A, B}
use Rattle.media_model.specs.Sides.{same_side}
use Rattle.media_play.proofs.Places.{added_place}
use Rattle.media_play.proofs.log.Log.push_sealed.Goals as goal

pub invariant_of-self : goal.invariant_of-self
invariant_of-self c =
    let was = c.self.invariant in
    let done = c.push_both in
    added_place A B _ _ _ c.self.inside.transcript _ _ _ done.result was.0 was.1 (ap (same_side A) c.in-A.is) (ap (same_side B) c.in-A.is)
    (ap length c.entries-place.ensures) done.ensures.entry done.ensures.place done.ensures.err

pub invariant_of-self-in-B : goal.invariant_of-self-in-B
invariant_of-self-in-B c =
    let was = c.self.invariant in
    let done = c.push_both-in-B in
    let both = added_place B A _ _ _ c.self.inside.transcript _ _ _ done.result was.1 was.0 (ap (same_side B) c.in-B.is) (ap (same_side A) c.in-B.is)
    (ap length c.entries-place.ensures) done.ensures.entry done.ensures.place done.ensures.err in
    (both.1, both.0)
