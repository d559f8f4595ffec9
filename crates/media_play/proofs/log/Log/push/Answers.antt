use Rattle.media_play.proofs.Places.{kept_places}
use Rattle.media_play.proofs.log.Log.push.Goals as goal

pub invariant_of-self : goal.invariant_of-self
invariant_of-self c =
    let was = c.self.invariant in
    kept_places _ _ c.self.inside.transcript _ c.args.entry c.push.result was.0 was.1 c.requires c.push.ensures.ok c.push.ensures.err
