use Rattle.std.proofs.Common.{sym, ap, ◌∙◌}
use Rattle.std.specs.Option.{option_and_then}
use Rattle.media_play.specs.Log.{sealed_at}
use Rattle.media_play.proofs.Places.{sealed_at-places}
use Rattle.media_play.proofs.log.Log.datagram.Goals as goal

pub returns-in-Some : goal.returns-in-Some
returns-in-Some c =
    c.sealed_at.ensures ∙ ap (λ es. sealed_at es c.in-Some.place) (c.entries.ensures ∙ c.self.view_is)
    ∙ ap (option_and_then (sealed_at c.args.self.now)) (sym c.in-Some.is ∙ c.place.ensures) ∙ sealed_at-places c.args.side c.args.self.now c.args.k

pub returns-in-None : goal.returns-in-None
returns-in-None c = ap (option_and_then (sealed_at c.args.self.now)) (sym c.in-None.is ∙ c.place.ensures) ∙ sealed_at-places c.args.side c.args.self.now c.args.k
