use Rattle.std.proofs.Common.{sym, subst, ◌∙◌}
use Rattle.stream_core.specs.RxRecord.{StandsFor as RxStandsFor}
use Rattle.stream_core.specs.StreamsRecord.{StandsFor}
use Rattle.stream_core.proofs.Alongside.{place_along}
use Rattle.stream_core.proofs.streams.Streams.rx_place.Goals as goal

pub returns-clause-stands : goal.returns-clause-stands
returns-clause-stands g c = λ r h.
    let mine = subst (λ s. StandsFor g.W.GapWindow.remembers g.S.ResendStore.stands_for s r) (sym c.self.view_is) h in
    c.place.ensures.place ∙ place_along (RxStandsFor g.W.GapWindow.remembers) c.self.inside.rx r.rx c.args.ssrc mine.rx
