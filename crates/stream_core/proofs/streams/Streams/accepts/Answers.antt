use Rattle.std.proofs.Common.{Some, None, sym, subst, ◌∙◌}
use Rattle.stream_core.specs.StreamsRecord.{StandsFor}
use Rattle.stream_core.proofs.Accepting.{accepted_none, accepted_at}
use Rattle.stream_core.proofs.streams.Streams.accepts.Goals as goal

pub returns-in_default-clause-number : goal.returns-in_default-clause-number
returns-in_default-clause-number g c = λ r h.
    let mine = subst (λ s. StandsFor g.W.GapWindow.remembers g.S.ResendStore.stands_for s r) (sym c.self.view_is) h in
    sym (accepted_none g.W.GapWindow.remembers c.self.inside.rx r.rx mine.rx c.args.remembered c.args.ssrc c.args.low (sym c.place.ensures.place ∙ c.in_default.is))

pub returns-in-Some-accepts-clause-number : goal.returns-in-Some-accepts-clause-number
returns-in-Some-accepts-clause-number g c = λ r h.
    let mine = subst (λ s. StandsFor g.W.GapWindow.remembers g.S.ResendStore.stands_for s r) (sym c.self.view_is) h in
    accepted_at g.W.GapWindow.remembers c.self.inside.rx r.rx mine.rx c.args.remembered c.args.ssrc c.args.low
    c.in-Some.place c.at.result.now (Some c.in-Some-accepts.number) (sym c.place.ensures.place ∙ c.in-Some.is) c.at.ensures c.in-Some-accepts.ensures.fresh

pub returns-in-None-clause-number : goal.returns-in-None-clause-number
returns-in-None-clause-number g c = λ r h.
    let mine = subst (λ s. StandsFor g.W.GapWindow.remembers g.S.ResendStore.stands_for s r) (sym c.self.view_is) h in
    accepted_at g.W.GapWindow.remembers c.self.inside.rx r.rx mine.rx c.args.remembered c.args.ssrc c.args.low
    c.in-Some.place c.at.result.now None (sym c.place.ensures.place ∙ c.in-Some.is) c.at.ensures c.in-None.ensures.fresh
