use Rattle.std.proofs.Common.{◌≤◌, length, refl, sym, ap, subst, ◌∙◌, arith}
use Rattle.stream_core.specs.Reporting.{asks_sender}
use Rattle.stream_core.specs.Requests.{is_request}
use Rattle.stream_core.specs.RxRecord.{RxState, StandsFor as RxStandsFor}
use Rattle.stream_core.specs.StreamsRecord.{StandsFor}
use Rattle.stream_core.proofs.Alongside.{value_along, length_along}
use Rattle.stream_core.proofs.Any.{none_more, none_all, any_there}
use Rattle.stream_core.proofs.streams.Streams.any_request.Goals as goal

pub loop-place-init : goal.loop-place-init
loop-place-init g c = λ rs h. refl

pub loop-place-preserved : goal.loop-place-preserved
loop-place-preserved g c = λ rs h.
    let y = value_along (RxStandsFor g.W.GapWindow.remembers) c.self.inside.rx rs c.loop-place.place c.at.result.now h c.at.ensures in
    none_more asks_sender rs c.loop-place.place y.0 (c.loop-place.invariant rs h) y.1 (sym (c.has_pending_request.ensures ∙ ap (λ (s : RxState). is_request s.requests) y.2.state) ∙ c.if-has_pending_request.false)

pub returns-then-has_pending_request : goal.returns-then-has_pending_request
returns-then-has_pending_request g c = λ r h.
    let mine = subst (λ s. StandsFor g.W.GapWindow.remembers g.S.ResendStore.stands_for s r) (sym c.self.view_is) h in
    let y = value_along (RxStandsFor g.W.GapWindow.remembers) c.self.inside.rx r.rx c.loop-place.place c.at.result.now mine.rx c.at.ensures in
    sym (any_there asks_sender r.rx c.loop-place.place y.0 y.1 (sym (c.has_pending_request.ensures ∙ ap (λ (s : RxState). is_request s.requests) y.2.state) ∙ c.if-has_pending_request.true))

pub returns : goal.returns
returns g c = λ r h.
    let R = RxStandsFor g.W.GapWindow.remembers in
    let mine = subst (λ s. StandsFor g.W.GapWindow.remembers g.S.ResendStore.stands_for s r) (sym c.self.view_is) h in
    let same = length_along R c.self.inside.rx r.rx mine.rx in
    let long : length r.rx ≤ c.loop-place.place = omega arith in
    sym (none_all asks_sender r.rx c.loop-place.place (c.loop-place.invariant r.rx mine.rx) long)
