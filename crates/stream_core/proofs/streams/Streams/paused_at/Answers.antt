use Rattle.std.proofs.Common.{◌≤◌, length, drop, refl, sym, ap, subst, ◌∙◌, ◌+◌, arith}
use Rattle.std.proofs.lemmas.List.{drop_all}
use Rattle.stream_core.specs.Pauses.{pause_before}
use Rattle.media_units.specs.Soonest.{earlier}
use Rattle.stream_core.specs.RxRecord.{RxState, StandsFor as RxStandsFor}
use Rattle.stream_core.specs.StreamsRecord.{StandsFor}
use Rattle.stream_core.proofs.Alongside.{value_along, length_along}
use Rattle.stream_core.proofs.RxSteps.{pause_more}
use Rattle.stream_core.proofs.streams.Streams.paused_at.Goals as goal

pub loop-place-init : goal.loop-place-init
loop-place-init g c = λ rs h. refl

pub loop-place-preserved : goal.loop-place-preserved
loop-place-preserved g c = λ rs h.
    let y = value_along (RxStandsFor g.W.GapWindow.remembers) c.self.inside.rx rs c.loop-place.place c.at.result.now h c.at.ensures in
    ap (λ o. pause_before o (drop (c.loop-place.place + 1) rs)) (c.earlier-first.ensures ∙ ap (earlier c.loop-place.first) (c.paused_at.ensures ∙ ap (λ (s : RxState). s.pause_at) y.2.state))
    ∙ pause_more c.loop-place.first rs c.loop-place.place y.0 y.1
    ∙ c.loop-place.invariant rs h

pub returns : goal.returns
returns g c = λ r h.
    let R = RxStandsFor g.W.GapWindow.remembers in
    let mine = subst (λ s. StandsFor g.W.GapWindow.remembers g.S.ResendStore.stands_for s r) (sym c.self.view_is) h in
    let same = length_along R c.self.inside.rx r.rx mine.rx in
    let long : length r.rx ≤ c.loop-place.place = omega arith in
    sym (ap (pause_before c.loop-place.first) (drop_all c.loop-place.place r.rx long)) ∙ c.loop-place.invariant r.rx mine.rx
