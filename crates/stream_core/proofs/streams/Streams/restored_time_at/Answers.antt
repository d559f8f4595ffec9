use Rattle.std.proofs.Common.{◌≡◌, Some, sym, ap, subst, ◌∙◌}
use Rattle.stream_core.specs.RxRecord.{RxState, restored_time}
use Rattle.stream_core.specs.StreamsRecord.{StreamsView, StandsFor}
use Rattle.stream_core.specs.Tables.{place_of}
use Rattle.stream_core.proofs.Accepting.{says_at}
use Rattle.stream_core.proofs.streams.Streams.restored_time_at.Goals as goal

pub returns : goal.returns
returns g c = λ r ssrc h place.
    let mine = subst (λ s. StandsFor g.W.GapWindow.remembers g.S.ResendStore.stands_for s r) (sym c.self.view_is) h in
    let here : place_of ssrc c.self.inside.rx ≡ Some c.args.place = ap (λ (v : StreamsView g.row.W.Denot g.row.S.Denot). place_of ssrc v.rx) c.self.view_is ∙ place in
    says_at g.W.GapWindow.remembers c.self.inside.rx r.rx mine.rx ssrc c.args.place c.at.result.now (λ x. Some (restored_time c.args.arrival.now x.state)) (Some c.restored_time.result)
    here c.at.ensures (λ x k. ap Some (c.restored_time.ensures ∙ ap (λ (s : RxState). restored_time c.args.arrival.now s) k.state))
