use Rattle.std.proofs.Common.{◌≡◌, Some, sym, ap, subst, ◌∙◌}
use Rattle.stream_core.specs.RxRepairs.{restored_for}
use Rattle.stream_core.specs.StreamsRecord.{StreamsView, StandsFor}
use Rattle.stream_core.specs.Tables.{place_of}
use Rattle.stream_core.proofs.Accepting.{says_at}
use Rattle.stream_core.proofs.streams.Streams.restored_number_at.Goals as goal

pub returns-clause-number : goal.returns-clause-number
returns-clause-number g c = λ r ssrc h place.
    let mine = subst (λ s. StandsFor g.W.GapWindow.remembers g.S.ResendStore.stands_for s r) (sym c.self.view_is) h in
    let here : place_of ssrc c.self.inside.rx ≡ Some c.args.place = ap (λ (v : StreamsView g.row.W.Denot g.row.S.Denot). place_of ssrc v.rx) c.self.view_is ∙ place in
    says_at g.W.GapWindow.remembers c.self.inside.rx r.rx mine.rx ssrc c.args.place c.at.result.now (λ x. Some (restored_for c.args.remembered.now x c.args.low)) (Some c.restored_number.result)
    here c.at.ensures (λ x k. ap Some (c.restored_number.ensures.number x k))
