use Rattle.std.proofs.Common.{sym, subst, ap, ◌∙◌}
use Rattle.stream_core.specs.RxRecord.{RxRecord}
use Rattle.stream_core.specs.RxRepairs.{fresh_repair}
use Rattle.stream_core.specs.StreamsRecord.{StreamsView, StandsFor}
use Rattle.stream_core.specs.Tables.{place_of}
use Rattle.stream_core.proofs.Accepting.{says_at}
use Rattle.stream_core.proofs.streams.Streams.accepts_repair.Goals as goal

pub returns-clause-number : goal.returns-clause-number
returns-clause-number g c = λ r ssrc h there.
    let mine = subst (λ s. StandsFor g.W.GapWindow.remembers g.S.ResendStore.stands_for s r) (sym c.self.view_is) h in
    says_at g.W.GapWindow.remembers c.self.inside.rx r.rx mine.rx ssrc c.args.place c.at.result.now (λ (x : RxRecord). fresh_repair c.args.seen x c.args.low) c.accepts_repair.result
    (ap (λ (v : StreamsView g.row.W.Denot g.row.S.Denot). place_of ssrc v.rx) c.self.view_is ∙ there) c.at.ensures c.accepts_repair.ensures.fresh
