use Rattle.std.proofs.Common.{sym, subst, ◌∙◌, ap}
use Rattle.std.specs.Prelude.{List, ℕ}
use Rattle.stream_core.specs.Pauses.{checked, on_record}
use Rattle.stream_core.specs.RxRecord.{RxView, StandsFor as RxStandsFor}
use Rattle.stream_core.specs.StreamsRecord.{StandsFor}
use Rattle.stream_core.specs.Tables.{each, Along}
use Rattle.stream_core.specs.TxRecord.{TxRecord, after_timeout}
use Rattle.stream_core.proofs.RxSteps.{states_along}
use Rattle.stream_core.proofs.streams.Streams.handle_timeout.Goals as goal

pub returns-clause-streams : goal.returns-clause-streams
returns-clause-streams g c = λ r h.
    let m = g.W.GapWindow.remembers in
    let mine = subst (λ s. StandsFor m g.S.ResendStore.stands_for s r) (sym c.self.view_is) h in
    record {
      threshold = mine.threshold;
      known = mine.known;
      rx = subst (λ (l : List (ℕ × RxView g.row.W.Denot)). Along (RxStandsFor m) l (each (on_record (checked c.args.now)) r.rx)) (sym c.check_all.ensures)
          (states_along m (checked c.args.now) c.self.inside.rx r.rx mine.rx);
      tx = c.tick_all.ensures ∙ ap (λ (l : List (ℕ × TxRecord)). each (after_timeout c.args.now) l) mine.tx;
      repairs = mine.repairs;
    }
