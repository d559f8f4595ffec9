use Rattle.std.proofs.Common.{sym, subst}
use Rattle.std.specs.Prelude.{List, ℕ}
use Rattle.stream_core.specs.Pauses.{with_trip, on_record}
use Rattle.stream_core.specs.RxRecord.{RxView, StandsFor as RxStandsFor}
use Rattle.stream_core.specs.StreamsRecord.{StandsFor}
use Rattle.stream_core.specs.Tables.{each, Along}
use Rattle.stream_core.proofs.RxSteps.{states_along}
use Rattle.stream_core.proofs.streams.Streams.set_trip.Goals as goal

pub returns-clause-streams : goal.returns-clause-streams
returns-clause-streams g c = λ r h.
    let m = g.W.GapWindow.remembers in
    let mine = subst (λ s. StandsFor m g.S.ResendStore.stands_for s r) (sym c.self.view_is) h in
    record {
      threshold = mine.threshold;
      known = mine.known;
      rx = subst (λ (l : List (ℕ × RxView g.row.W.Denot)). Along (RxStandsFor m) l (each (on_record (with_trip c.args.trip)) r.rx)) (sym c.set_trips.ensures)
          (states_along m (with_trip c.args.trip) c.self.inside.rx r.rx mine.rx);
      tx = mine.tx;
      repairs = mine.repairs;
    }
