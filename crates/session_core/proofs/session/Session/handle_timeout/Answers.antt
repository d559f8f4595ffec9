use Rattle.std.proofs.Common.{◌≡◌, List, sym, ap, subst, ◌∙◌}
use Rattle.stream_core.specs.Pauses.{checked, on_record}
use Rattle.stream_core.specs.Repairing.{RepairsStandFor}
use Rattle.stream_core.specs.RxRecord.{RxView, StandsFor as RxStandsFor}
use Rattle.stream_core.specs.StreamsRecord.{StreamsView}
use Rattle.stream_core.specs.Tables.{Along, each}
use Rattle.stream_core.specs.TxRecord.{after_timeout as stream_after_timeout}
use Rattle.session_core.specs.Reports.{told_kind}
use Rattle.session_core.specs.Rounds.{after_incoming, after_outgoing}
use Rattle.session_core.specs.SessionRecord.{MediaRecord, SessionRecord, streams_in, StandsFor}
use Rattle.session_core.proofs.Failing.{on_ok_given}
use Rattle.session_core.proofs.StreamsIn.{streams_stand, state_ticked}
use Rattle.session_core.proofs.session.Session.handle_timeout.Goals as goal

pub returns-clause-ok : goal.returns-clause-ok
returns-clause-ok g c = λ r h.
    let m = g.W.GapWindow.remembers in
    let now = c.args.now in
    let s : SessionRecord = after_outgoing now (after_incoming now r) in
    let spoken = on_ok_given c.speak.result (sym c.if-is_err.ensures.value) c.speak.ensures.ok r h in
    let mine = subst (λ v. StandsFor m g.S.ResendStore.stands_for v s) (sym c.self-2.view_is) spoken in
    let ticked = c.handle_timeout-2.ensures.streams (streams_in s) (streams_stand m g.S.ResendStore.stands_for _ s mine) in
    let told = c.tell_kinds.ensures in
    let tx : c.tell_kinds.new.streams.tx ≡ each (told_kind c.self-2.inside.medias.items) (each (stream_after_timeout now) c.self-2.inside.streams.tx) =
    ap (λ (v : StreamsView g.row.W.Denot g.row.S.Denot). v.tx) told
    ∙ ap (λ (l : List MediaRecord). each (told_kind l) c.handle_timeout-2.new.self.tx) c.as_slice.ensures.value
    ∙ ap (each (told_kind c.self-2.inside.medias.items)) c.handle_timeout-2.ensures.tx in
    let threshold = ap (λ (v : StreamsView g.row.W.Denot g.row.S.Denot). v.threshold) told ∙ c.handle_timeout-2.ensures.threshold in
    record {
      state = state_ticked _ s.state c.tell_kinds.new.streams.threshold c.tell_kinds.new.streams.tx (λ x. each (told_kind x.medias) (each (stream_after_timeout now) x.tx)) mine.state threshold tx;
      rx = subst (λ (v : StreamsView g.row.W.Denot g.row.S.Denot). Along (RxStandsFor m) v.rx (each (on_record (checked now)) s.rx)) (sym told) ticked.rx;
      known = ap (λ (v : StreamsView g.row.W.Denot g.row.S.Denot). v.known) told ∙ ticked.known;
      repairs = subst (λ (v : StreamsView g.row.W.Denot g.row.S.Denot). Along (RepairsStandFor g.S.ResendStore.stands_for) v.repairs s.repairs) (sym told) ticked.repairs;
      seen = mine.seen;
      probes = subst (λ (v : RxView g.row.W.Denot). RxStandsFor m v (on_record (checked now) s.probes)) (sym c.handle_timeout.ensures)
          (record { state = ap (checked now) mine.probes.state; window = mine.probes.window; repairs = mine.probes.repairs; recent = mine.probes.recent });
    }
