use Rattle.std.proofs.Common.{◌≡◌, ◌<◌, ◌++◌, ℕ, true, List, [], length, refl, sym, ap, subst, ◌∙◌, arith}
use Rattle.std.proofs.lemmas.Bool.Decides.{nat_tests}
use Rattle.std.specs.List.{AllByRecursion}
use Rattle.std.specs.Prelude.{◌⊎◌, if◌then◌else◌}
use Rattle.rtcp_wire.specs.declared.packet.Rtcp.{Rtcp}
use Rattle.report_core.specs.Moments.{unanswered}
use Rattle.stream_core.specs.Repairing.{RepairsStandFor}
use Rattle.stream_core.specs.Reporting.{any_request, due_mids, due_tx_mids, incoming_items, incoming_after}
use Rattle.stream_core.specs.RxRecord.{StandsFor as RxStandsFor}
use Rattle.stream_core.specs.StreamsRecord.{StreamsView}
use Rattle.stream_core.specs.Tables.{Along, each}
use Rattle.stream_core.specs.TxRecord.{TxRecord}
use Rattle.stream_core.specs.declared.reports.Tick.{Tick}
use Rattle.session_core.specs.Feedback.{FitsAlone}
use Rattle.session_core.specs.Reports.{due_senders, sender_after, sender_and_answers, some_reports}
use Rattle.session_core.specs.Rounds.{is_one, is_round, tick_of}
use Rattle.session_core.specs.SessionRecord.{MediaRecord, streams_in, SessionState, SessionView, StandsFor}
use Rattle.session_core.proofs.Failing.{on_err_any}
use Rattle.session_core.proofs.Fitting.{all_append, more_fit}
use Rattle.session_core.proofs.Spoken.{spoken_by, due_where_said}
use Rattle.session_core.proofs.StreamsIn.{streams_stand, state_spoken}
use Rattle.session_core.proofs.session.Session.speak.Goals as goal

pub returns-in_err-create_feedback-clause-cause : goal.returns-in_err-create_feedback-clause-cause
returns-in_err-create_feedback-clause-cause g c = on_err_any c.from_residual-in_err-create_feedback.result (λ r h.
    let m = g.W.GapWindow.remembers in
    let now = c.args.now in
    let behind = c.len-behind.result in
    let xs = c.in_ok-items.field-0.items.items in
    let mine = subst (λ s. StandsFor m g.S.ResendStore.stands_for s r) (sym c.self.view_is) h in
    let tick : c.tick-tick.result ≡ tick_of now r = c.tick-tick.ensures r h in
    let cause = c.in_err-create_feedback.ensures.cause (streams_in r) (streams_stand m g.S.ResendStore.stands_for _ r mine) in
    let due : c.as_slice.result.now ≡ due_senders now c.args.self.now.state =
    c.as_slice.ensures.value ∙ c.in_ok-mids.ensures.mids ∙ ap (λ (v : SessionView g.row.W.Denot g.row.S.Denot). due_senders now v.state) c.self.view_is in
    let said : xs ≡ sender_and_answers now r.state = c.in_ok-items.ensures.items due ∙ ap (λ (s : SessionState). sender_and_answers now s) h.state in
    let some : 0 < behind → is_one (due_senders now r.state) ≡ true = λ more. (
    let long : 0 < length xs = (let ok = c.in_ok-items.field-0.items.ok in grind (arith, nat_tests)) in
    due_where_said now r.state xs said long) in
    spoken_by now r behind some
    (subst (λ (t : Tick). (0 < behind) ⊎ ((t.is_round ≡ true) ⊎ ((due_mids t.intervals t.now r.rx ≡ [] → ⊥) ⊎ (any_request r.rx ≡ true)))) tick cause))

pub invariant_of-self-2 : goal.invariant_of-self-2
invariant_of-self-2 g c =
    let e = c.create_feedback.ensures.brief in
    let said : c.append.new.self.items ≡ c.self.inside.feedback.items ++ e.0 ++ c.in_ok-items.field-0.items.items =
    c.in-Ok.ensures.items ∙ ap (λ (l : List Rtcp). l ++ c.in_ok-items.field-0.items.items) e.1 in
    record {
      polls = refl;
      wide = c.self.invariant.wide;
      left = c.self.invariant.left;
      fit =
          subst (λ (xs : List Rtcp). AllByRecursion FitsAlone xs) (sym said)
          (all_append FitsAlone (c.self.inside.feedback.items ++ e.0) c.in_ok-items.field-0.items.items
          (more_fit c.self.inside.feedback.items e.0 c.items_fit_by_lengths.ensures c.self.invariant.fit e.2) c.in_ok-items.ensures.fit);
    }

pub returns-clause-ok : goal.returns-clause-ok
returns-clause-ok g c = λ r h.
    let m = g.W.GapWindow.remembers in
    let now = c.args.now in
    let inside = c.self.inside in
    let tx = inside.streams.tx in
    let medias = inside.medias.items in
    let between = c.create_feedback.new.self in
    let after = c.report_all.new.streams in
    let mine = subst (λ s. StandsFor m g.S.ResendStore.stands_for s r) (sym c.self.view_is) h in
    let tick : c.tick-tick.result ≡ tick_of now r = c.tick-tick.ensures r h in
    let said = c.in_ok-create_feedback.ensures.said (streams_in r) (streams_stand m g.S.ResendStore.stands_for _ r mine) in
    let told = c.report_all.ensures in
    let due : c.as_slice.result.now ≡ due_tx_mids inside.intervals now tx = c.as_slice.ensures.value ∙ c.in_ok-mids.ensures.mids in
    let again : c.as_slice-3.result.now ≡ due_tx_mids inside.intervals now tx = c.as_slice-3.ensures.value ∙ c.in_ok-mids.ensures.mids in
    let seen : c.as_slice.result.now ≡ due_senders now c.args.self.now.state = due ∙ ap (λ (v : SessionView g.row.W.Denot g.row.S.Denot). due_senders now v.state) c.self.view_is in
    let threshold = ap (λ (v : StreamsView g.row.W.Denot g.row.S.Denot). v.threshold) told ∙ c.in_ok-create_feedback.ensures.threshold in
    let others : after.tx ≡ each (sender_after medias now (due_tx_mids inside.intervals now tx)) tx =
    ap (λ (v : StreamsView g.row.W.Denot g.row.S.Denot). v.tx) told
    ∙ ap (λ (l : List MediaRecord). each (sender_after l now c.as_slice-3.result.now) between.tx) c.as_slice-2.ensures.value
    ∙ ap (λ (ms : List (List ℕ)). each (sender_after medias now ms) between.tx) again
    ∙ ap (λ (es : List (ℕ × TxRecord)). each (sender_after medias now (due_tx_mids inside.intervals now tx)) es) c.in_ok-create_feedback.ensures.tx in
    let behind = c.in_ok-items.ensures.items seen ∙ ap (λ (v : SessionView g.row.W.Denot g.row.S.Denot). sender_and_answers now v.state) (sym c.self.view_is) in
    let front = said.1 ∙ ap (λ (t : Tick). inside.feedback.items ++ incoming_items t r.rx) tick in
    let items = c.in-Ok.ensures.items ∙ (λ j. front j ++ behind j) in
    let last = c.last_round-self-inside.ensures ∙ ap (λ (t : Tick). if t.is_round then now else inside.last_round) tick in
    let some : c.in_ok-items.field-0.some ≡ some_reports medias (due_tx_mids inside.intervals now tx) tx =
    c.in_ok-items.ensures.some
    ∙ ap (λ (v : SessionView g.row.W.Denot g.row.S.Denot). some_reports v.state.medias c.as_slice.result.now v.state.tx) (sym c.self.view_is)
    ∙ ap (λ (ms : List (List ℕ)). some_reports medias ms tx) due in
    let moments = c.answered_where.ensures ∙ ap (λ b. if b then unanswered inside.moments else inside.moments) some in
    record {
      state = state_spoken now _ r.state after.threshold after.tx c.append.new.self.items c.last_round-self-inside.result c.answered_where.new.moments
          (λ s. incoming_items (tick_of now r) r.rx) (λ s. if is_round now r then now else s.last_round) mine.state threshold others items last moments;
      rx =
          subst (λ (v : StreamsView g.row.W.Denot g.row.S.Denot). Along (RxStandsFor m) v.rx (incoming_after (tick_of now r) r.rx)) (sym told)
          (subst (λ (t : Tick). Along (RxStandsFor m) between.rx (incoming_after t r.rx)) tick said.0.rx);
      known = ap (λ (v : StreamsView g.row.W.Denot g.row.S.Denot). v.known) told ∙ said.0.known;
      repairs = subst (λ (v : StreamsView g.row.W.Denot g.row.S.Denot). Along (RepairsStandFor g.S.ResendStore.stands_for) v.repairs r.repairs) (sym told) said.0.repairs;
      probes = mine.probes;
      seen = mine.seen;
    }
