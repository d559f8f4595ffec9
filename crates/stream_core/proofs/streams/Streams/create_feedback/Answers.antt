use Rattle.std.proofs.Common.{◌≡◌, ◌⊎◌, ◌<◌, true, false, [], sym, subst, ◌∙◌, inl, inr}
use Rattle.stream_core.specs.Reporting.{any_request}
use Rattle.stream_core.specs.StreamsRecord.{StandsFor}
use Rattle.stream_core.proofs.RepairSteps.{on_err}
use Rattle.stream_core.proofs.TickSteps.{counted_cause, room_cause}
use Rattle.stream_core.proofs.streams.Streams.create_feedback.Goals as goal
use Rattle.stream_core.proofs.streams.Streams.create_feedback.Goals.{then-tick, else-tick}

pub returns-in_err-made-clause-cause : goal.returns-in_err-made-clause-cause
returns-in_err-made-clause-cause g c = on_err c.from_residual-in_err-made.result _ (λ r h.
    let m = g.W.GapWindow.remembers in
    let mine = subst (λ s. StandsFor m g.S.ResendStore.stands_for s r) (sym c.self.view_is) h in
    let mids = c.as_slice.ensures.value ∙ c.in_ok-mids.ensures.mids r.rx mine.rx in
    inr (inr (subst (λ ms. (ms ≡ [] → ⊥) ⊎ (any_request r.rx ≡ true)) mids
    (counted_cause c.as_slice.result.now m c.self.inside.rx r.rx mine.rx c.in_err-made.ensures.cause))))

pub returns-in_err-make_room-clause-cause : goal.returns-in_err-make_room-clause-cause
returns-in_err-make_room-clause-cause g c = on_err c.from_residual-in_err-make_room.result _ (λ r h.
    let m = g.W.GapWindow.remembers in
    let mine = subst (λ s. StandsFor m g.S.ResendStore.stands_for s r) (sym c.self.view_is) h in
    let mids = c.as_slice.ensures.value ∙ c.in_ok-mids.ensures.mids r.rx mine.rx in
    let unasked : c.args.tick.now.is_round ≡ false → c.if-tick.asking ≡ 0 = elim c.if-tick.branch [
      | then-tick w ↦ λ e. let yes = w.if-tick.true in absurd cc
      | else-tick w ↦ λ e. w.asking-is
    ] in
    let count = c.len.ensures ∙ c.in_ok-made.ensures.len in
    let some = room_cause c.len.result c.if-tick.asking c.args.behind c.args.tick.now.is_round unasked c.in_err-make_room.ensures.cause in
    elim some [
      | inl behind ↦ inl behind
      | inr here ↦ inr (elim here [
        | inl round ↦ inl round
        | inr made ↦ inr (subst (λ ms. (ms ≡ [] → ⊥) ⊎ (any_request r.rx ≡ true)) mids
            (counted_cause c.as_slice.result.now m c.self.inside.rx r.rx mine.rx (subst (λ n. 0 < n) count made)))
      ])
    ])
