use Rattle.std.proofs.Common.{sym, ap, subst, is_some, [], ◌∷◌, ◌++◌, ◌∙◌}
use Rattle.stream_core.specs.StreamsRecord.{StreamsView, StandsFor, with_stream_tx}
use Rattle.stream_core.specs.TxRecord.{TxRecord}
use Rattle.stream_core.proofs.RepairSteps.{tx_new}
use Rattle.stream_core.proofs.streams.Streams.declare_stream_tx.Goals as goal

pub returns-in_ok-add_both-in-Some-clause-ok : goal.returns-in_ok-add_both-in-Some-clause-ok
returns-in_ok-add_both-in-Some-clause-ok g c = λ r h.
    let said = c.in_ok-add_both-in-Some.ensures in
    let mid = c.args.mid_rid.0 in
    let rid = c.args.mid_rid.1 in
    let put = said.one ∙ ap (λ (x : TxRecord). c.self.inside.tx ++ (c.args.ssrc, x) ∷ []) c.new-stream.ensures in
    let view : StreamsView g.row.W.Denot g.row.S.Denot = record { threshold = c.self.inside.pause_threshold; rx = c.self.inside.rx; known = c.self.inside.known; tx = c.add_both.new.one; repairs = c.add_both.new.other } in
    subst (λ o. StandsFor g.W.GapWindow.remembers g.S.ResendStore.stands_for view (with_stream_tx c.args.ssrc o mid rid r)) (sym c.in-Some.is)
    (tx_new g.W.GapWindow.remembers g.S.ResendStore.stands_for c.args.self.now _ c.self.view_is c.args.ssrc c.in-Some.start mid rid
    c.in_ok-repairs-in-Some.repairs c.add_both.new.one c.add_both.new.other (sym (ap is_some c.place.ensures.place) ∙ sym c.is_some.ensures ∙ c.if-is_some.false)
    c.in_ok-repairs-in-Some.ensures put said.other r h)
