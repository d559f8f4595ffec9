use Rattle.std.proofs.Common.{ℕ, List, take, refl, sym, ap, ◌∙◌}
use Rattle.rtcp_wire.specs.declared.rtcp_fb.RtcpFb.{RtcpFb}
use Rattle.stream_core.specs.StreamsRecord.{StreamsView}
use Rattle.stream_core.specs.TxRecord.{TxRecord}
use Rattle.session_core.specs.Hearing.{tx_heard_by, tx_heard}
use Rattle.session_core.proofs.Asking.{one_more}
use Rattle.session_core.proofs.Heard.{tx_more}
use Rattle.session_core.proofs.hearing.tell_all.Goals as goal

pub loop-item-init : goal.loop-item-init
loop-item-init g c = refl

pub loop-item-preserved : goal.loop-item-preserved
loop-item-preserved g c =
    let fs = c.args.feedback.now in
    let i = c.loop-item.item-index in
    let f = c.item-item.result in
    let es = c.args.streams.now.tx in
    c.in_ok-tell.ensures.ok
    ∙ ap (λ (v : StreamsView g.row.W.Denot g.row.S.Denot). record { threshold = v.threshold; rx = v.rx; known = v.known; tx = tx_heard_by f v.tx; repairs = v.repairs }) c.loop-item.invariant
    ∙ ap (λ (l : List (ℕ × TxRecord)). record { threshold = c.args.streams.now.threshold; rx = c.args.streams.now.rx; known = c.args.streams.now.known; tx = l; repairs = c.args.streams.now.repairs })
    (sym (tx_more (take i fs) f es) ∙ ap (λ (l : List RtcpFb). tx_heard l es) (sym (one_more fs i f c.loop-item-test.true c.item-item.is)))
