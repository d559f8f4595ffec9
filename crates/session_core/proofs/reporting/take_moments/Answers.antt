use Rattle.std.proofs.Common.{List, take, sym, ap, ◌∙◌}
use Rattle.rtcp_wire.specs.declared.rtcp_fb.RtcpFb.{RtcpFb}
use Rattle.session_core.specs.Reports.{moments_heard_by, moments_heard}
use Rattle.session_core.proofs.Asking.{one_more}
use Rattle.session_core.proofs.Heard.{moments_more}
use Rattle.session_core.proofs.reporting.take_moments.Goals as goal

pub loop-item-preserved : goal.loop-item-preserved
loop-item-preserved c =
    let fs = c.args.feedback.now in
    let i = c.loop-item.item-index in
    let f = c.item-item.result in
    c.in_ok-take_moment.ensures.ok
    ∙ ap (moments_heard_by c.args.now f) c.loop-item.invariant
    ∙ sym (moments_more c.args.now (take i fs) f c.args.moments.now)
    ∙ ap (λ (l : List RtcpFb). moments_heard c.args.now l c.args.moments.now) (sym (one_more fs i f c.loop-item-test.true c.item-item.is))
