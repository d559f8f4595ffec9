use Rattle.std.proofs.Common.{List, take, sym, ap, ◌∙◌}
use Rattle.rtcp_wire.specs.declared.rtcp_fb.RtcpFb.{RtcpFb}
use Rattle.session_core.specs.News.{NewsRecord, news_heard_by, news_heard}
use Rattle.session_core.proofs.Asking.{one_more}
use Rattle.session_core.proofs.Heard.{news_more}
use Rattle.session_core.proofs.news.News.hear.Goals as goal

pub loop-item-preserved : goal.loop-item-preserved
loop-item-preserved g c = λ r h.
    let fs = c.args.feedback.now in
    let i = c.loop-item.item-index in
    let f = c.item-item.result in
    let now = c.args.now in
    c.in_ok-hear_item.ensures.ok r h
    ∙ ap (λ (n : NewsRecord). news_heard_by now r.tx r.rx f n) (c.loop-item.invariant r h)
    ∙ sym (news_more now r.tx r.rx (take i fs) f c.args.self.now)
    ∙ ap (λ (l : List RtcpFb). news_heard now r.tx r.rx l c.args.self.now) (sym (one_more fs i f c.loop-item-test.true c.item-item.is))
