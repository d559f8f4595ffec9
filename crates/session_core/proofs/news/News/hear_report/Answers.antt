use Rattle.std.proofs.Common.{◌≡◌, Some, sym, ap, ◌∙◌}
use Rattle.stream_core.specs.RxRecord.{RxState}
use Rattle.stream_core.specs.Tables.{place_of, value_under}
use Rattle.session_core.specs.News.{NewsRecord, put, with_sender}
use Rattle.session_core.proofs.Failing.{on_ok_then}
use Rattle.session_core.proofs.Waiting.{record_at, under_some, sender_put}
use Rattle.session_core.proofs.news.News.hear_report.Goals as goal

pub returns-clause-ok : goal.returns-clause-ok
returns-clause-ok g c = on_ok_then c.put.result c.put.ensures.ok (λ done r h.
    let info = c.args.info.now in
    let inside = c.self.inside in
    let place : place_of info.ssrc r.rx ≡ Some c.in-Some.place = sym (c.rx_place.ensures.stands r h) ∙ c.in-Some.is in
    let at = record_at g.W.GapWindow.remembers c.args.streams.now.rx r.rx c.in-Some.place c.rx-stream.result.now h.rx c.rx-stream.ensures in
    let mid = c.mid.ensures ∙ ap (λ (s : RxState). s.mid) at.2 in
    let rid = c.rid.ensures ∙ ap (λ (s : RxState). s.rid) at.2 in
    (λ j. record {
      keyframes = inside.keyframes.items;
      senders = (done ∙ (λ i. put info.ssrc (record { mid = mid i; rid = rid i; received_at = c.args.now; sender_info = info }) inside.senders.items)) j;
      rates = inside.rates.items;
    })
    ∙ sender_put info c.args.now (record { keyframes = inside.keyframes.items; senders = inside.senders.items; rates = inside.rates.items }) r.rx at.0 (under_some info.ssrc r.rx c.in-Some.place at.0 place at.1)
    ∙ ap (λ (n : NewsRecord). with_sender (value_under info.ssrc r.rx) info c.args.now n) c.self.view_is)
