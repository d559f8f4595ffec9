use Rattle.std.proofs.Common.{ℕ, List, Option, refl, sym, ap, subst, ◌∙◌}
use Rattle.std.specs.Option.{option_or}
use Rattle.rtcp_wire.specs.declared.feedback.AppSpecificFeedback.{AppSpecificFeedback}
use Rattle.stream_core.specs.RxRecord.{RxRecord}
use Rattle.stream_core.specs.StreamsRecord.{StandsFor}
use Rattle.session_core.specs.Hearing.{application_in}
use Rattle.session_core.specs.Reports.{rx_heard}
use Rattle.session_core.proofs.Heard.{application_more, rx_more}
use Rattle.session_core.proofs.hearing.hear.Goals as goal

pub loop-item-init : goal.loop-item-init
loop-item-init g c = record { streams = λ r h. h; tx = refl; repairs = refl; threshold = refl; known = refl; application = refl }

pub loop-item-preserved : goal.loop-item-preserved
loop-item-preserved g c =
    let item = c.in-Some.item in
    let done = c.loop-item.yielded in
    let now = c.args.now in
    let inv = c.loop-item.invariant in
    record {
      streams = λ r h.
          let here = c.hear_item.ensures.streams (record r { rx = rx_heard now done r.rx }) (inv.streams r h) in
          subst (λ (l : List (ℕ × RxRecord)). StandsFor g.W.GapWindow.remembers g.S.ResendStore.stands_for c.hear_item.new.streams (record r { rx = l })) (sym (rx_more now done item r.rx)) here;
      tx = c.hear_item.ensures.tx ∙ inv.tx;
      repairs = c.hear_item.ensures.repairs ∙ inv.repairs;
      threshold = c.hear_item.ensures.threshold ∙ inv.threshold;
      known = c.hear_item.ensures.known ∙ inv.known;
      application =
          c.hear_item.ensures.application
          ∙ ap (λ (o : Option AppSpecificFeedback). option_or (application_in item) o) inv.application
          ∙ sym (application_more done item c.args.application.now);
    }
