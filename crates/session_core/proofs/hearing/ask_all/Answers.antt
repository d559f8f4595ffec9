use Rattle.std.proofs.Common.{ℕ, List, take, refl, sym, ap, subst, ◌∙◌}
use Rattle.rtcp_wire.specs.declared.rtcp_fb.RtcpFb.{RtcpFb}
use Rattle.stream_core.specs.Repairing.{RepairsRecord}
use Rattle.stream_core.specs.StreamsRecord.{StreamsRecord, StreamsView, StandsFor}
use Rattle.session_core.specs.Hearing.{AskedByAll, asked_none}
use Rattle.session_core.proofs.Asking.{asked_more, one_more}
use Rattle.session_core.proofs.Failing.{on_err_any}
use Rattle.session_core.proofs.hearing.ask_all.Goals as goal

pub loop-item-init : goal.loop-item-init
loop-item-init g c = record {
  asked = λ r h. (r.repairs, asked_none r.repairs, h);
  others = refl;
}

pub loop-item-preserved : goal.loop-item-preserved
loop-item-preserved g c =
    let fs = c.args.feedback.now in
    let i = c.loop-item.item-index in
    let f = c.item-item.result in
    record {
      asked = λ r h.
          let here = c.loop-item.invariant.asked r h in
          let k = c.in_ok-ask.ensures.ok (record r { repairs = here.0 }) here.2 in (
            k.0,
            subst (λ (l : List RtcpFb). AskedByAll c.args.now l r.repairs k.0) (sym (one_more fs i f c.loop-item-test.true c.item-item.is))
                (asked_more c.args.now (take i fs) f r.repairs here.0 k.0 here.1 k.1),
            k.2,
          );
      others =
          c.in_ok-ask.ensures.others
          ∙ ap (λ (v : StreamsView g.row.W.Denot g.row.S.Denot). record { threshold = v.threshold; rx = v.rx; known = v.known; tx = v.tx; repairs = c.ask.new.streams.repairs }) c.loop-item.invariant.others;
    }

pub returns-in_err-ask-clause-err : goal.returns-in_err-ask-clause-err
returns-in_err-ask-clause-err g c =
    let R = g.W.GapWindow.remembers in
    let S = g.S.ResendStore.stands_for in
    let front : (r : StreamsRecord) → StandsFor R S c.args.streams.now r
    → (count : ℕ) × ((after : List (ℕ × RepairsRecord)) × AskedByAll c.args.now (take count c.args.feedback.now) r.repairs after
    × StandsFor R S c.ask.new.streams (record r { repairs = after })) =
    λ r h.
    let here = c.loop-item.invariant.asked r h in (
      c.loop-item.item-index,
      (
        here.0,
        here.1,
        subst (λ (v : StreamsView g.row.W.Denot g.row.S.Denot). StandsFor R S v (record r { repairs = here.0 })) (sym c.in_err-ask.ensures.err) here.2,
      ),
    ) in
    on_err_any _ front
