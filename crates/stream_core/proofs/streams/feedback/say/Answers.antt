use Rattle.std.proofs.Common.{◌≡◌, ◌++◌, [], take, sym, ap, ◌∙◌}
use Rattle.std.specs.Prelude.{if◌then◌else◌}
use Rattle.std.proofs.lemmas.List.{append_assoc}
use Rattle.stream_core.specs.Missing.{nack_of, nack_with}
use Rattle.stream_core.specs.Reporting.{after_front}
use Rattle.stream_core.specs.RxRecord.{RxState}
use Rattle.stream_core.proofs.TickSteps.{asked_step, unasked_step}
use Rattle.stream_core.proofs.streams.feedback.say.Goals as goal

pub returns-then-tick-clause-after : goal.returns-then-tick-clause-after
returns-then-tick-clause-after g c = λ r h.
    let t = c.args.tick.now in
    let said = after_front t c.args.reports r in
    asked_step g.W.GapWindow.remembers t c.nack_report-entries.new.self said c.if-tick.true (c.nack_report-entries.ensures.asked said (c.front_said.ensures r h))

pub returns-then-tick-clause-said : goal.returns-then-tick-clause-said
returns-then-tick-clause-said g c = λ key r h.
    let t = c.args.tick.now in
    let k = c.front_said.ensures r h in
    let ssrc = c.ssrc.ensures ∙ ap (λ (s : RxState). s.ssrc) c.nack_report-entries.ensures.state ∙ ap (λ (s : RxState). s.ssrc) k.state in
    let entries = c.nack_report-entries.ensures.entries (after_front t c.args.reports r) k in
    let asked : nack_with t.sender_ssrc c.ssrc.result c.nack_report-entries.result ≡ (if t.is_round then nack_of t.sender_ssrc t.now (key, after_front t c.args.reports r) else []) =
    (λ j. nack_with t.sender_ssrc (ssrc j) (entries j)) ∙ ap (λ b. if b then nack_of t.sender_ssrc t.now (key, after_front t c.args.reports r) else []) (sym c.if-tick.true) in
    let made = c.args.made.now.items in
    c.push_nack.ensures.items
    ∙ (λ j. c.move_front.ensures.to j ++ asked j)
    ∙ append_assoc c.args.feedback.now.items (take c.front_len.result made) (if t.is_round then nack_of t.sender_ssrc t.now (key, after_front t c.args.reports r) else [])
    ∙ ap (λ n. c.args.feedback.now.items ++ (take n made ++ (if t.is_round then nack_of t.sender_ssrc t.now (key, after_front t c.args.reports r) else []))) c.front_len.ensures

pub returns-else-tick-clause-after : goal.returns-else-tick-clause-after
returns-else-tick-clause-after g c = λ r h.
    unasked_step g.W.GapWindow.remembers c.args.tick.now c.front_said.new.stream (after_front c.args.tick.now c.args.reports r) c.if-tick.false (c.front_said.ensures r h)
