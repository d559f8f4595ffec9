use Rattle.std.proofs.Common.{take, sym, ◌∙◌}
use Rattle.stream_core.proofs.TableSteps.{all_but_new}
use Rattle.stream_core.proofs.StreamsSteps.{rx_there, rx_new}
use Rattle.stream_core.proofs.streams.Streams.expect_stream_rx.Goals as goal

pub returns-then-is_some-clause-ok : goal.returns-then-is_some-clause-ok
returns-then-is_some-clause-ok g c =
    rx_there g.W.GapWindow.remembers g.S.ResendStore.stands_for c.args.ssrc c.args.self.now _ c.place.result c.args.rtx c.args.mid_rid.0 c.args.mid_rid.1 c.args.suppress_nack
    c.self.view_is c.place.ensures.place (sym c.is_some.ensures ∙ c.if-is_some.true)

pub returns-in-Ok-clause-ok : goal.returns-in-Ok-clause-ok
returns-in-Ok-clause-ok g c =
    rx_new g.W.GapWindow.remembers g.S.ResendStore.stands_for c.args.ssrc c.args.self.now _ c.place.result c.args.rtx c.args.mid_rid.0 c.args.mid_rid.1 c.args.suppress_nack
    c.new-stream.result c.add.new.self c.expect.new.self
    c.self.view_is c.place.ensures.place (sym c.is_some.ensures ∙ c.if-is_some.false) c.new-stream.ensures c.in_ok-add.ensures.ok c.in-Ok.ensures.ok

pub returns-in-Err-clause-err : goal.returns-in-Err-clause-err
returns-in-Err-clause-err g c =
    let rx = c.truncate.ensures ∙ (λ i. take (c.len-len.ensures i) (c.in_ok-add.ensures.ok i)) ∙ all_but_new c.self.inside.rx _ in
    (λ j. record { threshold = c.self.inside.pause_threshold; rx = rx j; known = c.in-Err.ensures.err j; tx = c.self.inside.tx; repairs = c.self.inside.repairs }) ∙ c.self.view_is
