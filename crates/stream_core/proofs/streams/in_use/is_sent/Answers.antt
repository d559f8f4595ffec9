use Rattle.std.proofs.Common.{◌≤◌, length, is_some, sym, ap, ◌∙◌, arith}
use Rattle.std.specs.Prelude.{◌||◌}
use Rattle.stream_core.specs.InUse.{is_of}
use Rattle.stream_core.specs.TxRecord.{TxRecord}
use Rattle.stream_core.specs.Tables.{place_of}
use Rattle.stream_core.proofs.Any.{none_more, none_all, any_there}
use Rattle.stream_core.proofs.streams.in_use.is_sent.Goals as goal

pub loop-place-preserved : goal.loop-place-preserved
loop-place-preserved c =
    none_more (λ (x : TxRecord). is_of c.args.ssrc x.ssrc x.rtx) c.args.streams.now c.loop-place.place c.at-stream.result.now c.loop-place.invariant c.at-stream.ensures
    (sym (c.is_of.ensures ∙ (λ i. is_of c.args.ssrc (c.ssrc.ensures i) (c.rtx.ensures i))) ∙ c.if-is_of.false)

pub returns-then-is_of : goal.returns-then-is_of
returns-then-is_of c =
    sym (ap (λ b. b || is_some (place_of c.args.ssrc c.args.streams.now))
    (any_there (λ (x : TxRecord). is_of c.args.ssrc x.ssrc x.rtx) c.args.streams.now c.loop-place.place c.at-stream.result.now c.at-stream.ensures (sym (c.is_of.ensures ∙ (λ i. is_of c.args.ssrc (c.ssrc.ensures i) (c.rtx.ensures i))) ∙ c.if-is_of.true)))

pub returns : goal.returns
returns c =
    let ended = c.loop-place-test.false in
    let count = c.len-place-end.ensures in
    let long : length c.args.streams.now ≤ c.loop-place.place = omega arith in
    c.is_some.ensures
    ∙ ap is_some c.place.ensures.place
    ∙ sym (ap (λ b. b || is_some (place_of c.args.ssrc c.args.streams.now)) (none_all (λ (x : TxRecord). is_of c.args.ssrc x.ssrc x.rtx) c.args.streams.now c.loop-place.place c.loop-place.invariant long))
