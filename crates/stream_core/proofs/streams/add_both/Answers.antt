use Rattle.std.proofs.Common.{take, ◌∙◌}
use Rattle.stream_core.proofs.TableSteps.{all_but_new}
use Rattle.stream_core.proofs.streams.add_both.Goals as goal

pub returns-in-Err-clause-err : goal.returns-in-Err-clause-err
returns-in-Err-clause-err g c =
    (c.truncate.ensures ∙ (λ i. take (c.len-len.ensures i) (c.in_ok-add.ensures.ok i)) ∙ all_but_new c.args.one.now _, c.in-Err.ensures.err)
