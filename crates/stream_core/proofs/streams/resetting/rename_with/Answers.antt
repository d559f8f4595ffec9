use Rattle.std.proofs.Common.{take, sym, ◌∙◌}
use Rattle.stream_core.proofs.RepairSteps.{with_value_there}
use Rattle.stream_core.proofs.TableSteps.{all_but_new}
use Rattle.stream_core.proofs.streams.resetting.rename_with.Goals as goal

pub returns-in-Some-clause-other : goal.returns-in-Some-clause-other
returns-in-Some-clause-other g c =
    with_value_there c.args.key c.in-Some.at c.args.value c.at_mut.result.now c.args.other.now (sym c.place.ensures.place ∙ c.in-Some.is) c.at_mut.ensures.value

pub returns-in-Err-clause-err : goal.returns-in-Err-clause-err
returns-in-Err-clause-err g c =
    (c.in-Err.ensures.err, c.truncate.ensures ∙ (λ i. take (c.len-len.ensures i) (c.in_ok-add.ensures.ok i)) ∙ all_but_new c.args.other.now _)
