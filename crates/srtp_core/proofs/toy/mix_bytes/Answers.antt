use Rattle.std.proofs.Common.{◌∙◌, ◌++◌, ◌*◌, ◌/◌, length, ap, take}
use Rattle.std.specs.Prelude.{slice_index}
use Rattle.std.proofs.lemmas.List.{take-append-drop}
use Rattle.srtp_core.proofs.Columns.{two_mixed}
use Rattle.srtp_core.proofs.toy.mix_bytes.Goals as goal

pub returns-clause-columns : goal.returns-clause-columns
returns-clause-columns c j h =
    let n = length c.args.bytes.now / 4 * 4 in
    let fours = c.split_at.result.0.now in
    let last = c.split_at.result.1.now in
    two_mixed j c.args.at fours last c.args.bytes.now (slice_index c.args.tag.now j) (slice_index c.mix_fours.new.tag j) (slice_index c.mix_each.new.tag j)
    (ap (λ l. l ++ last) c.split_at.ensures.front ∙ ap (λ l. take n c.args.bytes.now ++ l) c.split_at.ensures.back ∙ take-append-drop n c.args.bytes.now)
    (c.mix_fours.ensures.columns j h) (c.mix_each.ensures.columns j h)
