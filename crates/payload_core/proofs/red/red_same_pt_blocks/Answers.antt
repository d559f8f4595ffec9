use Rattle.std.proofs.Common.{rules, ◌∙◌, ap, eqb}
use Rattle.std.proofs.lemmas.Fn.{filter_same}
use Rattle.payload_core.specs.Red.{blocks_of}
use Rattle.payload_core.proofs.RedBlocks.{kept_of_type}
use Rattle.payload_core.proofs.red.red_same_pt_blocks.Goals as goal

pub returns : goal.returns
returns c = ap blocks_of (filter_same _ (λ b. eqb b.pt c.args.pt) _ (λ x b f' k. search rules) _ _ c.retain.ensures.filtered) ∙ kept_of_type c.args.pt c.args.blocks.items
