use Rattle.media_model.specs.declared.entry.Side.TheVariants.{A}
use Rattle.run_widens.proofs.Streams.{of_side, second_side}
use Rattle.run_widens.proofs.widens.repairs_widen.Goals as goal

pub returns-then-not-branch : goal.returns-then-not-branch
returns-then-not-branch c =
    let exts = c.extension_map-exts in
    let one = of_side c.args.setup.now exts.result c.args.entries.now exts.ensures A in (
      λ t. absurd cc,
      λ run. absurd (cc (c.in_ok-side_widens.ensures.1 (one run), c.if-not-branch.true)),
    )

pub returns : goal.returns
returns c =
    let exts = c.extension_map-exts in
    let one = c.in_ok-side_widens.ensures.0 c.if-not-branch.false in
    second_side c.args.setup.now exts.result c.args.entries.now exts.ensures one
    c.side_widens-2.result c.side_widens-2.ensures
