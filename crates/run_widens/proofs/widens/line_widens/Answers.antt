use Rattle.std.proofs.Common.{Option, Some, None, List, ◌≡◌, refl}
use Rattle.run_model.specs.Runs.{Happening}
use Rattle.run_widens.specs.declared.line.Line.{Line}
use Rattle.run_widens.specs.declared.taken.Taken.{Taken}
use Rattle.run_widens.specs.Widens.{Told}
use Rattle.run_widens.proofs.LineLaws.{happened, goes_on, stops}
use Rattle.run_widens.proofs.widens.line_widens.Goals as goal

none_told : (line : Line) (past : List Happening) (h : Happening) (r : Option Taken) → ((t : Taken) → r ≡ Some t → ⊥) → Told line past h r → Told line past h None
none_told line past h None none told = told
none_told line past h (Some t) none told = absurd (none t refl)

pub loop-i-init : goal.loop-i-init
loop-i-init c = record { taken_so_far = c.nothing-taken.ensures; sent_so_far = c.new-sent.ensures c.args.line.now; each = tt }

pub returns-in_default : goal.returns-in_default
returns-in_default c =
    let k = c.loop-i.invariant in
    let line = c.args.line.now in
    let e = c.index-entries-i.result in
    let i = c.loop-i.i in (
      λ t. absurd cc,
      λ w.
          absurd (stops line c.args.entries.now i c.loop-i-test.true e c.index-entries-i.is
          (none_told line (happened line c.args.entries.now i) _ c.after.result c.in_default.not-Some (c.after.ensures (happened line c.args.entries.now i) i k.taken_so_far k.sent_so_far)) w),
    )

pub loop-i-preserved : goal.loop-i-preserved
loop-i-preserved c =
    let k = c.loop-i.invariant in
    let line = c.args.line.now in
    let i = c.loop-i.i in
    let past = happened line c.args.entries.now i in
    goes_on line c.args.entries.now i c.loop-i-test.true c.index-entries-i.result c.index-entries-i.is c.loop-i.taken c.in-Some.next c.loop-i.sent c.add.new.self k
    (c.in-Some.ensures past i k.taken_so_far k.sent_so_far) (c.in_ok-add.ensures past k.sent_so_far)
