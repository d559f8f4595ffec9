use Rattle.std.proofs.Common.{[], ◌∷◌, ◌++◌, arith, length-append}
use Rattle.twcc_core.specs.Sizes.{after_row}
use Rattle.twcc_core.proofs.Sizes.{next_counted}
use Rattle.twcc_core.proofs.Receiving.{rows_start, rows_more, rows_full, counted_bounds}
use Rattle.twcc_core.proofs.receive.TwccRecvRegister.rows.Goals as goal

pub loop-i-init : goal.loop-i-init
loop-i-init c = rw c.new-rows.ensures (rows_start c.args.self.now.arrivals c.args.limit c.args.count c.args.base c.args.reference c.new-size.result c.new-size.ensures)

pub add-requires-clause-chunks : goal.add-requires-clause-chunks
add-requires-clause-chunks c =
    let few = c.requires.few in
    let long = c.loop-i.invariant.long in
    (counted_bounds c.loop-i.size c.loop-i.rows c.loop-i.invariant.counted (omega (arith, c.loop-i-test.true))).0

pub add-requires-clause-deltas : goal.add-requires-clause-deltas
add-requires-clause-deltas c =
    let few = c.requires.few in
    let long = c.loop-i.invariant.long in
    (counted_bounds c.loop-i.size c.loop-i.rows c.loop-i.invariant.counted (omega (arith, c.loop-i-test.true))).1

pub bytes-requires-clause-chunks : goal.bytes-requires-clause-chunks
bytes-requires-clause-chunks c =
    let few = c.requires.few in
    let long = c.loop-i.invariant.long in
    let b = (counted_bounds (after_row c.loop-i.size c.in-Some.row) (c.loop-i.rows ++ c.in-Some.row ∷ []) (next_counted c.loop-i.size c.in-Some.row c.loop-i.rows c.loop-i.invariant.counted) (omega (arith, length-append c.loop-i.rows (c.in-Some.row ∷ []), c.loop-i-test.true))).0 in
    rw c.add.ensures (omega (arith, b))

pub bytes-requires-clause-deltas : goal.bytes-requires-clause-deltas
bytes-requires-clause-deltas c =
    let few = c.requires.few in
    let long = c.loop-i.invariant.long in
    let b = (counted_bounds (after_row c.loop-i.size c.in-Some.row) (c.loop-i.rows ++ c.in-Some.row ∷ []) (next_counted c.loop-i.size c.in-Some.row c.loop-i.rows c.loop-i.invariant.counted) (omega (arith, length-append c.loop-i.rows (c.in-Some.row ∷ []), c.loop-i-test.true))).1 in
    rw c.add.ensures (omega (arith, b))

pub returns-then-bytes-limit-clause-rows : goal.returns-then-bytes-limit-clause-rows
returns-then-bytes-limit-clause-rows c =
    let e = rw c.arrival.ensures at c.in-Some.ensures in
    let b = rw c.add.ensures at c.bytes.ensures in
    rows_full c.args.self.now.arrivals _ c.args.limit c.args.count c.loop-i.i c.args.base c.loop-i.last c.in-Some.after c.in-Some.row c.loop-i.rows c.loop-i.size c.loop-i-test.true e (omega (arith, b, c.if-bytes-limit.true)) c.loop-i.invariant

pub loop-i-preserved : goal.loop-i-preserved
loop-i-preserved c =
    let e = rw c.arrival.ensures at c.in-Some.ensures in
    let b = rw c.add.ensures at c.bytes.ensures in
    rw (c.in_ok-push.ensures.ok, c.add.ensures) (rows_more c.args.self.now.arrivals _ c.args.limit c.args.count c.loop-i.i c.args.base c.loop-i.last c.in-Some.after c.in-Some.row c.loop-i.rows c.loop-i.size c.loop-i-test.true e (omega (arith, b, c.if-bytes-limit.false)) c.loop-i.invariant)
