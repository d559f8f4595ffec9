use Rattle.std.proofs.Common.{arith}
use Rattle.twcc_core.proofs.Symbols.{run_more, run_fails}
use Rattle.twcc_core.proofs.status.read_run.Goals as goal

pub returns-in_default : goal.returns-in_default
returns-in_default c = run_fails c.args.rows.now c.args.symbol c.args.count c.loop.counter c.args.bytes.now c.loop.rows c.loop.rest.now (omega (arith, c.loop-test.true)) c.in_default.ensures c.loop.invariant

pub loop-preserved : goal.loop-preserved
loop-preserved c =
    run_more c.args.rows.now c.args.symbol c.args.count c.loop.counter c.args.bytes.now c.loop.rows c.push.new.self c.in-Some.status c.loop.rest.now c.in-Some.after.now (omega (arith, c.loop-test.true)) c.in-Some.ensures c.in_ok-push.ensures.ok c.loop.invariant
