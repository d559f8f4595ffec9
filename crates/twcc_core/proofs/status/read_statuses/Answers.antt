use Rattle.std.proofs.Common.{refl, arith}
use Rattle.twcc_core.proofs.Symbols.{read_fails}
use Rattle.twcc_core.proofs.status.read_statuses.Goals as goal

pub returns-in_default : goal.returns-in_default
returns-in_default c =
    read_fails c.args.rows.now c.args.symbols.now c.loop-symbol.symbol-index _ c.args.bytes.now c.loop-symbol.rows c.loop-symbol.rest.now (omega (arith, c.loop-symbol-test.true)) refl c.in_default.ensures c.loop-symbol.invariant
