use Rattle.std.proofs.Common.{sym}
use Rattle.payload_core.proofs.Specs.{first_found, none_more}
use Rattle.payload_core.proofs.params.CodecConfig.match_params.Goals as goal

pub returns-then-eq : goal.returns-then-eq
returns-then-eq c = rw (← c.self.view_is, ← c.deref-known-items.ensures.value) (first_found _ _ _ _ c.loop-known-test.true c.known-item.is (sym c.if-eq.ensures) c.loop-known.invariant)

pub loop-known-preserved : goal.loop-known-preserved
loop-known-preserved c = none_more _ _ _ _ c.loop-known-test.true c.known-item.is (sym c.if-eq.ensures) c.loop-known.invariant
