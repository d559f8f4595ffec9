use Rattle.payload_core.specs.Params.{NoneBelow}
use Rattle.payload_core.proofs.params.CodecConfig.match_params.Given as goal

abbrev pub invariant-loop-known : goal.invariant-loop-known
invariant-loop-known l = NoneBelow l.params.spec l.known-items l.known-index
