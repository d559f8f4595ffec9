use Rattle.std.proofs.Common.{◌≡◌, drop}
use Rattle.rtx_core.specs.Ratio.{bytes_in, recent}
use Rattle.rtx_core.proofs.byte_log.ByteLog.sum.Given as goal

abbrev pub invariant-loop-place : goal.invariant-loop-place
invariant-loop-place l = record {
  total : l.total ≡ bytes_in (drop l.place l.self);
  rest : recent l.now (drop l.place l.self) ≡ recent l.now l.self;
}
