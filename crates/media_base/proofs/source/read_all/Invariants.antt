use Rattle.std.proofs.Common.{◌≡◌, length, ◌≤◌}
use Rattle.std.specs.Io.KnownBytes.{Consumes}
use Rattle.media_base.proofs.source.read_all.Given as goal

abbrev pub invariant-loop-turn : goal.invariant-loop-turn
invariant-loop-turn g l = record {
  taken : Consumes (g.S.Source.left l.initial.source) (g.S.Source.left l.source) l.bytes.items;
  short : length l.bytes.items ≤ l.limit;
  turns : l._turn ≤ length l.bytes.items;
  later : g.S.Source.fault_count l.initial.source ≤ g.S.Source.fault_count l.source;
  same : g.S.Source.fault_count l.source ≡ g.S.Source.fault_count l.initial.source;
}
