-- A table lends a stream.
use Rattle.std.specs.Prelude.{ℕ, List}
use Rattle.std.specs.Borrow.{Lends, MutBor, Fml, RattleType}
use Rattle.indexmap.specs.IndexMap.{set_value_at}
use Rattle.stream_core.specs.contracts.ssrc_table.SsrcTable.{the_row}

-- the table ends with the last value behind r as the stream at the place
abbrev pub LendsPlace : (T : RattleType) → MutBor (List (ℕ × T.Denot)) → ℕ → MutBor T.Denot → Fml
LendsPlace T t place r = Lends (the_row T) T t r (set_value_at t.now place)
