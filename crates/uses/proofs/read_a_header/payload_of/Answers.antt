use Rattle.std.proofs.Common.{◌∙◌, sym, []}
use Rattle.uses.proofs.read_a_header.payload_of.Goals as goal

-- a header ends within its packet
pub split_at-requires : goal.split_at-requires
split_at-requires c =
    (c.header_reads_own_bytes.ensures c.args.exts.now c.args.bytes.now [] c.in-Some.header (sym c.parse.ensures ∙ c.in-Some.is)).2
