use Rattle.std.proofs.Common.{◌<◌, length, ◌∙◌, arith}
use Rattle.stream_core.proofs.Places.{places_put}
use Rattle.stream_core.proofs.payload_types.PayloadTypes.add.Goals as goal

pub invariant_of-self-2 : goal.invariant_of-self-2
invariant_of-self-2 c =
    let within : c.from-2.result < length c.self.inside.places = omega arith in (
      c.primaries_of-self-inside.ensures,
      places_put c.self.inside.rows.entries c.put_row.new.rows.entries c.args.row c.self.inside.places c.from-2.result c.get_index_of.result c.self.invariant.1
          c.in_ok-put_row.ensures.rows (c.from-2.ensures ∙ c.from.ensures) within c.get_index_of.ensures.index,
      c.in_ok-put_row.ensures.claims,
    )
