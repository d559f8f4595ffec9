use Rattle.std.proofs.Common.{sym, ap, ◌∙◌}
use Rattle.std.specs.Map.Iter.{deref_pair}
use Rattle.stream_core.specs.Tables.{place_of}
use Rattle.stream_core.proofs.Fronts.{place_first}
use Rattle.stream_core.proofs.ssrc_table.SsrcTable.place.Goals as goal

pub returns-in-Some-clause-place : goal.returns-in-Some-clause-place
returns-in-Some-clause-place g c =
    place_first c.self.inside.streams.entries c.args.ssrc (deref_pair c.in-Some.first) (sym c.in-Some.ensures.entry) (sym c.eq.ensures ∙ c.if-eq.true)
    ∙ ap (place_of c.args.ssrc) c.self.view_is
