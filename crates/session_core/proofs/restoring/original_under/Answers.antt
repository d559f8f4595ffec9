use Rattle.std.proofs.Common.{sym, ap, ◌∙◌}
use Rattle.stream_core.specs.Known.{KnownRecord}
use Rattle.stream_core.specs.Tables.{value_under}
use Rattle.session_core.proofs.RepairSteps.{unknown_under, none_under, gone_under}
use Rattle.session_core.proofs.restoring.original_under.Goals as goal

pub returns-then-not-is_known-clause-original : goal.returns-then-not-is_known-clause-original
returns-then-not-is_known-clause-original g c = λ r h.
    sym (unknown_under c.args.types.now r.rx r.known.originals c.args.header.now (sym c.is_known.ensures ∙ c.if-not-is_known.true))

pub returns-in_default-clause-original : goal.returns-in_default-clause-original
returns-in_default-clause-original g c = λ r h.
    let known = sym c.is_known.ensures ∙ c.if-not-is_known.false in
    let none = ap (value_under c.args.header.now.ssrc) (ap (λ (k : KnownRecord). k.originals) (sym h.known)) ∙ sym c.original.ensures ∙ c.in_default.is in
    sym (none_under c.args.types.now r.rx r.known.originals c.args.header.now known none)

pub returns-in-None-clause-original : goal.returns-in-None-clause-original
returns-in-None-clause-original g c = λ r h.
    let known = sym c.is_known.ensures ∙ c.if-not-is_known.false in
    let under = ap (value_under c.args.header.now.ssrc) (ap (λ (k : KnownRecord). k.originals) (sym h.known)) ∙ sym c.original.ensures ∙ c.in-Some.is in
    let there = sym (c.rx_place.ensures.stands r h) ∙ c.in-None.is in
    sym (gone_under c.args.types.now r.rx r.known.originals c.args.header.now c.in-Some.original known under there)
