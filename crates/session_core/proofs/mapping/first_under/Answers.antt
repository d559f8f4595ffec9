use Rattle.std.proofs.Common.{◌≡◌, ℕ, true, false, List, Some, None, is_some, sym, ap, ◌∙◌}
use Rattle.stream_core.specs.Repairing.{primary_type_of}
use Rattle.stream_core.specs.RxRecord.{fresh_number}
use Rattle.stream_core.specs.Seen.{seen_of}
use Rattle.stream_core.specs.Tables.{place_of}
use Rattle.stream_core.specs.declared.payload_types.TypeRow.{TypeRow}
use Rattle.session_core.specs.Receiving.{as_repair, as_packet}
use Rattle.session_core.proofs.Openings.{own_opening}
use Rattle.session_core.proofs.mapping.first_under.Goals as goal

pub returns-then-is_some-clause-number : goal.returns-then-is_some-clause-number
returns-then-is_some-clause-number c = λ r x seen types nonzero numbers roc has repair.
    let primary : is_some (primary_type_of r.state.types c.args.header.now.payload_type) ≡ true =
    ap (λ (l : List (ℕ × TypeRow)). is_some (primary_type_of l c.args.header.now.payload_type)) (sym types) ∙ ap is_some (sym c.primary.ensures) ∙ sym c.is_some.ensures ∙ c.if-is_some.true in
    c.as_repair.ensures.value ∙ ap as_repair (sym repair) ∙ sym (own_opening r c.args.header.now nonzero x has true primary)

pub returns-then-not-has-clause-number : goal.returns-then-not-has-clause-number
returns-then-not-has-clause-number c = λ r x seen types nonzero numbers roc has repair.
    let h = c.args.header.now in
    let primary : is_some (primary_type_of r.state.types h.payload_type) ≡ false =
    ap (λ (l : List (ℕ × TypeRow)). is_some (primary_type_of l h.payload_type)) (sym types) ∙ ap is_some (sym c.primary.ensures) ∙ sym c.is_some.ensures ∙ c.if-is_some.false in
    let unknown : is_some (place_of h.payload_type r.state.types) ≡ false =
    ap (λ (l : List (ℕ × TypeRow)). is_some (place_of h.payload_type l)) (sym types) ∙ sym c.has.ensures ∙ c.if-not-has.true in
    sym (own_opening r h nonzero x has false primary ∙ ap (λ b. as_packet b (fresh_number (seen_of h.ssrc r.seen) x h.sequence_number)) unknown)

pub returns-in-Some-clause-number : goal.returns-in-Some-clause-number
returns-in-Some-clause-number c = λ r x seen types nonzero numbers roc has repair.
    let h = c.args.header.now in
    let primary : is_some (primary_type_of r.state.types h.payload_type) ≡ false =
    ap (λ (l : List (ℕ × TypeRow)). is_some (primary_type_of l h.payload_type)) (sym types) ∙ ap is_some (sym c.primary.ensures) ∙ sym c.is_some.ensures ∙ c.if-is_some.false in
    let known : is_some (place_of h.payload_type r.state.types) ≡ true =
    ap (λ (l : List (ℕ × TypeRow)). is_some (place_of h.payload_type l)) (sym types) ∙ sym c.has.ensures ∙ c.if-not-has.false in
    let number : fresh_number (seen_of h.ssrc r.seen) x h.sequence_number ≡ Some c.in-Some.number =
    ap (λ o. fresh_number o x h.sequence_number) (sym (c.get.ensures.value r.seen seen)) ∙ sym (c.in-Some.ensures.fresh x numbers roc) in
    sym (own_opening r h nonzero x has false primary ∙ (λ j. as_packet (known j) (number j)))

pub returns-in-None-clause-number : goal.returns-in-None-clause-number
returns-in-None-clause-number c = λ r x seen types nonzero numbers roc has repair.
    let h = c.args.header.now in
    let primary : is_some (primary_type_of r.state.types h.payload_type) ≡ false =
    ap (λ (l : List (ℕ × TypeRow)). is_some (primary_type_of l h.payload_type)) (sym types) ∙ ap is_some (sym c.primary.ensures) ∙ sym c.is_some.ensures ∙ c.if-is_some.false in
    let known : is_some (place_of h.payload_type r.state.types) ≡ true =
    ap (λ (l : List (ℕ × TypeRow)). is_some (place_of h.payload_type l)) (sym types) ∙ sym c.has.ensures ∙ c.if-not-has.false in
    let number : fresh_number (seen_of h.ssrc r.seen) x h.sequence_number ≡ None =
    ap (λ o. fresh_number o x h.sequence_number) (sym (c.get.ensures.value r.seen seen)) ∙ sym (c.in-None.ensures.fresh x numbers roc) in
    sym (own_opening r h nonzero x has false primary ∙ (λ j. as_packet (known j) (number j)))
