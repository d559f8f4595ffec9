use Rattle.std.proofs.Common.{◌≡◌, ℕ, true, false, List, Some, None, is_some, refl, sym, ap, subst, ◌∙◌}
use Rattle.std.specs.Prelude.{not, option_and_then}
use Rattle.mapping_core.specs.declared.mapping.Mapping.{Mapping}
use Rattle.mapping_core.specs.declared.mapping.Mapping.TheVariants.{Repairs, NewStream, NewMain, NewRepairs}
use Rattle.stream_core.specs.RxRecord.{RxRecord, expected, moved_to, repaired_under}
use Rattle.stream_core.specs.Tables.{place_of}
use Rattle.stream_core.specs.declared.payload_types.TypeRow.{TypeRow}
use Rattle.session_core.specs.Receiving.{as_repair, opening_number}
use Rattle.session_core.specs.Repairs.{is_known, repair_accepted}
use Rattle.session_core.specs.SessionRecord.{streams_in}
use Rattle.session_core.proofs.Mappings.{IsOf, mapped_of}
use Rattle.session_core.proofs.Openings.{strange, taken, stream_there, main_there, main_gone, nothing_opens, unknown_opening, gone_opening, repair_opening, repairs_away, repairs_of, repairs_there, repairs_gone, again_of}
use Rattle.session_core.proofs.Keyed.{value_some}
use Rattle.session_core.proofs.mapping.first_opening.Goals as goal
use Rattle.session_core.proofs.mapping.first_opening.Goals.{then-not-is_known-via-then-not-is_known, then-not-is_known-via-else-not-is_known+then-is_none}

-- a stream is declared
pub returns-in-NewStream-clause-number : goal.returns-in-NewStream-clause-number
returns-in-NewStream-clause-number g c = λ r h seen types away mapped.
    let x = c.args.header.now in
    let s = c.in-NewStream.field-0 in
    let m : c.args.mapping.now ≡ NewStream s = c.in-NewStream.is in
    let own : s.ssrc ≡ x.ssrc = subst (IsOf x.ssrc) m (subst (IsOf x.ssrc) (sym mapped) (mapped_of _ _ _ x)) in
    let fresh : RxRecord = expected s.ssrc s.rtx s.mid s.rid s.suppress_nack r.state.pause_threshold in
    c.first_under.ensures.number (taken x r (NewStream s)) fresh seen types (strange x r away).nonzero refl refl (stream_there x r (strange x r away) s own)
    (sym (c.first_repair_under-repair.ensures.number r.seen fresh seen refl))
    ∙ ap (λ (n : Mapping). opening_number x (taken x r n)) (sym m)

-- a stream changes its SSRC
pub returns-in_err-place-in-NewMain-clause-number : goal.returns-in_err-place-in-NewMain-clause-number
returns-in_err-place-in-NewMain-clause-number g c = λ r h seen types away mapped.
    let x = c.args.header.now in
    let k = c.in-NewMain.change in
    let m : c.args.mapping.now ≡ NewMain k = c.in-NewMain.is in
    let own : k.to ≡ x.ssrc = subst (IsOf x.ssrc) m (subst (IsOf x.ssrc) (sym mapped) (mapped_of _ _ _ x)) in
    let s = strange x r away in
    let gone : place_of k.from r.rx ≡ None = sym (c.in_err-place-in-NewMain.ensures.stands (streams_in r) h) in
    c.from_residual.ensures
    ∙ sym (ap (λ (n : Mapping). opening_number x (taken x r n)) m ∙ ap (opening_number x) (main_gone x r s k own gone) ∙ nothing_opens r x s.nonzero s.no_stream s.no_repairs)

pub returns-in_ok-place-in-NewMain-clause-number : goal.returns-in_ok-place-in-NewMain-clause-number
returns-in_ok-place-in-NewMain-clause-number g c = λ r h seen types away mapped.
    let x = c.args.header.now in
    let k = c.in-NewMain.change in
    let m : c.args.mapping.now ≡ NewMain k = c.in-NewMain.is in
    let own : k.to ≡ x.ssrc = subst (IsOf x.ssrc) m (subst (IsOf x.ssrc) (sym mapped) (mapped_of _ _ _ x)) in
    let s = strange x r away in
    let i = c.in_ok-place-in-NewMain.place in
    let there : place_of k.from r.rx ≡ Some i = sym (c.in_ok-place-in-NewMain.ensures.stands (streams_in r) h) in
    let has = value_some k.from r.rx (ap is_some there) in
    let repair : repair_accepted r.seen x has.0 ≡ c.accepts_repair-repair.result =
    sym (c.accepts_repair-repair.ensures.number (streams_in r) r.seen k.from h seen (sym c.in_ok-place-in-NewMain.ensures.place)
    ∙ ap (option_and_then (repair_accepted r.seen x)) has.1) in
    c.first_under-in-NewMain.ensures.number (taken x r (NewMain k)) (moved_to k.to has.0) seen types s.nonzero refl refl (main_there x r s k own i has.0 there has.1) repair
    ∙ ap (λ (n : Mapping). opening_number x (taken x r n)) (sym m)

-- repairs of a stream come under an SSRC that none had
pub returns-then-not-is_known-clause-number : goal.returns-then-not-is_known-clause-number
returns-then-not-is_known-clause-number g c = λ r h seen types away mapped.
    let x = c.args.header.now in
    let k = c.in-NewRepairs.change in
    let m : c.args.mapping.now ≡ NewRepairs k = c.in-NewRepairs.is in
    let own : k.rtx ≡ x.ssrc = subst (IsOf x.ssrc) m (subst (IsOf x.ssrc) (sym mapped) (mapped_of _ _ _ x)) in
    let s = strange x r away in
    let u = taken x r (NewRepairs k) in
    let none : opening_number x u ≡ None =
    elim c.then-not-is_known.branch [
      | then-not-is_known-via-then-not-is_known w ↦
          let unknown : is_known r.state.types x.payload_type ≡ false =
          ap (λ (l : List (ℕ × TypeRow)). is_known l x.payload_type) (sym types) ∙ sym c.is_known.ensures ∙ w.if-not-is_known.true in
          unknown_opening u x s.nonzero (repairs_away x r s k own) unknown
      | then-not-is_known-via-else-not-is_known+then-is_none w ↦
          let gone : is_some (place_of k.main r.rx) ≡ false =
          ap is_some (sym (w.rx_place-else-not-is_known.ensures.stands (streams_in r) h)) ∙ w.is_none.ensures ∙ ap not w.if-is_none.true in
          gone_opening u x s.nonzero (repairs_away x r s k own) k.main (repairs_of x r s k own) (repairs_gone x r s k own gone)
    ] in
    sym (ap (λ (n : Mapping). opening_number x (taken x r n)) m ∙ none)

pub returns-else-is_none-clause-number : goal.returns-else-is_none-clause-number
returns-else-is_none-clause-number g c = λ r h seen types away mapped.
    let x = c.args.header.now in
    let k = c.in-NewRepairs.change in
    let m : c.args.mapping.now ≡ NewRepairs k = c.in-NewRepairs.is in
    let own : k.rtx ≡ x.ssrc = subst (IsOf x.ssrc) m (subst (IsOf x.ssrc) (sym mapped) (mapped_of _ _ _ x)) in
    let s = strange x r away in
    let known : is_known r.state.types x.payload_type ≡ true =
    ap (λ (l : List (ℕ × TypeRow)). is_known l x.payload_type) (sym types) ∙ sym c.is_known.ensures ∙ c.if-not-is_known.false in
    let there : is_some (place_of k.main r.rx) ≡ true =
    ap is_some (sym (c.rx_place-else-not-is_known.ensures.stands (streams_in r) h)) ∙ c.is_none.ensures ∙ ap not c.if-is_none.false in
    let has = value_some k.main r.rx there in
    let anew : RxRecord = repaired_under k.rtx has.0 in
    c.as_repair.ensures.value ∙ ap as_repair (c.first_repair_under.ensures.number r.seen anew seen refl)
    ∙ sym (ap (λ (n : Mapping). opening_number x (taken x r n)) m
    ∙ repair_opening (taken x r (NewRepairs k)) x s.nonzero (repairs_away x r s k own) k.main (repairs_of x r s k own) anew known (repairs_there x r s k own has.0 has.1))

-- repairs come under an SSRC that a stream has
pub returns-in_err-place-in-Repairs-clause-number : goal.returns-in_err-place-in-Repairs-clause-number
returns-in_err-place-in-Repairs-clause-number g c = λ r h seen types away mapped.
    let x = c.args.header.now in
    let main = c.in-Repairs.main in
    let m : c.args.mapping.now ≡ Repairs main = c.in-Repairs.is in
    let s = strange x r away in
    let gone : place_of main r.rx ≡ None = sym (c.in_err-place-in-Repairs.ensures.stands (streams_in r) h) in
    c.from_residual-in_err-place-in-Repairs.ensures
    ∙ sym (ap (λ (n : Mapping). opening_number x (taken x r n)) m
    ∙ gone_opening (taken x r (Repairs main)) x s.nonzero s.no_stream main (again_of x r s main) (ap is_some gone))

pub returns-in_ok-place-in-Repairs-clause-number : goal.returns-in_ok-place-in-Repairs-clause-number
returns-in_ok-place-in-Repairs-clause-number g c = λ r h seen types away mapped.
    let x = c.args.header.now in
    let main = c.in-Repairs.main in
    let m : c.args.mapping.now ≡ Repairs main = c.in-Repairs.is in
    let s = strange x r away in
    let known : is_known r.state.types x.payload_type ≡ true =
    ap (λ (l : List (ℕ × TypeRow)). is_known l x.payload_type) (sym types) ∙ sym c.is_known-in-Repairs.ensures ∙ c.if-not-is_known-2.false in
    let there : place_of main r.rx ≡ Some c.in_ok-place-in-Repairs.place = sym (c.in_ok-place-in-Repairs.ensures.stands (streams_in r) h) in
    let has = value_some main r.rx (ap is_some there) in
    let number : c.accepts_repair.result ≡ repair_accepted r.seen x has.0 =
    c.accepts_repair.ensures.number (streams_in r) r.seen main h seen (sym c.in_ok-place-in-Repairs.ensures.place) ∙ ap (option_and_then (repair_accepted r.seen x)) has.1 in
    c.as_repair-in-Repairs.ensures.value ∙ ap as_repair number
    ∙ sym (ap (λ (n : Mapping). opening_number x (taken x r n)) m
    ∙ repair_opening (taken x r (Repairs main)) x s.nonzero s.no_stream main (again_of x r s main) has.0 known has.1)
