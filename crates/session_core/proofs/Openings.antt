-- How a datagram opens under an SSRC of no table, once it is taken up of which stream it is.
use Rattle.std.proofs.Common.{◌≡◌, inl, inr, ℕ, Bool, true, false, List, Option, Some, None, is_some, refl, sym, ap, ◌∙◌}
use Rattle.std.specs.Prelude.{◌==◌, ◌||◌, not, option_and_then, slice_get, if◌then◌else◌}
use Rattle.std.specs.Map.{values_of}
use Rattle.std.specs.Option.{option_map, option_map_or}
use Rattle.std.proofs.lemmas.Bool.{eq-eqb, cases_Bool}
use Rattle.mapping_core.specs.declared.mapping.MainChange.{MainChange}
use Rattle.mapping_core.specs.declared.mapping.Mapping.{Mapping}
use Rattle.mapping_core.specs.declared.mapping.RepairsChange.{RepairsChange}
use Rattle.mapping_core.specs.declared.stream.IncomingStream.{IncomingStream}
use Rattle.mapping_core.specs.declared.mapping.Mapping.TheVariants.{Repairs, NewStream, NewMain, NewRepairs}
use Rattle.rtp_wire.specs.declared.header.RtpHeader.{RtpHeader}
use Rattle.stream_core.specs.Known.{is_kept}
use Rattle.stream_core.specs.Repairing.{primary_type_of}
use Rattle.stream_core.specs.RxRecord.{RxRecord, expected, fresh_number, moved_to, repaired_under}
use Rattle.stream_core.specs.Seen.{seen_of}
use Rattle.stream_core.specs.StreamsRecord.{taken_up, moved_at}
use Rattle.stream_core.specs.Tables.{place_of, value_under, with_new, change_place, renamed}
use Rattle.session_core.specs.Mapping.{is_standing}
use Rattle.session_core.specs.Receiving.{number_of, is_claimed, as_repair, as_packet, number_by, opening_number}
use Rattle.session_core.specs.Repairs.{is_known, standing, original_under, repaired_by, repair_accepted}
use Rattle.session_core.specs.SessionRecord.{SessionRecord, streams_in, with_incoming}
use Rattle.session_core.proofs.Keyed.{value_new, value_renamed, place_renamed, value_changed, value_change_at, place_change_at, value_kept}

or_none : (a b : Bool) → (a || b) ≡ false → (a ≡ false) × (b ≡ false)
or_none true b e = absurd cc
or_none false b e = (refl, e)

pub place_some : {X : Type 0} (k : ℕ) (es : List (ℕ × X)) (x : X) → value_under k es ≡ Some x → is_some (place_of k es) ≡ true
place_some k es x has = go (place_of k es) has
  where
    go : (o : Option ℕ) → option_and_then (slice_get (values_of es)) o ≡ Some x → is_some o ≡ true
    go None e = absurd cc
    go (Some i) e = refl

pub value_none : {X : Type 0} (k : ℕ) (es : List (ℕ × X)) → is_some (place_of k es) ≡ false → value_under k es ≡ None
value_none k es none = go (place_of k es) none
  where
    go : (o : Option ℕ) → is_some o ≡ false → option_and_then (slice_get (values_of es)) o ≡ None
    go None e = refl
    go (Some i) e = absurd cc

-- what is_standing says of an SSRC that it does not know
pub record IsStrange (h : RtpHeader) (r : SessionRecord) : Type 0 where
  pub nonzero : (h.ssrc == 0) ≡ false
  pub no_stream : is_some (place_of h.ssrc r.rx) ≡ false
  pub no_repairs : is_some (place_of h.ssrc r.known.originals) ≡ false

pub strange : (h : RtpHeader) (r : SessionRecord) → is_standing h.ssrc r.rx r.known.originals ≡ false → IsStrange h r
strange h r e =
    let first = or_none (h.ssrc == 0) _ e in
    let second = or_none (is_some (place_of h.ssrc r.rx)) _ first.1 in
    record { nonzero = first.0; no_stream = second.0; no_repairs = second.1 }

module _ (u : SessionRecord) (h : RtpHeader) (nonzero : (h.ssrc == 0) ≡ false) where
  abbrev repaired : Option ℕ
  repaired = repaired_by u.state.types u.rx u.known.originals h

  abbrev own : Bool → Option ℕ
  own b = if b then Some h.ssrc else None

  abbrev by_place : Bool → Option ℕ
  by_place b = if b then own (is_some (primary_type_of u.state.types h.payload_type)) else original_under u.state.types u.rx u.known.originals h

  repaired_placed : (b : Bool) → is_some (place_of h.ssrc u.rx) ≡ b → repaired ≡ by_place b
  repaired_placed b e = ap (λ z. if z then None else by_place (is_some (place_of h.ssrc u.rx))) nonzero ∙ ap by_place e

  number_is : (o : Option RxRecord) → value_under h.ssrc u.rx ≡ o
      → number_of (seen_of h.ssrc u.seen) u.rx u.probes h.ssrc h.sequence_number ≡ option_and_then (λ x. fresh_number (seen_of h.ssrc u.seen) x h.sequence_number) o
  number_is o e =
      ap (λ z. if z then fresh_number (seen_of h.ssrc u.seen) u.probes h.sequence_number
      else option_and_then (λ x. fresh_number (seen_of h.ssrc u.seen) x h.sequence_number) (value_under h.ssrc u.rx)) nonzero
      ∙ ap (option_and_then (λ x. fresh_number (seen_of h.ssrc u.seen) x h.sequence_number)) e

  -- the SSRC is a stream's
  module _ (x : RxRecord) (has : value_under h.ssrc u.rx ≡ Some x) where
    own_repair : is_some (primary_type_of u.state.types h.payload_type) ≡ true → opening_number h u ≡ as_repair (repair_accepted u.seen h x)
    own_repair e =
        ap (number_by h u) (repaired_placed true (place_some h.ssrc u.rx x has) ∙ ap own e)
        ∙ ap (λ o. as_repair (option_and_then (repair_accepted u.seen h) o)) has

    own_packet : is_some (primary_type_of u.state.types h.payload_type) ≡ false
        → opening_number h u ≡ as_packet (is_some (place_of h.payload_type u.state.types)) (fresh_number (seen_of h.ssrc u.seen) x h.sequence_number)
    own_packet e =
        ap (number_by h u) (repaired_placed true (place_some h.ssrc u.rx x has) ∙ ap own e)
        ∙ (λ j. as_packet (nonzero j || is_some (place_of h.payload_type u.state.types)) (number_is (Some x) has j))

    pub own_opening : (b : Bool) → is_some (primary_type_of u.state.types h.payload_type) ≡ b
        → opening_number h u ≡ (if b then as_repair (repair_accepted u.seen h x)
        else as_packet (is_some (place_of h.payload_type u.state.types)) (fresh_number (seen_of h.ssrc u.seen) x h.sequence_number))
    own_opening true e = own_repair e
    own_opening false e = own_packet e

  -- a packet that may open has a stream
  pub has_place : (n : ℕ) → number_of (seen_of h.ssrc u.seen) u.rx u.probes h.ssrc h.sequence_number ≡ Some n → is_some (place_of h.ssrc u.rx) ≡ true
  has_place n e =
      elim (cases_Bool (is_some (place_of h.ssrc u.rx))) [
        | inl there ↦ there
        | inr gone ↦ (let none = number_is None (value_none h.ssrc u.rx gone) in absurd (cc (none, e)))
      ]

  -- it is none's
  module _ (away : is_some (place_of h.ssrc u.rx) ≡ false) where
    no_packet : (claimed : Bool) (n : Option ℕ) → n ≡ None → as_packet claimed n ≡ None
    no_packet true n e = ap (option_map (λ m. (m, false))) e
    no_packet false n e = refl

    none_opens : repaired ≡ None → opening_number h u ≡ None
    none_opens e = ap (number_by h u) e ∙ no_packet (is_claimed u.state.types h) _ (number_is None (value_none h.ssrc u.rx away))

    abbrev under : Bool → Option ℕ → Option ℕ
    under b o = if b then standing u.rx o else None

    repaired_under_it : (b : Bool) (o : Option ℕ) → is_known u.state.types h.payload_type ≡ b → value_under h.ssrc u.known.originals ≡ o → repaired ≡ under b o
    repaired_under_it b o e f = repaired_placed false away ∙ (λ j. under (e j) (f j))

    pub unknown_opening : is_known u.state.types h.payload_type ≡ false → opening_number h u ≡ None
    unknown_opening e = none_opens (repaired_under_it false (value_under h.ssrc u.known.originals) e refl)

    either_none : (b : Bool) → under b None ≡ None
    either_none true = refl
    either_none false = refl

    pub nothing_opens : is_some (place_of h.ssrc u.known.originals) ≡ false → opening_number h u ≡ None
    nothing_opens e =
        none_opens (repaired_under_it (is_known u.state.types h.payload_type) None refl (value_none h.ssrc u.known.originals e) ∙ either_none (is_known u.state.types h.payload_type))

    module _ (main : ℕ) (of : value_under h.ssrc u.known.originals ≡ Some main) where
      gone_none : (b : Bool) → is_some (place_of main u.rx) ≡ false → under b (Some main) ≡ None
      gone_none true e = ap (λ c. if c then Some main else None) e
      gone_none false e = refl

      pub gone_opening : is_some (place_of main u.rx) ≡ false → opening_number h u ≡ None
      gone_opening e = none_opens (repaired_under_it (is_known u.state.types h.payload_type) (Some main) refl of ∙ gone_none (is_known u.state.types h.payload_type) e)

      pub repair_opening : (x : RxRecord) → is_known u.state.types h.payload_type ≡ true → value_under main u.rx ≡ Some x → opening_number h u ≡ as_repair (repair_accepted u.seen h x)
      repair_opening x e has =
          ap (number_by h u) (repaired_under_it true (Some main) e of ∙ ap (λ c. if c then Some main else None) (place_some main u.rx x has))
          ∙ ap (λ o. as_repair (option_and_then (repair_accepted u.seen h) o)) has

-- the session once a mapping is taken up

abbrev pub taken : RtpHeader → SessionRecord → Mapping → SessionRecord
taken h r m = with_incoming (taken_up h.ssrc m (streams_in r)) r

module _ (h : RtpHeader) (r : SessionRecord) (away : IsStrange h r) where
  -- a stream was declared
  pub stream_there : (s : IncomingStream) → s.ssrc ≡ h.ssrc
      → value_under h.ssrc (taken h r (NewStream s)).rx ≡ Some (expected s.ssrc s.rtx s.mid s.rid s.suppress_nack r.state.pause_threshold)
  stream_there s is =
      let x = expected s.ssrc s.rtx s.mid s.rid s.suppress_nack r.state.pause_threshold in
      ap (λ (k : ℕ). value_under h.ssrc (with_new k x r.rx)) is ∙ value_new h.ssrc r.rx x away.no_stream

  -- a stream changed its SSRC
  module _ (c : MainChange) (is : c.to ≡ h.ssrc) where
    to_none : is_some (place_of c.to r.rx) ≡ false
    to_none = ap (λ (k : ℕ). is_some (place_of k r.rx)) is ∙ away.no_stream

    taken_main : (o : Option ℕ) → place_of c.from r.rx ≡ o → taken_up h.ssrc (NewMain c) (streams_in r) ≡ option_map_or (moved_at c (streams_in r)) o (streams_in r)
    taken_main o e =
        ap (λ b. if b then streams_in r else option_map_or (moved_at c (streams_in r)) (place_of c.from r.rx) (streams_in r)) to_none
        ∙ ap (λ p. option_map_or (moved_at c (streams_in r)) p (streams_in r)) e

    pub main_there : (i : ℕ) (x : RxRecord) → place_of c.from r.rx ≡ Some i → value_under c.from r.rx ≡ Some x → value_under h.ssrc (taken h r (NewMain c)).rx ≡ Some (moved_to c.to x)
    main_there i x place has =
        let at : slice_get (values_of r.rx) i ≡ Some x = sym (ap (option_and_then (slice_get (values_of r.rx))) place) ∙ has in
        let named : value_under c.to (renamed c.to r.rx i) ≡ Some x = value_renamed c.to r.rx i x to_none at in
        ap (λ s. value_under h.ssrc (with_incoming s r).rx) (taken_main (Some i) place)
        ∙ ap (λ (k : ℕ). value_under k (change_place (moved_to c.to) (renamed c.to r.rx i) i)) (sym is)
        ∙ value_changed c.to (moved_to c.to) (renamed c.to r.rx i) i x (place_renamed c.to r.rx i x to_none at) named

    pub main_gone : place_of c.from r.rx ≡ None → taken h r (NewMain c) ≡ r
    main_gone e = ap (λ s. with_incoming s r) (taken_main None e)

  -- repairs of a stream come under an SSRC that none had
  module _ (c : RepairsChange) (is : c.rtx ≡ h.ssrc) where
    abbrev after : SessionRecord
    after = taken h r (NewRepairs c)

    pub repairs_away : is_some (place_of h.ssrc after.rx) ≡ false
    repairs_away = ap is_some (place_change_at h.ssrc c.main (repaired_under c.rtx) r.rx) ∙ away.no_stream

    rtx_none : is_some (place_of c.rtx r.known.originals) ≡ false
    rtx_none = ap (λ (k : ℕ). is_some (place_of k r.known.originals)) is ∙ away.no_repairs

    pub repairs_of : value_under h.ssrc after.known.originals ≡ Some c.main
    repairs_of =
        ap (λ (k : ℕ). value_under k after.known.originals) (sym is)
        ∙ value_kept (is_kept c) c.rtx c.main (ap (λ b. b || not (c.main == c.main)) (eq-eqb c.rtx c.rtx refl)) (with_new c.rtx c.main r.known.originals) (value_new c.rtx r.known.originals c.main rtx_none)

    pub repairs_there : (x : RxRecord) → value_under c.main r.rx ≡ Some x → value_under c.main after.rx ≡ Some (repaired_under c.rtx x)
    repairs_there x has = value_change_at c.main (repaired_under c.rtx) r.rx ∙ ap (option_map (repaired_under c.rtx)) has

    pub repairs_gone : is_some (place_of c.main r.rx) ≡ false → is_some (place_of c.main after.rx) ≡ false
    repairs_gone e = ap is_some (place_change_at c.main c.main (repaired_under c.rtx) r.rx) ∙ e

  -- repairs come under an SSRC that a stream has
  pub again_of : (main : ℕ) → value_under h.ssrc (taken h r (Repairs main)).known.originals ≡ Some main
  again_of main = value_new h.ssrc r.known.originals main away.no_repairs
