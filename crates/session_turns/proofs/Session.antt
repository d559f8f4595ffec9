-- Which plain stream a datagram of a session is of, and how the session takes it.
use Rattle.std.proofs.Common.{◌≡◌, ℕ, ◌<◌, Bool, true, false, List, [], ◌∷◌, map, slice_get, Option, Some, None, is_some, refl, sym, ap, ◌∙◌, arith}
use Rattle.std.specs.Prelude.{◌==◌, ◌||◌, ◌&&◌, not, if◌then◌else◌, option_and_then}
use Rattle.std.specs.List.{AllByRecursion, AllZip}
use Rattle.std.specs.Map.{values_of}
use Rattle.std.proofs.lemmas.Bool.{eq-eqb, ne_eqb, or_from, or_left}
use Rattle.rtp_wire.specs.declared.header.RtpHeader.{RtpHeader}
use Rattle.stream_core.specs.declared.payload_types.TypeRow.{TypeRow}
use Rattle.stream_core.specs.Repairing.{primary_type_of}
use Rattle.stream_core.specs.RxRecord.{RxRecord as StreamRx, fresh_number}
use Rattle.stream_core.specs.Seen.{seen_of}
use Rattle.stream_core.specs.Tables.{value_under, place_of}
use Rattle.session_core.specs.Receiving.{number_of}
use Rattle.session_core.specs.Repairs.{is_known, standing, original_under, repaired_by}
use Rattle.session_core.specs.SessionRecord.{SessionRecord}
use Rattle.run_model.specs.Events.{Outgoing, Incoming, Types, Plain as Datagram}
use Rattle.run_model.specs.Receiving.{concerns, is_repair}
use Rattle.run_model.specs.Tables.{AllStrange, AreApart}
use Rattle.run_model.specs.Whole.{incoming_of, probes}
use Rattle.session_turns.specs.Reading.{types_in}
use Rattle.session_turns.specs.Mirrors.{RxMirrors, RxStands, RxMirror, rx_mirror, IsWide}
use Rattle.session_turns.proofs.OpenedStreams.{Real, Plain, IsLine, AllStrangeIn, AreFit, AllAway, At, originals_of, at_place, at_value, at_repairs, at_original, away_place, away_original}
use Rattle.rtp_base.specs.Window.{is_just}

-- the stream of the probes and the others
pub record RxParts (threshold : ℕ) (trip : Option ℕ) (r : SessionRecord) (table : List Plain) : Type 0 where
  pub head : Plain
  pub rest : List Plain
  pub is : table ≡ head ∷ rest
  pub probes_is : head.0 ≡ probes
  pub mirrors : RxMirrors threshold r.seen r.probes head
  pub others : AllZip (RxStands threshold trip r.seen) r.rx rest

pub parts_of : {threshold : ℕ} {trip : Option ℕ} {r : SessionRecord} (table : List Plain) → RxMirror threshold trip r table → RxParts threshold trip r table
parts_of _ (rx_mirror s rest is mirrors others) = record { head = s; rest = rest; is = refl; probes_is = is; mirrors = mirrors; others = others }

-- the streams of a side that fits are apart, and none has the SSRC 0

abbrev pub lines_of : List Plain → List Incoming
lines_of ss = map (λ s. s.0) ss

all_strange : (M : Outgoing) (Ms : List Outgoing) (L : Incoming) (ss : List Plain) → L ≡ incoming_of M → lines_of ss ≡ map incoming_of Ms → AllStrange M Ms → AllStrangeIn L ss
all_strange M [] L [] is same all = tt
all_strange M [] L (s ∷ ss) is same all = absurd cc
all_strange M (N ∷ Ms) L [] is same all = absurd cc
all_strange M (N ∷ Ms) L (s ∷ ss) is same all =
    let first : s.0 ≡ incoming_of N = cc in
    let rest : lines_of ss ≡ map incoming_of Ms = cc in (
      record { strange = λ k of. ap (λ (K : Incoming). concerns K k) first ∙ all.0 k (sym (ap (λ (K : Incoming). concerns K k) is) ∙ of) },
      all_strange M Ms L ss is rest all.1,
    )

pub fit_of : (Ms : List Outgoing) (ss : List Plain) → lines_of ss ≡ map incoming_of Ms → AreApart Ms → AreFit ss
fit_of [] [] same apart = tt
fit_of [] (s ∷ ss) same apart = absurd cc
fit_of (M ∷ Ms) [] same apart = absurd cc
fit_of (M ∷ Ms) (s ∷ ss) same apart =
    let first : s.0 ≡ incoming_of M = cc in
    let rest : lines_of ss ≡ map incoming_of Ms = cc in (
      record { apart = ap (λ (K : Incoming). is_just K.ssrc K.rtx) first ∙ apart.0 },
      (all_strange M Ms s.0 ss first rest apart.1.0, fit_of Ms ss rest apart.1.1),
    )

not_zero : (n : ℕ) → 0 < n → n ≡ 0 → ⊥
not_zero n more is = omega arith

none_zero : (o : Option ℕ) → ((x : ℕ) → o ≡ Some x → 0 < x) → is_just 0 o ≡ false
none_zero None wide = refl
none_zero (Some x) wide = ne_eqb x 0 (not_zero x (wide x refl))

pub away_zero : (Ms : List Outgoing) (ss : List Plain) → lines_of ss ≡ map incoming_of Ms → AllByRecursion IsWide Ms → AllAway 0 ss
away_zero [] [] same wide = tt
away_zero [] (s ∷ ss) same wide = absurd cc
away_zero (M ∷ Ms) [] same wide = absurd cc
away_zero (M ∷ Ms) (s ∷ ss) same wide =
    let first : s.0 ≡ incoming_of M = cc in
    let rest : lines_of ss ≡ map incoming_of Ms = cc in (
      ap (λ (K : Incoming). concerns K 0) first
          ∙ or_from (0 == M.ssrc) (is_just 0 M.rtx) (ne_eqb 0 M.ssrc (λ is. not_zero M.ssrc wide.0.ssrc.0 (sym is))) (none_zero M.rtx (λ x e. (wide.0.rtx x e).0)),
      away_zero Ms ss rest wide.1,
    )

-- which plain datagrams are repairs

and_true : (b : Bool) → (b && true) ≡ b
and_true true = refl
and_true false = refl

pub repair_main : (rows : List (ℕ × TypeRow)) (L : Incoming) (m : ℕ) (p : Datagram) → IsLine L → m ≡ L.ssrc → (m ≡ 0 → ⊥)
    → is_repair (types_in rows) L m p ≡ is_some (primary_type_of rows p.pt)
repair_main rows L m p line is nonzero =
    let zero : (L.ssrc == 0) ≡ false = ne_eqb L.ssrc 0 (λ e. nonzero (is ∙ e)) in
    ap (λ b. b || (is_some (primary_type_of rows p.pt) && not (L.ssrc == 0))) (ap (λ (j : ℕ). is_just j L.rtx) is ∙ line.apart)
    ∙ ap (λ b. is_some (primary_type_of rows p.pt) && not b) zero ∙ and_true (is_some (primary_type_of rows p.pt))

pub repair_rtx : (T : Types) (L : Incoming) (m : ℕ) (p : Datagram) → L.rtx ≡ Some m → is_repair T L m p ≡ true
repair_rtx T L m p is = or_left (is_just m L.rtx) (T.is_rtx p.pt && not (L.ssrc == 0)) (ap (is_just m) is ∙ eq-eqb m m refl)

pub repair_probes : (T : Types) (L : Incoming) (m : ℕ) (p : Datagram) → L ≡ probes → is_repair T L m p ≡ false
repair_probes T L m p is = ap (λ (K : Incoming). is_repair T K m p) is ∙ go (T.is_rtx p.pt)
  where
    go : (b : Bool) → (b && false) ≡ false
    go true = refl
    go false = refl

-- how the session takes a datagram

module _ (r : SessionRecord) (h : RtpHeader) where
  abbrev pub repaired_here : Option ℕ
  repaired_here = repaired_by r.state.types r.rx r.known.originals h

  abbrev pub number_here : Option ℕ
  number_here = number_of (seen_of h.ssrc r.seen) r.rx r.probes h.ssrc h.sequence_number

  abbrev under : Option ℕ → Option ℕ
  under o = if is_known r.state.types h.payload_type then standing r.rx o else None

  abbrev by_place : Option ℕ → Option ℕ
  by_place o = if is_some o then (if is_some (primary_type_of r.state.types h.payload_type) then Some h.ssrc else None) else original_under r.state.types r.rx r.known.originals h

  abbrev number_in : Option StreamRx → Option ℕ
  number_in o = option_and_then (λ x. fresh_number (seen_of h.ssrc r.seen) x h.sequence_number) o

  pub zero_repaired : h.ssrc ≡ 0 → repaired_here ≡ None
  zero_repaired is = ap (λ b. if b then None else by_place (place_of h.ssrc r.rx)) (eq-eqb h.ssrc 0 is)

  pub zero_number : h.ssrc ≡ 0 → number_here ≡ fresh_number (seen_of 0 r.seen) r.probes h.sequence_number
  zero_number is =
      ap (λ b. if b then fresh_number (seen_of h.ssrc r.seen) r.probes h.sequence_number else number_in (value_under h.ssrc r.rx)) (eq-eqb h.ssrc 0 is)
      ∙ ap (λ (j : ℕ). fresh_number (seen_of j r.seen) r.probes h.sequence_number) is

  module _ (nonzero : h.ssrc ≡ 0 → ⊥) where
    repaired_placed : (o : Option ℕ) → place_of h.ssrc r.rx ≡ o → repaired_here ≡ by_place o
    repaired_placed o is = ap (λ b. if b then None else by_place (place_of h.ssrc r.rx)) (ne_eqb h.ssrc 0 nonzero) ∙ ap by_place is

    number_placed : (o : Option StreamRx) → value_under h.ssrc r.rx ≡ o → number_here ≡ number_in o
    number_placed o is =
        ap (λ b. if b then fresh_number (seen_of h.ssrc r.seen) r.probes h.sequence_number else number_in (value_under h.ssrc r.rx)) (ne_eqb h.ssrc 0 nonzero)
        ∙ ap number_in is

    number_none : place_of h.ssrc r.rx ≡ None → number_here ≡ None
    number_none is = number_placed None (ap (option_and_then (slice_get (values_of r.rx))) is)

    module _ (threshold : ℕ) (trip : Option ℕ) (rest : List Plain) (others : AllZip (RxStands threshold trip r.seen) r.rx rest) (originals : r.known.originals ≡ originals_of rest) where
      abbrev R : Real → Plain → Type 0
      R = RxStands threshold trip r.seen

      key : (e : Real) (s : Plain) → R e s → e.0 ≡ s.0.ssrc
      key e s stands = stands.key

      module _ {e : Real} {s : Plain} {i : ℕ} (at : At R e s i r.rx rest) where
        pub main_repaired : h.ssrc ≡ s.0.ssrc → repaired_here ≡ (if is_some (primary_type_of r.state.types h.payload_type) then Some h.ssrc else None)
        main_repaired is = repaired_placed (Some i) (ap (λ (j : ℕ). place_of j r.rx) is ∙ at_place R key at)

        pub main_number : h.ssrc ≡ s.0.ssrc → number_here ≡ fresh_number (seen_of s.0.ssrc r.seen) e.1 h.sequence_number
        main_number is =
            number_placed (Some e.1) (ap (λ (j : ℕ). value_under j r.rx) is ∙ at_value R key at)
            ∙ ap (λ (j : ℕ). fresh_number (seen_of j r.seen) e.1 h.sequence_number) is

        pub rtx_repaired : IsLine s.0 → s.0.rtx ≡ Some h.ssrc → repaired_here ≡ (if is_known r.state.types h.payload_type then Some s.0.ssrc else None)
        rtx_repaired line is =
            repaired_placed None (at_repairs R key h.ssrc line is at)
            ∙ ap under (ap (value_under h.ssrc) originals ∙ at_original h.ssrc is at)
            ∙ ap (λ o. if is_known r.state.types h.payload_type then (if is_some o then Some s.0.ssrc else None) else None) (at_place R key at)

        pub rtx_number : IsLine s.0 → s.0.rtx ≡ Some h.ssrc → number_here ≡ None
        rtx_number line is = number_none (at_repairs R key h.ssrc line is at)

      pub away_repaired : AllAway h.ssrc rest → repaired_here ≡ None
      away_repaired away =
          repaired_placed None (away_place R key h.ssrc r.rx rest others away)
          ∙ ap under (ap (value_under h.ssrc) originals ∙ away_original h.ssrc rest away)
          ∙ none_known (is_known r.state.types h.payload_type)
        where
          none_known : (b : Bool) → (let none : Option ℕ = None in (if b then none else none) ≡ none)
          none_known true = refl
          none_known false = refl

      pub away_number : AllAway h.ssrc rest → number_here ≡ None
      away_number away = number_none (away_place R key h.ssrc r.rx rest others away)
