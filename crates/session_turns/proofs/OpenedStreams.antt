-- Which incoming stream an SSRC is of.
use Rattle.std.proofs.Common.{◌≡◌, ◌⊎◌, inl, inr, ℕ, zero, suc, true, false, List, [], ◌∷◌, ◌++◌, map, Option, Some, None, refl, sym, ap, ◌∙◌, subst}
use Rattle.std.specs.Prelude.{◌==◌}
use Rattle.std.specs.List.{AllZip, flat_map}
use Rattle.std.specs.Option.{option_map}
use Rattle.std.proofs.lemmas.Bool.{eqb-true, eq-eqb, false≢true, or_cases, or_parts, or_left, or_right, cases_Bool}
use Rattle.stream_core.specs.RxRecord.{RxRecord as StreamRx}
use Rattle.stream_core.specs.Tables.{place_of, value_under, change_place, each}
use Rattle.run_model.specs.Events.{Incoming}
use Rattle.run_model.specs.Listing.{IsIn}
use Rattle.run_model.specs.Receiving.{concerns}
use Rattle.run_model.specs.RxPlay.{RxRecord}
use Rattle.session_turns.specs.Mirrors.{original_in, original_with}
use Rattle.session_turns.proofs.Keyed.{place_first, place_next, value_first, value_next}
use Rattle.rtp_base.specs.Window.{is_just}

abbrev pub Real : Type 0
Real = ℕ × StreamRx

abbrev pub Plain : Type 0
Plain = Incoming × RxRecord

-- no SSRC is of both
pub record IsStrange (L M : Incoming) : Type 0 where
  pub strange : (k : ℕ) → concerns L k ≡ true → concerns M k ≡ false

-- its two SSRCs are not one
pub record IsLine (L : Incoming) : Type 0 where
  pub apart : is_just L.ssrc L.rtx ≡ false

abbrev pub AllStrangeIn : Incoming → List Plain → Type 0
AllStrangeIn L [] = Unit {0}
AllStrangeIn L (s ∷ ss) = IsStrange L s.0 × AllStrangeIn L ss

abbrev pub AreFit : List Plain → Type 0
AreFit [] = Unit {0}
AreFit (s ∷ ss) = IsLine s.0 × (AllStrangeIn s.0 ss × AreFit ss)

pub strange_back : {L M : Incoming} → IsStrange L M → IsStrange M L
strange_back {L} {M} s = record {
  strange = λ k of.
      elim (cases_Bool (concerns L k)) [
        | inl t ↦ absurd (false≢true (sym (s.strange k t) ∙ of))
        | inr t ↦ t
      ];
}

pub concerns_main : (L : Incoming) → concerns L L.ssrc ≡ true
concerns_main L = or_left (L.ssrc == L.ssrc) (is_just L.ssrc L.rtx) (eq-eqb L.ssrc L.ssrc refl)

pub concerns_rtx : (L : Incoming) (m : ℕ) → L.rtx ≡ Some m → concerns L m ≡ true
concerns_rtx L m e = or_right (m == L.ssrc) (is_just m L.rtx) (ap (is_just m) e ∙ eq-eqb m m refl)

pub just_is : (m : ℕ) (o : Option ℕ) → is_just m o ≡ true → o ≡ Some m
just_is m None e = absurd (false≢true e)
just_is m (Some x) e = ap Some (eqb-true x m e)

pub concerned : (L : Incoming) (m : ℕ) → concerns L m ≡ true → (m ≡ L.ssrc) ⊎ (L.rtx ≡ Some m)
concerned L m e =
    elim (or_cases (m == L.ssrc) (is_just m L.rtx) e) [
      | inl t ↦ inl (eqb-true m L.ssrc t)
      | inr t ↦ inr (just_is m L.rtx t)
    ]

pub not_main : (L : Incoming) (m : ℕ) → concerns L m ≡ false → m ≡ L.ssrc → ⊥
not_main L m none is = false≢true (sym (or_parts (m == L.ssrc) (is_just m L.rtx) none).0 ∙ eq-eqb m L.ssrc is)

-- an SSRC of none
abbrev pub AllAway : ℕ → List Plain → Type 0
AllAway m [] = Unit {0}
AllAway m (s ∷ ss) = (concerns s.0 m ≡ false) × AllAway m ss

-- where a stream stands among those that are strange to it
pub record Beside (R : Real → Plain → Type 0) (L : Incoming) (e : Real) (s : Plain) : Type 0 where
  pub stands : R e s
  pub strange : IsStrange L s.0

pub data At (R : Real → Plain → Type 0) (e : Real) (s : Plain) : ℕ → List Real → List Plain → Type 0 where
  first : {es : List Real} {ss : List Plain} → R e s → AllZip (Beside R s.0) es ss → At R e s zero (e ∷ es) (s ∷ ss)
  later : {d : Real} {t : Plain} {i : ℕ} {es : List Real} {ss : List Plain} → Beside R s.0 d t → At R e s i es ss → At R e s (suc i) (d ∷ es) (t ∷ ss)

pub record IsAt (R : Real → Plain → Type 0) (s : Plain) (es : List Real) (ss : List Plain) : Type 0 where
  pub place : ℕ
  pub real : Real
  pub at : At R real s place es ss
  pub line : IsLine s.0

module _ (R : Real → Plain → Type 0) where
  all_beside : (L : Incoming) (es : List Real) (ss : List Plain) → AllZip R es ss → AllStrangeIn L ss → AllZip (Beside R L) es ss
  all_beside L [] [] all strange = tt
  all_beside L [] (s ∷ ss) all strange = absurd all
  all_beside L (e ∷ es) [] all strange = absurd all
  all_beside L (e ∷ es) (s ∷ ss) all strange = (record { stands = all.0; strange = strange.0 }, all_beside L es ss all.1 strange.1)

  strange_in : (L : Incoming) (s : Plain) (ss : List Plain) → AllStrangeIn L ss → IsIn s ss → IsStrange L s.0
  strange_in L s [] all i = absurd i
  strange_in L s (t ∷ ss) all (inl is) = subst (λ (x : Plain). IsStrange L x.0) (sym is) all.0
  strange_in L s (t ∷ ss) all (inr i) = strange_in L s ss all.1 i

  pub in_at : (s : Plain) (es : List Real) (ss : List Plain) → AllZip R es ss → AreFit ss → IsIn s ss → IsAt R s es ss
  in_at s es [] all fit i = absurd i
  in_at s [] (t ∷ ss) all fit i = absurd all
  in_at s (e ∷ es) (t ∷ ss) all fit (inl is) =
      subst (λ x. IsAt R x (e ∷ es) (t ∷ ss)) (sym is) (record { place = zero; real = e; at = first all.0 (all_beside t.0 es ss all.1 fit.1.0); line = fit.0 })
  in_at s (e ∷ es) (t ∷ ss) all fit (inr i) =
      let rest = in_at s es ss all.1 fit.1.1 i in record {
        place = suc rest.place;
        real = rest.real;
        at = later (record { stands = all.0; strange = strange_back (strange_in t.0 s ss fit.1.0 i) }) rest.at;
        line = rest.line;
      }

  pub at_stands : {e : Real} {s : Plain} {i : ℕ} {es : List Real} {ss : List Plain} → At R e s i es ss → R e s
  at_stands (first here others) = here
  at_stands (later beside at) = at_stands at

  pub at_in : {e : Real} {s : Plain} {i : ℕ} {es : List Real} {ss : List Plain} → At R e s i es ss → IsIn s ss
  at_in (first here others) = inl refl
  at_in (later beside at) = inr (at_in at)

  -- all change: the one in one way, the others in another
  pub zip_changed : (Q : Real → Plain → Type 0) (f : StreamRx → StreamRx) (g : Plain → Plain) {e : Real} {s : Plain} {i : ℕ} {es : List Real} {ss : List Plain}
      → (R e s → Q (e.0, f e.1) (g s)) → ((d : Real) (t : Plain) → R d t → IsStrange s.0 t.0 → Q d (g t)) → At R e s i es ss
      → AllZip Q (change_place f es i) (map g ss)
  zip_changed Q f g {e} {s} here others (first {es} {ss} stands beside) = (here stands, go es ss beside)
    where
      go : (es : List Real) (ss : List Plain) → AllZip (Beside R s.0) es ss → AllZip Q es (map g ss)
      go [] [] all = tt
      go [] (t ∷ ss) all = absurd all
      go (d ∷ es) [] all = absurd all
      go (d ∷ es) (t ∷ ss) all = (others d t all.0.stands all.0.strange, go es ss all.1)
  zip_changed Q f g here others (later {d} {t} beside at) = (others d t beside.stands beside.strange, zip_changed Q f g here others at)

  -- each stands under its SSRC
  module _ (key : (e : Real) (s : Plain) → R e s → e.0 ≡ s.0.ssrc) where
    other_key : (m : ℕ) (e : Real) (s : Plain) → R e s → concerns s.0 m ≡ false → m ≡ e.0 → ⊥
    other_key m e s stands none is = not_main s.0 m none (is ∙ key e s stands)

    beside_key : (L : Incoming) (m : ℕ) (e : Real) (s : Plain) → Beside R L e s → concerns L m ≡ true → m ≡ e.0 → ⊥
    beside_key L m e s beside of = other_key m e s beside.stands (beside.strange.strange m of)

    pub at_place : {e : Real} {s : Plain} {i : ℕ} {es : List Real} {ss : List Plain} → At R e s i es ss → place_of s.0.ssrc es ≡ Some i
    at_place {e} {s} (first {es} here others) = place_first s.0.ssrc e es (sym (key e s here))
    at_place {e} {s} (later {d} {t} {i} {es} beside at) =
        place_next s.0.ssrc d es (beside_key s.0 s.0.ssrc d t beside (concerns_main s.0)) ∙ ap (option_map suc) (at_place at)

    pub at_value : {e : Real} {s : Plain} {i : ℕ} {es : List Real} {ss : List Plain} → At R e s i es ss → value_under s.0.ssrc es ≡ Some e.1
    at_value {e} {s} (first {es} here others) = value_first s.0.ssrc e es (sym (key e s here))
    at_value {e} {s} (later {d} {t} {i} {es} beside at) =
        value_next s.0.ssrc d es (beside_key s.0 s.0.ssrc d t beside (concerns_main s.0)) ∙ at_value at

    no_place : (L : Incoming) (m : ℕ) (es : List Real) (ss : List Plain) → AllZip (Beside R L) es ss → concerns L m ≡ true → place_of m es ≡ None
    no_place L m [] ss all of = refl
    no_place L m (e ∷ es) [] all of = absurd all
    no_place L m (e ∷ es) (s ∷ ss) all of = place_next m e es (beside_key L m e s all.0 of) ∙ ap (option_map suc) (no_place L m es ss all.1 of)

    -- under the SSRC of its repairs no stream stands
    pub at_repairs : {e : Real} {s : Plain} {i : ℕ} {es : List Real} {ss : List Plain} (m : ℕ) → IsLine s.0 → s.0.rtx ≡ Some m → At R e s i es ss → place_of m es ≡ None
    at_repairs {e} {s} m line is (first {es} {ss} here others) =
        place_next m e es (λ same. false≢true (sym line.apart ∙ ap (is_just s.0.ssrc) is ∙ eq-eqb m s.0.ssrc (same ∙ key e s here)))
        ∙ ap (option_map suc) (no_place s.0 m es ss others (concerns_rtx s.0 m is))
    at_repairs {e} {s} m line is (later {d} {t} {i} {es} beside at) =
        place_next m d es (beside_key s.0 m d t beside (concerns_rtx s.0 m is)) ∙ ap (option_map suc) (at_repairs m line is at)

    -- an SSRC of none of them
    pub away_place : (m : ℕ) (es : List Real) (ss : List Plain) → AllZip R es ss → AllAway m ss → place_of m es ≡ None
    away_place m [] ss all away = refl
    away_place m (e ∷ es) [] all away = absurd all
    away_place m (e ∷ es) (s ∷ ss) all away = place_next m e es (other_key m e s all.0 away.0) ∙ ap (option_map suc) (away_place m es ss all.1 away.1)

-- the SSRCs of repairs
abbrev pub originals_of : List Plain → List (ℕ × ℕ)
originals_of ss = flat_map original_in (map (λ s. s.0) ss)

skip_original : (ssrc m : ℕ) (o : Option ℕ) (rest : List (ℕ × ℕ)) → is_just m o ≡ false → value_under m (original_with ssrc o ++ rest) ≡ value_under m rest
skip_original ssrc m None rest none = refl
skip_original ssrc m (Some x) rest none = value_next m (x, ssrc) rest (λ is. false≢true (sym none ∙ eq-eqb x m (sym is)))

pub at_original : {R : Real → Plain → Type 0} {e : Real} {s : Plain} {i : ℕ} {es : List Real} {ss : List Plain} (m : ℕ) → s.0.rtx ≡ Some m → At R e s i es ss
    → value_under m (originals_of ss) ≡ Some s.0.ssrc
at_original {s = s} m is (first {es} {ss} here others) =
    ap (λ o. value_under m (original_with s.0.ssrc o ++ originals_of ss)) is ∙ value_first m (m, s.0.ssrc) (originals_of ss) refl
at_original {s = s} m is (later {d} {t} {i} {es} {ss} beside at) =
    skip_original t.0.ssrc m t.0.rtx (originals_of ss) (or_parts (m == t.0.ssrc) (is_just m t.0.rtx) (beside.strange.strange m (concerns_rtx s.0 m is))).1
    ∙ at_original m is at

pub away_original : (m : ℕ) (ss : List Plain) → AllAway m ss → value_under m (originals_of ss) ≡ None
away_original m [] away = refl
away_original m (s ∷ ss) away = skip_original s.0.ssrc m s.0.rtx (originals_of ss) (or_parts (m == s.0.ssrc) (is_just m s.0.rtx) away.0).1 ∙ away_original m ss away.1

-- one of them has the SSRC, or none
pub record HasOne (m : ℕ) (ss : List Plain) : Type 0 where
  pub one : Plain
  pub is_in : IsIn one ss
  pub of : concerns one.0 m ≡ true

pub find_one : (m : ℕ) (ss : List Plain) → HasOne m ss ⊎ AllAway m ss
find_one m [] = inr tt
find_one m (s ∷ ss) =
    elim (cases_Bool (concerns s.0 m)) [
      | inl t ↦ inl (record { one = s; is_in = inl refl; of = t })
      | inr t ↦ elim (find_one m ss) [
        | inl found ↦ inl (record { one = found.one; is_in = inr found.is_in; of = found.of })
        | inr away ↦ inr (t, away)
      ]
    ]

pub zip_each : (R : Real → Plain → Type 0) (h : StreamRx → StreamRx) → ((e : Real) (s : Plain) → R e s → R (e.0, h e.1) s)
    → (es : List Real) (ss : List Plain) → AllZip R es ss → AllZip R (each h es) ss
zip_each R h keeps [] [] all = tt
zip_each R h keeps [] (s ∷ ss) all = absurd all
zip_each R h keeps (e ∷ es) [] all = absurd all
zip_each R h keeps (e ∷ es) (s ∷ ss) all = (keeps e s all.0, zip_each R h keeps es ss all.1)

-- where none of them is the one, each is as it was
pub zip_away : (R Q : Real → Plain → Type 0) (g : Plain → Plain) (m : ℕ) → ((d : Real) (t : Plain) → R d t → concerns t.0 m ≡ false → Q d (g t))
    → (es : List Real) (ss : List Plain) → AllZip R es ss → AllAway m ss → AllZip Q es (map g ss)
zip_away R Q g m others [] [] all away = tt
zip_away R Q g m others [] (s ∷ ss) all away = absurd all
zip_away R Q g m others (e ∷ es) [] all away = absurd all
zip_away R Q g m others (e ∷ es) (s ∷ ss) all away = (others e s all.0 away.0, zip_away R Q g m others es ss all.1 away.1)
