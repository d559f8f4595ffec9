-- A run whose steps are those of a slice.
use Rattle.std.proofs.Common.{◌≡◌, inl, inr, List, [], ◌∷◌, ◌++◌, length, map, Some, None, refl, sym, ap, ◌∙◌, subst, append_assoc, length-append, arith}
use Rattle.std.specs.Prelude.{slice_get}
use Rattle.std.specs.Borrow.{Bor}
use Rattle.std.specs.Iterator.{Yields}
use Rattle.std.specs.Slice.Iter.{iter_rest, iter_steps}
use Rattle.std.specs.declared.slice.Iter.{Iter}
use Rattle.std.proofs.lemmas.List.{append-nil, nil_from_length}
use Rattle.std.proofs.Math.Seq.{take-append_seam}
use Rattle.srtp_core.specs.Cipher.{CipherMeaning}
use Rattle.media_model.specs.declared.entry.Side.TheVariants.{A, B}
use Rattle.media_model.specs.declared.entry.Entry.{Entry}
use Rattle.media_model.specs.declared.setup.Setup.{Setup}
use Rattle.media_model.specs.declared.step.Step.{Step}
use Rattle.run_model.specs.Whole.{new_session}
use Rattle.media_laws.specs.Config.{config_of}
use Rattle.media_laws.specs.Keys.{sealing_of}
use Rattle.media_laws.specs.Opening.{Sealing}
use Rattle.media_laws.specs.Play.{Played, Plays, begins}
use Rattle.setup_rules.specs.SetupRules.{setup_fault}
use Rattle.media_play.specs.declared.fault.RunError.{RunError}
use Rattle.media_play.specs.declared.fault.RunError.TheVariants as error
use Rattle.media_play.specs.Running.{HasCause, IsSetupCause, Gave, PlaysGiven, EndsBehind, EndsAmong}

-- what the iterator of a slice gave stands in front of what it has left
gave_yields : (old new : Iter Step) (given : List (Bor Step)) → Yields iter_steps old given new → iter_rest old ≡ map (λ s. s.now) given ++ iter_rest new
gave_yields old new [] e = ap iter_rest e
gave_yields old new (x ∷ xs) y = y.1 ∙ ap (λ (steps : List Step). x.now ∷ steps) (gave_yields y.0 new xs y.2)

gave_front : (old new : Iter Step) (steps : List Step) → Gave iter_steps old steps new → iter_rest old ≡ steps ++ iter_rest new
gave_front old new steps g = gave_yields old new g.0 g.1 ∙ ap (λ (l : List Step). l ++ iter_rest new) g.2

pub played_whole : (seal : Sealing) (setup : Setup) (old new : Iter Step) (entries : List Entry)
    → PlaysGiven seal setup iter_steps old new entries → Played seal setup (iter_rest old) entries
played_whole seal setup old new entries p =
    let all : iter_rest old ≡ p.0 = gave_front old p.1 p.0 p.2 ∙ ap (λ (l : List Step). p.0 ++ l) (nil_from_length (iter_rest p.1) p.3.0) ∙ append-nil p.0 in
    subst (λ (steps : List Step). Played seal setup steps entries) (sym all) p.4

at_seam : (before : List Step) (step : Step) (rest : List Step) → slice_get (before ++ step ∷ rest) (length before) ≡ Some step
at_seam [] step rest = refl
at_seam (x ∷ xs) step rest = at_seam xs step rest

module _ (cipher : CipherMeaning) (setup : Setup) where
  -- a run that did not begin
  none_begins : (steps : List Step) (entries : List Entry) (cause : RunError) → entries ≡ [] → IsSetupCause setup cause → HasCause cipher setup steps entries cause
  none_begins steps entries (error.Setup fault) none h = (h, none)
  none_begins steps entries (error.Step number fault) none h = absurd h
  none_begins steps entries (error.KeyExhausted side counter) none h = absurd h
  none_begins steps entries error.Memory none h =
      let seal = sealing_of cipher setup in
      let C = config_of seal setup in
      (0, omega arith, record { a = new_session C A; b = new_session C B; plays = subst (Plays seal setup (new_session C A) (new_session C B) []) (sym none) begins })

  -- a run that ended at the step behind these
  ended_behind : (before : List Step) (step : Step) (rest : List Step) (entries : List Entry) (cause : RunError) → setup_fault setup ≡ None
      → EndsBehind cipher setup before step entries cause → HasCause cipher setup (before ++ step ∷ rest) entries cause
  ended_behind before step rest entries (error.Setup fault) fine h = absurd h
  ended_behind before step rest entries (error.Step number fault) fine h = (
    fine,
    (
      length before,
      step,
      h.0,
      at_seam before step rest,
      subst (λ (steps : List Step). Played (sealing_of cipher setup) setup steps entries) (sym (take-append_seam before (step ∷ rest))) h.1,
      h.2,
    ),
  )
  ended_behind before step rest entries (error.KeyExhausted side counter) fine h = (
    fine,
    record {
      before = length before;
      step = step;
      stands = at_seam before step rest;
      stops = record {
        past = h.past;
        played = subst (λ (steps : List Step). Played (sealing_of cipher setup) setup steps h.past) (sym (take-append_seam before (step ∷ rest))) h.played;
        valid = h.valid;
        told = h.told;
        exhausts = h.exhausts;
        entries_are = h.entries_are;
      };
    },
  )
  ended_behind before step rest entries error.Memory fine h = (
    length before,
    omega (arith, length-append before (step ∷ rest)),
    subst (λ (steps : List Step). Played (sealing_of cipher setup) setup steps entries) (sym (take-append_seam before (step ∷ rest))) h,
  )

  pub ended_whole : (old new : Iter Step) (entries : List Entry) (cause : RunError)
      → EndsAmong cipher setup iter_steps old new entries cause → HasCause cipher setup (iter_rest old) entries cause
  ended_whole old new entries cause (inl h) = none_begins (iter_rest old) entries cause h.2 h.1
  ended_whole old new entries cause (inr h) =
      let before = h.1.0 in
      let step = h.1.1 in
      let all : iter_rest old ≡ before ++ step ∷ iter_rest new = gave_front old new (before ++ step ∷ []) h.1.2 ∙ append_assoc before (step ∷ []) (iter_rest new) in
      subst (λ (steps : List Step). HasCause cipher setup steps entries cause) (sym all) (ended_behind before step (iter_rest new) entries cause h.0 h.1.3)
