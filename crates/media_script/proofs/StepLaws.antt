-- What the line of a step says is how it is spelled, and the other way round.
use Rattle.std.proofs.Common.{◌≡◌, ℕ, ◌^◌, ◌≤◌, lit≤, inl, inr, false, List, [], ◌∷◌, length, Some, refl, sym, ap, ◌∙◌, subst, arith}
use Rattle.std.specs.Prelude.{codes}
use Rattle.std.specs.Fmt.{decimal}
use Rattle.std.proofs.lemmas.Bool.Decides.{nat_tests}
use Rattle.media_model.specs.declared.entry.Write.{Write}
use Rattle.media_model.specs.declared.step.Act.{Act}
use Rattle.media_model.specs.declared.step.Act.TheVariants as act
use Rattle.media_model.specs.declared.step.Step.{Step}
use Rattle.media_model.specs.Steps.{step_at}
use Rattle.media_script.specs.Grammar.{sources_in, write_act, tick_act, deliver_act, foreign_act, app_act, ask_act, remb_act, no_other, act_kinds, act_of, step_of, is_long, in_few}
use Rattle.media_script.specs.Spelling.{IsHex, AreSources, Fits, IsAct, IsStep}
use Rattle.media_script.specs.Names.{flag_text, keyframe_text, kind_text, side_text}
use Rattle.media_script.specs.Words.{◌>>=◌, kinds, keyframes, side_of, time_of}
use Rattle.media_script.proofs.WordLaws.{bind_some, number_spelled, number_again, narrow_spelled, narrow_again, time_spelled, time_again, side_spelled, side_again, kind_again, keyframe_again, flag_spelled, flag_again, hex_spelled, hex_again, app_data_spelled, app_data_again, sources_spelled, sources_again, one_spelled}
use Rattle.media_script.proofs.KindLaws.{Tells, done_tells, then_tells, rest_tells, look_up_tells, none_tells}

-- the words behind this first word
abbrev Behind : List ℕ → List (List ℕ) → Act → Type 0
Behind text words did = IsAct (text ∷ words) did

-- the sources behind a payload
sources_are : (words : List (List ℕ)) (csrc : List ℕ) → sources_in words ≡ Some csrc → AreSources words csrc
sources_are [] csrc e = inl (refl, cc)
sources_are (word ∷ []) csrc e = inr (word, refl, sources_spelled word csrc e)
sources_are (word ∷ other ∷ words) csrc e = absurd cc

write_tells : Tells write_act (Behind (codes "write"))
unfolding write_act
write_tells =
    then_tells (narrow_spelled (2 ^ 32)) (λ w1 ssrc n1. then_tells number_spelled (λ w2 number n2. then_tells (narrow_spelled (2 ^ 8)) (λ w3 pt n3.
    then_tells (narrow_spelled (2 ^ 32)) (λ w4 rtp_time n4. then_tells flag_spelled (λ w5 marker n5. then_tells flag_spelled (λ w6 nackable n6.
    then_tells hex_spelled (λ h payload is. rest_tells _ (λ c csrc e. (
      h,
      c,
      is,
      sources_are c csrc e,
      record { ssrc = n1.1; number = n2.1; pt = n3.1; rtp_time = n4.1 },
      λ i. codes "write" ∷ n1.0 i ∷ n2.0 i ∷ n3.0 i ∷ n4.0 i ∷ n5 i ∷ n6 i ∷ h ∷ c,
    )))))))))

tick_tells : Tells tick_act (Behind (codes "tick"))
tick_tells = done_tells refl

deliver_tells : Tells deliver_act (Behind (codes "deliver"))
deliver_tells = then_tells number_spelled (λ w k is. done_tells (is.1, λ i. codes "deliver" ∷ is.0 i ∷ []))

foreign_tells : Tells foreign_act (Behind (codes "foreign"))
foreign_tells =
    then_tells (one_spelled kind_text kinds) (λ w kind of. then_tells hex_spelled (λ h bytes is.
    done_tells (h, is, λ i. codes "foreign" ∷ of i ∷ h ∷ [])))

app_tells : Tells app_act (Behind (codes "app"))
app_tells =
    then_tells (narrow_spelled (2 ^ 32)) (λ w1 sender n1. then_tells (narrow_spelled (2 ^ 32)) (λ w2 media n2. then_tells app_data_spelled (λ h payload is.
    done_tells (h, n1.1, n2.1, is.0, is.1, λ i. codes "app" ∷ n1.0 i ∷ n2.0 i ∷ h ∷ []))))

ask_tells : Tells ask_act (Behind (codes "ask"))
ask_tells =
    then_tells (narrow_spelled (2 ^ 32)) (λ w1 ssrc n1. then_tells (one_spelled keyframe_text keyframes) (λ w2 kind of.
    done_tells (n1.1, λ i. codes "ask" ∷ n1.0 i ∷ of i ∷ [])))

remb_tells : Tells remb_act (Behind (codes "remb"))
remb_tells =
    then_tells (narrow_spelled (2 ^ 32)) (λ w1 ssrc n1. then_tells number_spelled (λ w2 n is.
    done_tells (n, n1.1, is.1, refl, λ i. codes "remb" ∷ n1.0 i ∷ is.0 i ∷ [])))

act_spelled : (words : List (List ℕ)) (did : Act) → act_of words ≡ Some did → IsAct words did
unfolding act_of
act_spelled =
    look_up_tells IsAct no_other act_kinds
    (write_tells, (tick_tells, (deliver_tells, (foreign_tells, (app_tells, (ask_tells, (remb_tells, tt)))))))
    (none_tells IsAct)

-- what a line says is how it is spelled
pub step_spelled : (words : List (List ℕ)) (did : Step) → step_of words ≡ Some did → IsStep words did
unfolding step_of
step_spelled [] did e = absurd cc
step_spelled (kind ∷ []) did e = absurd cc
step_spelled (kind ∷ by ∷ []) did e = absurd cc
step_spelled (kind ∷ by ∷ at ∷ rest) did e =
    let s = bind_some (side_of by) (λ side. time_of at >>= λ time. act_of (kind ∷ rest) >>= λ does. Some (step_at side time does)) did e in
    let t = bind_some (time_of at) (λ time. act_of (kind ∷ rest) >>= λ does. Some (step_at s.0 time does)) did s.2 in
    let a = bind_some (act_of (kind ∷ rest)) (λ does. Some (step_at s.0 t.0 does)) did t.2 in
    let same : step_at s.0 t.0 a.0 ≡ did = cc in
    subst (IsStep (kind ∷ by ∷ at ∷ rest)) same (record {
      kind = kind;
      at = at;
      rest = rest;
      time = time_spelled at t.0 t.1;
      does = act_spelled (kind ∷ rest) a.0 a.1;
      spelled = λ i. kind ∷ side_spelled by s.0 s.1 i ∷ at ∷ rest;
    })

-- the words of a write, with these behind the payload
abbrev write_words : Write → List ℕ → List (List ℕ) → List (List ℕ)
write_words w h c =
    codes "write" ∷ decimal w.ssrc ∷ decimal w.number ∷ decimal w.pt ∷ decimal w.rtp_time ∷ flag_text w.marker ∷ flag_text w.nackable ∷ h ∷ c

sources_in_again : (c : List (List ℕ)) (csrc : List ℕ) → AreSources c csrc → sources_in c ≡ Some csrc
sources_in_again c csrc (inl none) = ap sources_in none.0 ∙ ap (λ (l : List ℕ). Some l) (sym none.1)
sources_in_again c csrc (inr one) = ap sources_in one.1 ∙ sources_again one.0 csrc one.2

few_sources : (c : List (List ℕ)) (csrc : List ℕ) → AreSources c csrc → length c ≤ 1
few_sources c csrc (inl none) = omega (arith, ap length none.0)
few_sources c csrc (inr one) = omega (arith, ap length one.1)

write_again : (w : Write) (h : List ℕ) (c : List (List ℕ)) → IsHex h w.payload → AreSources c w.csrc → Fits w → act_of (write_words w h c) ≡ Some (act.Write w)
unfolding act_of write_act
write_again w h c payload sources fits =
    rw (
      narrow_again (2 ^ 32) w.ssrc (lit≤ tt) fits.ssrc,
      number_again w.number fits.number,
      narrow_again (2 ^ 8) w.pt (lit≤ tt) fits.pt,
      narrow_again (2 ^ 32) w.rtp_time (lit≤ tt) fits.rtp_time,
      flag_again w.marker,
      flag_again w.nackable,
      hex_again h w.payload payload,
      sources_in_again c w.csrc sources,
    ) refl

act_again : (words : List (List ℕ)) (did : Act) → IsAct words did → act_of words ≡ Some did
unfolding act_of
act_again words act.Tick is = ap act_of is
act_again words (act.Deliver k) is = ap act_of is.1 ∙ rw (number_again k is.0) refl
act_again words (act.Write w) is = ap act_of is.5 ∙ write_again w is.0 is.1 is.2 is.3 is.4
act_again words (act.Foreign kind bytes) is = ap act_of is.2 ∙ rw (kind_again kind, hex_again is.0 bytes is.1) refl
act_again words (act.Feedback sender media payload) is =
    ap act_of is.5
    ∙ rw (
      narrow_again (2 ^ 32) sender (lit≤ tt) is.1,
      narrow_again (2 ^ 32) media (lit≤ tt) is.2,
      app_data_again is.0 payload is.3 is.4,
    ) refl
act_again words (act.Ask ssrc kind) is = ap act_of is.1 ∙ rw (narrow_again (2 ^ 32) ssrc (lit≤ tt) is.0, keyframe_again kind) refl
act_again words (act.Rate ssrc rate) is =
    ap act_of is.4
    ∙ rw (narrow_again (2 ^ 32) ssrc (lit≤ tt) is.1, number_again is.0 is.2) (ap (λ (n : ℕ). Some (act.Rate ssrc n)) (sym is.3))

few_words : (words : List (List ℕ)) (did : Act) → IsAct words did → length words ≤ 9
few_words words act.Tick is = omega (arith, ap length is)
few_words words (act.Deliver k) is = omega (arith, ap length is.1)
few_words words (act.Write w) is = omega (arith, ap length is.5, few_sources is.1 w.csrc is.3)
few_words words (act.Foreign kind bytes) is = omega (arith, ap length is.2)
few_words words (act.Feedback sender media payload) is = omega (arith, ap length is.5)
few_words words (act.Ask ssrc kind) is = omega (arith, ap length is.1)
few_words words (act.Rate ssrc rate) is = omega (arith, ap length is.4)

not_long : (kind side at : List ℕ) (rest : List (List ℕ)) (did : Act) → IsAct (kind ∷ rest) did → is_long (kind ∷ side ∷ at ∷ rest) ≡ false
not_long kind side at rest did is = grind (arith, nat_tests, few_words (kind ∷ rest) did is)

-- and what is spelled so is read
pub step_again : (words : List (List ℕ)) (did : Step) → IsStep words did → in_few step_of words ≡ Some did
unfolding step_of
step_again words did is =
    ap (in_few step_of) is.spelled
    ∙ rw (
      not_long is.kind (side_text did.side) is.at is.rest did.act is.does,
      side_again did.side,
      time_again is.at did.time is.time,
      act_again (is.kind ∷ is.rest) did.act is.does,
    ) refl
