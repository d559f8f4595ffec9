-- What the line of a call says is how it is spelled, and the other way round.
use Rattle.std.proofs.Common.{◌≡◌, ℕ, ◌≤◌, ◌<◌, lit≤, Bool, true, false, cond, List, [], ◌∷◌, Option, Some, None, refl, sym, ap, ◌∙◌, subst, arith}
use Rattle.std.specs.Prelude.{codes}
use Rattle.std.specs.Fmt.{decimal}
use Rattle.std.specs.List.{AllByRecursion}
use Rattle.std.specs.Str.{bytes_eq}
use Rattle.media_script.specs.Grammar.{and_then, done, look_up, no_other}
use Rattle.media_script.specs.Laws.{WordsAreSpelled}
use Rattle.media_script.specs.Words.{◌>>=◌, narrow_of}
use Rattle.pace_core.specs.declared.run.PaceCall.{PaceCall}
use Rattle.pace_core.specs.declared.run.PaceCall.TheVariants.{Pacing, Padding, Timeout, Poll, Send}
use Rattle.pace_core.specs.declared.run.PaceQueue.{PaceQueue}
use Rattle.pace_script.specs.Grammar.{queues_of, pacing_call, padding_call, timeout_call, poll_call, send_call, call_kinds, call_of, rate_kinds, rate_line_of}
use Rattle.pace_script.specs.Spelling.{IsCall, IsRateLine}
use Rattle.pace_script.specs.Words.{rate_of, moment_of}
use Rattle.pace_script.proofs.Basics.{bind_some, equal, then_some, done_some}
use Rattle.pace_script.proofs.WordLaws.{rate_spelled, rate_again, moment_spelled, moment_again, queues_spelled, queues_again}

module _ {L : Type 0} (Is : List (List ℕ) → L → Type 0) where
  -- what the words behind this first word say is spelled so
  abbrev Tells : List ℕ × (List (List ℕ) → Option L) → Type 0
  Tells k = (words : List (List ℕ)) (said : L) → k.1 words ≡ Some said → Is (k.0 ∷ words) said

  look_up_tells : (kinds : List (List ℕ × (List (List ℕ) → Option L))) → AllByRecursion Tells kinds
      → (words : List (List ℕ)) (said : L) → look_up no_other kinds words ≡ Some said → Is words said
  look_up_tells [] all [] said e = absurd cc
  look_up_tells [] all (kind ∷ words) said e = absurd cc
  look_up_tells (k ∷ kinds) all [] said e = absurd cc
  look_up_tells (k ∷ kinds) all (kind ∷ words) said e = go (look_up_tells kinds all.1 (kind ∷ words) said) (bytes_eq kind k.0) refl e where
    go : (look_up no_other kinds (kind ∷ words) ≡ Some said → Is (kind ∷ words) said) → (b : Bool) → bytes_eq kind k.0 ≡ b
        → cond b (k.1 words) (look_up no_other kinds (kind ∷ words)) ≡ Some said → Is (kind ∷ words) said
    go next true p e' = subst (λ (t : List ℕ). Is (t ∷ words) said) (sym (equal kind k.0 p)) (all.0 words said e')
    go next false p e' = next e'

module _ (w : WordsAreSpelled) where
  pacing_tells : Tells IsCall (codes "pacing", pacing_call)
  pacing_tells words said e =
      let t = then_some rate_of (λ rate. done (Pacing rate)) words said e in
      let d = done_some (Pacing t.value) said t.rest t.goes in
      subst (IsCall (codes "pacing" ∷ words)) d.1
      (t.word, rate_spelled w t.word t.value t.reads, ap (λ (ws : List (List ℕ)). codes "pacing" ∷ ws) (t.split ∙ ap (λ (ws : List (List ℕ)). t.word ∷ ws) d.0))

  padding_tells : Tells IsCall (codes "padding", padding_call)
  padding_tells words said e =
      let t = then_some rate_of (λ rate. done (Padding rate)) words said e in
      let d = done_some (Padding t.value) said t.rest t.goes in
      subst (IsCall (codes "padding" ∷ words)) d.1
      (t.word, rate_spelled w t.word t.value t.reads, ap (λ (ws : List (List ℕ)). codes "padding" ∷ ws) (t.split ∙ ap (λ (ws : List (List ℕ)). t.word ∷ ws) d.0))

  timeout_tells : Tells IsCall (codes "timeout", timeout_call)
  timeout_tells words said e =
      let t = then_some moment_of (λ now rest. queues_of rest >>= λ queues. Some (Timeout now queues)) words said e in
      let q = bind_some (queues_of t.rest) (λ queues. Some (Timeout t.value queues)) said t.goes in
      let is : Timeout t.value q.0 ≡ said = cc in
      subst (IsCall (codes "timeout" ∷ words)) is (
        t.word,
        t.rest,
        moment_spelled w t.word t.value t.reads,
        queues_spelled w t.rest q.0 q.1,
        ap (λ (ws : List (List ℕ)). codes "timeout" ∷ ws) t.split,
      )

  poll_tells : Tells IsCall (codes "poll", poll_call)
  poll_tells words said e =
      let d = done_some Poll said words e in
      subst (IsCall (codes "poll" ∷ words)) d.1 (ap (λ (ws : List (List ℕ)). codes "poll" ∷ ws) d.0)

  send_tells : Tells IsCall (codes "send", send_call)
  send_tells words said e =
      let t = then_some moment_of (λ now. and_then (narrow_of 2001) (λ size. done (Send now size))) words said e in
      let s = then_some (narrow_of 2001) (λ size. done (Send t.value size)) t.rest said t.goes in
      let d = done_some (Send t.value s.value) said s.rest s.goes in
      let size = w.narrow_spelled 2001 s.word s.value s.reads in
      let short : s.value ≤ 2000 = omega (arith, size.1) in
      let rest : t.rest ≡ decimal s.value ∷ [] = s.split ∙ (λ i. size.0 i ∷ d.0 i) in
      subst (IsCall (codes "send" ∷ words)) d.1 (
        t.word,
        moment_spelled w t.word t.value t.reads,
        short,
        ap (λ (ws : List (List ℕ)). codes "send" ∷ ws) (t.split ∙ ap (λ (ws : List (List ℕ)). t.word ∷ ws) rest),
      )

  -- what a call's line says is how it is spelled
  pub call_spelled : (words : List (List ℕ)) (said : PaceCall) → call_of words ≡ Some said → IsCall words said
  unfolding call_of
  call_spelled = look_up_tells IsCall call_kinds (pacing_tells, (padding_tells, (timeout_tells, (poll_tells, (send_tells, tt)))))

  -- and what is spelled so is read
  pub call_again : (words : List (List ℕ)) (said : PaceCall) → IsCall words said → call_of words ≡ Some said
  unfolding call_of
  call_again words (Pacing rate) is = ap call_of is.2 ∙ rw (rate_again w is.0 rate is.1) refl
  call_again words (Padding rate) is = ap call_of is.2 ∙ rw (rate_again w is.0 rate is.1) refl
  call_again words (Timeout now queues) is =
      ap call_of is.4 ∙ rw (moment_again w is.0 now is.2) (ap (λ (o : Option (List PaceQueue)). o >>= λ qs. Some (Timeout now qs)) (queues_again w is.1 queues is.3))
  call_again words Poll is = ap call_of is ∙ refl
  call_again words (Send now size) is =
      ap call_of is.3 ∙ rw (moment_again w is.0 now is.1, w.narrow_again 2001 size (lit≤ tt) (omega (arith, is.2))) refl

  rate_tells : Tells IsRateLine (codes "rate", and_then rate_of (λ rate. done rate))
  rate_tells words said e =
      let t = then_some rate_of (λ rate. done rate) words said e in
      let d = done_some t.value said t.rest t.goes in
      subst (IsRateLine (codes "rate" ∷ words)) d.1
      (t.word, rate_spelled w t.word t.value t.reads, ap (λ (ws : List (List ℕ)). codes "rate" ∷ ws) (t.split ∙ ap (λ (ws : List (List ℕ)). t.word ∷ ws) d.0))

  pub rate_line_spelled : (words : List (List ℕ)) (said : ℕ) → rate_line_of words ≡ Some said → IsRateLine words said
  unfolding rate_line_of
  rate_line_spelled = look_up_tells IsRateLine rate_kinds (rate_tells, tt)

  pub rate_line_again : (words : List (List ℕ)) (said : ℕ) → IsRateLine words said → rate_line_of words ≡ Some said
  unfolding rate_line_of
  rate_line_again words said is = ap rate_line_of is.2 ∙ rw (rate_again w is.0 said is.1) refl
