-- Reading the lines that are not passed over.
use Rattle.std.proofs.Common.{◌≡◌, ℕ, Bool, true, false, cond, List, [], ◌∷◌, ◌++◌, Option, Some, None, refl, sym, ap, ◌∙◌, append_assoc}
use Rattle.std.specs.Prelude.{codes}
use Rattle.std.specs.Str.{bytes_eq}
use Rattle.std.proofs.lemmas.List.{append-nil}
use Rattle.media_script.specs.declared.reader.Reader.{Reader}
use Rattle.media_script.specs.declared.reader.Reader.TheVariants.{InSetup, InSteps, Ended}
use Rattle.media_script.specs.declared.said.Said.{Said}
use Rattle.media_script.specs.declared.setup_line.SetupLine.{SetupLine}
use Rattle.media_model.specs.declared.step.Step.{Step}
use Rattle.media_script.specs.Grammar.{read_on, is_long, in_few, step_of, setup_line_of, number_line_of, named_line_of, side_line_of}
use Rattle.media_script.specs.Order.{with_line}
use Rattle.media_script.specs.Spelling.{words_of, AreLines, IsSetupLine, IsStep}
use Rattle.media_script.specs.Words.{◌>>=◌}
use Rattle.media_script.proofs.WordLaws.{equal, bind_some}
use Rattle.media_script.proofs.LineLaws.{setup_line_spelled, setup_line_again}
use Rattle.media_script.proofs.StepLaws.{step_spelled, step_again}
use Rattle.media_script.proofs.OrderLaws.{takes}

-- a line of few words
few : {L : Type 0} (read : List (List ℕ) → Option L) (words : List (List ℕ)) (x : L) → in_few read words ≡ Some x → read words ≡ Some x
few read words x e = go (is_long words) e where
  go : (b : Bool) → cond b None (read words) ≡ Some x → read words ≡ Some x
  go true e' = absurd cc
  go false e' = e'

abbrev pub kept_on : Reader → List (List ℕ) → Option Reader
kept_on reader [] = Some reader
kept_on reader (line ∷ lines) = read_on reader line >>= λ more. kept_on more lines

-- a step is no end
no_step : in_few step_of (words_of (codes "end")) ≡ None
unfolding step_of
no_step = refl

no_end : (line : List ℕ) (s : Step) → in_few step_of (words_of line) ≡ Some s → bytes_eq line (codes "end") ≡ false
no_end line s e = other (bytes_eq line (codes "end")) refl where
  other : (b : Bool) → bytes_eq line (codes "end") ≡ b → b ≡ false
  other false is = refl
  other true is = let none = ap (λ l. in_few step_of (words_of l)) (equal line (codes "end") is) ∙ no_step in absurd (cc (none, e))

-- steps and the end, that are spelled so, are read
pub steps_again : (lines : List (List ℕ)) (said : Said) (before steps : List Step) → AreLines IsStep lines steps
    → kept_on (InSteps said before) (lines ++ codes "end" ∷ []) ≡ Some (Ended said (before ++ steps))
unfolding read_on
steps_again [] said before [] h = ap (λ (ss : List Step). Some (Ended said ss)) (sym (append-nil before))
steps_again [] said before (s ∷ steps) h = absurd h
steps_again (line ∷ lines) said before [] h = absurd h
steps_again (line ∷ lines) said before (s ∷ steps) h =
    let read = step_again (words_of line) s h.0 in
    rw (no_end line s read, read) (steps_again lines said (before ++ s ∷ []) steps h.1 ∙ ap (λ (ss : List Step). Some (Ended said ss)) (append_assoc before (s ∷ []) steps))

pub record ReadsSteps (lines : List (List ℕ)) (said said' : Said) (before all : List Step) : Type 0 where
  pub step_lines : List (List ℕ)
  pub steps : List Step
  pub split : lines ≡ step_lines ++ codes "end" ∷ []
  pub are : AreLines IsStep step_lines steps
  pub same : said ≡ said'
  pub whole : before ++ steps ≡ all

-- nothing is read behind the end
at_end : (lines : List (List ℕ)) (said said' : Said) (steps steps' : List Step) → kept_on (Ended said steps) lines ≡ Some (Ended said' steps')
    → (lines ≡ []) × (said ≡ said') × (steps ≡ steps')
unfolding read_on
at_end [] said said' steps steps' e = (refl, cc, cc)
at_end (line ∷ lines) said said' steps steps' e = absurd cc

-- steps and the end, that are read, are spelled so
pub steps_spelled : (lines : List (List ℕ)) (said said' : Said) (before all : List Step) → kept_on (InSteps said before) lines ≡ Some (Ended said' all)
    → ReadsSteps lines said said' before all
unfolding read_on
steps_spelled [] said said' before all e = absurd cc
steps_spelled (line ∷ lines) said said' before all e = go (λ ss. steps_spelled lines said said' ss all) (bytes_eq line (codes "end")) refl (in_few step_of (words_of line)) refl e where
  go : ((ss : List Step) → kept_on (InSteps said ss) lines ≡ Some (Ended said' all) → ReadsSteps lines said said' ss all)
      → (b : Bool) → bytes_eq line (codes "end") ≡ b → (o : Option Step) → in_few step_of (words_of line) ≡ o
      → (cond b (Some (Ended said before)) (o >>= λ s. Some (InSteps said (before ++ s ∷ []))) >>= λ more. kept_on more lines) ≡ Some (Ended said' all)
      → ReadsSteps (line ∷ lines) said said' before all
  go next true p o q e' =
      let r = at_end lines said said' before all e' in
      record { step_lines = []; steps = []; split = λ i. equal line (codes "end") p i ∷ r.0 i; are = tt; same = r.1; whole = append-nil before ∙ r.2 }
  go next false p None q e' = absurd cc
  go next false p (Some s) q e' =
      let r = next (before ++ s ∷ []) e' in
      record {
        step_lines = line ∷ r.step_lines;
        steps = s ∷ r.steps;
        split = ap (λ ls. line ∷ ls) r.split;
        are = (step_spelled (words_of line) s (few step_of (words_of line) s q), r.are);
        same = r.same;
        whole = sym (append_assoc before (s ∷ []) r.steps) ∙ r.whole;
      }

-- ---- setup lines

-- a setup line is no begin
no_begin : (line : List ℕ) (l : SetupLine) → in_few setup_line_of (words_of line) ≡ Some l → bytes_eq line (codes "begin") ≡ false
unfolding setup_line_of number_line_of named_line_of side_line_of
no_begin line l e = other (bytes_eq line (codes "begin")) refl where
  other : (b : Bool) → bytes_eq line (codes "begin") ≡ b → b ≡ false
  other false is = refl
  other true is = let none = ap (λ l. in_few setup_line_of (words_of l)) (equal line (codes "begin") is) in absurd (cc (none, e))

-- setup lines and begin, that are spelled so, are read
pub lines_again : (lines : List (List ℕ)) (more : List SetupLine) (said all : Said) (rest : List (List ℕ)) → AreLines IsSetupLine lines more → takes said more ≡ Some all
    → kept_on (InSetup said) (lines ++ codes "begin" ∷ rest) ≡ kept_on (InSteps all []) rest
unfolding read_on
lines_again [] [] said all rest are e = let same : said ≡ all = cc in ap (λ (d : Said). kept_on (InSteps d []) rest) same
lines_again [] (l ∷ more) said all rest are e = absurd are
lines_again (line ∷ lines) [] said all rest are e = absurd are
lines_again (line ∷ lines) (l ∷ more) said all rest are e =
    let read = setup_line_again (words_of line) l are.0 in
    let a = bind_some (with_line said l) (λ s. takes s more) all e in
    rw (no_begin line l read, read, a.1) (lines_again lines more a.0 all rest are.1 a.2)

pub record ReadsLines (lines : List (List ℕ)) (said last : Said) (steps : List Step) : Type 0 where
  pub setup_lines : List (List ℕ)
  pub more : List SetupLine
  pub rest : List (List ℕ)
  pub all : Said
  pub split : lines ≡ setup_lines ++ codes "begin" ∷ rest
  pub are : AreLines IsSetupLine setup_lines more
  pub taken : takes said more ≡ Some all
  pub after : kept_on (InSteps all []) rest ≡ Some (Ended last steps)

-- setup lines and begin, that are read, are spelled so
pub lines_spelled : (lines : List (List ℕ)) (said last : Said) (steps : List Step) → kept_on (InSetup said) lines ≡ Some (Ended last steps) → ReadsLines lines said last steps
unfolding read_on
lines_spelled [] said last steps e = absurd cc
lines_spelled (line ∷ lines) said last steps e =
    go (λ d. lines_spelled lines d last steps) (bytes_eq line (codes "begin")) refl (in_few setup_line_of (words_of line)) refl e where
      go : ((d : Said) → kept_on (InSetup d) lines ≡ Some (Ended last steps) → ReadsLines lines d last steps)
          → (b : Bool) → bytes_eq line (codes "begin") ≡ b → (o : Option SetupLine) → in_few setup_line_of (words_of line) ≡ o
          → (cond b (Some (InSteps said [])) (o >>= λ l. with_line said l >>= λ s. Some (InSetup s)) >>= λ r. kept_on r lines) ≡ Some (Ended last steps)
          → ReadsLines (line ∷ lines) said last steps
      go next true p o q e' =
          record { setup_lines = []; more = []; rest = lines; all = said; split = ap (λ l. l ∷ lines) (equal line (codes "begin") p); are = tt; taken = refl; after = e' }
      go next false p None q e' = absurd cc
      go next false p (Some l) q e' = one (with_line said l) refl e' where
        one : (m : Option Said) → with_line said l ≡ m → ((m >>= λ s. Some (InSetup s)) >>= λ r. kept_on r lines) ≡ Some (Ended last steps) → ReadsLines (line ∷ lines) said last steps
        one None w e'' = absurd cc
        one (Some s) w e'' =
            let r = next s e'' in
            record {
              setup_lines = line ∷ r.setup_lines;
              more = l ∷ r.more;
              rest = r.rest;
              all = r.all;
              split = ap (λ ls. line ∷ ls) r.split;
              are = (setup_line_spelled (words_of line) l (few setup_line_of (words_of line) l q), r.are);
              taken = ap (λ (o : Option Said). o >>= λ x. takes x r.more) w ∙ r.taken;
              after = r.after;
            }
