-- What is read of a script is spelled so, and what is spelled so is read.
use Rattle.std.proofs.Common.{◌≡◌, ◌≢◌, ℕ, ◌+◌, Bool, true, false, cond, not, eqb, List, [], ◌∷◌, ◌++◌, length, Option, Some, None, Result, Ok, Err, refl, sym, ap, ◌∙◌, subst}
use Rattle.std.specs.Prelude.{filter, Vec, IfOk, codes}
use Rattle.std.specs.declared.alloc.Global.{Global}
use Rattle.std.specs.List.{AllByRecursion}
use Rattle.std.specs.Str.{bytes_eq}
use Rattle.std.proofs.Math.Dec.{eqb-suc-zero}
use Rattle.media_script.specs.declared.error.ScriptError.{ScriptError}
use Rattle.media_script.specs.declared.reader.Reader.{Reader}
use Rattle.media_script.specs.declared.reader.Reader.TheVariants.{Head, InSetup, InSteps, Ended}
use Rattle.media_model.specs.declared.setup.Setup.{Setup}
use Rattle.media_script.specs.declared.said.Said.{Said}
use Rattle.media_script.specs.declared.setup_line.SetupLine.{SetupLine}
use Rattle.media_model.specs.declared.step.Step.{Step}
use Rattle.media_script.specs.Gives.{GivesScript}
use Rattle.media_script.specs.Grammar.{pieces_of, read_from, read_then, script_of, line_taken, read_on, whole_of, whole_script}
use Rattle.media_script.specs.Draft.{setup_of}
use Rattle.media_script.specs.Order.{none_said, said_by}
use Rattle.media_script.specs.Laws.{SpellsOne}
use Rattle.media_script.specs.Spelling.{is_passed_over, AreLines, IsStep, AreParts, IsScript}
use Rattle.media_script.specs.Words.{◌>>=◌}
use Rattle.media_script.proofs.WordLaws.{bind_some, equal}
use Rattle.media_script.proofs.Pieces.{some_more, pieces_lines, bytes_of_pieces, pieces_plain, lines_plain}
use Rattle.media_script.proofs.Kept.{kept_on, steps_again, steps_spelled, lines_again, lines_spelled}
use Rattle.media_script.proofs.OrderLaws.{taken_again, in_order}

abbrev pub keep : List ℕ → Bool
keep line = not (is_passed_over line)

-- the lines of a script one by one
abbrev pub lines_on : Reader → List (List ℕ) → Option Reader
lines_on reader [] = Some reader
lines_on reader (line ∷ lines) = line_taken reader line >>= λ more. lines_on more lines

-- lines that are passed over change nothing
pub kept_lines : (reader : Reader) (lines : List (List ℕ)) → lines_on reader lines ≡ kept_on reader (filter keep lines)
unfolding line_taken
kept_lines reader [] = refl
kept_lines reader (line ∷ lines) = go (λ r. kept_lines r lines) (is_passed_over line) where
  go : ((r : Reader) → lines_on r lines ≡ kept_on r (filter keep lines)) → (b : Bool)
      → (cond b (Some reader) (read_on reader line) >>= λ more. lines_on more lines) ≡ kept_on reader (cond (not b) (line ∷ filter keep lines) (filter keep lines))
  go next true = next reader
  go next false = both (read_on reader line) where
    both : (o : Option Reader) → (o >>= λ more. lines_on more lines) ≡ (o >>= λ more. kept_on more (filter keep lines))
    both None = refl
    both (Some more) = next more

-- ---- what is spelled so is read

read_again : (lines : List (List ℕ)) (reader : Reader) (n : ℕ) (said : Said) (setup : Setup) (steps : List Step) → lines_on reader lines ≡ Some (Ended said steps) → setup_of said.draft ≡ Some setup
    → (let script : Setup × List Step = (setup, steps) in read_from n reader (lines ++ [] ∷ []) ≡ Ok script)
unfolding read_from whole_of
read_again [] reader n said setup steps e s =
    let is : reader ≡ Ended said steps = cc in
    ap (whole_of n) is ∙ ap (λ (o : Option Setup). whole_script n o steps) s
read_again (line ∷ lines) reader n said setup steps e s =
    let a = bind_some (line_taken reader line) (λ more. lines_on more lines) (Ended said steps) e in
    rw (some_more lines, a.1) (read_again lines a.0 (n + 1) said setup steps a.2 s)

headed_again : (lines : List (List ℕ)) → kept_on Head (codes "str0m-media 1" ∷ lines) ≡ kept_on (InSetup none_said) lines
unfolding read_on
headed_again lines = refl

pub parts_again : (lines : List (List ℕ)) (said : List SetupLine) (steps : List Step) → AreParts lines said steps → kept_on Head lines ≡ Some (Ended (said_by said) steps)
parts_again lines said steps p =
    ap (kept_on Head) p.parts ∙ headed_again _ ∙ lines_again p.setup_lines said none_said (said_by said) _ p.lines_are (taken_again said p.in_order)
    ∙ steps_again p.step_lines (said_by said) [] steps p.steps_are

pub script_again : (bytes : List ℕ) (setup : Setup) (steps : List Step) → IsScript bytes setup steps
    → (let script : Setup × List Step = (setup, steps) in script_of bytes ≡ Ok script)
script_again bytes setup steps s =
    let f = s.form in
    ap (λ b. read_from 1 Head (pieces_of b)) f.split ∙ ap (read_from 1 Head) (pieces_lines f.lines f.plain)
    ∙ read_again f.lines Head 1 (said_by s.said) setup steps (kept_lines Head f.lines ∙ parts_again (filter keep f.lines) s.said steps f.parts) s.whole

-- ---- what is read is spelled so

record Reads (reader : Reader) (pieces : List (List ℕ)) (setup : Setup) (steps : List Step) : Type 0 where
  lines : List (List ℕ)
  said : Said
  split : pieces ≡ lines ++ [] ∷ []
  taken : lines_on reader lines ≡ Some (Ended said steps)
  whole : setup_of said.draft ≡ Some setup

pub nothing : (line : List ℕ) → eqb (length line) 0 ≡ true → line ≡ []
nothing [] e = refl
nothing (b ∷ line) e = absurd (cc (e, eqb-suc-zero (length line)))

pub none : (pieces : List (List ℕ)) → eqb (length pieces) 0 ≡ true → pieces ≡ []
none [] e = refl
none (piece ∷ pieces) e = absurd (cc (e, eqb-suc-zero (length pieces)))

record IsWhole (reader : Reader) (script : Setup × List Step) : Type 0 where
  said : Said
  ended : reader ≡ Ended said script.1
  whole : setup_of said.draft ≡ Some script.0

is_whole : (n : ℕ) (reader : Reader) (script : Setup × List Step) → whole_of n reader ≡ Ok script → IsWhole reader script
unfolding whole_of
is_whole n (Ended said steps) script e = go (setup_of said.draft) refl e where
  go : (o : Option Setup) → setup_of said.draft ≡ o → whole_script n o steps ≡ Ok script → IsWhole (Ended said steps) script
  go None p e' = absurd cc
  go (Some setup) p e' =
      let one : Setup × List Step = (setup, steps) in
      let same : one ≡ script = cc in
      record {
        said = said;
        ended = ap (λ (s : Setup × List Step). Ended said s.1) same;
        whole = p ∙ ap (λ (s : Setup × List Step). Some s.0) same;
      }
is_whole n Head script e = absurd cc
is_whole n (InSetup said) script e = absurd cc
is_whole n (InSteps said steps) script e = absurd cc

pieces_spelled : (pieces : List (List ℕ)) (reader : Reader) (n : ℕ) (script : Setup × List Step) → read_from n reader pieces ≡ Ok script → Reads reader pieces script.0 script.1
unfolding read_from
pieces_spelled [] reader n script e = absurd cc
pieces_spelled (line ∷ pieces) reader n script e =
    go (λ r. pieces_spelled pieces r (n + 1) script) (eqb (length pieces) 0) refl (eqb (length line) 0) refl (line_taken reader line) refl e where
      go : ((r : Reader) → read_from (n + 1) r pieces ≡ Ok script → Reads r pieces script.0 script.1)
          → (a : Bool) → eqb (length pieces) 0 ≡ a → (b : Bool) → eqb (length line) 0 ≡ b → (o : Option Reader) → line_taken reader line ≡ o
          → cond a (cond b (whole_of n reader) (Err n)) (read_then n o (λ more. read_from (n + 1) more pieces)) ≡ Ok script → Reads reader (line ∷ pieces) script.0 script.1
      go next true p true q o t e' =
          let w = is_whole n reader script e' in
          record { lines = []; said = w.said; split = λ i. nothing line q i ∷ none pieces p i; taken = ap (λ (r : Reader). Some r) w.ended; whole = w.whole }
      go next true p false q o t e' = absurd cc
      go next false p b q None t e' = absurd cc
      go next false p b q (Some more) t e' =
          let rest = next more e' in
          record { lines = line ∷ rest.lines; said = rest.said; split = ap (λ ps. line ∷ ps) rest.split; taken = ap (λ (o : Option Reader). o >>= λ m. lines_on m rest.lines) t ∙ rest.taken; whole = rest.whole }

record ReadsHead (lines : List (List ℕ)) (said : Said) (steps : List Step) : Type 0 where
  rest : List (List ℕ)
  split : lines ≡ codes "str0m-media 1" ∷ rest
  after : kept_on (InSetup none_said) rest ≡ Some (Ended said steps)

headed : (lines : List (List ℕ)) (said : Said) (steps : List Step) → kept_on Head lines ≡ Some (Ended said steps) → ReadsHead lines said steps
unfolding read_on
headed [] said steps e = absurd cc
headed (line ∷ lines) said steps e = go (bytes_eq line (codes "str0m-media 1")) refl e where
  go : (a : Bool) → bytes_eq line (codes "str0m-media 1") ≡ a → (cond a (Some (InSetup none_said)) None >>= λ r. kept_on r lines) ≡ Some (Ended said steps)
      → ReadsHead (line ∷ lines) said steps
  go true p e' = record { rest = lines; split = ap (λ l. l ∷ lines) (equal line (codes "str0m-media 1") p); after = e' }
  go false p e' = absurd cc

pub record Parts (lines : List (List ℕ)) (all : Said) (steps : List Step) : Type 0 where
  pub said : List SetupLine
  pub is : all ≡ said_by said
  pub parts : AreParts lines said steps

pub parts_spelled : (lines : List (List ℕ)) (all : Said) (steps : List Step) → kept_on Head lines ≡ Some (Ended all steps) → Parts lines all steps
parts_spelled lines all steps e =
    let h = headed lines all steps e in
    let l = lines_spelled h.rest none_said all steps h.after in
    let r = steps_spelled l.rest l.all all [] steps l.after in
    let o = in_order l.more l.all l.taken in
    record {
      said = l.more;
      is = sym r.same ∙ o.0;
      parts = record {
        setup_lines = l.setup_lines;
        step_lines = r.step_lines;
        parts = h.split ∙ ap (λ ls. codes "str0m-media 1" ∷ ls) (l.split ∙ ap (λ ls. l.setup_lines ++ (codes "begin" ∷ ls)) r.split);
        lines_are = l.are;
        in_order = o.1;
        steps_are = subst (AreLines IsStep r.step_lines) r.whole r.are;
      };
    }

pub script_spelled : (bytes : List ℕ) (script : Setup × List Step) → script_of bytes ≡ Ok script → IsScript bytes script.0 script.1
script_spelled bytes script e =
    let r = pieces_spelled (pieces_of bytes) Head 1 script e in
    let p = parts_spelled (filter keep r.lines) r.said script.1 (sym (kept_lines Head r.lines) ∙ r.taken) in
    record {
      said = p.said;
      form = record {
        lines = r.lines;
        split = bytes_of_pieces bytes r.lines r.split;
        plain = lines_plain r.lines (subst (AllByRecursion (λ line. AllByRecursion (λ b. b ≢ 10) line)) r.split (pieces_plain bytes));
        parts = p.parts;
      };
      whole = ap (λ (s : Said). setup_of s.draft) (sym p.is) ∙ r.whole;
    }

pub found_of : (bytes : List ℕ) (result : Result (Setup × Vec Step Global) ScriptError) → GivesScript (λ x. (x.0, x.1.items)) result (script_of bytes)
    → IfOk result (λ x. IsScript bytes x.0 x.1.items)
found_of bytes (Ok x) gives = script_spelled bytes (x.0, x.1.items) gives
found_of bytes (Err e) gives = tt

-- a script spells one setup and one list of steps
pub spells_one : SpellsOne
spells_one bytes setup other steps others is has =
    let one : Setup × List Step = (setup, steps) in
    let two : Setup × List Step = (other, others) in
    let first : script_of bytes ≡ Ok one = script_again bytes setup steps is in
    let second : script_of bytes ≡ Ok two = script_again bytes other others has in
    let same : one ≡ two = cc in
    (ap (λ (s : Setup × List Step). s.0) same, ap (λ (s : Setup × List Step). s.1) same)
