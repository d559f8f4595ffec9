-- What is read of a pace script is spelled so, and what is spelled so is read.
use Rattle.std.proofs.Common.{◌≡◌, ◌≢◌, ℕ, ◌+◌, ◌≤◌, Bool, true, false, cond, not, eqb, List, [], ◌∷◌, ◌++◌, length, Option, Some, None, Result, Ok, Err, refl, sym, ap, ◌∙◌, subst, append_assoc, arith}
use Rattle.std.specs.Prelude.{filter, Vec, IfOk, All, codes}
use Rattle.std.specs.declared.alloc.Global.{Global}
use Rattle.std.specs.List.{AllByRecursion, join_with_byte}
use Rattle.std.specs.Str.{bytes_eq}
use Rattle.std.proofs.Math.Dec.{eqb-suc-zero}
use Rattle.std.proofs.lemmas.Bool.Decides.{nat_tests}
use Rattle.std.proofs.lemmas.List.{append-nil}
use Rattle.std.proofs.lemmas.List.Elements.{All-from_recursion}
use Rattle.media_script.specs.declared.error.ScriptError.{ScriptError}
use Rattle.media_script.specs.FirstWrong.{with_ends, IsLine}
use Rattle.media_script.specs.Gives.{GivesScript}
use Rattle.media_script.specs.Grammar.{pieces_of}
use Rattle.media_script.specs.Laws.{WordsAreSpelled, PiecesAreLines}
use Rattle.media_script.specs.Spelling.{words_of, is_passed_over, AreLines}
use Rattle.media_script.specs.Words.{◌>>=◌}
use Rattle.pace_core.specs.declared.run.PaceCall.{PaceCall}
use Rattle.pace_core.specs.declared.run.PaceCall.TheVariants.{Pacing, Padding, Timeout, Poll, Send}
use Rattle.pace_core.specs.Run.{IsShort}
use Rattle.pace_script.specs.declared.reader.Reader.{Reader}
use Rattle.pace_script.specs.declared.reader.Reader.TheVariants.{Head, Named, InCalls, Ended}
use Rattle.pace_script.specs.Grammar.{read_from, read_then, script_of, line_taken, read_on, whole_of, call_of, rate_line_of}
use Rattle.pace_script.specs.Laws.{SpellsOne}
use Rattle.pace_script.specs.Spelling.{IsCall, IsRateLine, AreParts, IsPaceScript}
use Rattle.pace_script.proofs.Basics.{bind_some, equal, nothing}
use Rattle.pace_script.proofs.CallLaws.{call_spelled, call_again, rate_line_spelled, rate_line_again}

abbrev pub keep : List ℕ → Bool
keep line = not (is_passed_over line)

-- the lines of a script one by one
abbrev pub lines_on : Reader → List (List ℕ) → Option Reader
lines_on reader [] = Some reader
lines_on reader (line ∷ lines) = line_taken reader line >>= λ more. lines_on more lines

-- those that are not passed over
abbrev pub kept_on : Reader → List (List ℕ) → Option Reader
kept_on reader [] = Some reader
kept_on reader (line ∷ lines) = read_on reader line >>= λ more. kept_on more lines

pub kept_lines : (reader : Reader) (lines : List (List ℕ)) → lines_on reader lines ≡ kept_on reader (filter keep lines)
unfolding line_taken
kept_lines reader [] = refl
kept_lines reader (line ∷ lines) = go (λ r. kept_lines r lines) (is_passed_over line) where
  go : ((r : Reader) → lines_on r lines ≡ kept_on r (filter keep lines)) → (b : Bool)
      → (cond b (Some reader) (read_on reader line) >>= λ more. lines_on more lines) ≡ kept_on reader (cond (not b) (line ∷ filter keep lines) (filter keep lines))
  go next true = next reader
  go next false = both (read_on reader line) where
    both : (o : Option Reader) → (o >>= λ more. lines_on more lines) ≡ (o >>= λ more. kept_on more (filter keep lines))
    both None = refl
    both (Some more) = next more

-- a call is no end
no_end : (line : List ℕ) (c : PaceCall) → call_of (words_of line) ≡ Some c → bytes_eq line (codes "end") ≡ false
unfolding call_of
no_end line c e = other (bytes_eq line (codes "end")) refl where
  other : (b : Bool) → bytes_eq line (codes "end") ≡ b → b ≡ false
  other false is = refl
  other true is = let none = ap (λ l. call_of (words_of l)) (equal line (codes "end") is) in absurd (cc (none, e))

-- nothing is read behind the end
at_end : (lines : List (List ℕ)) (rate rate' : ℕ) (calls calls' : List PaceCall) → kept_on (Ended rate calls) lines ≡ Some (Ended rate' calls')
    → (lines ≡ []) × (rate ≡ rate') × (calls ≡ calls')
unfolding read_on
at_end [] rate rate' calls calls' e = (refl, cc, cc)
at_end (line ∷ lines) rate rate' calls calls' e = absurd cc

record ReadsCalls (lines : List (List ℕ)) (rate rate' : ℕ) (before all : List PaceCall) : Type 0 where
  call_lines : List (List ℕ)
  calls : List PaceCall
  split : lines ≡ call_lines ++ codes "end" ∷ []
  are : AreLines IsCall call_lines calls
  same : rate ≡ rate'
  whole : before ++ calls ≡ all

module _ (w : WordsAreSpelled) where
  -- calls and the end, that are spelled so, are read
  calls_again : (lines : List (List ℕ)) (rate : ℕ) (before calls : List PaceCall) → AreLines IsCall lines calls
      → kept_on (InCalls rate before) (lines ++ codes "end" ∷ []) ≡ Some (Ended rate (before ++ calls))
  unfolding read_on
  calls_again [] rate before [] h = ap (λ (cs : List PaceCall). Some (Ended rate cs)) (sym (append-nil before))
  calls_again [] rate before (c ∷ calls) h = absurd h
  calls_again (line ∷ lines) rate before [] h = absurd h
  calls_again (line ∷ lines) rate before (c ∷ calls) h =
      let read = call_again w (words_of line) c h.0 in
      rw (no_end line c read, read)
      (calls_again lines rate (before ++ c ∷ []) calls h.1 ∙ ap (λ (cs : List PaceCall). Some (Ended rate cs)) (append_assoc before (c ∷ []) calls))

  -- calls and the end, that are read, are spelled so
  calls_spelled : (lines : List (List ℕ)) (rate rate' : ℕ) (before all : List PaceCall) → kept_on (InCalls rate before) lines ≡ Some (Ended rate' all)
      → ReadsCalls lines rate rate' before all
  unfolding read_on
  calls_spelled [] rate rate' before all e = absurd cc
  calls_spelled (line ∷ lines) rate rate' before all e =
      go (λ cs. calls_spelled lines rate rate' cs all) (bytes_eq line (codes "end")) refl (call_of (words_of line)) refl e where
        go : ((cs : List PaceCall) → kept_on (InCalls rate cs) lines ≡ Some (Ended rate' all) → ReadsCalls lines rate rate' cs all)
            → (b : Bool) → bytes_eq line (codes "end") ≡ b → (o : Option PaceCall) → call_of (words_of line) ≡ o
            → (cond b (Some (Ended rate before)) (o >>= λ c. Some (InCalls rate (before ++ c ∷ []))) >>= λ more. kept_on more lines) ≡ Some (Ended rate' all)
            → ReadsCalls (line ∷ lines) rate rate' before all
        go next true p o q e' =
            let r = at_end lines rate rate' before all e' in
            record { call_lines = []; calls = []; split = λ i. equal line (codes "end") p i ∷ r.0 i; are = tt; same = r.1; whole = append-nil before ∙ r.2 }
        go next false p None q e' = absurd cc
        go next false p (Some c) q e' =
            let r = next (before ++ c ∷ []) e' in
            record {
              call_lines = line ∷ r.call_lines;
              calls = c ∷ r.calls;
              split = ap (λ ls. line ∷ ls) r.split;
              are = (call_spelled w (words_of line) c q, r.are);
              same = r.same;
              whole = sym (append_assoc before (c ∷ []) r.calls) ∙ r.whole;
            }

  rated_again : (line : List ℕ) (lines : List (List ℕ)) (rate : ℕ) → IsRateLine (words_of line) rate
      → kept_on Head (codes "pace 1" ∷ line ∷ lines) ≡ kept_on (InCalls rate []) lines
  unfolding read_on
  rated_again line lines rate is = rw (rate_line_again w (words_of line) rate is) refl

  pub parts_again : (lines : List (List ℕ)) (rate : ℕ) (calls : List PaceCall) → AreParts lines rate calls → kept_on Head lines ≡ Some (Ended rate calls)
  parts_again lines rate calls p =
      ap (kept_on Head) p.parts ∙ rated_again p.rate_line _ rate p.rate_is ∙ calls_again p.call_lines rate [] calls p.calls_are

  record ReadsHead (lines : List (List ℕ)) (rate : ℕ) (calls : List PaceCall) : Type 0 where
    rate_line : List ℕ
    first : ℕ
    rest : List (List ℕ)
    split : lines ≡ codes "pace 1" ∷ rate_line ∷ rest
    is : IsRateLine (words_of rate_line) first
    after : kept_on (InCalls first []) rest ≡ Some (Ended rate calls)

  headed : (lines : List (List ℕ)) (rate : ℕ) (calls : List PaceCall) → kept_on Head lines ≡ Some (Ended rate calls) → ReadsHead lines rate calls
  unfolding read_on
  headed [] rate calls e = absurd cc
  headed (line ∷ []) rate calls e = go (bytes_eq line (codes "pace 1")) e where
    go : (a : Bool) → (cond a (Some Named) None >>= λ r. kept_on r []) ≡ Some (Ended rate calls) → ReadsHead (line ∷ []) rate calls
    go true e' = absurd cc
    go false e' = absurd cc
  headed (line ∷ next ∷ lines) rate calls e = go (bytes_eq line (codes "pace 1")) refl (rate_line_of (words_of next)) refl e where
    go : (a : Bool) → bytes_eq line (codes "pace 1") ≡ a → (o : Option ℕ) → rate_line_of (words_of next) ≡ o
        → (cond a (Some Named) None >>= λ r. (read_on r next >>= λ s. kept_on s lines)) ≡ Some (Ended rate calls)
        → ReadsHead (line ∷ next ∷ lines) rate calls
    go true p o q e' =
        let b = bind_some (rate_line_of (words_of next)) (λ first. kept_on (InCalls first []) lines) (Ended rate calls) (assoc (rate_line_of (words_of next)) e') in
        record { rate_line = next; first = b.0; rest = lines; split = ap (λ l. l ∷ next ∷ lines) (equal line (codes "pace 1") p); is = rate_line_spelled w (words_of next) b.0 b.1; after = b.2 } where
          assoc : (o : Option ℕ) → ((o >>= λ first. Some (InCalls first [])) >>= λ s. kept_on s lines) ≡ Some (Ended rate calls)
              → (o >>= λ first. kept_on (InCalls first []) lines) ≡ Some (Ended rate calls)
          assoc None e'' = absurd cc
          assoc (Some first) e'' = e''
    go false p o q e' = absurd cc

  pub parts_spelled : (lines : List (List ℕ)) (rate : ℕ) (calls : List PaceCall) → kept_on Head lines ≡ Some (Ended rate calls) → AreParts lines rate calls
  parts_spelled lines rate calls e =
      let h = headed lines rate calls e in
      let r = calls_spelled h.rest h.first rate [] calls h.after in
      record {
        rate_line = h.rate_line;
        call_lines = r.call_lines;
        parts = h.split ∙ ap (λ (ls : List (List ℕ)). codes "pace 1" ∷ h.rate_line ∷ ls) r.split;
        rate_is = subst (IsRateLine (words_of h.rate_line)) r.same h.is;
        calls_are = subst (AreLines IsCall r.call_lines) r.whole r.are;
      }

-- ---- pieces

some_more : (lines : List (List ℕ)) → eqb (length (lines ++ [] ∷ [])) 0 ≡ false
some_more [] = refl
some_more (line ∷ lines) = grind (arith, nat_tests)

read_again : (lines : List (List ℕ)) (reader : Reader) (n rate : ℕ) (calls : List PaceCall) → lines_on reader lines ≡ Some (Ended rate calls)
    → (let script : ℕ × List PaceCall = (rate, calls) in read_from n reader (lines ++ [] ∷ []) ≡ Ok script)
unfolding read_from whole_of
read_again [] reader n rate calls e = let is : reader ≡ Ended rate calls = cc in ap (whole_of n) is
read_again (line ∷ lines) reader n rate calls e =
    let a = bind_some (line_taken reader line) (λ more. lines_on more lines) (Ended rate calls) e in
    rw (some_more lines, a.1) (read_again lines a.0 (n + 1) rate calls a.2)

pub record Reads (reader : Reader) (pieces : List (List ℕ)) (rate : ℕ) (calls : List PaceCall) : Type 0 where
  pub lines : List (List ℕ)
  pub split : pieces ≡ lines ++ [] ∷ []
  pub taken : lines_on reader lines ≡ Some (Ended rate calls)

is_whole : (n : ℕ) (reader : Reader) (script : ℕ × List PaceCall) → whole_of n reader ≡ Ok script → reader ≡ Ended script.0 script.1
unfolding whole_of
is_whole n (Ended rate calls) script e =
    let one : ℕ × List PaceCall = (rate, calls) in
    let same : one ≡ script = cc in
    ap (λ (s : ℕ × List PaceCall). Ended s.0 s.1) same
is_whole n Head script e = absurd cc
is_whole n Named script e = absurd cc
is_whole n (InCalls rate calls) script e = absurd cc

pieces_spelled : (pieces : List (List ℕ)) (reader : Reader) (n : ℕ) (script : ℕ × List PaceCall) → read_from n reader pieces ≡ Ok script → Reads reader pieces script.0 script.1
unfolding read_from
pieces_spelled [] reader n script e = absurd cc
pieces_spelled (line ∷ pieces) reader n script e =
    go (λ r. pieces_spelled pieces r (n + 1) script) (eqb (length pieces) 0) refl (eqb (length line) 0) refl (line_taken reader line) refl e where
      go : ((r : Reader) → read_from (n + 1) r pieces ≡ Ok script → Reads r pieces script.0 script.1)
          → (a : Bool) → eqb (length pieces) 0 ≡ a → (b : Bool) → eqb (length line) 0 ≡ b → (o : Option Reader) → line_taken reader line ≡ o
          → cond a (cond b (whole_of n reader) (Err n)) (read_then n o (λ more. read_from (n + 1) more pieces)) ≡ Ok script → Reads reader (line ∷ pieces) script.0 script.1
      go next true p true q o t e' =
          record { lines = []; split = λ i. nothing line q i ∷ nothing pieces p i; taken = ap (λ (r : Reader). Some r) (is_whole n reader script e') }
      go next true p false q o t e' = absurd cc
      go next false p b q None t e' = absurd cc
      go next false p b q (Some more) t e' =
          let rest = next more e' in
          record { lines = line ∷ rest.lines; split = ap (λ ps. line ∷ ps) rest.split; taken = ap (λ (o : Option Reader). o >>= λ m. lines_on m rest.lines) t ∙ rest.taken }

joined : (lines : List (List ℕ)) → join_with_byte 10 (lines ++ [] ∷ []) ≡ with_ends lines
joined [] = refl
joined (line ∷ []) = sym (append-nil (line ++ 10 ∷ []))
joined (line ∷ next ∷ lines) = ap (λ l. line ++ (10 ∷ l)) (joined (next ∷ lines)) ∙ sym (append_assoc line (10 ∷ []) (with_ends (next ∷ lines)))

fronts_plain : (lines : List (List ℕ)) → AllByRecursion IsLine (lines ++ [] ∷ []) → AllByRecursion IsLine lines
fronts_plain [] all = tt
fronts_plain (line ∷ lines) all = (all.0, fronts_plain lines all.1)

module _ (w : WordsAreSpelled) (p : PiecesAreLines) where
  pub script_again : (bytes : List ℕ) (rate : ℕ) (calls : List PaceCall) → IsPaceScript bytes rate calls
      → (let script : ℕ × List PaceCall = (rate, calls) in script_of bytes ≡ Ok script)
  script_again bytes rate calls s =
      ap (λ b. read_from 1 Head (pieces_of b)) s.split ∙ ap (read_from 1 Head) (p.of_lines s.lines s.plain)
      ∙ read_again s.lines Head 1 rate calls (kept_lines Head s.lines ∙ parts_again w (filter keep s.lines) rate calls s.parts)

  pub script_spelled : (bytes : List ℕ) (script : ℕ × List PaceCall) → script_of bytes ≡ Ok script → IsPaceScript bytes script.0 script.1
  script_spelled bytes script e =
      let r = pieces_spelled (pieces_of bytes) Head 1 script e in
      record {
        lines = r.lines;
        split = p.joined bytes ∙ ap (join_with_byte 10) r.split ∙ joined r.lines;
        plain = fronts_plain r.lines (subst (AllByRecursion IsLine) r.split (p.plain bytes));
        parts = parts_spelled w (filter keep r.lines) script.0 script.1 (sym (kept_lines Head r.lines) ∙ r.taken);
      }

  pub found_of : (bytes : List ℕ) (result : Result (ℕ × Vec PaceCall Global) ScriptError) → GivesScript (λ x. (x.0, x.1.items)) result (script_of bytes)
      → IfOk result (λ x. IsPaceScript bytes x.0 x.1.items)
  found_of bytes (Ok x) gives = script_spelled bytes (x.0, x.1.items) gives
  found_of bytes (Err e) gives = tt

  -- a script spells one rate and one list of calls
  pub spells_one : SpellsOne
  spells_one bytes rate other calls others is has =
      let one : ℕ × List PaceCall = (rate, calls) in
      let two : ℕ × List PaceCall = (other, others) in
      let first : script_of bytes ≡ Ok one = script_again bytes rate calls is in
      let second : script_of bytes ≡ Ok two = script_again bytes other others has in
      let same : one ≡ two = cc in
      (ap (λ (s : ℕ × List PaceCall). s.0) same, ap (λ (s : ℕ × List PaceCall). s.1) same)

-- ---- packets of a script are short

short_call : (words : List (List ℕ)) (c : PaceCall) → IsCall words c → IsShort c
short_call words (Pacing rate) is = tt
short_call words (Padding rate) is = tt
short_call words (Timeout now queues) is = tt
short_call words Poll is = tt
short_call words (Send now size) is = is.2

short_calls : (lines : List (List ℕ)) (calls : List PaceCall) → AreLines IsCall lines calls → AllByRecursion IsShort calls
short_calls [] [] are = tt
short_calls [] (c ∷ calls) are = absurd are
short_calls (line ∷ lines) [] are = absurd are
short_calls (line ∷ lines) (c ∷ calls) are = (short_call (words_of line) c are.0, short_calls lines calls are.1)

pub short_of : (bytes : List ℕ) (result : Result (ℕ × Vec PaceCall Global) ScriptError) → IfOk result (λ x. IsPaceScript bytes x.0 x.1.items)
    → IfOk result (λ x. All IsShort x.1.items)
short_of bytes (Ok x) found = All-from_recursion IsShort x.1.items (short_calls found.parts.call_lines x.1.items found.parts.calls_are)
short_of bytes (Err e) found = tt
