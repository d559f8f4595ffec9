-- The line where reading stops is the first one that is wrong.
use Rattle.std.proofs.Common.{◌≡◌, ◌≢◌, inl, inr, ◌⊎◌, ℕ, ◌+◌, Bool, true, false, cond, eqb, List, [], ◌∷◌, ◌++◌, length, Option, Some, None, Result, Ok, Err, refl, sym, ap, ◌∙◌, subst, append_assoc, arith}
use Rattle.std.specs.Prelude.{filter, Vec, codes}
use Rattle.std.specs.declared.alloc.Global.{Global}
use Rattle.std.specs.List.{join_with_byte, AllByRecursion}
use Rattle.std.proofs.lemmas.List.{append-nil}
use Rattle.std.proofs.lemmas.Grind.{flat_map-append}
use Rattle.std.proofs.lemmas.List.Elements.{All-from_recursion}
use Rattle.media_script.specs.declared.error.ScriptError.{ScriptError}
use Rattle.media_script.specs.declared.error.ScriptError.TheVariants.{Memory, Syntax}
use Rattle.media_script.specs.FirstWrong.{with_ends, IsLine}
use Rattle.media_script.specs.Gives.{GivesScript}
use Rattle.media_script.specs.Grammar.{pieces_of}
use Rattle.media_script.specs.Laws.{WordsAreSpelled, PiecesAreLines}
use Rattle.media_script.specs.Words.{◌>>=◌, number_of}
use Rattle.pace_core.specs.declared.run.PaceCall.{PaceCall}
use Rattle.pace_script.specs.declared.reader.Reader.{Reader}
use Rattle.pace_script.specs.declared.reader.Reader.TheVariants.{Head, Named, InCalls, Ended}
use Rattle.pace_script.specs.FirstWrong.{CanGoOn, IsNoScript, IsFirstWrong, StopsRightly}
use Rattle.pace_script.specs.Grammar.{read_from, read_then, script_of, line_taken, read_on, whole_of, rate_line_of}
use Rattle.pace_script.specs.Spelling.{IsPaceScript}
use Rattle.pace_script.specs.Words.{rate_of}
use Rattle.pace_script.proofs.Basics.{bind_some, nothing}
use Rattle.pace_script.proofs.ScriptLaws.{keep, lines_on, kept_lines, parts_again, parts_spelled, script_again}

on_append : (lines more : List (List ℕ)) (reader : Reader) → lines_on reader (lines ++ more) ≡ (lines_on reader lines >>= λ r. lines_on r more)
on_append [] more reader = refl
on_append (line ∷ lines) more reader = go (λ r. on_append lines more r) (line_taken reader line) where
  go : ((r : Reader) → lines_on r (lines ++ more) ≡ (lines_on r lines >>= λ x. lines_on x more)) → (o : Option Reader) → (o >>= λ r. lines_on r (lines ++ more)) ≡ ((o >>= λ r. lines_on r lines) >>= λ r. lines_on r more)
  go next None = refl
  go next (Some r) = next r

are_append : (lines more : List (List ℕ)) → AllByRecursion IsLine lines → AllByRecursion IsLine more → AllByRecursion IsLine (lines ++ more)
are_append [] more a b = b
are_append (line ∷ lines) more a b = (a.0, are_append lines more a.1 b)

-- ---- what was read can go on

record Closes (reader : Reader) : Type 0 where
  lines : List (List ℕ)
  are : AllByRecursion IsLine lines
  rate : ℕ
  calls : List PaceCall
  on : lines_on reader lines ≡ Some (Ended rate calls)

plain_by : (line : List ℕ) → AllByRecursion (λ b. b ≢ 10) line → IsLine line
plain_by line all = All-from_recursion (λ b. b ≢ 10) line all

other : (b : ℕ) → eqb b 10 ≡ false → b ≢ 10
other b e is = let same : eqb b 10 ≡ true = ap (λ x. eqb x 10) is in absurd (cc (e, same))

end_line : IsLine (codes "end")
end_line = plain_by (codes "end") (other _ refl, (other _ refl, (other _ refl, tt)))

rate_line : IsLine (codes "rate 0")
rate_line =
    plain_by (codes "rate 0") (other _ refl, (other _ refl, (other _ refl, (other _ refl, (other _ refl, (other _ refl, tt))))))

head_line : IsLine (codes "pace 1")
head_line =
    plain_by (codes "pace 1") (other _ refl, (other _ refl, (other _ refl, (other _ refl, (other _ refl, (other _ refl, tt))))))

closes : (reader : Reader) → Closes reader
unfolding line_taken read_on rate_line_of rate_of number_of
closes Head = record { lines = codes "pace 1" ∷ codes "rate 0" ∷ codes "end" ∷ []; are = (head_line, (rate_line, (end_line, tt))); rate = 0; calls = []; on = refl }
closes Named = record { lines = codes "rate 0" ∷ codes "end" ∷ []; are = (rate_line, (end_line, tt)); rate = 0; calls = []; on = refl }
closes (InCalls rate calls) = record { lines = codes "end" ∷ []; are = (end_line, tt); rate = rate; calls = calls; on = refl }
closes (Ended rate calls) = record { lines = []; are = tt; rate = rate; calls = calls; on = refl }

-- ---- where reading stops

record Stops (reader : Reader) (pieces : List (List ℕ)) (n m : ℕ) : Type 0 where
  lines : List (List ℕ)
  piece : List ℕ
  others : List (List ℕ)
  split : pieces ≡ lines ++ piece ∷ others
  last : Reader
  on : lines_on reader lines ≡ Some last
  count : m ≡ n + length lines
  wrong : (line_taken last piece ≡ None) ⊎ (others ≡ [])

stops : (pieces : List (List ℕ)) (reader : Reader) (n m : ℕ) → eqb (length pieces) 0 ≡ false → read_from n reader pieces ≡ Err m → Stops reader pieces n m
unfolding read_from whole_of
stops [] reader n m some e = absurd cc
stops (line ∷ pieces) reader n m some e =
    go (λ r s. stops pieces r (n + 1) m s) (eqb (length pieces) 0) refl (line_taken reader line) refl e where
      here : (wrong : (line_taken reader line ≡ None) ⊎ (pieces ≡ [])) → n ≡ m → Stops reader (line ∷ pieces) n m
      here wrong is = record { lines = []; piece = line; others = pieces; split = refl; last = reader; on = refl; count = omega (arith, is); wrong = wrong }

      at_end : (r : Reader) (b : Bool) → cond b (whole_of n r) (Err n) ≡ Err m → n ≡ m
      at_end r false e' = cc
      at_end Head true e' = cc
      at_end Named true e' = cc
      at_end (InCalls rate calls) true e' = cc
      at_end (Ended rate calls) true e' = absurd cc

      go : ((r : Reader) → eqb (length pieces) 0 ≡ false → read_from (n + 1) r pieces ≡ Err m → Stops r pieces (n + 1) m)
          → (a : Bool) → eqb (length pieces) 0 ≡ a → (o : Option Reader) → line_taken reader line ≡ o
          → cond a (cond (eqb (length line) 0) (whole_of n reader) (Err n)) (read_then n o (λ more. read_from (n + 1) more pieces)) ≡ Err m → Stops reader (line ∷ pieces) n m
      go next true p o t e' = here (inr (nothing pieces p)) (at_end reader (eqb (length line) 0) e')
      go next false p None t e' = here (inl t) cc
      go next false p (Some r) t e' =
          let s = next r p e' in
          record {
            lines = line ∷ s.lines;
            piece = s.piece;
            others = s.others;
            split = ap (λ ps. line ∷ ps) s.split;
            last = s.last;
            on = ap (λ (o : Option Reader). o >>= λ x. lines_on x s.lines) t ∙ s.on;
            count = omega (arith, s.count);
            wrong = s.wrong;
          }

joined : (lines : List (List ℕ)) (piece : List ℕ) (others : List (List ℕ)) → join_with_byte 10 (lines ++ piece ∷ others) ≡ with_ends lines ++ join_with_byte 10 (piece ∷ others)
joined [] piece others = refl
joined (line ∷ []) piece others =
    sym (append_assoc line (10 ∷ []) (join_with_byte 10 (piece ∷ others))) ∙ ap (λ (l : List ℕ). l ++ join_with_byte 10 (piece ∷ others)) (sym (append-nil (line ++ 10 ∷ [])))
joined (line ∷ next ∷ lines) piece others =
    ap (λ l. line ++ (10 ∷ l)) (joined (next ∷ lines) piece others)
    ∙ sym (append_assoc line (10 ∷ []) (with_ends (next ∷ lines) ++ join_with_byte 10 (piece ∷ others)))
    ∙ sym (append_assoc (line ++ 10 ∷ []) (with_ends (next ∷ lines)) (join_with_byte 10 (piece ∷ others)))

plain_parts : (lines : List (List ℕ)) (piece : List ℕ) (others : List (List ℕ)) → AllByRecursion IsLine (lines ++ piece ∷ others)
    → AllByRecursion IsLine lines × IsLine piece
plain_parts [] piece others all = (tt, all.0)
plain_parts (line ∷ lines) piece others all =
    let p = plain_parts lines piece others all.1 in
    ((all.0, p.0), p.1)

nothing_behind : (lines pieces : List (List ℕ)) → [] ≡ lines ++ pieces → eqb (length pieces) 0 ≡ false → ⊥
nothing_behind [] [] e some = cc
nothing_behind [] (p ∷ pieces) e some = cc
nothing_behind (l ∷ lines) pieces e some = cc

front_of : (lines all pieces : List (List ℕ)) → all ++ [] ∷ [] ≡ lines ++ pieces → eqb (length pieces) 0 ≡ false → (more : List (List ℕ)) × (all ≡ lines ++ more)
front_of [] all pieces e some = (all, refl)
front_of (l ∷ lines) [] pieces e some = let rest : [] ≡ lines ++ pieces = cc in absurd (nothing_behind lines pieces rest some)
front_of (l ∷ lines) (a ∷ all) pieces e some =
    let first : a ≡ l = cc in
    let rest : all ++ [] ∷ [] ≡ lines ++ pieces = cc in
    let f = front_of lines all pieces rest some in
    (f.0, λ i. first i ∷ f.1 i)

module _ (w : WordsAreSpelled) (p : PiecesAreLines) where
  goes_on : (lines : List (List ℕ)) (reader : Reader) → AllByRecursion IsLine lines → lines_on Head lines ≡ Some reader → CanGoOn lines
  goes_on lines reader are e =
      let c = closes reader in
      let on : lines_on Head (lines ++ c.lines) ≡ Some (Ended c.rate c.calls) =
      on_append lines c.lines Head ∙ ap (λ (o : Option Reader). o >>= λ r. lines_on r c.lines) e ∙ c.on in
      let script : IsPaceScript (with_ends (lines ++ c.lines)) c.rate c.calls = record {
        lines = lines ++ c.lines;
        split = refl;
        plain = are_append lines c.lines are c.are;
        parts = parts_spelled w (filter keep (lines ++ c.lines)) c.rate c.calls (sym (kept_lines Head (lines ++ c.lines)) ∙ on);
      } in
      record {
        more = with_ends c.lines;
        rate = c.rate;
        calls = c.calls;
        script = subst (λ (bytes : List ℕ). IsPaceScript bytes c.rate c.calls) (flat_map-append (λ line. line ++ 10 ∷ []) lines c.lines) script;
      }

  -- what can go on is read
  pieces_append : (lines : List (List ℕ)) (more : List ℕ) → AllByRecursion IsLine lines → pieces_of (with_ends lines ++ more) ≡ lines ++ pieces_of more
  pieces_append [] more are = refl
  pieces_append (line ∷ lines) more are =
      p.first _ line (with_ends lines ++ more)
      (append_assoc (line ++ 10 ∷ []) (with_ends lines) more ∙ append_assoc line (10 ∷ []) (with_ends lines ++ more)) are.0
      ∙ ap (λ ps. line ∷ ps) (pieces_append lines more are.1)

  read_of : (lines : List (List ℕ)) → AllByRecursion IsLine lines → CanGoOn lines → (reader : Reader) × (lines_on Head lines ≡ Some reader)
  read_of lines are can =
      let s = can.script in
      let pieces = sym (p.of_lines s.lines s.plain) ∙ ap pieces_of (sym s.split) ∙ pieces_append lines can.more are in
      let front = front_of lines s.lines (pieces_of can.more) pieces (p.some can.more) in
      let on : lines_on Head s.lines ≡ Some (Ended can.rate can.calls) = kept_lines Head s.lines ∙ parts_again w (filter keep s.lines) can.rate can.calls s.parts in
      let split = sym (on_append lines front.0 Head) ∙ ap (lines_on Head) (sym front.1) ∙ on in
      let b = bind_some (lines_on Head lines) (λ r. lines_on r front.0) (Ended can.rate can.calls) split in
      (b.0, b.1)

  pub first_wrong : (bytes : List ℕ) (m : ℕ) → script_of bytes ≡ Err m → IsFirstWrong bytes m
  first_wrong bytes m e =
      let s = stops (pieces_of bytes) Head 1 m (p.some bytes) e in
      let plain = plain_parts s.lines s.piece s.others (subst (AllByRecursion IsLine) s.split (p.plain bytes)) in
      let rest = join_with_byte 10 (s.piece ∷ s.others) in
      record {
        lines = s.lines;
        rest = rest;
        split = p.joined bytes ∙ ap (join_with_byte 10) s.split ∙ joined s.lines s.piece s.others;
        are = plain.0;
        count = omega (arith, s.count);
        go_on = goes_on s.lines s.last plain.0 s.on;
        wrong = one s plain.0 plain.1 s.others refl s.wrong;
      } where
        no_script : IsNoScript bytes
        no_script rate calls is = let read = script_again w p bytes rate calls is in cc (e, read)

        one : (s : Stops Head (pieces_of bytes) 1 m) → AllByRecursion IsLine s.lines → IsLine s.piece → (others : List (List ℕ)) → s.others ≡ others
            → (line_taken s.last s.piece ≡ None) ⊎ (s.others ≡ [])
            → (((line after : List ℕ) × IsLine line × (join_with_byte 10 (s.piece ∷ s.others) ≡ line ++ 10 ∷ after) × (CanGoOn (s.lines ++ line ∷ []) → ⊥))
            ⊎ (IsLine (join_with_byte 10 (s.piece ∷ s.others)) × IsNoScript bytes))
        one s are is [] q wr = inr (subst (λ (os : List (List ℕ)). IsLine (join_with_byte 10 (s.piece ∷ os))) (sym q) is, no_script)
        one s are is (o ∷ os) q (inr nil) = absurd cc
        one s are is (o ∷ os) q (inl not_taken) =
            inl (
              s.piece,
              join_with_byte 10 (o ∷ os),
              is,
              ap (λ (ps : List (List ℕ)). join_with_byte 10 (s.piece ∷ ps)) q,
              λ can.
                  let r = read_of (s.lines ++ s.piece ∷ []) (are_append s.lines (s.piece ∷ []) are (is, tt)) can in
                  let stop : lines_on Head (s.lines ++ s.piece ∷ []) ≡ None =
                  on_append s.lines (s.piece ∷ []) Head ∙ ap (λ (o : Option Reader). o >>= λ x. lines_on x (s.piece ∷ [])) s.on
                  ∙ ap (λ (o : Option Reader). o >>= λ x. lines_on x []) not_taken in
                  cc (stop, r.1),
            )

  pub rightly : (bytes : List ℕ) (result : Result (ℕ × Vec PaceCall Global) ScriptError) → GivesScript (λ x. (x.0, x.1.items)) result (script_of bytes)
      → StopsRightly result bytes
  rightly bytes (Ok x) gives = tt
  rightly bytes (Err Memory) gives = tt
  rightly bytes (Err (Syntax n)) gives = first_wrong bytes n gives
