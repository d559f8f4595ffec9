-- The lines of a script, and the pieces between line ends.
use Rattle.std.proofs.Common.{◌≡◌, ◌≢◌, ℕ, Bool, true, false, cond, eqb, List, [], ◌∷◌, ◌++◌, length, All, refl, sym, ap, ◌∙◌, append_assoc, arith}
use Rattle.std.specs.List.{onto_first, flat_map, join_with_byte, AllByRecursion}
use Rattle.std.proofs.lemmas.Bool.Decides.{nat_tests}
use Rattle.std.proofs.lemmas.List.Splits.{slice_split_at, slice_split_none, length-slice_split, join_with_byte-slice_split}
use Rattle.std.proofs.lemmas.List.{append-nil}
use Rattle.std.proofs.lemmas.List.Elements.{All-from_recursion}
use Rattle.media_script.specs.Grammar.{pieces_of}
use Rattle.media_script.specs.Spelling.{words_of}

no_end : (line : List ℕ) → All (λ b. b ≢ 10) line → All (λ b. eqb b 10 ≡ false) line
no_end line all k d lt = let other = all k d lt in grind (arith, nat_tests)

pub first_piece : (bytes line after : List ℕ) → bytes ≡ line ++ 10 ∷ after → All (λ b. b ≢ 10) line → pieces_of bytes ≡ line ∷ pieces_of after
first_piece bytes line after is all = ap pieces_of is ∙ slice_split_at (λ b. eqb b 10) line 10 after (no_end line all) refl

pub last_piece : (bytes : List ℕ) → All (λ b. b ≢ 10) bytes → pieces_of bytes ≡ bytes ∷ []
last_piece bytes all = slice_split_none (λ b. eqb b 10) bytes (no_end bytes all)

pub some_piece : (bytes : List ℕ) → eqb (length (pieces_of bytes)) 0 ≡ false
some_piece bytes = let one = length-slice_split (λ b. eqb b 10) bytes in grind (arith, nat_tests)

abbrev pub line_text : List ℕ → List ℕ
line_text line = line ++ 10 ∷ []

abbrev pub NoEnd : List ℕ → Type 0
NoEnd line = All (λ b. b ≢ 10) line

-- lines that end with a line feed are the pieces, but for the last
pub pieces_lines : (lines : List (List ℕ)) → AllByRecursion NoEnd lines → pieces_of (flat_map line_text lines) ≡ lines ++ [] ∷ []
pieces_lines [] all = refl
pieces_lines (line ∷ lines) all =
    first_piece _ line (flat_map line_text lines) (append_assoc line (10 ∷ []) (flat_map line_text lines)) all.0
    ∙ ap (λ ps. line ∷ ps) (pieces_lines lines all.1)

pub some_more : (lines : List (List ℕ)) → eqb (length (lines ++ [] ∷ [])) 0 ≡ false
some_more [] = refl
some_more (line ∷ lines) = grind (arith, nat_tests)

joined : (lines : List (List ℕ)) → join_with_byte 10 (lines ++ [] ∷ []) ≡ flat_map line_text lines
joined [] = refl
joined (line ∷ []) = sym (append-nil (line ++ 10 ∷ []))
joined (line ∷ next ∷ lines) = ap (λ l. line ++ (10 ∷ l)) (joined (next ∷ lines)) ∙ sym (append_assoc line (10 ∷ []) (flat_map line_text (next ∷ lines)))

-- and the other way round
pub bytes_of_pieces : (bytes : List ℕ) (lines : List (List ℕ)) → pieces_of bytes ≡ lines ++ [] ∷ [] → bytes ≡ flat_map line_text lines
bytes_of_pieces bytes lines split = sym (join_with_byte-slice_split 10 bytes) ∙ ap (join_with_byte 10) split ∙ joined lines

abbrev Plain : List ℕ → Type 0
Plain line = AllByRecursion (λ b. b ≢ 10) line

onto_plain : (b : ℕ) (parts : List (List ℕ)) → b ≢ 10 → AllByRecursion Plain parts → AllByRecursion Plain (onto_first b parts)
onto_plain b [] ne all = ((ne, tt), tt)
onto_plain b (part ∷ parts) ne all = ((ne, all.0), all.1)

pub pieces_plain : (bytes : List ℕ) → AllByRecursion Plain (pieces_of bytes)
pieces_plain [] = (tt, tt)
pieces_plain (b ∷ bytes) = go (pieces_plain bytes) (eqb b 10) refl where
  go : AllByRecursion Plain (pieces_of bytes) → (c : Bool) → eqb b 10 ≡ c → AllByRecursion Plain (cond c ([] ∷ pieces_of bytes) (onto_first b (pieces_of bytes)))
  go rest true e = (tt, rest)
  go rest false e = onto_plain b (pieces_of bytes) (grind (arith, nat_tests)) rest

pub lines_plain : (lines : List (List ℕ)) → AllByRecursion Plain (lines ++ [] ∷ []) → AllByRecursion NoEnd lines
lines_plain [] all = tt
lines_plain (line ∷ lines) all = (All-from_recursion (λ b. b ≢ 10) line all.0, lines_plain lines all.1)

pub pieces_are_plain : (bytes : List ℕ) → AllByRecursion NoEnd (pieces_of bytes)
pieces_are_plain bytes = go (pieces_of bytes) (pieces_plain bytes) where
  go : (pieces : List (List ℕ)) → AllByRecursion Plain pieces → AllByRecursion NoEnd pieces
  go [] all = tt
  go (piece ∷ pieces) all = (All-from_recursion (λ b. b ≢ 10) piece all.0, go pieces all.1)

-- ---- the words of a line

no_space : (word : List ℕ) → All (λ b. b ≢ 32) word → All (λ b. eqb b 32 ≡ false) word
no_space word all k d lt = let other = all k d lt in grind (arith, nat_tests)

pub first_word : (line word after : List ℕ) → line ≡ word ++ 32 ∷ after → All (λ b. b ≢ 32) word → words_of line ≡ word ∷ words_of after
first_word line word after is all = ap words_of is ∙ slice_split_at (λ b. eqb b 32) word 32 after (no_space word all) refl

pub last_word : (line : List ℕ) → All (λ b. b ≢ 32) line → words_of line ≡ line ∷ []
last_word line all = slice_split_none (λ b. eqb b 32) line (no_space line all)
