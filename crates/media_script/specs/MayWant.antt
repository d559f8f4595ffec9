-- Which lines take memory, and which scripts may end at one.
use Rattle.std.specs.Prelude.{ℕ, List, [], ◌∷◌, length, Bool, false, not, ◌&&◌, ◌||◌, ◌==◌, if◌then◌else◌, Option, Some, None, codes}
use Rattle.std.specs.Str.{bytes_eq}
use Rattle.media_script.specs.declared.reader.Reader.{Reader}
use Rattle.media_script.specs.declared.reader.Reader.TheVariants.{Head, InSetup, InSteps, Ended}
use Rattle.media_script.specs.Grammar.{is_long, line_taken, pieces_of}
use Rattle.media_script.specs.Spelling.{words_of, is_passed_over}

-- the words of a line take memory: not the first line, begin and end, a line behind end, and one of too many words
abbrev pub takes_words : Reader → List ℕ → Bool
takes_words Head line = false
takes_words (InSetup said) line = not (bytes_eq line (codes "begin")) && not (is_long (words_of line))
takes_words (InSteps said steps) line = not (bytes_eq line (codes "end")) && not (is_long (words_of line))
takes_words (Ended said steps) line = false

abbrev pub takes_memory : Reader → List ℕ → Bool
takes_memory reader line = not (is_passed_over line) && takes_words reader line

abbrev pub if_taken : Option Reader → (Reader → Bool) → Bool
if_taken None more = false
if_taken (Some reader) more = more reader

-- of the pieces between line ends, one is a line that takes memory, and the lines before it are right
unfoldable pub some_takes : Reader → List (List ℕ) → Bool
some_takes reader [] = false
some_takes reader (line ∷ pieces) =
    if length pieces == 0 then false
    else (takes_memory reader line || if_taken (line_taken reader line) (λ more. some_takes more pieces))

-- a line of the script takes memory, and the lines before it are right
abbrev pub may_want : List ℕ → Bool
may_want bytes = some_takes Head (pieces_of bytes)
