-- One line read, and what stands behind it.
use Rattle.std.proofs.Common.{◌≡◌, ◌≢◌, ℕ, ◌+◌, Bool, true, false, ◌||◌, cond, eqb, List, ◌∷◌, ◌++◌, length, All, Some, Result, Err, refl, sym, ◌∙◌}
use Rattle.media_script.specs.declared.error.LineError.{LineError}
use Rattle.media_script.specs.declared.error.LineError.TheVariants.{Memory, Outside}
use Rattle.media_script.specs.declared.error.ScriptError.TheVariants as script
use Rattle.media_script.specs.declared.reader.Reader.{Reader}
use Rattle.media_model.specs.declared.setup.Setup.{Setup}
use Rattle.media_model.specs.declared.step.Step.{Step}
use Rattle.media_script.specs.Gives.{Fails, StopsAt, error_at}
use Rattle.media_script.specs.Grammar.{pieces_of, read_from, read_then, line_taken, whole_of}
use Rattle.media_script.specs.MayWant.{takes_memory, if_taken, some_takes}
use Rattle.media_script.proofs.Pieces.{first_piece, last_piece, some_piece}

module _ (n : ℕ) (reader : Reader) (bytes : List ℕ) (whole : Result (Setup × List Step) ℕ) (so_far : read_from n reader (pieces_of bytes) ≡ whole) where
  -- what stands behind the last line end
  pub ends : All (λ b. b ≢ 10) bytes → whole ≡ cond (eqb (length bytes) 0) (whole_of n reader) (Err n)
  unfolding read_from
  ends all = sym so_far ∙ rw (last_piece bytes all) refl

  module _ (line after : List ℕ) (is : bytes ≡ line ++ 10 ∷ after) (all : All (λ b. b ≢ 10) line) where
    at : whole ≡ read_then n (line_taken reader line) (λ more. read_from (n + 1) more (pieces_of after))
    unfolding read_from
    at = sym so_far ∙ rw (first_piece bytes line after is all, some_piece after) refl

    pub goes_on : (more : Reader) → line_taken reader line ≡ Some more → read_from (n + 1) more (pieces_of after) ≡ whole
    goes_on more given = sym (at ∙ rw given refl)

    pub stops : (error : LineError) → Fails error (line_taken reader line) → StopsAt (error_at error n) whole
    stops Memory fails = tt
    stops Outside fails = at ∙ rw fails refl

pub was_memory : (error : LineError) (n : ℕ) → error_at error n ≡ script.Memory → error ≡ Memory
was_memory Memory n is = refl
was_memory Outside n is = cc

or_true : (b : Bool) → (b || true) ≡ true
or_true true = refl
or_true false = refl

-- whether a line takes memory, or one behind it
module _ (reader : Reader) (bytes line after : List ℕ) (is : bytes ≡ line ++ 10 ∷ after) (all : All (λ b. b ≢ 10) line) where
  takes : some_takes reader (pieces_of bytes) ≡ (takes_memory reader line || if_taken (line_taken reader line) (λ more. some_takes more (pieces_of after)))
  unfolding some_takes
  takes = rw (first_piece bytes line after is all, some_piece after) refl

  pub takes_here : takes_memory reader line ≡ true → some_takes reader (pieces_of bytes) ≡ true
  takes_here here = takes ∙ rw here refl

  pub takes_later : (more : Reader) → line_taken reader line ≡ Some more → some_takes more (pieces_of after) ≡ true → some_takes reader (pieces_of bytes) ≡ true
  takes_later more given later = takes ∙ rw (given, later) (or_true (takes_memory reader line))
