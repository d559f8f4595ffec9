-- One line read, and what stands behind it.
use Rattle.std.proofs.Common.{◌≡◌, ◌≢◌, ℕ, ◌+◌, cond, eqb, List, ◌∷◌, ◌++◌, length, All, Some, Result, Err, refl, sym, ◌∙◌}
use Rattle.media_script.specs.declared.error.LineError.{LineError}
use Rattle.media_script.specs.declared.error.LineError.TheVariants.{Memory, Outside}
use Rattle.media_script.specs.Gives.{Fails, StopsAt, error_at}
use Rattle.media_script.specs.Grammar.{pieces_of}
use Rattle.media_script.specs.Laws.{PiecesAreLines}
use Rattle.pace_core.specs.declared.run.PaceCall.{PaceCall}
use Rattle.pace_script.specs.declared.reader.Reader.{Reader}
use Rattle.pace_script.specs.Grammar.{read_from, read_then, line_taken, whole_of}

module _ (p : PiecesAreLines) (n : ℕ) (reader : Reader) (bytes : List ℕ) (whole : Result (ℕ × List PaceCall) ℕ) (so_far : read_from n reader (pieces_of bytes) ≡ whole) where
  -- what stands behind the last line end
  pub ends : All (λ b. b ≢ 10) bytes → whole ≡ cond (eqb (length bytes) 0) (whole_of n reader) (Err n)
  unfolding read_from
  ends all = sym so_far ∙ rw (p.last bytes all) refl

  module _ (line after : List ℕ) (is : bytes ≡ line ++ 10 ∷ after) (all : All (λ b. b ≢ 10) line) where
    at : whole ≡ read_then n (line_taken reader line) (λ more. read_from (n + 1) more (pieces_of after))
    unfolding read_from
    at = sym so_far ∙ rw (p.first bytes line after is all, p.some after) refl

    pub goes_on : (more : Reader) → line_taken reader line ≡ Some more → read_from (n + 1) more (pieces_of after) ≡ whole
    goes_on more given = sym (at ∙ rw given refl)

    pub stops : (error : LineError) → Fails error (line_taken reader line) → StopsAt (error_at error n) whole
    stops Memory fails = tt
    stops Outside fails = at ∙ rw fails refl
