use Rattle.std.proofs.Common.{◌≡◌, ℕ, ◌+◌, eqb, leb, ltb, List, length, ap, sym, ◌∙◌, arith}
use Rattle.std.specs.Prelude.{filter}
use Rattle.std.specs.List.{slice_split}
use Rattle.std.proofs.lemmas.Bool.Decides.{nat_tests}
use Rattle.std.proofs.lemmas.List.Sums.{length-filter}
use Rattle.std.proofs.lemmas.List.Splits.{length-slice_split}
use Rattle.media_script.proofs.lines.is_long.Goals as goal

-- one word more than spaces
one_more : (line : List ℕ) → length (slice_split (λ b. eqb b 32) line) ≡ length (filter (λ b. eqb b 32) line) + 1
one_more line = length-slice_split (λ b. eqb b 32) line ∙ ap (λ n. n + 1) (sym (length-filter (λ b. eqb b 32) line))

above : (n : ℕ) → leb 16 n ≡ ltb 16 (n + 1)
above n = grind (arith, nat_tests)

pub returns : goal.returns
returns c = ap (leb 16) c.spaces.ensures ∙ above _ ∙ ap (ltb 16) (sym (one_more c.args.line.now))
