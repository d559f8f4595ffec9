use Rattle.std.proofs.Common.{◌≡◌, drop}
use Rattle.media_script.specs.Words.{in_table}
use Rattle.media_script.proofs.words.one_of.Given as goal

abbrev pub invariant-loop-text : goal.invariant-loop-text
invariant-loop-text g l = in_table (λ s. s.now) (drop l.text-index l.table) l.word ≡ in_table (λ s. s.now) l.table l.word
