use Rattle.std.proofs.Common.{◌≡◌, ℕ, ◌<◌, ◌^◌, true, take, get_or}
use Rattle.std.specs.Char.{is_ascii_digit}
use Rattle.std.specs.Str.Parse.{digits_value}
use Rattle.media_script.proofs.words.number.Given as goal

abbrev pub invariant-loop-b : goal.invariant-loop-b
invariant-loop-b l = record {
  digits : (k : ℕ) → k < l.b-index → is_ascii_digit (get_or l.word k 0) ≡ true;
  small : l.value < 2 ^ 64;
  value : l.value ≡ digits_value 10 (take l.b-index l.word);
}
