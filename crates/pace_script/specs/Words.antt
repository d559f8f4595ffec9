-- What the words of a pace script say.
use Rattle.std.specs.Prelude.{ℕ, ◌+◌, ◌==◌, min, List, Option, Some}
use Rattle.std.specs.List.{slice_split}
use Rattle.media_script.specs.Words.{◌>>=◌, below, number_of, time_of}
use Rattle.media_units.specs.declared.rate.TheConstants.{GREATEST_RATE}
use Rattle.pace_script.specs.declared.words.TheConstants.{MOST_TIME}

-- bits a second; what is above the greatest rate is the greatest
unfoldable pub rate_of : List ℕ → Option ℕ
rate_of word = number_of word >>= λ n. Some (min n GREATEST_RATE)

-- nanoseconds, at most 10^16
unfoldable pub moment_of : List ℕ → Option ℕ
moment_of word = time_of word >>= λ time. below (MOST_TIME + 1) time

-- one colon stands between two parts of a word
abbrev pub parts_of : List ℕ → List (List ℕ)
parts_of word = slice_split (λ b. b == 58) word
