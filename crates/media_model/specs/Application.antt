-- What an application sends as feedback.
use Rattle.std.specs.Prelude.{◌≡◌, ◌≤◌, ℕ, ◌%◌, Bool, ◌&&◌, ◌==◌, nat_le, if◌then◌else◌, List, length, Option, Some, None}
use Rattle.media_model.specs.declared.application.TheConstants.{MOST_BYTES}

-- whole words, and not more than 800 bytes
pub record AreFew (bytes : List ℕ) : Type 0 where
  pub whole : length bytes % 4 ≡ 0
  pub few : length bytes ≤ MOST_BYTES

abbrev pub are_few : List ℕ → Bool
are_few bytes = (length bytes % 4 == 0) && nat_le (length bytes) MOST_BYTES

-- the bytes, if they are so
abbrev pub data_of : List ℕ → Option (List ℕ)
data_of bytes = if are_few bytes then Some bytes else None
