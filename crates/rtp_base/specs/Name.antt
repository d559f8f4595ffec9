-- Names of media and of streams in a header extension: 1 to 16 ASCII bytes.
use Rattle.std.specs.Prelude.{◌≡◌, ℕ, ◌-◌, ◌≤◌, Bool, true, ◌&&◌, nat_lt, nat_le, if◌then◌else◌, Option, Some, None, List, ◌++◌, length, take, replicate}
use Rattle.std.specs.List.{list_all}
use Rattle.rtp_base.specs.declared.name.TheConstants.{MAX_NAME_LEN}

-- 1 to 16 ASCII bytes
abbrev pub is_name : List ℕ → Bool
is_name bytes = nat_le 1 (length bytes) && nat_le (length bytes) MAX_NAME_LEN && list_all (λ b. nat_lt b 128) bytes

-- the name that the bytes are, if they are one
abbrev pub name_of : List ℕ → Option (List ℕ)
name_of bytes = if is_name bytes then Some bytes else None

-- a name as it is kept: its bytes with zeros behind them, 16 in all
pub record IsKeptName (kept : List ℕ) (len : ℕ) : Type 0 where
  pub long : length kept ≡ MAX_NAME_LEN
  pub zeros : kept ≡ take len kept ++ replicate (MAX_NAME_LEN - len) 0
  pub name : is_name (take len kept) ≡ true
  pub within : len ≤ MAX_NAME_LEN
