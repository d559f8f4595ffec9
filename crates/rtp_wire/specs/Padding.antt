-- Padding of a payload (RFC 3550 section 5.1).
use Rattle.std.specs.Prelude.{ℕ, ◌-◌, nat_le, ◌&&◌, if◌then◌else◌, Option, Some, None, List, length, take, slice_index}

-- the last byte says how many bytes of padding there are, itself among them
abbrev pub padding_length : List ℕ → ℕ
padding_length payload = slice_index payload (length payload - 1)

-- The payload without its padding: nothing where it is empty, or its last byte is 0 or above its length.
abbrev pub unpadded : List ℕ → Option (List ℕ)
unpadded payload =
    if nat_le 1 (padding_length payload) && nat_le (padding_length payload) (length payload)
    then Some (take (length payload - padding_length payload) payload)
    else None
