-- The payload of a repair, and of a packet that is only padding.
use Rattle.std.specs.Prelude.{ℕ, ◌+◌, ◌-◌, ◌*◌, ◌/◌, Option, Some, None, List, [], ◌∷◌, ◌++◌, drop, replicate}
use Rattle.std.specs.Option.{option_map}
use Rattle.rtp_wire.specs.declared.header.TheConstants.{ORIGINAL_NUMBER_LEN, PADDING_BLOCK_LEN}

-- the low 16 bits of the number of the packet that is repaired, which stand in front of what a repair carries (RFC 4588
-- section 4), where it carries so much
abbrev pub original_number : List ℕ → Option ℕ
original_number [] = None
original_number (a ∷ []) = None
original_number (a ∷ b ∷ rest) = Some (a * 256 + b)

-- that number, and the payload of that packet behind it
abbrev pub original_of : List ℕ → Option (ℕ × List ℕ)
original_of payload = option_map (λ number. (number, drop ORIGINAL_NUMBER_LEN payload)) (original_number payload)

-- a blank packet of an asked length is that length in whole blocks of 16 bytes
abbrev pub blank_length : ℕ → ℕ
blank_length asked = (asked + (PADDING_BLOCK_LEN - 1)) / PADDING_BLOCK_LEN * PADDING_BLOCK_LEN

-- zeros, and their count with itself in the last byte (RFC 3550 section 5.1)
abbrev pub blank_payload : ℕ → List ℕ
blank_payload asked = replicate (blank_length asked - 1) 0 ++ blank_length asked ∷ []
