-- Texts of bytes made from parts.
use Rattle.std.specs.Prelude.{ℕ, List, length, map, slice_index, bit_xor}
use Rattle.std.specs.List.{range_with_len}

-- n bytes, byte i being f i
abbrev pub bytes_by : (ℕ → ℕ) → ℕ → List ℕ
bytes_by f n = map f (range_with_len 0 n)

-- two texts XORed, as long as the first
unfoldable pub xored : List ℕ → List ℕ → List ℕ
xored xs ys = bytes_by (λ i. bit_xor (slice_index xs i) (slice_index ys i)) (length xs)
