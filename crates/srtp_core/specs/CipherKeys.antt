use Rattle.std.specs.Prelude.{ℕ, List}
use Rattle.srtp_core.specs.declared.cipher_key.ByLength.{ByLength}
use Rattle.srtp_core.specs.declared.cipher_key.ByLength.TheVariants.{Short, Long}

-- the bytes of a key of either length
abbrev pub key_bytes : {C A B : Type 0} → (A → List ℕ) → (B → List ℕ) → ByLength C A B → List ℕ
key_bytes bytes_128 bytes_256 (Short key) = bytes_128 key
key_bytes bytes_128 bytes_256 (Long key) = bytes_256 key
