-- What a cipher means.
use Rattle.std.specs.Prelude.{ℕ, List}

-- block: the bytes of a key, and a block: the block enciphered. keystream: the bytes of a key, and an initial value:
-- byte i of the key stream. aead: the bytes of a key, the nonce, the associated data and the plain text: the sealed text
pub record CipherMeaning : Type 0 where
  pub block : List ℕ → List ℕ → List ℕ
  pub keystream : List ℕ → List ℕ → ℕ → ℕ
  pub aead : List ℕ → List ℕ → List ℕ → List ℕ → List ℕ
