-- Ciphers that are made of a block and a tag.
use Rattle.std.specs.Prelude.{ℕ, ◌+◌, ◌%◌, ◌^◌, List, ◌++◌}
use Rattle.std.specs.Int.{w32, to_be_bytes}
use Rattle.srtp_core.specs.Cipher.{CipherMeaning}
use Rattle.srtp_core.specs.Streams.{blocks_at, streamed, counter_mode}

-- block n of the stream is that of the nonce and the word n + 2
abbrev pub nonce_stream : (List ℕ → List ℕ → List ℕ) → List ℕ → List ℕ → ℕ → ℕ
nonce_stream block key iv i = blocks_at (λ n. block key (iv ++ to_be_bytes w32 ((n + 2) % 2 ^ 32))) i

-- the text XOR the stream, and the tag of the associated data and the text
unfoldable pub sealed_text : (List ℕ → List ℕ → List ℕ) → (List ℕ → List ℕ → List ℕ → List ℕ → List ℕ) → List ℕ → List ℕ → List ℕ → List ℕ → List ℕ
sealed_text block tag key iv aad text = streamed (nonce_stream block key iv) text ++ tag key iv aad text

abbrev pub simulated : (List ℕ → List ℕ → List ℕ) → (List ℕ → List ℕ → List ℕ → List ℕ → List ℕ) → CipherMeaning
simulated block tag = record {
  block = block;
  keystream = λ key. counter_mode (block key);
  aead = sealed_text block tag;
}
