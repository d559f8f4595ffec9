-- The toy cipher.
use Rattle.std.specs.Prelude.{ℕ, ◌+◌, ◌%◌, ◌^◌, ◌==◌, if◌then◌else◌, List, [], ◌∷◌, ◌++◌, slice_index, bit_xor}
use Rattle.std.specs.Int.{w32, w128, to_be_bytes}
use Rattle.std.specs.Simd.Lanes.{zip2}
use Rattle.media_base.specs.Text.{bytes_by}
use Rattle.srtp_core.specs.Cipher.{CipherMeaning}
use Rattle.srtp_core.specs.Simulated.{simulated}
use Rattle.srtp_core.specs.declared.TheConstants.{SRTP_BLOCK_SIZE}
use Rattle.srtp_core.specs.declared.aead_aes_128_gcm.TheConstants.{TAG_LEN}

-- a block XOR the key: of a key of 32 bytes XOR both halves. Past the end of a key of 16 bytes there is nothing to add
abbrev pub toy_block_byte : List ℕ → List ℕ → ℕ → ℕ
toy_block_byte k x i = bit_xor (bit_xor (slice_index x i) (slice_index k i)) (slice_index k (SRTP_BLOCK_SIZE + i))

unfoldable pub toy_block : List ℕ → List ℕ → List ℕ
toy_block k x = bytes_by (toy_block_byte k x) SRTP_BLOCK_SIZE

-- block n of the stream, of the block of the nonce and the word 0
abbrev pub word_block : List ℕ → ℕ → List ℕ
word_block first n = zip2 bit_xor first (to_be_bytes w128 ((n + 2) % 2 ^ 32))

-- all bytes at the places that are j modulo 16, XORed; the first byte stands at place i
abbrev pub column : ℕ → ℕ → List ℕ → ℕ
column j i [] = 0
column j i (b ∷ bs) = bit_xor (if i % SRTP_BLOCK_SIZE == j then b else 0) (column j (i + 1) bs)

-- byte j is that of the block of the nonce and the word 1, XOR column j of the associated data with the text behind it
unfoldable pub toy_tag : List ℕ → List ℕ → List ℕ → List ℕ → List ℕ
toy_tag k iv aad p = bytes_by (λ j. bit_xor (slice_index (toy_block k (iv ++ to_be_bytes w32 1)) j) (column j 0 (aad ++ p))) TAG_LEN

abbrev pub toy_meaning : CipherMeaning
toy_meaning = simulated toy_block toy_tag
