-- Streams of key bytes, and texts XORed with them.
use Rattle.std.specs.Prelude.{ℕ, ◌+◌, ◌/◌, ◌%◌, ◌^◌, List, ◌++◌, length, slice_index, bit_xor}
use Rattle.std.specs.Int.{w32, w128, to_be_bytes, from_be_bytes}
use Rattle.media_base.specs.Text.{bytes_by}
use Rattle.srtp_core.specs.declared.TheConstants.{SRTP_BLOCK_SIZE}
use Rattle.srtp_core.specs.declared.key_stream.Counter.{Counter}
use Rattle.srtp_core.specs.declared.key_stream.Counter.TheVariants.{Number, Word}

-- a text XORed with a stream, whose byte i is stream i
unfoldable pub streamed : (ℕ → ℕ) → List ℕ → List ℕ
streamed stream text = bytes_by (λ i. bit_xor (slice_index text i) (stream i)) (length text)

-- blocks of 16 bytes, one after another: byte i is byte i % 16 of block i / 16
abbrev pub blocks_at : (ℕ → List ℕ) → ℕ → ℕ
blocks_at block i = slice_index (block (i / SRTP_BLOCK_SIZE)) (i % SRTP_BLOCK_SIZE)

-- counter mode (RFC 3711, 4.1.1): what is enciphered for block n is the initial value, as a number, plus n modulo 2^128
abbrev pub counter_mode : (List ℕ → List ℕ) → List ℕ → ℕ → ℕ
counter_mode block iv i = blocks_at (λ n. block (to_be_bytes w128 ((from_be_bytes w128 iv + n) % 2 ^ 128))) i

-- what is enciphered for block n
abbrev pub counter_input : Counter → ℕ → List ℕ
counter_input (Number first) n = to_be_bytes w128 ((first + n) % 2 ^ 128)
counter_input (Word iv) n = iv ++ to_be_bytes w32 ((n + 2) % 2 ^ 32)
