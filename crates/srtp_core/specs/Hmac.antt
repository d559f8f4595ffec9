use Rattle.std.specs.Prelude.{ℕ, List, ◌++◌, length, nat_lt, if◌then◌else◌, slice_index, bit_xor}
use Rattle.media_base.specs.Text.{bytes_by}
use Rattle.sha1.specs.Sha1.{sha1}
use Rattle.srtp_core.specs.declared.hmac.TheConstants.{HMAC_BLOCK_LEN, IPAD, OPAD}

-- a key with zeros at its end, each of its 64 bytes XORed with one
unfoldable pub pad_of : List ℕ → ℕ → List ℕ
pad_of key with = bytes_by (λ i. bit_xor with (slice_index key i)) HMAC_BLOCK_LEN

-- a key that is longer than a block of 64 bytes stands for its digest
abbrev pub block_key : List ℕ → List ℕ
block_key key = if nat_lt HMAC_BLOCK_LEN (length key) then sha1 key else key

-- HMAC-SHA1 of a message (RFC 2104)
unfoldable pub hmac_of : List ℕ → List ℕ → List ℕ
hmac_of key m = sha1 (pad_of (block_key key) OPAD ++ sha1 (pad_of (block_key key) IPAD ++ m))
