-- The cipher over SHA-1.
use Rattle.std.specs.Prelude.{ℕ, List, ◌++◌, length, take}
use Rattle.std.specs.Int.{w64, to_be_bytes}
use Rattle.sha1.specs.Sha1.{sha1}
use Rattle.srtp_core.specs.Cipher.{CipherMeaning}
use Rattle.srtp_core.specs.Simulated.{simulated}
use Rattle.srtp_core.specs.declared.TheConstants.{SRTP_BLOCK_SIZE}
use Rattle.srtp_core.specs.declared.aead_aes_128_gcm.TheConstants.{TAG_LEN}

-- the first 16 bytes of the digest of key and block
unfoldable pub sha_block : List ℕ → List ℕ → List ℕ
sha_block k x = take SRTP_BLOCK_SIZE (sha1 (k ++ x))

-- the first 16 bytes of the digest of key, nonce, the length of the associated data, these data and the text
unfoldable pub sha_tag : List ℕ → List ℕ → List ℕ → List ℕ → List ℕ
sha_tag k iv aad p = take TAG_LEN (sha1 (k ++ iv ++ to_be_bytes w64 (length aad) ++ aad ++ p))

abbrev pub sha_meaning : CipherMeaning
sha_meaning = simulated sha_block sha_tag
