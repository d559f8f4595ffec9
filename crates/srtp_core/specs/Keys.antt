-- Keying material, and the session keys derived from it (RFC 3711, 4.3; RFC 7714, 11).
use Rattle.std.specs.Prelude.{ℕ, ◌+◌, ◌*◌, ◌-◌, Bool, if◌then◌else◌, List, ◌++◌, length, take, drop, replicate, slice_index, slice_set, bit_xor}
use Rattle.std.specs.Int.{w16, to_be_bytes}
use Rattle.srtp_core.specs.Cipher.{CipherMeaning}
use Rattle.media_base.specs.Text.{bytes_by}
use Rattle.srtp_core.specs.Streams.{blocks_at}
use Rattle.srtp_core.specs.declared.aes_128_cm_sha1_80.TheConstants as cm
use Rattle.srtp_core.specs.declared.aead_aes_128_gcm.TheConstants as gcm_128
use Rattle.srtp_core.specs.declared.aead_aes_256_gcm.TheConstants as gcm_256
use Rattle.srtp_core.specs.declared.keying.TheConstants.{LABEL_RTP_AES, LABEL_RTP_AUTHENTICATION_KEY, LABEL_RTP_SALT, LABEL_RTCP_AES, LABEL_RTCP_AUTHENTICATION_KEY, LABEL_RTCP_SALT}
use Rattle.srtp_core.specs.declared.profile.SrtpProfile.{SrtpProfile}
use Rattle.srtp_core.specs.declared.profile.SrtpProfile.TheVariants.{Aes128CmSha1_80, AeadAes128Gcm, AeadAes256Gcm}

-- the length of a key, of a salt, of an authentication key and of a tag
abbrev pub key_len : SrtpProfile → ℕ
key_len Aes128CmSha1_80 = cm.KEY_LEN
key_len AeadAes128Gcm = gcm_128.KEY_LEN
key_len AeadAes256Gcm = gcm_256.KEY_LEN

abbrev pub salt_len : SrtpProfile → ℕ
salt_len Aes128CmSha1_80 = cm.SALT_LEN
salt_len AeadAes128Gcm = gcm_128.SALT_LEN
salt_len AeadAes256Gcm = gcm_256.SALT_LEN

abbrev pub authentication_len : SrtpProfile → ℕ
authentication_len Aes128CmSha1_80 = cm.HMAC_KEY_LEN
authentication_len AeadAes128Gcm = 0
authentication_len AeadAes256Gcm = 0

abbrev pub tag_len : SrtpProfile → ℕ
tag_len Aes128CmSha1_80 = cm.HMAC_TAG_LEN
tag_len AeadAes128Gcm = gcm_128.TAG_LEN
tag_len AeadAes256Gcm = gcm_256.TAG_LEN

-- keying material is the left key, the right key, the left salt, the right salt (RFC 5764, 4.2)
abbrev pub material_len : SrtpProfile → ℕ
material_len profile = 2 * key_len profile + 2 * salt_len profile

abbrev pub master_key : ℕ → List ℕ → Bool → List ℕ
master_key k material left = take k (drop (if left then 0 else k) material)

abbrev pub master_salt : ℕ → ℕ → List ℕ → Bool → List ℕ
master_salt k s material left = take s (drop (2 * k + (if left then 0 else s)) material)

-- the salt with zeros at its end, as long as that of counter mode
abbrev pub padded : List ℕ → List ℕ
padded salt = salt ++ replicate (cm.SALT_LEN - length salt) 0

-- what is enciphered in a round: the padded salt, its byte 7 XORed with the label, and the number of the round
unfoldable pub derivation_input : List ℕ → ℕ → ℕ → List ℕ
derivation_input salt label round = slice_set (padded salt) 7 (bit_xor (slice_index (padded salt) 7) label) ++ to_be_bytes w16 round

-- n bytes of the blocks of the rounds, one after another
unfoldable pub derived : (List ℕ → List ℕ) → List ℕ → ℕ → ℕ → List ℕ
derived block salt label n = bytes_by (λ i. blocks_at (λ round. block (derivation_input salt label round)) i) n

-- the six strings derived for a direction
pub record SessionKeys : Type 0 where
  pub rtp_key : List ℕ
  pub rtp_authentication : List ℕ
  pub rtp_salt : List ℕ
  pub rtcp_key : List ℕ
  pub rtcp_authentication : List ℕ
  pub rtcp_salt : List ℕ

-- from a master key and its salt, with the labels 0 to 5
abbrev pub keys_of : CipherMeaning → SrtpProfile → List ℕ → List ℕ → SessionKeys
keys_of cipher profile key salt = record {
  rtp_key = derived (cipher.block key) salt LABEL_RTP_AES (key_len profile);
  rtp_authentication = derived (cipher.block key) salt LABEL_RTP_AUTHENTICATION_KEY (authentication_len profile);
  rtp_salt = derived (cipher.block key) salt LABEL_RTP_SALT (salt_len profile);
  rtcp_key = derived (cipher.block key) salt LABEL_RTCP_AES (key_len profile);
  rtcp_authentication = derived (cipher.block key) salt LABEL_RTCP_AUTHENTICATION_KEY (authentication_len profile);
  rtcp_salt = derived (cipher.block key) salt LABEL_RTCP_SALT (salt_len profile);
}

-- the keys under which the left side, or the right side, seals
abbrev pub session_keys : CipherMeaning → SrtpProfile → List ℕ → Bool → SessionKeys
session_keys cipher profile material left =
    keys_of cipher profile (master_key (key_len profile) material left) (master_salt (key_len profile) (salt_len profile) material left)
