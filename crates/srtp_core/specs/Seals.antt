-- Initial values, and sealed datagrams (RFC 3711, 3.1, 3.4, 4.1.1 and 4.2; RFC 7714, 8 and 9).
use Rattle.std.specs.Prelude.{ℕ, ◌≡◌, ◌≤◌, ◌/◌, ◌%◌, List, ◌∷◌, ◌++◌, length, take, drop, replicate}
use Rattle.std.specs.Int.{w16, w32, w64, to_be_bytes}
use Rattle.srtp_core.specs.Cipher.{CipherMeaning}
use Rattle.media_base.specs.Text.{xored}
use Rattle.srtp_core.specs.Streams.{streamed}
use Rattle.srtp_core.specs.Hmac.{hmac_of}
use Rattle.srtp_core.specs.Keys.{SessionKeys}
use Rattle.srtp_core.specs.declared.aes_128_cm_sha1_80.TheConstants.{HMAC_TAG_LEN}
use Rattle.srtp_core.specs.declared.context.TheConstants.{MAX_DATAGRAM_LEN}
use Rattle.srtp_core.specs.declared.profile.SrtpProfile.{SrtpProfile}
use Rattle.srtp_core.specs.declared.profile.SrtpProfile.TheVariants.{Aes128CmSha1_80, AeadAes128Gcm, AeadAes256Gcm}

-- RFC 7714, 8.1: two zero bytes, the SSRC, the rollover count and the sequence number, XOR the salt
unfoldable pub gcm_rtp_iv : List ℕ → ℕ → ℕ → ℕ → List ℕ
gcm_rtp_iv salt ssrc roc seq = xored (0 ∷ 0 ∷ to_be_bytes w32 ssrc ++ to_be_bytes w32 roc ++ to_be_bytes w16 seq) salt

-- RFC 7714, 9.1: two zero bytes, the SSRC, two zero bytes and the index, XOR the salt
unfoldable pub gcm_rtcp_iv : List ℕ → ℕ → ℕ → List ℕ
gcm_rtcp_iv salt ssrc index = xored (0 ∷ 0 ∷ to_be_bytes w32 ssrc ++ 0 ∷ 0 ∷ to_be_bytes w32 index) salt

-- RFC 3711, 4.1.1: the SSRC from byte 4 on, XOR the index from byte 6 on, XOR the salt from byte 0 on
abbrev pub cm_source : ℕ → List ℕ
cm_source ssrc = replicate 4 0 ++ to_be_bytes w32 ssrc ++ replicate 8 0

abbrev pub cm_index : ℕ → List ℕ
cm_index index = replicate 6 0 ++ to_be_bytes w64 index ++ replicate 2 0

unfoldable pub cm_iv : List ℕ → ℕ → ℕ → List ℕ
cm_iv salt ssrc index = xored (xored (cm_source ssrc) (cm_index index)) (salt ++ replicate 2 0)

-- the initial value of an RTP datagram under its index, which is 65,536 times the rollover count plus the sequence number
abbrev pub rtp_iv : SrtpProfile → List ℕ → ℕ → ℕ → List ℕ
rtp_iv Aes128CmSha1_80 salt ssrc index = cm_iv salt ssrc index
rtp_iv AeadAes128Gcm salt ssrc index = gcm_rtp_iv salt ssrc (index / 65536) (index % 65536)
rtp_iv AeadAes256Gcm salt ssrc index = gcm_rtp_iv salt ssrc (index / 65536) (index % 65536)

-- the initial value of an SRTCP datagram under its index
abbrev pub rtcp_iv : SrtpProfile → List ℕ → ℕ → ℕ → List ℕ
rtcp_iv Aes128CmSha1_80 salt ssrc index = cm_iv salt ssrc index
rtcp_iv AeadAes128Gcm salt ssrc index = gcm_rtcp_iv salt ssrc index
rtcp_iv AeadAes256Gcm salt ssrc index = gcm_rtcp_iv salt ssrc index

-- RFC 3711, 4.2: the first 10 bytes of the code over a text and the rollover count
abbrev pub cm_rtp_tag : List ℕ → ℕ → List ℕ → List ℕ
cm_rtp_tag key index text = take HMAC_TAG_LEN (hmac_of key (text ++ to_be_bytes w32 (index / 65536)))

-- RFC 3711, 3.1: the header, the payload XOR the key stream, the tag of both
abbrev pub cm_sealed_rtp : CipherMeaning → List ℕ → List ℕ → List ℕ → ℕ → ℕ → List ℕ → List ℕ → List ℕ
cm_sealed_rtp cipher key authentication salt ssrc index header payload =
    let text = header ++ streamed (cipher.keystream key (cm_iv salt ssrc index)) payload in
    text ++ cm_rtp_tag authentication index text

-- RFC 7714, 8.2: the header, and the payload sealed with the header as associated data
abbrev pub gcm_sealed_rtp : CipherMeaning → List ℕ → List ℕ → ℕ → ℕ → List ℕ → List ℕ → List ℕ
gcm_sealed_rtp cipher key salt ssrc index header payload =
    header ++ cipher.aead key (gcm_rtp_iv salt ssrc (index / 65536) (index % 65536)) header payload

-- a header and a payload under the index, which is 65,536 times the rollover count plus the sequence number
abbrev pub rtp_seal : CipherMeaning → SrtpProfile → SessionKeys → ℕ → ℕ → List ℕ → List ℕ → List ℕ
rtp_seal cipher Aes128CmSha1_80 keys ssrc index header payload = cm_sealed_rtp cipher keys.rtp_key keys.rtp_authentication keys.rtp_salt ssrc index header payload
rtp_seal cipher AeadAes128Gcm keys ssrc index header payload = gcm_sealed_rtp cipher keys.rtp_key keys.rtp_salt ssrc index header payload
rtp_seal cipher AeadAes256Gcm keys ssrc index header payload = gcm_sealed_rtp cipher keys.rtp_key keys.rtp_salt ssrc index header payload

-- a datagram whose header is its first n bytes, sealed
unfoldable pub sealed_rtp : CipherMeaning → SrtpProfile → SessionKeys → ℕ → ℕ → ℕ → List ℕ → List ℕ
sealed_rtp cipher profile keys ssrc index n plain = rtp_seal cipher profile keys ssrc index (take n plain) (drop n plain)

-- a datagram of at most 2,000 bytes whose header is its first n is the seal of that header and this payload
pub record OpensTo (cipher : CipherMeaning) (profile : SrtpProfile) (keys : SessionKeys) (ssrc index n : ℕ) (bytes payload : List ℕ) : Type 0 where
  pub within : length bytes ≤ MAX_DATAGRAM_LEN
  pub header : n ≤ length bytes
  pub seal : sealed_rtp cipher profile keys ssrc index n (take n bytes ++ payload) ≡ bytes
