-- Sealed RTCP packets (RFC 3711, 3.4; RFC 7714, 9 and 17).
use Rattle.std.specs.Prelude.{ℕ, ◌≡◌, ◌≤◌, ◌+◌, ◌-◌, ◌%◌, Bool, true, false, nat_le, List, [], ◌++◌, length, take, drop}
use Rattle.std.specs.Int.{w32, to_be_bytes}
use Rattle.rtp_base.specs.Wire.{word_at}
use Rattle.srtp_core.specs.Cipher.{CipherMeaning}
use Rattle.srtp_core.specs.Streams.{streamed}
use Rattle.srtp_core.specs.Hmac.{hmac_of}
use Rattle.srtp_core.specs.Keys.{SessionKeys}
use Rattle.srtp_core.specs.Seals.{gcm_rtcp_iv, cm_iv}
use Rattle.srtp_core.specs.declared.aes_128_cm_sha1_80.TheConstants.{HMAC_TAG_LEN, RTCP_WORD_PLACE}
use Rattle.srtp_core.specs.declared.srtcp.TheConstants.{E_BIT, HEADER_LEN, WORD_LEN}
use Rattle.srtp_core.specs.declared.profile.SrtpProfile.{SrtpProfile}
use Rattle.srtp_core.specs.declared.profile.SrtpProfile.TheVariants.{Aes128CmSha1_80, AeadAes128Gcm, AeadAes256Gcm}

-- the E bit, set where the packet is encrypted, and the index of 31 bits
abbrev pub e_and_index : Bool → ℕ → List ℕ
e_and_index true index = to_be_bytes w32 (E_BIT + index)
e_and_index false index = to_be_bytes w32 index

-- the SSRC of a packet whose first 8 bytes these are
abbrev pub sender_of : List ℕ → ℕ
sender_of header = word_at header 4

-- RFC 7714, 9.2 and 9.3. Encrypted: the first 8 bytes, the rest sealed with these 8 bytes and the word as associated
-- data, the word. Else: the packet, the tag over packet and word, the word
abbrev pub gcm_sealed_rtcp : CipherMeaning → List ℕ → List ℕ → Bool → ℕ → List ℕ → List ℕ → List ℕ
gcm_sealed_rtcp cipher key salt true index header rest =
    header ++ cipher.aead key (gcm_rtcp_iv salt (sender_of header) index) (header ++ e_and_index true index) rest ++ e_and_index true index
gcm_sealed_rtcp cipher key salt false index header rest =
    header ++ rest ++ cipher.aead key (gcm_rtcp_iv salt (sender_of header) index) (header ++ rest ++ e_and_index false index) [] ++ e_and_index false index

-- the rest of a packet as it is sent
abbrev pub cm_rest : CipherMeaning → List ℕ → List ℕ → Bool → ℕ → List ℕ → List ℕ → List ℕ
cm_rest cipher key salt true index header rest = streamed (cipher.keystream key (cm_iv salt (sender_of header) index)) rest
cm_rest cipher key salt false index header rest = rest

-- RFC 3711, 3.4 and 4.2: the first 8 bytes, the rest, the word, and the first 10 bytes of the code over all of these
abbrev pub cm_sealed_rtcp : CipherMeaning → List ℕ → List ℕ → List ℕ → Bool → ℕ → List ℕ → List ℕ → List ℕ
cm_sealed_rtcp cipher key authentication salt encrypted index header rest =
    let text = header ++ cm_rest cipher key salt encrypted index header rest ++ e_and_index encrypted index in
    text ++ take HMAC_TAG_LEN (hmac_of authentication text)

abbrev pub rtcp_seal : CipherMeaning → SrtpProfile → SessionKeys → Bool → ℕ → List ℕ → List ℕ → List ℕ
rtcp_seal cipher Aes128CmSha1_80 keys encrypted index header rest = cm_sealed_rtcp cipher keys.rtcp_key keys.rtcp_authentication keys.rtcp_salt encrypted index header rest
rtcp_seal cipher AeadAes128Gcm keys encrypted index header rest = gcm_sealed_rtcp cipher keys.rtcp_key keys.rtcp_salt encrypted index header rest
rtcp_seal cipher AeadAes256Gcm keys encrypted index header rest = gcm_sealed_rtcp cipher keys.rtcp_key keys.rtcp_salt encrypted index header rest

-- a packet of at least 8 bytes, sealed under its index
unfoldable pub sealed_rtcp : CipherMeaning → SrtpProfile → SessionKeys → Bool → ℕ → List ℕ → List ℕ
sealed_rtcp cipher profile keys encrypted index plain = rtcp_seal cipher profile keys encrypted index (take HEADER_LEN plain) (drop HEADER_LEN plain)

-- how far before the end the word stands: under counter mode the tag stands behind it
abbrev pub word_place : SrtpProfile → ℕ
word_place Aes128CmSha1_80 = RTCP_WORD_PLACE
word_place AeadAes128Gcm = WORD_LEN
word_place AeadAes256Gcm = WORD_LEN

-- what a datagram states: its word, and in it the E bit and the index
unfoldable pub stated_word : SrtpProfile → List ℕ → ℕ
stated_word profile bytes = word_at bytes (length bytes - word_place profile)

abbrev pub stated_bit : SrtpProfile → List ℕ → Bool
stated_bit profile bytes = nat_le E_BIT (stated_word profile bytes)

abbrev pub stated_index : SrtpProfile → List ℕ → ℕ
stated_index profile bytes = stated_word profile bytes % E_BIT

-- a datagram is the seal of this packet under the E bit and the index that it states
pub record RtcpOpensTo (cipher : CipherMeaning) (profile : SrtpProfile) (keys : SessionKeys) (bytes plain : List ℕ) : Type 0 where
  pub header : HEADER_LEN ≤ length plain
  pub seal : sealed_rtcp cipher profile keys (stated_bit profile bytes) (stated_index profile bytes) plain ≡ bytes

-- the same with the authenticated encryption alone: the word is the last 4 bytes
pub record GcmRtcpOpens (cipher : CipherMeaning) (key salt bytes plain : List ℕ) : Type 0 where
  pub header : HEADER_LEN ≤ length plain
  pub seal : let word = word_at bytes (length bytes - WORD_LEN) in
      gcm_sealed_rtcp cipher key salt (nat_le E_BIT word) (word % E_BIT) (take HEADER_LEN plain) (drop HEADER_LEN plain) ≡ bytes
