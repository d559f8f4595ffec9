-- What a sealed RTCP packet has of the plain one.
use Rattle.std.proofs.Common.{◌≡◌, ℕ, ◌+◌, ◌≤◌, Bool, true, false, List, [], ◌++◌, length, take, drop, arith, ◌∙◌}
use Rattle.std.proofs.lemmas.List.{take_at, length-append, length-take, length-drop, take-append-le}
use Rattle.srtp_core.specs.Cipher.{CipherMeaning}
use Rattle.srtp_core.specs.Keys.{SessionKeys, tag_len}
use Rattle.srtp_core.specs.Hmac.{hmac_of}
use Rattle.srtp_core.proofs.Codes.{length-tag}
use Rattle.srtp_core.specs.Seals.{gcm_rtcp_iv}
use Rattle.srtp_core.specs.RtcpSeals.{e_and_index, sender_of, cm_rest, gcm_sealed_rtcp, sealed_rtcp}
use Rattle.srtp_core.specs.Laws.{RtcpSealKeepsHeader}
use Rattle.srtp_core.proofs.Lists.{length-front}
use Rattle.srtp_core.proofs.CmParts.{rest_len, four}
use Rattle.srtp_core.proofs.RtcpParts.{gcm_rtcp_longer}
use Rattle.srtp_core.specs.declared.profile.SrtpProfile.{SrtpProfile}
use Rattle.srtp_core.specs.declared.profile.SrtpProfile.TheVariants.{Aes128CmSha1_80, AeadAes128Gcm, AeadAes256Gcm}

-- of four texts, the first is the front
front_of_three : (header a b : List ℕ) → length header ≡ 8 → take 8 (header ++ a ++ b) ≡ header
front_of_three header a b h = take-append-le 8 (header ++ a) b (omega (arith, length-append header a)) ∙ take_at header a 8 h

front_of_four : (header a b c : List ℕ) → length header ≡ 8 → take 8 (header ++ a ++ b ++ c) ≡ header
front_of_four header a b c h =
    take-append-le 8 (header ++ a ++ b) c (omega (arith, length-append (header ++ a) b, length-append header a)) ∙ front_of_three header a b h

module _ (cipher : CipherMeaning) (longer : (key iv aad plain : List ℕ) → length (cipher.aead key iv aad plain) ≡ length plain + 16) where
  gcm_front : (key salt header rest : List ℕ) (bit : Bool) (index : ℕ) → length header ≡ 8 → take 8 (gcm_sealed_rtcp cipher key salt bit index header rest) ≡ header
  gcm_front key salt header rest true index h =
      front_of_three header (cipher.aead key (gcm_rtcp_iv salt (sender_of header) index) (header ++ e_and_index true index) rest) (e_and_index true index) h
  gcm_front key salt header rest false index h =
      front_of_four header rest (cipher.aead key (gcm_rtcp_iv salt (sender_of header) index) (header ++ rest ++ e_and_index false index) []) (e_and_index false index) h

  front : (profile : SrtpProfile) (keys : SessionKeys) (bit : Bool) (index : ℕ) (plain : List ℕ) → 8 ≤ length plain → take 8 (sealed_rtcp cipher profile keys bit index plain) ≡ take 8 plain
  unfolding sealed_rtcp
  front Aes128CmSha1_80 keys bit index plain h =
      let header = take 8 plain in
      let rest = cm_rest cipher keys.rtcp_key keys.rtcp_salt bit index header (drop 8 plain) in
      let word = e_and_index bit index in
      front_of_four header rest word (take 10 (hmac_of keys.rtcp_authentication (header ++ rest ++ word))) (length-front 8 plain h)
  front AeadAes128Gcm keys bit index plain h = gcm_front keys.rtcp_key keys.rtcp_salt (take 8 plain) (drop 8 plain) bit index (length-front 8 plain h)
  front AeadAes256Gcm keys bit index plain h = gcm_front keys.rtcp_key keys.rtcp_salt (take 8 plain) (drop 8 plain) bit index (length-front 8 plain h)

  size : (profile : SrtpProfile) (keys : SessionKeys) (bit : Bool) (index : ℕ) (plain : List ℕ) → 8 ≤ length plain → length (sealed_rtcp cipher profile keys bit index plain) ≡ length plain + 4 + tag_len profile
  unfolding sealed_rtcp
  size Aes128CmSha1_80 keys bit index plain h =
      let header = take 8 plain in
      let rest = cm_rest cipher keys.rtcp_key keys.rtcp_salt bit index header (drop 8 plain) in
      let word = e_and_index bit index in
      let text = header ++ rest ++ word in
      omega (arith, h, length-append text (take 10 (hmac_of keys.rtcp_authentication text)), length-tag keys.rtcp_authentication text, length-append (header ++ rest) word, four bit index, length-append header rest, rest_len cipher keys.rtcp_key keys.rtcp_salt header (drop 8 plain) bit index, length-take 8 plain, length-drop 8 plain)
  size AeadAes128Gcm keys bit index plain h = omega (arith, gcm_rtcp_longer cipher longer keys.rtcp_key keys.rtcp_salt plain bit index)
  size AeadAes256Gcm keys bit index plain h = omega (arith, gcm_rtcp_longer cipher longer keys.rtcp_key keys.rtcp_salt plain bit index)

  pub rtcp_seal_keeps_header : RtcpSealKeepsHeader cipher
  rtcp_seal_keeps_header profile keys bit index plain h = (front profile keys bit index plain h, size profile keys bit index plain h)
