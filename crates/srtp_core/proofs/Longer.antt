-- By how much a sealed datagram is longer than the plain one.
use Rattle.std.proofs.Common.{◌≡◌, ℕ, ◌+◌, ◌/◌, ◌%◌, List, ◌++◌, length, take, drop, arith}
use Rattle.std.proofs.lemmas.List.{length-append, length-drop}
use Rattle.std.specs.Int.{w32, to_be_bytes}
use Rattle.srtp_core.specs.Cipher.{CipherMeaning}
use Rattle.srtp_core.specs.Keys.{SessionKeys, tag_len}
use Rattle.srtp_core.specs.Streams.{streamed}
use Rattle.srtp_core.proofs.SimulatedLaws.{length-streamed}
use Rattle.srtp_core.specs.Seals.{gcm_rtp_iv, cm_iv, cm_rtp_tag, rtp_seal, sealed_rtp}
use Rattle.srtp_core.specs.Laws.{RtpSealIsLonger}
use Rattle.srtp_core.specs.declared.profile.SrtpProfile.{SrtpProfile}
use Rattle.srtp_core.specs.declared.profile.SrtpProfile.TheVariants.{Aes128CmSha1_80, AeadAes128Gcm, AeadAes256Gcm}
use Rattle.srtp_core.proofs.Codes.{length-tag}
use Rattle.srtp_core.proofs.Lists.{length-front}

module _ (cipher : CipherMeaning) (longer : (key iv aad plain : List ℕ) → length (cipher.aead key iv aad plain) ≡ length plain + 16) where
  size : (profile : SrtpProfile) (keys : SessionKeys) (ssrc index : ℕ) (h p : List ℕ)
      → length (rtp_seal cipher profile keys ssrc index h p) ≡ length h + length p + tag_len profile
  size Aes128CmSha1_80 keys ssrc index h p =
      let s = streamed (cipher.keystream keys.rtp_key (cm_iv keys.rtp_salt ssrc index)) p in
      let t = cm_rtp_tag keys.rtp_authentication index (h ++ s) in
      omega (arith, length-append (h ++ s) t, length-append h s, length-streamed (cipher.keystream keys.rtp_key (cm_iv keys.rtp_salt ssrc index)) p, length-tag keys.rtp_authentication ((h ++ s) ++ to_be_bytes w32 (index / 65536)))
  size AeadAes128Gcm keys ssrc index h p =
      let iv = gcm_rtp_iv keys.rtp_salt ssrc (index / 65536) (index % 65536) in
      omega (arith, length-append h (cipher.aead keys.rtp_key iv h p), longer keys.rtp_key iv h p)
  size AeadAes256Gcm keys ssrc index h p =
      let iv = gcm_rtp_iv keys.rtp_salt ssrc (index / 65536) (index % 65536) in
      omega (arith, length-append h (cipher.aead keys.rtp_key iv h p), longer keys.rtp_key iv h p)

  pub seal_is_longer : RtpSealIsLonger cipher
  unfolding sealed_rtp
  seal_is_longer profile keys ssrc index n plain h =
      omega (arith, size profile keys ssrc index (take n plain) (drop n plain), length-front n plain h, length-drop n plain)
