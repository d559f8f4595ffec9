-- What a sealed datagram has of the plain one.
use Rattle.std.proofs.Common.{◌≡◌, ℕ, ◌+◌, ◌/◌, ◌%◌, ◌≤◌, List, ◌++◌, length, take, drop, arith}
use Rattle.std.proofs.lemmas.List.{length-append, length-drop}
use Rattle.std.specs.Int.{w32, to_be_bytes}
use Rattle.srtp_core.specs.Cipher.{CipherMeaning}
use Rattle.srtp_core.specs.Keys.{SessionKeys}
use Rattle.srtp_core.specs.Streams.{streamed}
use Rattle.srtp_core.proofs.SimulatedLaws.{length-streamed}
use Rattle.srtp_core.specs.Seals.{gcm_rtp_iv, cm_iv, cm_rtp_tag, rtp_seal, sealed_rtp}
use Rattle.srtp_core.specs.Laws.{RtpSealKeepsHeader}
use Rattle.srtp_core.specs.declared.profile.SrtpProfile.{SrtpProfile}
use Rattle.srtp_core.specs.declared.profile.SrtpProfile.TheVariants.{Aes128CmSha1_80, AeadAes128Gcm, AeadAes256Gcm}
use Rattle.srtp_core.proofs.Codes.{length-tag}
use Rattle.srtp_core.proofs.Lists.{length-front}
use Rattle.srtp_core.proofs.Sealing.{rtp_front}

module _ (cipher : CipherMeaning) (longer : (key iv aad plain : List ℕ) → length (cipher.aead key iv aad plain) ≡ length plain + 16) where
  sizes : (profile : SrtpProfile) (keys : SessionKeys) (ssrc index : ℕ) (h p : List ℕ)
      → (length h + length p ≤ length (rtp_seal cipher profile keys ssrc index h p)) × (length (rtp_seal cipher profile keys ssrc index h p) ≤ length h + length p + 16)
  sizes Aes128CmSha1_80 keys ssrc index h p =
      let s = streamed (cipher.keystream keys.rtp_key (cm_iv keys.rtp_salt ssrc index)) p in
      let t = cm_rtp_tag keys.rtp_authentication index (h ++ s) in
      let a = length-append (h ++ s) t in
      let b = length-append h s in
      let c = length-streamed (cipher.keystream keys.rtp_key (cm_iv keys.rtp_salt ssrc index)) p in
      let d = length-tag keys.rtp_authentication ((h ++ s) ++ to_be_bytes w32 (index / 65536)) in
      (omega (arith, a, b, c, d), omega (arith, a, b, c, d))
  sizes AeadAes128Gcm keys ssrc index h p =
      let iv = gcm_rtp_iv keys.rtp_salt ssrc (index / 65536) (index % 65536) in
      let a = length-append h (cipher.aead keys.rtp_key iv h p) in
      let b = longer keys.rtp_key iv h p in
      (omega (arith, a, b), omega (arith, a, b))
  sizes AeadAes256Gcm keys ssrc index h p =
      let iv = gcm_rtp_iv keys.rtp_salt ssrc (index / 65536) (index % 65536) in
      let a = length-append h (cipher.aead keys.rtp_key iv h p) in
      let b = longer keys.rtp_key iv h p in
      (omega (arith, a, b), omega (arith, a, b))

  pub seal_keeps_header : RtpSealKeepsHeader cipher
  unfolding sealed_rtp
  seal_keeps_header profile keys ssrc index n plain h =
      let size = sizes profile keys ssrc index (take n plain) (drop n plain) in
      let front : length (take n plain) ≡ n = length-front n plain h in
      let back = length-drop n plain in
      (rtp_front cipher profile keys ssrc index n (take n plain) (drop n plain) front, omega (arith, size.0, front, back), omega (arith, size.1, front, back))
