-- What a sealed packet reads and opens to.
use Rattle.std.proofs.Common.{◌≡◌, ℕ, ◌≤◌, List, ◌++◌, length, take, drop, refl, sym, ap, ◌∙◌, arith, length-append}
use Rattle.std.specs.Prelude.{Some}
use Rattle.std.proofs.lemmas.List.{take-append-drop, take_at, append_cancel_left}
use Rattle.rtp_wire.specs.declared.extension.ExtensionMap.{ExtensionMap}
use Rattle.rtp_wire.specs.declared.header.RtpHeader.{RtpHeader}
use Rattle.rtp_wire.specs.Header.{header_of, header_bytes, wire_form}
use Rattle.rtp_wire.specs.HeaderLaws.{IsHeader, WrittenIsReadAgain}
use Rattle.srtp_core.specs.Cipher.{CipherMeaning}
use Rattle.srtp_core.specs.Keys.{SessionKeys}
use Rattle.srtp_core.specs.Laws.{RtpSealsApart, RtpSealKeepsHeader}
use Rattle.srtp_core.specs.Seals.{sealed_rtp, OpensTo}
use Rattle.srtp_core.specs.declared.profile.SrtpProfile.{SrtpProfile}

module _ (cipher : CipherMeaning) (profile : SrtpProfile) (keys : SessionKeys) (ssrc index : ℕ) (front payload : List ℕ) where
  -- the sealed packet of this header in bytes and this payload
  abbrev pub sealed_packet : List ℕ
  sealed_packet = sealed_rtp cipher profile keys ssrc index (length front) (front ++ payload)

  within : length front ≤ length (front ++ payload)
  within = omega (arith, length-append front payload)

  -- it begins with the header
  pub begins : RtpSealKeepsHeader cipher → take (length front) sealed_packet ≡ front
  begins keeps = (keeps profile keys ssrc index (length front) (front ++ payload) within).0 ∙ take_at front payload (length front) refl

  -- and opens to the payload alone
  pub opens_to_it : (other : List ℕ) → RtpSealKeepsHeader cipher → RtpSealsApart cipher
      → OpensTo cipher profile keys ssrc index (length front) sealed_packet other → other ≡ payload
  opens_to_it other keeps apart opens =
      let same : take (length front) sealed_packet ++ other ≡ front ++ other = ap (λ (l : List ℕ). l ++ other) (begins keeps) in
      let long : length front ≤ length (front ++ other) = omega (arith, length-append front other) in
      let seals : sealed_rtp cipher profile keys ssrc index (length front) (front ++ other) ≡ sealed_packet =
      ap (sealed_rtp cipher profile keys ssrc index (length front)) (sym same) ∙ opens.seal in
      append_cancel_left front other payload (apart profile keys ssrc index (length front) (front ++ other) (front ++ payload) long within seals)

-- the header that is read off it
pub reads_header : (cipher : CipherMeaning) (profile : SrtpProfile) (keys : SessionKeys) (ssrc index : ℕ) (payload : List ℕ) (exts : ExtensionMap) (h : RtpHeader)
    → WrittenIsReadAgain → RtpSealKeepsHeader cipher → IsHeader h
    → header_of exts (sealed_packet cipher profile keys ssrc index (header_bytes exts h) payload) ≡ Some (wire_form exts h)
reads_header cipher profile keys ssrc index payload exts h again keeps i =
    let front : List ℕ = header_bytes exts h in
    let bytes : List ℕ = sealed_packet cipher profile keys ssrc index front payload in
    let rest : List ℕ = drop (length front) bytes in
    let whole : front ++ rest ≡ bytes = ap (λ (l : List ℕ). l ++ rest) (sym (begins cipher profile keys ssrc index front payload keeps)) ∙ take-append-drop (length front) bytes in
    ap (header_of exts) (sym whole) ∙ again exts h i rest
