-- How long a sealed compound is.
use Rattle.std.proofs.Common.{◌≡◌, ◌≢◌, ℕ, suc, ◌+◌, ◌-◌, ◌/◌, ◌*◌, ◌≤◌, Bool, true, false, List, [], ◌∷◌, ◌++◌, length, take, refl, arith, lit≤}
use Rattle.std.proofs.lemmas.Bool.Decides.{nat_tests}
use Rattle.std.proofs.lemmas.List.{length-append}
use Rattle.std.specs.Prelude.{nat_le, if◌then◌else◌}
use Rattle.std.specs.List.{flat_map, AllByRecursion}
use Rattle.rtcp_wire.specs.declared.packet.Rtcp.{Rtcp}
use Rattle.rtcp_wire.specs.Texts.{text_of, fitting}
use Rattle.srtp_core.specs.Cipher.{CipherMeaning}
use Rattle.srtp_core.specs.Contexts.{SrtpState}
use Rattle.srtp_core.specs.Keys.{tag_len}
use Rattle.srtp_core.specs.Laws.{RtcpSealKeepsHeader}
use Rattle.srtp_core.specs.declared.profile.SrtpProfile.{SrtpProfile}
use Rattle.srtp_core.specs.declared.profile.SrtpProfile.TheVariants.{Aes128CmSha1_80, AeadAes128Gcm, AeadAes256Gcm}
use Rattle.session_core.specs.Feedback.{FitsAlone, room_of, compound_of, sealed_compound}

-- one item more, in front of what fits the rest of a room
fits_on : (room : ℕ) (x : Rtcp) (xs : List Rtcp)
    → length (flat_map text_of (take (fitting (room - length (text_of x)) xs) xs)) ≤ room - length (text_of x)
    → length (flat_map text_of (take (fitting room (x ∷ xs)) (x ∷ xs))) ≤ room
fits_on room x xs rest = pick (nat_le (length (text_of x)) room) refl where
  pick : (b : Bool) → nat_le (length (text_of x)) room ≡ b
      → length (flat_map text_of (take (if b then suc (fitting (room - length (text_of x)) xs) else 0) (x ∷ xs))) ≤ room
  pick false is = omega arith
  pick true is =
      let n = fitting (room - length (text_of x)) xs in
      let here : length (text_of x) ≤ room = grind (arith, nat_tests) in
      let both : length (text_of x ++ flat_map text_of (take n xs)) ≡ length (text_of x) + length (flat_map text_of (take n xs)) =
      length-append (text_of x) (flat_map text_of (take n xs)) in
      omega arith

-- what fits a room has at most as many bytes
fits_in : (room : ℕ) (items : List Rtcp) → length (flat_map text_of (take (fitting room items) items)) ≤ room
fits_in room [] = omega arith
fits_in room (x ∷ xs) = fits_on room x xs (fits_in (room - length (text_of x)) xs)

-- where the first item fits, the compound has at least its bytes
has_first : (room : ℕ) (x : Rtcp) (xs : List Rtcp) → length (text_of x) ≤ room
    → length (text_of x) ≤ length (flat_map text_of (take (fitting room (x ∷ xs)) (x ∷ xs)))
has_first room x xs fits = pick (nat_le (length (text_of x)) room) refl where
  pick : (b : Bool) → nat_le (length (text_of x)) room ≡ b
      → length (text_of x) ≤ length (flat_map text_of (take (if b then suc (fitting (room - length (text_of x)) xs) else 0) (x ∷ xs)))
  pick false is = absurd (grind (arith, nat_tests))
  pick true is =
      let n = fitting (room - length (text_of x)) xs in
      let both : length (text_of x ++ flat_map text_of (take n xs)) ≡ length (text_of x) + length (flat_map text_of (take n xs)) =
      length-append (text_of x) (flat_map text_of (take n xs)) in
      omega arith

short_tag : (profile : SrtpProfile) → tag_len profile ≤ 16
short_tag Aes128CmSha1_80 = lit≤ tt
short_tag AeadAes128Gcm = lit≤ tt
short_tag AeadAes256Gcm = lit≤ tt

pub keeps_to_target : (cipher : CipherMeaning) → RtcpSealKeepsHeader cipher → (target : ℕ) (items : List Rtcp) (state : SrtpState) → 900 ≤ target → items ≢ [] → AllByRecursion FitsAlone items
    → length (sealed_compound cipher (compound_of target items) state).bytes ≤ target
keeps_to_target cipher law target [] state least some fit = absurd (some refl)
keeps_to_target cipher law target (x ∷ xs) state least some fit =
    let first : FitsAlone x = fit.0 in
    let plain = compound_of target (x ∷ xs) in
    let few = first.few in
    let room : length (text_of x) ≤ room_of target = omega arith in
    let short : length plain ≤ room_of target = fits_in (room_of target) (x ∷ xs) in
    let there : length (text_of x) ≤ length plain = has_first (room_of target) x xs room in
    let long = first.long in
    let sealed = (law state.profile state.keys true state.srtcp_index plain (omega arith)).1 in
    let tag = short_tag state.profile in
    omega arith
