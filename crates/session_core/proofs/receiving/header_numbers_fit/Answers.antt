use Rattle.std.proofs.Common.{◌≡◌, ℕ, zero, suc, ◌<◌, List, [], ◌∷◌, drop, get_or, Some, subst, arith}
use Rattle.std.specs.Prelude.{slice_index}
use Rattle.std.specs.Int.{w16, from_be_bytes}
use Rattle.std.proofs.lemmas.Option.{cond_some}
use Rattle.rtp_wire.specs.declared.extension.ExtensionMap.{ExtensionMap}
use Rattle.rtp_wire.specs.declared.header.RtpHeader.{RtpHeader}
use Rattle.rtp_wire.specs.Header.{has_header, fields_of, header_of}
use Rattle.session_core.proofs.receiving.header_numbers_fit.Goals as goal

two_bytes : (l : List ℕ) → ((i : ℕ) → slice_index l i < 256) → from_be_bytes w16 l < 65536
two_bytes l h = omega (arith, h 0, h 1)

left_bytes : (n : ℕ) (l : List ℕ) → ((i : ℕ) → get_or l i 0 < 256) → (i : ℕ) → get_or (drop n l) i 0 < 256
left_bytes zero l h i = h i
left_bytes (suc n) [] h i = omega arith
left_bytes (suc n) (x ∷ l) h i = left_bytes n l (λ j. h (suc j)) i

low_fits : (exts : ExtensionMap) (bytes : List ℕ) (h : RtpHeader) → ((i : ℕ) → slice_index bytes i < 256) → header_of exts bytes ≡ Some h → h.sequence_number < 65536
unfolding header_of
low_fits exts bytes h are e =
    let is : fields_of exts bytes ≡ h = (cond_some (has_header bytes) (fields_of exts bytes) h e).1 in
    subst (λ (g : RtpHeader). g.sequence_number < 65536) is (two_bytes (drop 2 bytes) (left_bytes 2 bytes are))

pub returns : goal.returns
returns c = low_fits
