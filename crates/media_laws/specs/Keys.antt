-- How the sides of a setup seal.
use Rattle.std.specs.Prelude.{Bool, true, false}
use Rattle.srtp_core.specs.Cipher.{CipherMeaning}
use Rattle.srtp_core.specs.Keys.{session_keys}
use Rattle.srtp_core.specs.Seals.{sealed_rtp}
use Rattle.srtp_core.specs.RtcpSeals.{sealed_rtcp, stated_bit, stated_index}
use Rattle.run_model.specs.Transcripts.{len_in}
use Rattle.media_model.specs.declared.entry.Side.{Side}
use Rattle.media_model.specs.declared.entry.Side.TheVariants.{A, B}
use Rattle.media_model.specs.declared.setup.Setup.{Setup}
use Rattle.media_model.specs.Setup.{material_of}
use Rattle.media_laws.specs.Opening.{Sealing}
use Rattle.media_laws.specs.Plain.{extensions_of}

-- side A is the left one
abbrev pub is_left : Side → Bool
is_left A = true
is_left B = false

-- how the sides of a setup seal, with what a cipher means: RTP behind the header that it reads as
abbrev pub sealing_of : CipherMeaning → Setup → Sealing
sealing_of cipher setup = record {
  rtp = λ side ssrc number plain.
      sealed_rtp cipher setup.profile
      (session_keys cipher setup.profile (material_of setup) (is_left side)) ssrc number
      (len_in (extensions_of setup) plain) plain;
  rtcp = λ side encrypted index plain.
      sealed_rtcp cipher setup.profile
      (session_keys cipher setup.profile (material_of setup) (is_left side)) encrypted index plain;
  encrypts = stated_bit setup.profile;
  states = stated_index setup.profile;
}
