-- What is seen of a context.
use Rattle.std.specs.Prelude.{ℕ, Bool, List}
use Rattle.srtp_core.specs.Cipher.{CipherMeaning}
use Rattle.srtp_core.specs.Keys.{SessionKeys, session_keys}
use Rattle.srtp_core.specs.declared.profile.SrtpProfile.{SrtpProfile}

-- the profile, the keys of its direction, and the index of the next SRTCP datagram
pub record SrtpState : Type 0 where
  pub profile : SrtpProfile
  pub keys : SessionKeys
  pub srtcp_index : ℕ

-- of keying material: the direction in which the left side seals, or the other one
abbrev pub new_state : CipherMeaning → SrtpProfile → List ℕ → Bool → ℕ → SrtpState
new_state cipher profile material left index = record {
  profile = profile;
  keys = session_keys cipher profile material left;
  srtcp_index = index;
}
