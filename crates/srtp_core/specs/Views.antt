use Rattle.std.specs.Prelude.{ℕ, List, []}
use Rattle.srtp_core.specs.Keys.{SessionKeys}
use Rattle.srtp_core.specs.declared.profile.SrtpProfile.{SrtpProfile}
use Rattle.srtp_core.specs.declared.profile.SrtpProfile.TheVariants.{Aes128CmSha1_80, AeadAes128Gcm, AeadAes256Gcm}
use Rattle.srtp_core.specs.declared.cm.CmDirection.{CmDirection}
use Rattle.srtp_core.specs.declared.gcm.GcmDirection.{GcmDirection}
use Rattle.srtp_core.specs.declared.context.Keys.{Keys}
use Rattle.srtp_core.specs.declared.context.Keys.TheVariants.{Cm, Gcm128, Gcm256}

abbrev pub gcm_session : {C A B : Type 0} → GcmDirection C A B → SessionKeys
gcm_session d = record {
  rtp_key = d.rtp.key;
  rtp_authentication = [];
  rtp_salt = d.rtp.salt;
  rtcp_key = d.rtcp.key;
  rtcp_authentication = [];
  rtcp_salt = d.rtcp.salt;
}

abbrev pub cm_session : {C A B : Type 0} → (A → List ℕ) → CmDirection C A B → SessionKeys
cm_session bytes_128 d = record {
  rtp_key = bytes_128 d.rtp.key;
  rtp_authentication = d.rtp.authentication;
  rtp_salt = d.rtp.salt;
  rtcp_key = bytes_128 d.rtcp.key;
  rtcp_authentication = d.rtcp.authentication;
  rtcp_salt = d.rtcp.salt;
}

-- what is seen of the keys of a context
abbrev pub profile_of : {C A B : Type 0} → Keys C A B → SrtpProfile
profile_of (Cm keys) = Aes128CmSha1_80
profile_of (Gcm128 keys) = AeadAes128Gcm
profile_of (Gcm256 keys) = AeadAes256Gcm

abbrev pub session_of : {C A B : Type 0} → (A → List ℕ) → Keys C A B → SessionKeys
session_of bytes_128 (Cm keys) = cm_session bytes_128 keys
session_of bytes_128 (Gcm128 keys) = gcm_session keys
session_of bytes_128 (Gcm256 keys) = gcm_session keys
