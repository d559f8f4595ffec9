use Rattle.std.specs.Prelude.{ℕ, List, codes}
use Rattle.srtp_core.specs.declared.profile.SrtpProfile.{SrtpProfile}
use Rattle.srtp_core.specs.declared.profile.SrtpProfile.TheVariants.{Aes128CmSha1_80, AeadAes128Gcm, AeadAes256Gcm}

abbrev pub profile_name : SrtpProfile → List ℕ
profile_name Aes128CmSha1_80 = codes "SRTP_AES128_CM_SHA1_80"
profile_name AeadAes128Gcm = codes "SRTP_AEAD_AES_128_GCM"
profile_name AeadAes256Gcm = codes "SRTP_AEAD_AES_256_GCM"
