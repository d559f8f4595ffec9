-- What is known of the values inside a result.
use Rattle.std.proofs.Common.{ℕ, List}
use Rattle.std.specs.Prelude.{Option, Some, None, Result, Ok, Err, IfOk, IfSome, IfNone}
use Rattle.srtp_core.specs.Cipher.{CipherMeaning}
use Rattle.srtp_core.specs.Keys.{SessionKeys}
use Rattle.srtp_core.specs.RtcpSeals.{sealed_rtcp, stated_word, RtcpOpensTo, GcmRtcpOpens}
use Rattle.srtp_core.specs.CmSeals.{CmRtcpOpens}
use Rattle.srtp_core.specs.declared.profile.SrtpProfile.TheVariants.{Aes128CmSha1_80, AeadAes128Gcm, AeadAes256Gcm}

pub some_along : {V E : Type 0} (P Q : V → Type 0) (r : Result (Option V) E) → ((v : V) → P v → Q v) → IfOk r (λ o. IfSome o P) → IfOk r (λ o. IfSome o Q)
some_along P Q (Err e) f h = h
some_along P Q (Ok None) f h = h
some_along P Q (Ok (Some v)) f h = f v h

pub none_along : {V E : Type 0} (A B : Type 0) (r : Result (Option V) E) → (A → B) → IfOk r (λ o. IfNone o A) → IfOk r (λ o. IfNone o B)
none_along A B (Err e) f h = h
none_along A B (Ok None) f h = f h
none_along A B (Ok (Some v)) f h = h

pub opens_128 : (cipher : CipherMeaning) (keys : SessionKeys) (bytes plain : List ℕ) → GcmRtcpOpens cipher keys.rtcp_key keys.rtcp_salt bytes plain → RtcpOpensTo cipher AeadAes128Gcm keys bytes plain
unfolding sealed_rtcp stated_word
opens_128 cipher keys bytes plain o = record { header = o.header; seal = o.seal }

pub of_128 : (cipher : CipherMeaning) (keys : SessionKeys) (bytes plain : List ℕ) → RtcpOpensTo cipher AeadAes128Gcm keys bytes plain → GcmRtcpOpens cipher keys.rtcp_key keys.rtcp_salt bytes plain
unfolding sealed_rtcp stated_word
of_128 cipher keys bytes plain o = record { header = o.header; seal = o.seal }

pub opens_256 : (cipher : CipherMeaning) (keys : SessionKeys) (bytes plain : List ℕ) → GcmRtcpOpens cipher keys.rtcp_key keys.rtcp_salt bytes plain → RtcpOpensTo cipher AeadAes256Gcm keys bytes plain
unfolding sealed_rtcp stated_word
opens_256 cipher keys bytes plain o = record { header = o.header; seal = o.seal }

pub of_256 : (cipher : CipherMeaning) (keys : SessionKeys) (bytes plain : List ℕ) → RtcpOpensTo cipher AeadAes256Gcm keys bytes plain → GcmRtcpOpens cipher keys.rtcp_key keys.rtcp_salt bytes plain
unfolding sealed_rtcp stated_word
of_256 cipher keys bytes plain o = record { header = o.header; seal = o.seal }

pub opens_cm : (cipher : CipherMeaning) (keys : SessionKeys) (bytes plain : List ℕ) → CmRtcpOpens cipher keys.rtcp_key keys.rtcp_authentication keys.rtcp_salt bytes plain → RtcpOpensTo cipher Aes128CmSha1_80 keys bytes plain
unfolding sealed_rtcp stated_word
opens_cm cipher keys bytes plain o = record { header = o.header; seal = o.seal }

pub of_cm : (cipher : CipherMeaning) (keys : SessionKeys) (bytes plain : List ℕ) → RtcpOpensTo cipher Aes128CmSha1_80 keys bytes plain → CmRtcpOpens cipher keys.rtcp_key keys.rtcp_authentication keys.rtcp_salt bytes plain
unfolding sealed_rtcp stated_word
of_cm cipher keys bytes plain o = record { header = o.header; seal = o.seal }
