-- What a datagram opens to, of its seal.
use Rattle.std.proofs.Common.{◌≡◌, ℕ, ◌≤◌, List, ◌++◌, length, take, refl, sym, ◌∙◌}
use Rattle.std.specs.Prelude.{Option, Some, None, IfSome, IfNone}
use Rattle.std.proofs.lemmas.List.{take_at, drop_at}
use Rattle.srtp_core.specs.Cipher.{CipherMeaning}
use Rattle.srtp_core.specs.Keys.{SessionKeys}
use Rattle.srtp_core.specs.Seals.{rtp_seal, sealed_rtp, OpensTo}
use Rattle.srtp_core.proofs.Lists.{length-front}
use Rattle.srtp_core.specs.declared.profile.SrtpProfile.{SrtpProfile}

-- of a header that is the front of other bytes, and a payload
pub sealed_rtp_is : (cipher : CipherMeaning) (profile : SrtpProfile) (keys : SessionKeys) (ssrc index n : ℕ) (bytes payload : List ℕ) → n ≤ length bytes
    → sealed_rtp cipher profile keys ssrc index n (take n bytes ++ payload) ≡ rtp_seal cipher profile keys ssrc index (take n bytes) payload
unfolding sealed_rtp
sealed_rtp_is cipher profile keys ssrc index n bytes payload h =
    rw (take_at (take n bytes) payload n (length-front n bytes h), drop_at (take n bytes) payload n (length-front n bytes h)) refl

pub some_opens : (cipher : CipherMeaning) (profile : SrtpProfile) (keys : SessionKeys) (ssrc index n : ℕ) (bytes output : List ℕ) (r : Option ℕ) → length bytes ≤ 2000 → n ≤ length bytes
    → IfSome r (λ m. rtp_seal cipher profile keys ssrc index (take n bytes) (take m output) ≡ bytes)
    → IfSome r (λ m. OpensTo cipher profile keys ssrc index n bytes (take m output))
some_opens cipher profile keys ssrc index n bytes output None w h e = e
some_opens cipher profile keys ssrc index n bytes output (Some m) w h e = record {
  within = w;
  header = h;
  seal = sealed_rtp_is cipher profile keys ssrc index n bytes (take m output) h ∙ e;
}

pub none_opens : (cipher : CipherMeaning) (profile : SrtpProfile) (keys : SessionKeys) (ssrc index n : ℕ) (bytes : List ℕ) (r : Option ℕ)
    → IfNone r ((p : List ℕ) → rtp_seal cipher profile keys ssrc index (take n bytes) p ≡ bytes → ⊥)
    → IfNone r ((p : List ℕ) → OpensTo cipher profile keys ssrc index n bytes p → ⊥)
none_opens cipher profile keys ssrc index n bytes None e = λ p o. e p (sym (sealed_rtp_is cipher profile keys ssrc index n bytes p o.header) ∙ o.seal)
none_opens cipher profile keys ssrc index n bytes (Some m) e = e
