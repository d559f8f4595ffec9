-- What is true of sealed datagrams, of the laws of a cipher.
use Rattle.std.proofs.Common.{◌≡◌, ℕ, ◌/◌, ◌%◌, append_assoc, ◌≤◌, List, ◌++◌, length, take, drop, arith, refl, sym, ap, ◌∙◌}
use Rattle.std.proofs.lemmas.List.{take_at, length-append, take-append-drop}
use Rattle.std.specs.Int.{w32, to_be_bytes}
use Rattle.srtp_core.specs.Cipher.{CipherMeaning}
use Rattle.srtp_core.specs.Keys.{SessionKeys}
use Rattle.srtp_core.specs.Streams.{streamed}
use Rattle.srtp_core.proofs.SimulatedLaws.{streamed-streamed}
use Rattle.srtp_core.specs.Seals.{gcm_rtp_iv, cm_iv, cm_rtp_tag, cm_sealed_rtp, gcm_sealed_rtp, rtp_seal, sealed_rtp}
use Rattle.srtp_core.proofs.Openings.{sealed_rtp_is}
use Rattle.srtp_core.specs.Laws.{RtpSealsApart, RtpOpensOnce, RtpOpensSealed}
use Rattle.srtp_core.proofs.Lists.{length-front, front_same, back_same}
use Rattle.srtp_core.proofs.Codes.{length-tag}
use Rattle.srtp_core.specs.declared.profile.SrtpProfile.{SrtpProfile}
use Rattle.srtp_core.specs.declared.profile.SrtpProfile.TheVariants.{Aes128CmSha1_80, AeadAes128Gcm, AeadAes256Gcm}

gcm_apart : (cipher : CipherMeaning) → ((key iv aad p q : List ℕ) → cipher.aead key iv aad p ≡ cipher.aead key iv aad q → p ≡ q)
    → (key salt : List ℕ) (ssrc index : ℕ) (h k p q : List ℕ) → length h ≡ length k
    → gcm_sealed_rtp cipher key salt ssrc index h p ≡ gcm_sealed_rtp cipher key salt ssrc index k q → (h ≡ k) × (p ≡ q)
gcm_apart cipher apart key salt ssrc index h k p q long e =
    let iv = gcm_rtp_iv salt ssrc (index / 65536) (index % 65536) in
    let front : h ≡ k = front_same h k (cipher.aead key iv h p) (cipher.aead key iv k q) long e in
    let back : cipher.aead key iv h p ≡ cipher.aead key iv k q = back_same h k (cipher.aead key iv h p) (cipher.aead key iv k q) long e in
    (front, apart key iv k p q (ap (λ w. cipher.aead key iv w p) (sym front) ∙ back))

cm_apart : (cipher : CipherMeaning) (key authentication salt : List ℕ) (ssrc index : ℕ) (h k p q : List ℕ) → length h ≡ length k
    → cm_sealed_rtp cipher key authentication salt ssrc index h p ≡ cm_sealed_rtp cipher key authentication salt ssrc index k q → (h ≡ k) × (p ≡ q)
cm_apart cipher key authentication salt ssrc index h k p q long e =
    let stream = cipher.keystream key (cm_iv salt ssrc index) in
    let a = h ++ streamed stream p in
    let b = k ++ streamed stream q in
    let c = cm_rtp_tag authentication index a in
    let d = cm_rtp_tag authentication index b in
    let size : length a ≡ length b = omega (arith, length-append a c, length-append b d, length-tag authentication (a ++ to_be_bytes w32 (index / 65536)), length-tag authentication (b ++ to_be_bytes w32 (index / 65536)), ap length e) in
    let text : a ≡ b = front_same a b c d size e in
    let back : streamed stream p ≡ streamed stream q = back_same h k (streamed stream p) (streamed stream q) long text in
    (front_same h k (streamed stream p) (streamed stream q) long text, sym (streamed-streamed stream p) ∙ ap (streamed stream) back ∙ streamed-streamed stream q)

rtp_apart : (cipher : CipherMeaning) → ((key iv aad p q : List ℕ) → cipher.aead key iv aad p ≡ cipher.aead key iv aad q → p ≡ q)
    → (profile : SrtpProfile) (keys : SessionKeys) (ssrc index : ℕ) (h k p q : List ℕ) → length h ≡ length k
    → rtp_seal cipher profile keys ssrc index h p ≡ rtp_seal cipher profile keys ssrc index k q → (h ≡ k) × (p ≡ q)
rtp_apart cipher apart Aes128CmSha1_80 keys ssrc index h k p q long e = cm_apart cipher keys.rtp_key keys.rtp_authentication keys.rtp_salt ssrc index h k p q long e
rtp_apart cipher apart AeadAes128Gcm keys ssrc index h k p q long e = gcm_apart cipher apart keys.rtp_key keys.rtp_salt ssrc index h k p q long e
rtp_apart cipher apart AeadAes256Gcm keys ssrc index h k p q long e = gcm_apart cipher apart keys.rtp_key keys.rtp_salt ssrc index h k p q long e

pub seals_apart : (cipher : CipherMeaning) → ((key iv aad p q : List ℕ) → cipher.aead key iv aad p ≡ cipher.aead key iv aad q → p ≡ q) → RtpSealsApart cipher
unfolding sealed_rtp
seals_apart cipher apart profile keys ssrc index n p q hp hq e =
    let both : (take n p ≡ take n q) × (drop n p ≡ drop n q) = rtp_apart cipher apart profile keys ssrc index (take n p) (take n q) (drop n p) (drop n q) (length-front n p hp ∙ sym (length-front n q hq)) e in
    sym (take-append-drop n p) ∙ ap (λ w. w ++ drop n p) both.0 ∙ ap (λ w. take n q ++ w) both.1 ∙ take-append-drop n q

pub opens_once : (cipher : CipherMeaning) → ((key iv aad p q : List ℕ) → cipher.aead key iv aad p ≡ cipher.aead key iv aad q → p ≡ q) → RtpOpensOnce cipher
opens_once cipher apart profile keys ssrc index n bytes p q o u =
    let one : rtp_seal cipher profile keys ssrc index (take n bytes) p ≡ bytes = sym (sealed_rtp_is cipher profile keys ssrc index n bytes p o.header) ∙ o.seal in
    let other : rtp_seal cipher profile keys ssrc index (take n bytes) q ≡ bytes = sym (sealed_rtp_is cipher profile keys ssrc index n bytes q u.header) ∙ u.seal in
    (rtp_apart cipher apart profile keys ssrc index (take n bytes) (take n bytes) p q refl (one ∙ sym other)).1

pub rtp_front : (cipher : CipherMeaning) (profile : SrtpProfile) (keys : SessionKeys) (ssrc index n : ℕ) (h p : List ℕ) → length h ≡ n
    → take n (rtp_seal cipher profile keys ssrc index h p) ≡ h
rtp_front cipher Aes128CmSha1_80 keys ssrc index n h p long =
    let s = streamed (cipher.keystream keys.rtp_key (cm_iv keys.rtp_salt ssrc index)) p in
    ap (take n) (append_assoc h s (cm_rtp_tag keys.rtp_authentication index (h ++ s))) ∙ take_at h (s ++ cm_rtp_tag keys.rtp_authentication index (h ++ s)) n long
rtp_front cipher AeadAes128Gcm keys ssrc index n h p long = take_at h (cipher.aead keys.rtp_key (gcm_rtp_iv keys.rtp_salt ssrc (index / 65536) (index % 65536)) h p) n long
rtp_front cipher AeadAes256Gcm keys ssrc index n h p long = take_at h (cipher.aead keys.rtp_key (gcm_rtp_iv keys.rtp_salt ssrc (index / 65536) (index % 65536)) h p) n long

rtp_longer : (cipher : CipherMeaning) (profile : SrtpProfile) (keys : SessionKeys) (ssrc index : ℕ) (h p : List ℕ)
    → length h ≤ length (rtp_seal cipher profile keys ssrc index h p)
rtp_longer cipher Aes128CmSha1_80 keys ssrc index h p =
    let s = streamed (cipher.keystream keys.rtp_key (cm_iv keys.rtp_salt ssrc index)) p in
    omega (arith, length-append (h ++ s) (cm_rtp_tag keys.rtp_authentication index (h ++ s)), length-append h s)
rtp_longer cipher AeadAes128Gcm keys ssrc index h p = omega (arith, length-append h (cipher.aead keys.rtp_key (gcm_rtp_iv keys.rtp_salt ssrc (index / 65536) (index % 65536)) h p))
rtp_longer cipher AeadAes256Gcm keys ssrc index h p = omega (arith, length-append h (cipher.aead keys.rtp_key (gcm_rtp_iv keys.rtp_salt ssrc (index / 65536) (index % 65536)) h p))

pub opens_sealed : (cipher : CipherMeaning) → RtpOpensSealed cipher
unfolding sealed_rtp
opens_sealed cipher profile keys ssrc index n plain h w =
    let seal = rtp_seal cipher profile keys ssrc index (take n plain) (drop n plain) in
    let size : length (take n plain) ≡ n = length-front n plain h in
    let front : take n seal ≡ take n plain = rtp_front cipher profile keys ssrc index n (take n plain) (drop n plain) size in
    record {
      within = w;
      header = omega (arith, rtp_longer cipher profile keys ssrc index (take n plain) (drop n plain));
      seal = ap (λ f. rtp_seal cipher profile keys ssrc index (take n (f ++ drop n plain)) (drop n (f ++ drop n plain))) front
          ∙ ap (λ f. rtp_seal cipher profile keys ssrc index (take n f) (drop n f)) (take-append-drop n plain);
    }
