-- Lengths of codes.
use Rattle.std.proofs.Common.{◌≡◌, ℕ, List, length, take, refl, arith}
use Rattle.std.proofs.lemmas.List.{length-take}
use Rattle.sha1.specs.Sha1.{sha1, digest_bytes}
use Rattle.srtp_core.specs.Hmac.{hmac_of}

length-digest_bytes : (h : List ℕ) → length (digest_bytes h 5) ≡ 20
unfolding digest_bytes
length-digest_bytes h = refl

length-sha1 : (m : List ℕ) → length (sha1 m) ≡ 20
unfolding sha1
length-sha1 m = length-digest_bytes _

pub length-hmac_of : (key m : List ℕ) → length (hmac_of key m) ≡ 20
unfolding hmac_of
length-hmac_of key m = length-sha1 _

pub length-tag : (key m : List ℕ) → length (take 10 (hmac_of key m)) ≡ 10
length-tag key m = omega (arith, length-take 10 (hmac_of key m), length-hmac_of key m)
