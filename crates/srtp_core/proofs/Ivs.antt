-- An initial value is XORed with the salt once more, and then read.
use Rattle.std.proofs.Common.{◌≡◌, ℕ, ◌/◌, ◌%◌, ◌<◌, ◌^◌, List, ◌∷◌, ◌++◌, length, take, drop, sym, ap, ◌∙◌, arith, replicate, refl, lit<}
use Rattle.std.specs.Prelude.{slice_index, bit_xor}
use Rattle.std.specs.Int.{w16, w32, w64, byte_at, to_be_bytes, from_be_bytes}
use Rattle.std.specs.Int.Bits.{xor_zero_r}
use Rattle.std.proofs.lemmas.Nat.{xor_comm, from_be_bytes-to_be_bytes_2, from_be_bytes-to_be_bytes_4, from_be_bytes-to_be_bytes_8}
use Rattle.media_base.specs.Text.{xored}
use Rattle.srtp_core.proofs.SimulatedLaws.{made, xor_again, length-bytes_by, slice_index-bytes_by}
use Rattle.srtp_core.specs.Seals.{gcm_rtp_iv, gcm_rtcp_iv, cm_iv}
use Rattle.srtp_core.specs.Laws.{RtpIvsApart, RtcpIvsApart}
use Rattle.srtp_core.specs.declared.profile.SrtpProfile.TheVariants.{Aes128CmSha1_80, AeadAes128Gcm, AeadAes256Gcm}

pub length-xored : (xs ys : List ℕ) → length (xored xs ys) ≡ length xs
unfolding xored
length-xored xs ys = length-bytes_by (λ i. bit_xor (slice_index xs i) (slice_index ys i)) (length xs)

pub slice_index-xored : (xs ys : List ℕ) (i : ℕ) → i < length xs → slice_index (xored xs ys) i ≡ bit_xor (slice_index xs i) (slice_index ys i)
unfolding xored
slice_index-xored xs ys i h = slice_index-bytes_by (λ i. bit_xor (slice_index xs i) (slice_index ys i)) (length xs) i h

pub xored-xored : (xs ys : List ℕ) → xored (xored xs ys) ys ≡ xs
unfolding xored
xored-xored xs ys =
    sym (made (λ i. bit_xor (slice_index (xored xs ys) i) (slice_index ys i)) xs (length (xored xs ys)) (sym (length-xored xs ys))
    (λ i h. sym (ap (λ x. bit_xor x (slice_index ys i)) (slice_index-xored xs ys i (omega (arith, length-xored xs ys))) ∙ xor_again (slice_index xs i) (slice_index ys i))))

pub same_under : (xs ys salt : List ℕ) → xored xs salt ≡ xored ys salt → xs ≡ ys
same_under xs ys salt e = sym (xored-xored xs salt) ∙ ap (λ z. xored z salt) e ∙ xored-xored ys salt

-- RTP under GCM
fields : ℕ → ℕ → ℕ → List ℕ
fields s r q = 0 ∷ 0 ∷ to_be_bytes w32 s ++ to_be_bytes w32 r ++ to_be_bytes w16 q

source_of : (s r q : ℕ) → s < 2 ^ 32 → from_be_bytes w32 (take 4 (drop 2 (fields s r q))) ≡ s
unfolding fields
source_of s r q h = from_be_bytes-to_be_bytes_4 s h

roc_of : (s r q : ℕ) → r < 2 ^ 32 → from_be_bytes w32 (take 4 (drop 6 (fields s r q))) ≡ r
unfolding fields
roc_of s r q h = from_be_bytes-to_be_bytes_4 r h

seq_of : (s r q : ℕ) → q < 2 ^ 16 → from_be_bytes w16 (take 2 (drop 10 (fields s r q))) ≡ q
unfolding fields
seq_of s r q h = from_be_bytes-to_be_bytes_2 q h

same_fields : (salt : List ℕ) (s t r u q v : ℕ) → gcm_rtp_iv salt s r q ≡ gcm_rtp_iv salt t u v → fields s r q ≡ fields t u v
unfolding gcm_rtp_iv fields
same_fields salt s t r u q v e = same_under (fields s r q) (fields t u v) salt e

pub gcm_rtp_ivs_apart : (salt : List ℕ) (s t i j : ℕ) → s < 2 ^ 32 → t < 2 ^ 32 → i < 2 ^ 48 → j < 2 ^ 48
    → gcm_rtp_iv salt s (i / 65536) (i % 65536) ≡ gcm_rtp_iv salt t (j / 65536) (j % 65536) → (s ≡ t) × (i ≡ j)
gcm_rtp_ivs_apart salt s t i j hs ht hi hj e =
    let f : fields s (i / 65536) (i % 65536) ≡ fields t (j / 65536) (j % 65536) = same_fields salt s t (i / 65536) (j / 65536) (i % 65536) (j % 65536) e in
    let source : s ≡ t = sym (source_of s (i / 65536) (i % 65536) hs) ∙ ap (λ z. from_be_bytes w32 (take 4 (drop 2 z))) f ∙ source_of t (j / 65536) (j % 65536) ht in
    let roc : i / 65536 ≡ j / 65536 = sym (roc_of s (i / 65536) (i % 65536) (omega arith)) ∙ ap (λ z. from_be_bytes w32 (take 4 (drop 6 z))) f ∙ roc_of t (j / 65536) (j % 65536) (omega arith) in
    let seq : i % 65536 ≡ j % 65536 = sym (seq_of s (i / 65536) (i % 65536) (omega arith)) ∙ ap (λ z. from_be_bytes w16 (take 2 (drop 10 z))) f ∙ seq_of t (j / 65536) (j % 65536) (omega arith) in
    (source, omega arith)

-- SRTCP under GCM
places : ℕ → ℕ → List ℕ
places s i = 0 ∷ 0 ∷ to_be_bytes w32 s ++ 0 ∷ 0 ∷ to_be_bytes w32 i

place_of : (s i : ℕ) → s < 2 ^ 32 → from_be_bytes w32 (take 4 (drop 2 (places s i))) ≡ s
unfolding places
place_of s i h = from_be_bytes-to_be_bytes_4 s h

index_of : (s i : ℕ) → i < 2 ^ 32 → from_be_bytes w32 (take 4 (drop 8 (places s i))) ≡ i
unfolding places
index_of s i h = from_be_bytes-to_be_bytes_4 i h

same_places : (salt : List ℕ) (s t i j : ℕ) → gcm_rtcp_iv salt s i ≡ gcm_rtcp_iv salt t j → places s i ≡ places t j
unfolding gcm_rtcp_iv places
same_places salt s t i j e = same_under (places s i) (places t j) salt e

pub gcm_rtcp_ivs_apart : (salt : List ℕ) (s t i j : ℕ) → s < 2 ^ 32 → t < 2 ^ 32 → i < 2 ^ 32 → j < 2 ^ 32
    → gcm_rtcp_iv salt s i ≡ gcm_rtcp_iv salt t j → (s ≡ t) × (i ≡ j)
gcm_rtcp_ivs_apart salt s t i j hs ht hi hj e =
    let f : places s i ≡ places t j = same_places salt s t i j e in
    let source : s ≡ t = sym (place_of s i hs) ∙ ap (λ z. from_be_bytes w32 (take 4 (drop 2 z))) f ∙ place_of t j ht in
    let index : i ≡ j = sym (index_of s i hi) ∙ ap (λ z. from_be_bytes w32 (take 4 (drop 8 z))) f ∙ index_of t j hj in
    (source, index)

-- counter mode
abbrev source_bytes : ℕ → List ℕ
source_bytes s = replicate 4 0 ++ to_be_bytes w32 s ++ replicate 8 0

abbrev index_bytes : ℕ → List ℕ
index_bytes i = replicate 6 0 ++ to_be_bytes w64 i ++ replicate 2 0

same_bytes : (salt : List ℕ) (s t i j : ℕ) → cm_iv salt s i ≡ cm_iv salt t j → xored (source_bytes s) (index_bytes i) ≡ xored (source_bytes t) (index_bytes j)
unfolding cm_iv
same_bytes salt s t i j e = same_under (xored (source_bytes s) (index_bytes i)) (xored (source_bytes t) (index_bytes j)) (salt ++ replicate 2 0) e

same_at : (s t i j k : ℕ) → k < 16 → xored (source_bytes s) (index_bytes i) ≡ xored (source_bytes t) (index_bytes j)
    → bit_xor (slice_index (source_bytes s) k) (slice_index (index_bytes i) k) ≡ bit_xor (slice_index (source_bytes t) k) (slice_index (index_bytes j) k)
same_at s t i j k h e =
    sym (slice_index-xored (source_bytes s) (index_bytes i) k h) ∙ ap (λ z. slice_index z k) e ∙ slice_index-xored (source_bytes t) (index_bytes j) k h

by_left : (x y u v : ℕ) → y ≡ 0 → v ≡ 0 → bit_xor x y ≡ bit_xor u v → x ≡ u
by_left x y u v p q e = sym (ap (bit_xor x) p ∙ xor_zero_r x) ∙ e ∙ ap (bit_xor u) q ∙ xor_zero_r u

by_right : (x y : ℕ) → bit_xor 0 x ≡ bit_xor 0 y → x ≡ y
by_right x y e = sym (xor_comm 0 x ∙ xor_zero_r x) ∙ e ∙ xor_comm 0 y ∙ xor_zero_r y

same_source : (s t i j : ℕ) → s < 2 ^ 32 → t < 2 ^ 32 → i < 2 ^ 48 → j < 2 ^ 48 → xored (source_bytes s) (index_bytes i) ≡ xored (source_bytes t) (index_bytes j) → s ≡ t
same_source s t i j hs ht hi hj e =
    let a : byte_at 3 s ≡ byte_at 3 t = by_left (byte_at 3 s) 0 (byte_at 3 t) 0 refl refl (same_at s t i j 4 (lit< tt) e) in
    let b : byte_at 2 s ≡ byte_at 2 t = by_left (byte_at 2 s) 0 (byte_at 2 t) 0 refl refl (same_at s t i j 5 (lit< tt) e) in
    let c : byte_at 1 s ≡ byte_at 1 t = by_left (byte_at 1 s) (byte_at 7 i) (byte_at 1 t) (byte_at 7 j) (omega arith) (omega arith) (same_at s t i j 6 (lit< tt) e) in
    let d : byte_at 0 s ≡ byte_at 0 t = by_left (byte_at 0 s) (byte_at 6 i) (byte_at 0 t) (byte_at 6 j) (omega arith) (omega arith) (same_at s t i j 7 (lit< tt) e) in
    let all : to_be_bytes w32 s ≡ to_be_bytes w32 t = cc (a, b, c, d) in
    sym (from_be_bytes-to_be_bytes_4 s hs) ∙ ap (from_be_bytes w32) all ∙ from_be_bytes-to_be_bytes_4 t ht

same_index : (s t i j : ℕ) → i < 2 ^ 48 → j < 2 ^ 48 → xored (source_bytes s) (index_bytes i) ≡ xored (source_bytes t) (index_bytes j) → i ≡ j
same_index s t i j hi hj e =
    let y : byte_at 7 i ≡ byte_at 7 j = omega arith in
    let z : byte_at 6 i ≡ byte_at 6 j = omega arith in
    let a : byte_at 5 i ≡ byte_at 5 j = by_right (byte_at 5 i) (byte_at 5 j) (same_at s t i j 8 (lit< tt) e) in
    let b : byte_at 4 i ≡ byte_at 4 j = by_right (byte_at 4 i) (byte_at 4 j) (same_at s t i j 9 (lit< tt) e) in
    let c : byte_at 3 i ≡ byte_at 3 j = by_right (byte_at 3 i) (byte_at 3 j) (same_at s t i j 10 (lit< tt) e) in
    let d : byte_at 2 i ≡ byte_at 2 j = by_right (byte_at 2 i) (byte_at 2 j) (same_at s t i j 11 (lit< tt) e) in
    let f : byte_at 1 i ≡ byte_at 1 j = by_right (byte_at 1 i) (byte_at 1 j) (same_at s t i j 12 (lit< tt) e) in
    let g : byte_at 0 i ≡ byte_at 0 j = by_right (byte_at 0 i) (byte_at 0 j) (same_at s t i j 13 (lit< tt) e) in
    let all : to_be_bytes w64 i ≡ to_be_bytes w64 j = cc (y, z, a, b, c, d, f, g) in
    sym (from_be_bytes-to_be_bytes_8 i (omega arith)) ∙ ap (from_be_bytes w64) all ∙ from_be_bytes-to_be_bytes_8 j (omega arith)

pub cm_ivs_apart : (salt : List ℕ) (s t i j : ℕ) → s < 2 ^ 32 → t < 2 ^ 32 → i < 2 ^ 48 → j < 2 ^ 48
    → cm_iv salt s i ≡ cm_iv salt t j → (s ≡ t) × (i ≡ j)
cm_ivs_apart salt s t i j hs ht hi hj e =
    let f : xored (source_bytes s) (index_bytes i) ≡ xored (source_bytes t) (index_bytes j) = same_bytes salt s t i j e in
    (same_source s t i j hs ht hi hj f, same_index s t i j hi hj f)

pub rtp_ivs_apart_lem : RtpIvsApart
rtp_ivs_apart_lem Aes128CmSha1_80 = cm_ivs_apart
rtp_ivs_apart_lem AeadAes128Gcm = gcm_rtp_ivs_apart
rtp_ivs_apart_lem AeadAes256Gcm = gcm_rtp_ivs_apart

pub rtcp_ivs_apart_lem : RtcpIvsApart
rtcp_ivs_apart_lem Aes128CmSha1_80 salt s t i j hs ht hi hj e = cm_ivs_apart salt s t i j hs ht (omega arith) (omega arith) e
rtcp_ivs_apart_lem AeadAes128Gcm salt s t i j hs ht hi hj e = gcm_rtcp_ivs_apart salt s t i j hs ht (omega arith) (omega arith) e
rtcp_ivs_apart_lem AeadAes256Gcm salt s t i j hs ht hi hj e = gcm_rtcp_ivs_apart salt s t i j hs ht (omega arith) (omega arith) e
