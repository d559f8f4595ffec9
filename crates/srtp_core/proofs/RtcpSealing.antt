-- What is true of sealed RTCP packets, of the laws of a cipher.
use Rattle.std.proofs.Common.{◌≡◌, ℕ, ◌+◌, ◌-◌, ◌%◌, ◌^◌, ◌<◌, ◌≤◌, Bool, true, false, List, [], ◌++◌, length, take, drop, arith, refl, sym, ap, ◌∙◌, append_assoc}
use Rattle.std.specs.Prelude.{nat_le}
use Rattle.std.specs.Int.{w32, from_be_bytes}
use Rattle.std.proofs.lemmas.Nat.{from_be_bytes-to_be_bytes_4}
use Rattle.std.proofs.lemmas.Bool.{le-leb}
use Rattle.std.proofs.lemmas.Bool.Decides.{nat_tests}
use Rattle.std.proofs.lemmas.List.{drop_at, length-append, take-append-drop}
use Rattle.srtp_core.specs.Cipher.{CipherMeaning}
use Rattle.srtp_core.specs.Keys.{SessionKeys}
use Rattle.srtp_core.specs.Streams.{streamed}
use Rattle.srtp_core.proofs.SimulatedLaws.{streamed-streamed}
use Rattle.srtp_core.specs.Hmac.{hmac_of}
use Rattle.srtp_core.proofs.Codes.{length-tag}
use Rattle.srtp_core.specs.Seals.{gcm_rtcp_iv, cm_iv}
use Rattle.srtp_core.specs.RtcpSeals.{e_and_index, sender_of, cm_rest, gcm_sealed_rtcp, cm_sealed_rtcp, sealed_rtcp, stated_word, stated_bit, stated_index}
use Rattle.srtp_core.specs.Laws.{RtcpOpensOnce, RtcpStates, RtcpOpensSealed}
use Rattle.srtp_core.proofs.Lists.{length-front, front_same, back_same, front_of}
use Rattle.srtp_core.proofs.CmParts.{four_bytes, four}
use Rattle.srtp_core.specs.declared.profile.SrtpProfile.{SrtpProfile}
use Rattle.srtp_core.specs.declared.profile.SrtpProfile.TheVariants.{Aes128CmSha1_80, AeadAes128Gcm, AeadAes256Gcm}

not_high : (w : ℕ) → w < 2 ^ 31 → nat_le (2 ^ 31) w ≡ false
not_high w h = grind (arith, nat_tests)

-- a word says what it was made of
word_bit : (bit : Bool) (index : ℕ) → index < 2 ^ 31 → nat_le (2 ^ 31) (from_be_bytes w32 (e_and_index bit index)) ≡ bit
word_bit true index h = ap (nat_le (2 ^ 31)) (from_be_bytes-to_be_bytes_4 (2 ^ 31 + index) (omega arith)) ∙ le-leb (2 ^ 31) (2 ^ 31 + index) (omega arith)
word_bit false index h = ap (nat_le (2 ^ 31)) (from_be_bytes-to_be_bytes_4 index (omega arith)) ∙ not_high index h

word_index : (bit : Bool) (index : ℕ) → index < 2 ^ 31 → from_be_bytes w32 (e_and_index bit index) % 2 ^ 31 ≡ index
word_index true index h = ap (λ x. x % 2 ^ 31) (from_be_bytes-to_be_bytes_4 (2 ^ 31 + index) (omega arith)) ∙ omega arith
word_index false index h = ap (λ x. x % 2 ^ 31) (from_be_bytes-to_be_bytes_4 index (omega arith)) ∙ omega arith

back_is : (a b : List ℕ) (n : ℕ) → length b ≡ n → drop (length (a ++ b) - n) (a ++ b) ≡ b
back_is a b n h = drop_at a b (length (a ++ b) - n) (omega (arith, length-append a b))

gcm_states : (cipher : CipherMeaning) (key salt header rest : List ℕ) (bit : Bool) (index : ℕ)
    → let bytes = gcm_sealed_rtcp cipher key salt bit index header rest in from_be_bytes w32 (drop (length bytes - 4) bytes) ≡ from_be_bytes w32 (e_and_index bit index)
gcm_states cipher key salt header rest true index =
    ap (from_be_bytes w32) (back_is (header ++ cipher.aead key (gcm_rtcp_iv salt (sender_of header) index) (header ++ e_and_index true index) rest) (e_and_index true index) 4 refl)
gcm_states cipher key salt header rest false index =
    ap (from_be_bytes w32) (back_is (header ++ rest ++ cipher.aead key (gcm_rtcp_iv salt (sender_of header) index) (header ++ rest ++ e_and_index false index) []) (e_and_index false index) 4 refl)

cm_states : (cipher : CipherMeaning) (key authentication salt header rest : List ℕ) (bit : Bool) (index : ℕ)
    → let bytes = cm_sealed_rtcp cipher key authentication salt bit index header rest in from_be_bytes w32 (drop (length bytes - 14) bytes) ≡ from_be_bytes w32 (e_and_index bit index)
cm_states cipher key authentication salt header rest bit index =
    let front = header ++ cm_rest cipher key salt bit index header rest in
    let word = e_and_index bit index in
    let tag = take 10 (hmac_of authentication (front ++ word)) in
    let bytes = front ++ word ++ tag in
    let size : length (word ++ tag) ≡ 14 = omega (arith, length-append word tag, four bit index, length-tag authentication (front ++ word)) in
    let parts : bytes ≡ front ++ (word ++ tag) = append_assoc front word tag in
    let at : drop (length bytes - 14) bytes ≡ word ++ tag = ap (λ b. drop (length b - 14) b) parts ∙ back_is front (word ++ tag) 14 size in
    ap (from_be_bytes w32) at ∙ four_bytes word tag (four bit index)

stated_is : (cipher : CipherMeaning) (profile : SrtpProfile) (keys : SessionKeys) (bit : Bool) (index : ℕ) (plain : List ℕ)
    → stated_word profile (sealed_rtcp cipher profile keys bit index plain) ≡ from_be_bytes w32 (e_and_index bit index)
unfolding sealed_rtcp stated_word
stated_is cipher Aes128CmSha1_80 keys bit index plain = cm_states cipher keys.rtcp_key keys.rtcp_authentication keys.rtcp_salt (take 8 plain) (drop 8 plain) bit index
stated_is cipher AeadAes128Gcm keys bit index plain = gcm_states cipher keys.rtcp_key keys.rtcp_salt (take 8 plain) (drop 8 plain) bit index
stated_is cipher AeadAes256Gcm keys bit index plain = gcm_states cipher keys.rtcp_key keys.rtcp_salt (take 8 plain) (drop 8 plain) bit index

pub states : (cipher : CipherMeaning) → RtcpStates cipher
states cipher profile keys bit index plain h =
    let e = stated_is cipher profile keys bit index plain in
    (ap (nat_le (2 ^ 31)) e ∙ word_bit bit index h, ap (λ x. x % 2 ^ 31) e ∙ word_index bit index h)

pub opens_sealed : (cipher : CipherMeaning) → RtcpOpensSealed cipher
opens_sealed cipher profile keys bit index plain h long =
    let bytes = sealed_rtcp cipher profile keys bit index plain in
    let s : (stated_bit profile bytes ≡ bit) × (stated_index profile bytes ≡ index) = states cipher profile keys bit index plain h in
    record {
      header = long;
      seal = ap (λ b. sealed_rtcp cipher profile keys b (stated_index profile bytes) plain) s.0 ∙ ap (λ i. sealed_rtcp cipher profile keys bit i plain) s.1;
    }

both_parts : (p q : List ℕ) → take 8 p ≡ take 8 q → drop 8 p ≡ drop 8 q → p ≡ q
both_parts p q a b = sym (take-append-drop 8 p) ∙ ap (λ w. w ++ drop 8 p) a ∙ ap (λ w. take 8 q ++ w) b ∙ take-append-drop 8 q

gcm_apart : (cipher : CipherMeaning) → ((key iv aad p : List ℕ) → length (cipher.aead key iv aad p) ≡ length p + 16) → ((key iv aad p q : List ℕ) → cipher.aead key iv aad p ≡ cipher.aead key iv aad q → p ≡ q)
    → (key salt p q : List ℕ) (bit : Bool) (index : ℕ) → 8 ≤ length p → 8 ≤ length q
    → gcm_sealed_rtcp cipher key salt bit index (take 8 p) (drop 8 p) ≡ gcm_sealed_rtcp cipher key salt bit index (take 8 q) (drop 8 q) → p ≡ q
gcm_apart cipher longer apart key salt p q true index hp hq e =
    let word = e_and_index true index in
    let code = λ (x : List ℕ). cipher.aead key (gcm_rtcp_iv salt (sender_of (take 8 x)) index) (take 8 x ++ word) (drop 8 x) in
    let size : length (take 8 p) ≡ length (take 8 q) = length-front 8 p hp ∙ sym (length-front 8 q hq) in
    let same : take 8 p ++ code p ≡ take 8 q ++ code q = front_of (take 8 p ++ code p) (take 8 q ++ code q) word word refl e in
    let front : take 8 p ≡ take 8 q = front_same (take 8 p) (take 8 q) (code p) (code q) size same in
    let back : code p ≡ code q = back_same (take 8 p) (take 8 q) (code p) (code q) size same in
    both_parts p q front (apart key (gcm_rtcp_iv salt (sender_of (take 8 q)) index) (take 8 q ++ word) (drop 8 p) (drop 8 q)
    (ap (λ h. cipher.aead key (gcm_rtcp_iv salt (sender_of h) index) (h ++ word) (drop 8 p)) (sym front) ∙ back))
gcm_apart cipher longer apart key salt p q false index hp hq e =
    let word = e_and_index false index in
    let code = λ (x : List ℕ). cipher.aead key (gcm_rtcp_iv salt (sender_of (take 8 x)) index) (take 8 x ++ drop 8 x ++ word) [] in
    let all : take 8 p ++ drop 8 p ++ code p ≡ take 8 q ++ drop 8 q ++ code q = front_of (take 8 p ++ drop 8 p ++ code p) (take 8 q ++ drop 8 q ++ code q) word word refl e in
    let size : length (code p) ≡ length (code q) =
    longer key (gcm_rtcp_iv salt (sender_of (take 8 p)) index) (take 8 p ++ drop 8 p ++ word) [] ∙ sym (longer key (gcm_rtcp_iv salt (sender_of (take 8 q)) index) (take 8 q ++ drop 8 q ++ word) []) in
    sym (take-append-drop 8 p) ∙ front_of (take 8 p ++ drop 8 p) (take 8 q ++ drop 8 q) (code p) (code q) size all ∙ take-append-drop 8 q

cm_rest_apart : (cipher : CipherMeaning) (key salt h r s : List ℕ) (bit : Bool) (index : ℕ) → cm_rest cipher key salt bit index h r ≡ cm_rest cipher key salt bit index h s → r ≡ s
cm_rest_apart cipher key salt h r s true index e =
    let stream = cipher.keystream key (cm_iv salt (sender_of h) index) in
    sym (streamed-streamed stream r) ∙ ap (streamed stream) e ∙ streamed-streamed stream s
cm_rest_apart cipher key salt h r s false index e = e

cm_apart : (cipher : CipherMeaning) (key authentication salt p q : List ℕ) (bit : Bool) (index : ℕ) → 8 ≤ length p → 8 ≤ length q
    → cm_sealed_rtcp cipher key authentication salt bit index (take 8 p) (drop 8 p) ≡ cm_sealed_rtcp cipher key authentication salt bit index (take 8 q) (drop 8 q) → p ≡ q
cm_apart cipher key authentication salt p q bit index hp hq e =
    let word = e_and_index bit index in
    let rest = λ (x : List ℕ). cm_rest cipher key salt bit index (take 8 x) (drop 8 x) in
    let text = λ (x : List ℕ). take 8 x ++ rest x ++ word in
    let texts : text p ≡ text q = front_of (text p) (text q) (take 10 (hmac_of authentication (text p))) (take 10 (hmac_of authentication (text q))) (length-tag authentication (text p) ∙ sym (length-tag authentication (text q))) e in
    let same : take 8 p ++ rest p ≡ take 8 q ++ rest q = front_of (take 8 p ++ rest p) (take 8 q ++ rest q) word word refl texts in
    let size : length (take 8 p) ≡ length (take 8 q) = length-front 8 p hp ∙ sym (length-front 8 q hq) in
    let front : take 8 p ≡ take 8 q = front_same (take 8 p) (take 8 q) (rest p) (rest q) size same in
    let back : rest p ≡ rest q = back_same (take 8 p) (take 8 q) (rest p) (rest q) size same in
    both_parts p q front (cm_rest_apart cipher key salt (take 8 q) (drop 8 p) (drop 8 q) bit index
    (ap (λ h. cm_rest cipher key salt bit index h (drop 8 p)) (sym front) ∙ back))

rtcp_apart : (cipher : CipherMeaning) → ((key iv aad p : List ℕ) → length (cipher.aead key iv aad p) ≡ length p + 16) → ((key iv aad p q : List ℕ) → cipher.aead key iv aad p ≡ cipher.aead key iv aad q → p ≡ q)
    → (profile : SrtpProfile) (keys : SessionKeys) (bit : Bool) (index : ℕ) (p q : List ℕ) → 8 ≤ length p → 8 ≤ length q
    → sealed_rtcp cipher profile keys bit index p ≡ sealed_rtcp cipher profile keys bit index q → p ≡ q
unfolding sealed_rtcp
rtcp_apart cipher longer apart Aes128CmSha1_80 keys bit index p q hp hq e = cm_apart cipher keys.rtcp_key keys.rtcp_authentication keys.rtcp_salt p q bit index hp hq e
rtcp_apart cipher longer apart AeadAes128Gcm keys bit index p q hp hq e = gcm_apart cipher longer apart keys.rtcp_key keys.rtcp_salt p q bit index hp hq e
rtcp_apart cipher longer apart AeadAes256Gcm keys bit index p q hp hq e = gcm_apart cipher longer apart keys.rtcp_key keys.rtcp_salt p q bit index hp hq e

pub opens_once : (cipher : CipherMeaning) → ((key iv aad p : List ℕ) → length (cipher.aead key iv aad p) ≡ length p + 16) → ((key iv aad p q : List ℕ) → cipher.aead key iv aad p ≡ cipher.aead key iv aad q → p ≡ q) → RtcpOpensOnce cipher
opens_once cipher longer apart profile keys bytes p q o u =
    rtcp_apart cipher longer apart profile keys (stated_bit profile bytes) (stated_index profile bytes) p q o.header u.header (o.seal ∙ sym u.seal)
