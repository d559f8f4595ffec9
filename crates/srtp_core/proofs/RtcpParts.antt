-- A sealed RTCP packet in parts.
use Rattle.std.proofs.Common.{◌≡◌, ℕ, ◌+◌, ◌-◌, ◌%◌, ◌^◌, ◌<◌, ◌≤◌, Bool, true, false, List, [], ◌++◌, length, get_or, take, drop, arith, refl, sym, ap, ◌∙◌, subst}
use Rattle.std.specs.Prelude.{nat_le, Option, Some, None, Result, Ok, Err, IfOk, IfSome, IfNone}
use Rattle.std.specs.Int.{w32, to_be_bytes, from_be_bytes}
use Rattle.std.proofs.lemmas.Nat.{be_bytes_4}
use Rattle.std.proofs.lemmas.Bool.{le-leb}
use Rattle.std.proofs.lemmas.Bool.Decides.{nat_tests}
use Rattle.std.proofs.lemmas.List.{take_at, length-take, length-drop, length-append, take-append-drop, get_or-drop}
use Rattle.std.proofs.lemmas.Grind.{common_steps}
use Rattle.srtp_core.specs.Cipher.{CipherMeaning}
use Rattle.srtp_core.specs.Seals.{gcm_rtcp_iv}
use Rattle.srtp_core.specs.RtcpSeals.{e_and_index, sender_of, gcm_sealed_rtcp, GcmRtcpOpens}
use Rattle.srtp_core.proofs.Lists.{front_same, back_same, front_of, back_of}

-- the word, as its two parts give it again
pub word_true : (bytes : List ℕ) (w : ℕ) → length bytes ≡ 4 → ((i : ℕ) → get_or bytes i 0 < 256) → w ≡ from_be_bytes w32 bytes → w < 2 ^ 32 → 2 ^ 31 ≤ w → e_and_index true (w % 2 ^ 31) ≡ bytes
word_true bytes w long small is fits high = ap (to_be_bytes w32) (omega arith) ∙ be_bytes_4 bytes w long small is

pub word_false : (bytes : List ℕ) (w : ℕ) → length bytes ≡ 4 → ((i : ℕ) → get_or bytes i 0 < 256) → w ≡ from_be_bytes w32 bytes → w < 2 ^ 31 → e_and_index false (w % 2 ^ 31) ≡ bytes
word_false bytes w long small is low = ap (to_be_bytes w32) (omega arith) ∙ be_bytes_4 bytes w long small is

-- encrypted: what opens
pub encrypted_some : (cipher : CipherMeaning) (key salt header body word v bytes : List ℕ) (index : ℕ)
    → length header ≡ 8 → e_and_index true index ≡ word → header ++ body ++ word ≡ bytes → v ≡ header ++ drop 8 v
    → cipher.aead key (gcm_rtcp_iv salt (sender_of header) index) (header ++ word) (drop 8 v) ≡ body
    → gcm_sealed_rtcp cipher key salt true index (take 8 v) (drop 8 v) ≡ bytes
encrypted_some cipher key salt header body word v bytes index long is parts made opened =
    let front : take 8 v ≡ header = ap (take 8) made ∙ take_at header (drop 8 v) 8 long in
    rw (front, is, opened, parts) refl

-- encrypted: what has to open
pub encrypted_none : (cipher : CipherMeaning) (key salt header body word bytes plain : List ℕ) (index : ℕ)
    → length header ≡ 8 → e_and_index true index ≡ word → header ++ body ++ word ≡ bytes → 8 ≤ length plain
    → gcm_sealed_rtcp cipher key salt true index (take 8 plain) (drop 8 plain) ≡ bytes
    → cipher.aead key (gcm_rtcp_iv salt (sender_of header) index) (header ++ word) (drop 8 plain) ≡ body
encrypted_none cipher key salt header body word bytes plain index long is parts size seal =
    let text = cipher.aead key (gcm_rtcp_iv salt (sender_of (take 8 plain)) index) (take 8 plain ++ e_and_index true index) (drop 8 plain) in
    let all : take 8 plain ++ text ++ e_and_index true index ≡ header ++ body ++ word = seal ∙ sym parts in
    let same : take 8 plain ++ text ≡ header ++ body = front_of (take 8 plain ++ text) (header ++ body) (e_and_index true index) word (ap length is) all in
    let short : length (take 8 plain) ≡ length header = omega (arith, length-take 8 plain) in
    let front : take 8 plain ≡ header = front_same (take 8 plain) header text body short same in
    let back : text ≡ body = back_same (take 8 plain) header text body short same in
    rw (← front, ← is, back) refl

-- not encrypted: what opens
pub clear_some : (cipher : CipherMeaning) (key salt plain tag word bytes : List ℕ) (index : ℕ)
    → e_and_index false index ≡ word → plain ++ tag ++ word ≡ bytes
    → cipher.aead key (gcm_rtcp_iv salt (sender_of (take 8 plain)) index) (plain ++ word) [] ≡ tag
    → gcm_sealed_rtcp cipher key salt false index (take 8 plain) (drop 8 plain) ≡ bytes
clear_some cipher key salt plain tag word bytes index is parts opened =
    rw (take-append-drop 8 plain, is, opened, parts) refl

-- not encrypted: what has to open
pub clear_none : (cipher : CipherMeaning) → ((key iv aad p : List ℕ) → length (cipher.aead key iv aad p) ≡ length p + 16)
    → (key salt plain tag word bytes other : List ℕ) (index : ℕ)
    → length tag ≡ 16 → e_and_index false index ≡ word → plain ++ tag ++ word ≡ bytes
    → gcm_sealed_rtcp cipher key salt false index (take 8 other) (drop 8 other) ≡ bytes
    → (other ≡ plain) × (cipher.aead key (gcm_rtcp_iv salt (sender_of (take 8 plain)) index) (plain ++ word) [] ≡ tag)
clear_none cipher longer key salt plain tag word bytes other index long is parts seal =
    let code = cipher.aead key (gcm_rtcp_iv salt (sender_of (take 8 other)) index) (other ++ e_and_index false index) [] in
    let whole : gcm_sealed_rtcp cipher key salt false index (take 8 other) (drop 8 other) ≡ other ++ code ++ e_and_index false index =
    rw (take-append-drop 8 other) refl in
    let all : other ++ code ++ e_and_index false index ≡ plain ++ tag ++ word = sym whole ∙ seal ∙ sym parts in
    let same : other ++ code ≡ plain ++ tag = front_of (other ++ code) (plain ++ tag) (e_and_index false index) word (ap length is) all in
    let size : length code ≡ length tag = omega (arith, longer key (gcm_rtcp_iv salt (sender_of (take 8 other)) index) (other ++ e_and_index false index) []) in
    let front : other ≡ plain = front_of other plain code tag size same in
    let back : code ≡ tag = back_of other plain code tag size same in
    (front, rw (← front, ← is, back) refl)

-- a sealed packet is 20 bytes longer
pub gcm_rtcp_longer : (cipher : CipherMeaning) → ((key iv aad p : List ℕ) → length (cipher.aead key iv aad p) ≡ length p + 16)
    → (key salt plain : List ℕ) (encrypted : Bool) (index : ℕ) → length (gcm_sealed_rtcp cipher key salt encrypted index (take 8 plain) (drop 8 plain)) ≡ length plain + 20
gcm_rtcp_longer cipher longer key salt plain true index =
    let iv = gcm_rtcp_iv salt (sender_of (take 8 plain)) index in
    let word = e_and_index true index in
    let aad = take 8 plain ++ word in
    omega (arith, length-append (take 8 plain ++ cipher.aead key iv aad (drop 8 plain)) word, length-append (take 8 plain) (cipher.aead key iv aad (drop 8 plain)), longer key iv aad (drop 8 plain), length-append (take 8 plain) (drop 8 plain), ap length (take-append-drop 8 plain))
gcm_rtcp_longer cipher longer key salt plain false index =
    let iv = gcm_rtcp_iv salt (sender_of (take 8 plain)) index in
    let word = e_and_index false index in
    let aad = take 8 plain ++ drop 8 plain ++ word in
    omega (arith, length-append (take 8 plain ++ drop 8 plain ++ cipher.aead key iv aad []) word, length-append (take 8 plain ++ drop 8 plain) (cipher.aead key iv aad []), longer key iv aad [], ap length (take-append-drop 8 plain))

-- the facts of a datagram of at least 28 bytes, split before its last 4
pub record Split (bytes sealed word : List ℕ) (w : ℕ) : Type 0 where
  pub size : 28 ≤ length bytes
  pub front : sealed ≡ take (length bytes - 4) bytes
  pub back : word ≡ drop (length bytes - 4) bytes
  pub small : (i : ℕ) → get_or word i 0 < 256
  pub is : w ≡ from_be_bytes w32 word
  pub fits : w < 2 ^ 32

small_take : (n : ℕ) (bytes : List ℕ) → ((i : ℕ) → get_or bytes i 0 < 256) → (i : ℕ) → get_or (take n bytes) i 0 < 256
small_take n bytes small i = grind (arith, common_steps, small i)

pub small_front : (bytes text : List ℕ) (n : ℕ) → text ≡ take n bytes → ((i : ℕ) → get_or bytes i 0 < 256) → (i : ℕ) → get_or text i 0 < 256
small_front bytes text n e small i = let P : ℕ → Type 0 = λ x. x < 256 in subst P (ap (λ w. get_or w i 0) (sym e)) (small_take n bytes small i)

pub small_back : (bytes word : List ℕ) (n : ℕ) → word ≡ drop n bytes → ((i : ℕ) → get_or bytes i 0 < 256) → (i : ℕ) → get_or word i 0 < 256
small_back bytes word n e small i = let P : ℕ → Type 0 = λ x. x < 256 in subst P (sym (ap (λ w. get_or w i 0) e ∙ get_or-drop n bytes i 0)) (small (n + i))

word_len : (bytes sealed word : List ℕ) (w : ℕ) → Split bytes sealed word w → length word ≡ 4
word_len bytes sealed word w s = omega (arith, ap length s.back, length-drop (length bytes - 4) bytes, s.size)

stated : (bytes sealed word : List ℕ) (w : ℕ) → Split bytes sealed word w → from_be_bytes w32 (drop (length bytes - 4) bytes) ≡ w
stated bytes sealed word w s = ap (from_be_bytes w32) (sym s.back) ∙ sym s.is

whole : (bytes sealed word a b : List ℕ) (w n : ℕ) → Split bytes sealed word w → a ≡ take n sealed → b ≡ drop n sealed → a ++ b ++ word ≡ bytes
whole bytes sealed word a b w n s p q =
    ap (λ x. x ++ b ++ word) p ∙ ap (λ x. take n sealed ++ x ++ word) q ∙ ap (λ x. x ++ word) (take-append-drop n sealed)
    ∙ ap (λ x. x ++ word) s.front ∙ ap (λ x. take (length bytes - 4) bytes ++ x) s.back ∙ take-append-drop (length bytes - 4) bytes

-- the seal under what is stated is that under these
under : (cipher : CipherMeaning) (key salt bytes sealed word plain : List ℕ) (w : ℕ) (bit : Bool) → Split bytes sealed word w → nat_le (2 ^ 31) w ≡ bit
    → (let x = from_be_bytes w32 (drop (length bytes - 4) bytes) in gcm_sealed_rtcp cipher key salt (nat_le (2 ^ 31) x) (x % 2 ^ 31) (take 8 plain) (drop 8 plain)) ≡ gcm_sealed_rtcp cipher key salt bit (w % 2 ^ 31) (take 8 plain) (drop 8 plain)
under cipher key salt bytes sealed word plain w bit s e =
    ap (λ x. gcm_sealed_rtcp cipher key salt (nat_le (2 ^ 31) x) (x % 2 ^ 31) (take 8 plain) (drop 8 plain)) (stated bytes sealed word w s)
    ∙ ap (λ b. gcm_sealed_rtcp cipher key salt b (w % 2 ^ 31) (take 8 plain) (drop 8 plain)) e

word_high : (bytes sealed word : List ℕ) (w : ℕ) → Split bytes sealed word w → 2 ^ 31 ≤ w → e_and_index true (w % 2 ^ 31) ≡ word
word_high bytes sealed word w s h = word_true word w (word_len bytes sealed word w s) s.small s.is s.fits h

word_low : (bytes sealed word : List ℕ) (w : ℕ) → Split bytes sealed word w → w < 2 ^ 31 → e_and_index false (w % 2 ^ 31) ≡ word
word_low bytes sealed word w s h = word_false word w (word_len bytes sealed word w s) s.small s.is h

header_len : (bytes sealed word header : List ℕ) (w : ℕ) → Split bytes sealed word w → header ≡ take 8 sealed → length header ≡ 8
header_len bytes sealed word header w s p = omega (arith, ap length p, length-take 8 sealed, ap length s.front, length-take (length bytes - 4) bytes, s.size)

pub encrypted_opens : {V E : Type 0} (items : V → List ℕ) (cipher : CipherMeaning) (key salt bytes sealed word header body : List ℕ) (w : ℕ) (r : Result (Option V) E)
    → Split bytes sealed word w → header ≡ take 8 sealed → body ≡ drop 8 sealed → 2 ^ 31 ≤ w
    → IfOk r (λ o. IfSome o (λ v. items v ≡ header ++ drop 8 (items v)))
    → IfOk r (λ o. IfSome o (λ v. cipher.aead key (gcm_rtcp_iv salt (sender_of header) (w % 2 ^ 31)) (header ++ word) (drop 8 (items v)) ≡ body))
    → IfOk r (λ o. IfSome o (λ v. GcmRtcpOpens cipher key salt bytes (items v)))
encrypted_opens items cipher key salt bytes sealed word header body w (Err e) s p q h a b = a
encrypted_opens items cipher key salt bytes sealed word header body w (Ok None) s p q h a b = a
encrypted_opens items cipher key salt bytes sealed word header body w (Ok (Some v)) s p q h a b =
    let long : length header ≡ 8 = header_len bytes sealed word header w s p in
    record {
      header = omega (arith, ap length a, length-append header (drop 8 (items v)), long);
      seal = under cipher key salt bytes sealed word (items v) w true s (le-leb (2 ^ 31) w h)
          ∙ encrypted_some cipher key salt header body word (items v) bytes (w % 2 ^ 31) long (word_high bytes sealed word w s h) (whole bytes sealed word header body w 8 s p q) a b;
    }

pub encrypted_opens_not : {V E : Type 0} (cipher : CipherMeaning) (key salt bytes sealed word header body : List ℕ) (w : ℕ) (r : Result (Option V) E)
    → Split bytes sealed word w → header ≡ take 8 sealed → body ≡ drop 8 sealed → 2 ^ 31 ≤ w
    → IfOk r (λ o. IfNone o ((rest : List ℕ) → cipher.aead key (gcm_rtcp_iv salt (sender_of header) (w % 2 ^ 31)) (header ++ word) rest ≡ body → ⊥))
    → IfOk r (λ o. IfNone o ((x : List ℕ) → GcmRtcpOpens cipher key salt bytes x → ⊥))
encrypted_opens_not cipher key salt bytes sealed word header body w (Err e) s p q h a = a
encrypted_opens_not cipher key salt bytes sealed word header body w (Ok None) s p q h a =
    λ x o. a (drop 8 x) (encrypted_none cipher key salt header body word bytes x (w % 2 ^ 31) (header_len bytes sealed word header w s p) (word_high bytes sealed word w s h) (whole bytes sealed word header body w 8 s p q) o.header
    (sym (under cipher key salt bytes sealed word x w true s (le-leb (2 ^ 31) w h)) ∙ o.seal))
encrypted_opens_not cipher key salt bytes sealed word header body w (Ok (Some v)) s p q h a = a

not_high : (w : ℕ) → w < 2 ^ 31 → nat_le (2 ^ 31) w ≡ false
not_high w h = grind (arith, nat_tests)

pub clear_opens : {V E : Type 0} (items : V → List ℕ) (cipher : CipherMeaning) (key salt bytes sealed word plain tag : List ℕ) (w n : ℕ) (r : Result (Option V) E)
    → Split bytes sealed word w → plain ≡ take n sealed → tag ≡ drop n sealed → 8 ≤ length plain → w < 2 ^ 31
    → IfOk r (λ o. IfSome o (λ v. items v ≡ plain))
    → IfOk r (λ o. IfSome o (λ _. cipher.aead key (gcm_rtcp_iv salt (sender_of (take 8 plain)) (w % 2 ^ 31)) (plain ++ word) [] ≡ tag))
    → IfOk r (λ o. IfSome o (λ v. GcmRtcpOpens cipher key salt bytes (items v)))
clear_opens items cipher key salt bytes sealed word plain tag w n (Err e) s p q long h a b = a
clear_opens items cipher key salt bytes sealed word plain tag w n (Ok None) s p q long h a b = a
clear_opens items cipher key salt bytes sealed word plain tag w n (Ok (Some v)) s p q long h a b =
    record {
      header = omega (arith, ap length a);
      seal = under cipher key salt bytes sealed word (items v) w false s (not_high w h)
          ∙ ap (λ x. gcm_sealed_rtcp cipher key salt false (w % 2 ^ 31) (take 8 x) (drop 8 x)) a
          ∙ clear_some cipher key salt plain tag word bytes (w % 2 ^ 31) (word_low bytes sealed word w s h) (whole bytes sealed word plain tag w n s p q) b;
    }

pub clear_opens_not : {V E : Type 0} (cipher : CipherMeaning) → ((key iv aad p : List ℕ) → length (cipher.aead key iv aad p) ≡ length p + 16)
    → (key salt bytes sealed word plain tag : List ℕ) (w n : ℕ) (r : Result (Option V) E)
    → Split bytes sealed word w → plain ≡ take n sealed → tag ≡ drop n sealed → length tag ≡ 16 → w < 2 ^ 31
    → IfOk r (λ o. IfNone o (cipher.aead key (gcm_rtcp_iv salt (sender_of (take 8 plain)) (w % 2 ^ 31)) (plain ++ word) [] ≡ tag → ⊥))
    → IfOk r (λ o. IfNone o ((x : List ℕ) → GcmRtcpOpens cipher key salt bytes x → ⊥))
clear_opens_not cipher longer key salt bytes sealed word plain tag w n (Err e) s p q long h a = a
clear_opens_not cipher longer key salt bytes sealed word plain tag w n (Ok None) s p q long h a =
    λ x o. a ((clear_none cipher longer key salt plain tag word bytes x (w % 2 ^ 31) long (word_low bytes sealed word w s h) (whole bytes sealed word plain tag w n s p q)
    (sym (under cipher key salt bytes sealed word x w false s (not_high w h)) ∙ o.seal)).1)
clear_opens_not cipher longer key salt bytes sealed word plain tag w n (Ok (Some v)) s p q long h a = a
