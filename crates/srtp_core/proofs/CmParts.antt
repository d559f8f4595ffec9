-- A datagram under counter mode in parts.
use Rattle.std.proofs.Common.{◌≡◌, ℕ, ◌+◌, ◌-◌, ◌/◌, ◌%◌, ◌^◌, ◌<◌, ◌≤◌, Bool, true, false, List, ◌++◌, length, get_or, take, drop, arith, refl, sym, ap, ◌∙◌, append_assoc}
use Rattle.std.specs.Prelude.{nat_le}
use Rattle.std.specs.Int.{w32, to_be_bytes, from_be_bytes}
use Rattle.std.proofs.lemmas.List.{take_at, drop_at, length-take, length-drop, length-append, take-append-drop, take-append-le, get_or_append_left}
use Rattle.std.proofs.lemmas.Bool.{le-leb}
use Rattle.std.proofs.lemmas.Bool.Decides.{nat_tests}
use Rattle.srtp_core.specs.Cipher.{CipherMeaning}
use Rattle.srtp_core.specs.Streams.{streamed}
use Rattle.srtp_core.proofs.SimulatedLaws.{streamed-streamed, length-streamed}
use Rattle.srtp_core.specs.Hmac.{hmac_of}
use Rattle.srtp_core.specs.Seals.{cm_iv, cm_rtp_tag, cm_sealed_rtp}
use Rattle.srtp_core.specs.RtcpSeals.{e_and_index, sender_of, cm_rest, cm_sealed_rtcp}
use Rattle.srtp_core.specs.CmSeals.{CmRtcpOpens}
use Rattle.srtp_core.proofs.Codes.{length-tag}
use Rattle.srtp_core.proofs.Lists.{front_of, back_of}
use Rattle.srtp_core.proofs.RtcpParts.{small_front, small_back, word_true, word_false}

-- RTP: of a datagram with room for a tag
rtp_text : (bytes : List ℕ) (n m : ℕ) → n ≤ m → m ≤ length bytes → take n bytes ++ drop n (take m bytes) ≡ take m bytes
rtp_text bytes n m h k =
    let size : n ≤ length (take m bytes) = omega (arith, length-take m bytes) in
    let front : take n bytes ≡ take n (take m bytes) = ap (take n) (sym (take-append-drop m bytes)) ∙ take-append-le n (take m bytes) (drop m bytes) size in
    ap (λ w. w ++ drop n (take m bytes)) front ∙ take-append-drop n (take m bytes)

pub rtp_opens : (cipher : CipherMeaning) (key authentication salt : List ℕ) (ssrc index n : ℕ) (bytes text tag out : List ℕ)
    → n + 10 ≤ length bytes → text ≡ take (length bytes - 10) bytes → tag ≡ drop (length bytes - 10) bytes
    → tag ≡ cm_rtp_tag authentication index text → out ≡ streamed (cipher.keystream key (cm_iv salt ssrc index)) (drop n text)
    → cm_sealed_rtp cipher key authentication salt ssrc index (take n bytes) out ≡ bytes
rtp_opens cipher key authentication salt ssrc index n bytes text tag out room front back code made =
    let stream = cipher.keystream key (cm_iv salt ssrc index) in
    let again : streamed stream out ≡ drop n text = ap (streamed stream) made ∙ streamed-streamed stream (drop n text) in
    let all : take n bytes ++ streamed stream out ≡ text =
    ap (λ w. take n bytes ++ w) again ∙ ap (λ w. take n bytes ++ drop n w) front ∙ rtp_text bytes n (length bytes - 10) (omega arith) (omega arith) ∙ sym front in
    ap (λ w. w ++ cm_rtp_tag authentication index w) all ∙ ap (λ w. text ++ w) (sym code)
    ∙ ap (λ w. w ++ tag) front ∙ ap (λ w. take (length bytes - 10) bytes ++ w) back ∙ take-append-drop (length bytes - 10) bytes

pub rtp_code : (cipher : CipherMeaning) (key authentication salt : List ℕ) (ssrc index n : ℕ) (bytes text tag payload : List ℕ)
    → 10 ≤ length bytes → text ≡ take (length bytes - 10) bytes → tag ≡ drop (length bytes - 10) bytes
    → cm_sealed_rtp cipher key authentication salt ssrc index (take n bytes) payload ≡ bytes
    → tag ≡ cm_rtp_tag authentication index text
rtp_code cipher key authentication salt ssrc index n bytes text tag payload room front back seal =
    let stream = cipher.keystream key (cm_iv salt ssrc index) in
    let other = take n bytes ++ streamed stream payload in
    let code = cm_rtp_tag authentication index other in
    let whole : text ++ tag ≡ bytes = ap (λ w. w ++ tag) front ∙ ap (λ w. take (length bytes - 10) bytes ++ w) back ∙ take-append-drop (length bytes - 10) bytes in
    let size : length code ≡ length tag = length-tag authentication _ ∙ sym (ap length back ∙ omega (arith, length-drop (length bytes - 10) bytes)) in
    let all : other ++ code ≡ text ++ tag = seal ∙ sym whole in
    let same : other ≡ text = front_of other text code tag size all in
    sym (back_of other text code tag size all) ∙ ap (cm_rtp_tag authentication index) same

pub rtp_short : (cipher : CipherMeaning) (key authentication salt : List ℕ) (ssrc index n : ℕ) (bytes payload : List ℕ)
    → n ≤ length bytes → length bytes - n < 10 → cm_sealed_rtp cipher key authentication salt ssrc index (take n bytes) payload ≡ bytes → ⊥
rtp_short cipher key authentication salt ssrc index n bytes payload h short seal =
    let text = take n bytes ++ streamed (cipher.keystream key (cm_iv salt ssrc index)) payload in
    omega (arith, ap length seal, length-append text (cm_rtp_tag authentication index text), length-append (take n bytes) (streamed (cipher.keystream key (cm_iv salt ssrc index)) payload), length-take n bytes, length-tag authentication (text ++ to_be_bytes w32 (index / 65536)))

-- RTCP: the facts of a datagram of at least 22 bytes, split before its tag, and before its word
pub record Split (bytes text tag packet word : List ℕ) (w : ℕ) : Type 0 where
  pub size : 22 ≤ length bytes
  pub front : text ≡ take (length bytes - 10) bytes
  pub back : tag ≡ drop (length bytes - 10) bytes
  pub packet_is : packet ≡ take (length text - 4) text
  pub word_is : word ≡ drop (length text - 4) text
  pub small : (i : ℕ) → get_or bytes i 0 < 256
  pub is : w ≡ from_be_bytes w32 word
  pub fits : w < 2 ^ 32

text_len : (bytes text tag packet word : List ℕ) (w : ℕ) → Split bytes text tag packet word w → length text + 10 ≡ length bytes
text_len bytes text tag packet word w s = omega (arith, ap length s.front, length-take (length bytes - 10) bytes, s.size)

word_len : (bytes text tag packet word : List ℕ) (w : ℕ) → Split bytes text tag packet word w → length word ≡ 4
word_len bytes text tag packet word w s = omega (arith, ap length s.word_is, length-drop (length text - 4) text, text_len bytes text tag packet word w s, s.size)

packet_len : (bytes text tag packet word : List ℕ) (w : ℕ) → Split bytes text tag packet word w → length packet + 14 ≡ length bytes
packet_len bytes text tag packet word w s = omega (arith, ap length s.packet_is, length-take (length text - 4) text, text_len bytes text tag packet word w s, s.size)

text_parts : (bytes text tag packet word : List ℕ) (w : ℕ) → Split bytes text tag packet word w → packet ++ word ≡ text
text_parts bytes text tag packet word w s = ap (λ x. x ++ word) s.packet_is ∙ ap (λ x. take (length text - 4) text ++ x) s.word_is ∙ take-append-drop (length text - 4) text

whole : (bytes text tag packet word : List ℕ) (w : ℕ) → Split bytes text tag packet word w → text ++ tag ≡ bytes
whole bytes text tag packet word w s = ap (λ x. x ++ tag) s.front ∙ ap (λ x. take (length bytes - 10) bytes ++ x) s.back ∙ take-append-drop (length bytes - 10) bytes

pub four_bytes : (xs ys : List ℕ) → length xs ≡ 4 → from_be_bytes w32 (xs ++ ys) ≡ from_be_bytes w32 xs
four_bytes xs ys h =
    let a : get_or (xs ++ ys) 0 0 ≡ get_or xs 0 0 = get_or_append_left xs ys 0 0 (omega arith) in
    let b : get_or (xs ++ ys) 1 0 ≡ get_or xs 1 0 = get_or_append_left xs ys 0 1 (omega arith) in
    let c : get_or (xs ++ ys) 2 0 ≡ get_or xs 2 0 = get_or_append_left xs ys 0 2 (omega arith) in
    let d : get_or (xs ++ ys) 3 0 ≡ get_or xs 3 0 = get_or_append_left xs ys 0 3 (omega arith) in
    cc (a, b, c, d)

stated : (bytes text tag packet word : List ℕ) (w : ℕ) → Split bytes text tag packet word w → from_be_bytes w32 (drop (length bytes - 14) bytes) ≡ w
stated bytes text tag packet word w s =
    let parts : packet ++ (word ++ tag) ≡ bytes = sym (append_assoc packet word tag) ∙ ap (λ x. x ++ tag) (text_parts bytes text tag packet word w s) ∙ whole bytes text tag packet word w s in
    let place : length packet ≡ length bytes - 14 = omega (arith, packet_len bytes text tag packet word w s) in
    let at : drop (length bytes - 14) bytes ≡ word ++ tag = ap (drop (length bytes - 14)) (sym parts) ∙ drop_at packet (word ++ tag) (length bytes - 14) place in
    ap (from_be_bytes w32) at ∙ four_bytes word tag (word_len bytes text tag packet word w s) ∙ sym s.is

small_word : (bytes text tag packet word : List ℕ) (w : ℕ) → Split bytes text tag packet word w → (i : ℕ) → get_or word i 0 < 256
small_word bytes text tag packet word w s =
    small_back text word (length text - 4) s.word_is (small_front bytes text (length bytes - 10) s.front s.small)

word_high : (bytes text tag packet word : List ℕ) (w : ℕ) → Split bytes text tag packet word w → 2 ^ 31 ≤ w → e_and_index true (w % 2 ^ 31) ≡ word
word_high bytes text tag packet word w s h = word_true word w (word_len bytes text tag packet word w s) (small_word bytes text tag packet word w s) s.is s.fits h

word_low : (bytes text tag packet word : List ℕ) (w : ℕ) → Split bytes text tag packet word w → w < 2 ^ 31 → e_and_index false (w % 2 ^ 31) ≡ word
word_low bytes text tag packet word w s h = word_false word w (word_len bytes text tag packet word w s) (small_word bytes text tag packet word w s) s.is h

-- the seal under what is stated is that under these
under : (cipher : CipherMeaning) (key authentication salt bytes text tag packet word plain : List ℕ) (w : ℕ) (bit : Bool) → Split bytes text tag packet word w → nat_le (2 ^ 31) w ≡ bit
    → (let x = from_be_bytes w32 (drop (length bytes - 14) bytes) in cm_sealed_rtcp cipher key authentication salt (nat_le (2 ^ 31) x) (x % 2 ^ 31) (take 8 plain) (drop 8 plain)) ≡ cm_sealed_rtcp cipher key authentication salt bit (w % 2 ^ 31) (take 8 plain) (drop 8 plain)
under cipher key authentication salt bytes text tag packet word plain w bit s e =
    ap (λ x. cm_sealed_rtcp cipher key authentication salt (nat_le (2 ^ 31) x) (x % 2 ^ 31) (take 8 plain) (drop 8 plain)) (stated bytes text tag packet word w s)
    ∙ ap (λ b. cm_sealed_rtcp cipher key authentication salt b (w % 2 ^ 31) (take 8 plain) (drop 8 plain)) e

pub encrypted_opens : (cipher : CipherMeaning) (key authentication salt bytes text tag packet word plain : List ℕ) (w : ℕ)
    → Split bytes text tag packet word w → tag ≡ take 10 (hmac_of authentication text) → 2 ^ 31 ≤ w
    → plain ≡ take 8 packet ++ streamed (cipher.keystream key (cm_iv salt (sender_of (take 8 packet)) (w % 2 ^ 31))) (drop 8 packet)
    → CmRtcpOpens cipher key authentication salt bytes plain
encrypted_opens cipher key authentication salt bytes text tag packet word plain w s code h made =
    let stream = cipher.keystream key (cm_iv salt (sender_of (take 8 packet)) (w % 2 ^ 31)) in
    let size : length (take 8 packet) ≡ 8 = omega (arith, length-take 8 packet, packet_len bytes text tag packet word w s, s.size) in
    let front : take 8 plain ≡ take 8 packet = ap (take 8) made ∙ take_at (take 8 packet) (streamed stream (drop 8 packet)) 8 size in
    let back : drop 8 plain ≡ streamed stream (drop 8 packet) = ap (drop 8) made ∙ drop_at (take 8 packet) (streamed stream (drop 8 packet)) 8 size in
    let rest : cm_rest cipher key salt true (w % 2 ^ 31) (take 8 plain) (drop 8 plain) ≡ drop 8 packet =
    ap (λ x. streamed (cipher.keystream key (cm_iv salt (sender_of x) (w % 2 ^ 31))) (drop 8 plain)) front ∙ ap (streamed stream) back ∙ streamed-streamed stream (drop 8 packet) in
    let all : take 8 plain ++ cm_rest cipher key salt true (w % 2 ^ 31) (take 8 plain) (drop 8 plain) ++ e_and_index true (w % 2 ^ 31) ≡ text =
    ap (λ x. x ++ cm_rest cipher key salt true (w % 2 ^ 31) (take 8 plain) (drop 8 plain) ++ e_and_index true (w % 2 ^ 31)) front
    ∙ ap (λ x. take 8 packet ++ x ++ e_and_index true (w % 2 ^ 31)) rest
    ∙ ap (λ x. x ++ e_and_index true (w % 2 ^ 31)) (take-append-drop 8 packet) ∙ ap (λ x. packet ++ x) (word_high bytes text tag packet word w s h) ∙ text_parts bytes text tag packet word w s in
    record {
      header = omega (arith, ap length made, length-append (take 8 packet) (streamed stream (drop 8 packet)), size);
      seal = under cipher key authentication salt bytes text tag packet word plain w true s (le-leb (2 ^ 31) w h)
          ∙ ap (λ x. x ++ take 10 (hmac_of authentication x)) all ∙ ap (λ x. text ++ x) (sym code) ∙ whole bytes text tag packet word w s;
    }

not_high : (w : ℕ) → w < 2 ^ 31 → nat_le (2 ^ 31) w ≡ false
not_high w h = grind (arith, nat_tests)

pub clear_opens : (cipher : CipherMeaning) (key authentication salt bytes text tag packet word plain : List ℕ) (w : ℕ)
    → Split bytes text tag packet word w → tag ≡ take 10 (hmac_of authentication text) → w < 2 ^ 31 → plain ≡ packet
    → CmRtcpOpens cipher key authentication salt bytes plain
clear_opens cipher key authentication salt bytes text tag packet word plain w s code h made =
    let all : take 8 plain ++ drop 8 plain ++ e_and_index false (w % 2 ^ 31) ≡ text =
    ap (λ x. x ++ e_and_index false (w % 2 ^ 31)) (take-append-drop 8 plain ∙ made) ∙ ap (λ x. packet ++ x) (word_low bytes text tag packet word w s h) ∙ text_parts bytes text tag packet word w s in
    record {
      header = omega (arith, ap length made, packet_len bytes text tag packet word w s, s.size);
      seal = under cipher key authentication salt bytes text tag packet word plain w false s (not_high w h)
          ∙ ap (λ x. x ++ take 10 (hmac_of authentication x)) all ∙ ap (λ x. text ++ x) (sym code) ∙ whole bytes text tag packet word w s;
    }

-- whatever opens has its tag at the end
pub rtcp_code : (cipher : CipherMeaning) (key authentication salt bytes text tag plain : List ℕ)
    → 10 ≤ length bytes → text ≡ take (length bytes - 10) bytes → tag ≡ drop (length bytes - 10) bytes
    → CmRtcpOpens cipher key authentication salt bytes plain → tag ≡ take 10 (hmac_of authentication text)
rtcp_code cipher key authentication salt bytes text tag plain room front back o =
    let x = from_be_bytes w32 (drop (length bytes - 14) bytes) in
    let bit = nat_le (2 ^ 31) x in
    let other = take 8 plain ++ cm_rest cipher key salt bit (x % 2 ^ 31) (take 8 plain) (drop 8 plain) ++ e_and_index bit (x % 2 ^ 31) in
    let code = take 10 (hmac_of authentication other) in
    let all_of : text ++ tag ≡ bytes = ap (λ w. w ++ tag) front ∙ ap (λ w. take (length bytes - 10) bytes ++ w) back ∙ take-append-drop (length bytes - 10) bytes in
    let size : length code ≡ length tag = length-tag authentication other ∙ sym (ap length back ∙ omega (arith, length-drop (length bytes - 10) bytes)) in
    let all : other ++ code ≡ text ++ tag = o.seal ∙ sym all_of in
    let same : other ≡ text = front_of other text code tag size all in
    sym (back_of other text code tag size all) ∙ ap (λ w. take 10 (hmac_of authentication w)) same

pub rest_len : (cipher : CipherMeaning) (key salt header rest : List ℕ) (bit : Bool) (index : ℕ) → length (cm_rest cipher key salt bit index header rest) ≡ length rest
rest_len cipher key salt header rest true index = length-streamed (cipher.keystream key (cm_iv salt (sender_of header) index)) rest
rest_len cipher key salt header rest false index = refl

pub four : (bit : Bool) (index : ℕ) → length (e_and_index bit index) ≡ 4
four true index = refl
four false index = refl

pub rtcp_short : (cipher : CipherMeaning) (key authentication salt bytes plain : List ℕ) → length bytes < 22 → CmRtcpOpens cipher key authentication salt bytes plain → ⊥
rtcp_short cipher key authentication salt bytes plain h o =
    let x = from_be_bytes w32 (drop (length bytes - 14) bytes) in
    let bit = nat_le (2 ^ 31) x in
    let rest = cm_rest cipher key salt bit (x % 2 ^ 31) (take 8 plain) (drop 8 plain) in
    let other = take 8 plain ++ rest ++ e_and_index bit (x % 2 ^ 31) in
    omega (arith, ap length o.seal, o.header, length-append other (take 10 (hmac_of authentication other)), length-tag authentication other, length-append (take 8 plain ++ rest) (e_and_index bit (x % 2 ^ 31)), four bit (x % 2 ^ 31), length-append (take 8 plain) rest, length-take 8 plain)
