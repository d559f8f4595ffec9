-- What a word says is how it is spelled, and the other way round.
use Rattle.std.proofs.Common.{◌≡◌, ◌⊎◌, lit<, lit≤, inl, inr, ℕ, zero, suc, ◌+◌, ◌-◌, ◌*◌, ◌%◌, ◌^◌, ◌<◌, ◌≤◌, Bool, true, false, cond, not, ◌&&◌, eqb, leb, ltb, List, [], ◌∷◌, ◌++◌, length, take, drop, get_or, Option, Some, None, Result, Ok, Err, refl, sym, ap, ◌∙◌, subst, arith}
use Rattle.std.specs.Prelude.{codes, nat_eq, is_some}
use Rattle.std.specs.Fmt.{decimal}
use Rattle.std.specs.Str.{all_ascii_digits, bytes_eq}
use Rattle.std.specs.Str.Parse.{digits_value}
use Rattle.std.specs.Result.{result_ok}
use Rattle.std.proofs.lemmas.Bool.{leb-true, ltb-true, lt-ltb, eq-eqb}
use Rattle.std.proofs.lemmas.Bool.Decides.{nat_tests, Decides-eqb}
use Rattle.std.proofs.lemmas.List.{get_or_at, length-append, take_at, drop_at}
use Rattle.std.proofs.lemmas.Slice.Eq.{bytes_eq-Decides, starts_is, ends_is}
use Rattle.std.proofs.lemmas.Fmt.{decimal-digits_value, digits_decimal, digits_value-decimal, decimal_nonempty, first_decimal, decimal_digit}
use Rattle.std.proofs.lemmas.Str.Parse.{IsNumeralModel, digit_at, numerals_by_value, tells_all_ascii_digits}
use Rattle.std.specs.Char.{is_ascii_alphanumeric}
use Rattle.std.specs.List.{list_all, starts_with}
use Rattle.std.proofs.lemmas.List.Sums.{AllPass-from_list_all, list_all-from_AllPass}
use Rattle.hex.specs.Hex.{decode_of, decode_pairs}
use Rattle.srtp_core.specs.declared.profile.SrtpProfile.{SrtpProfile}
use Rattle.srtp_core.specs.declared.profile.SrtpProfile.TheVariants.{Aes128CmSha1_80, AeadAes128Gcm, AeadAes256Gcm}
use Rattle.hex.specs.declared.error.FromHexError.{FromHexError}
use Rattle.media_model.specs.declared.entry.Side.{Side}
use Rattle.media_model.specs.declared.entry.Side.TheVariants.{A, B}
use Rattle.rtp_base.specs.declared.kind.Kind.{Kind}
use Rattle.rtp_base.specs.declared.kind.Kind.TheVariants.{Rtp, Rtcp}
use Rattle.media_model.specs.declared.setup.CipherName.{CipherName}
use Rattle.media_model.specs.declared.setup.CipherName.TheVariants.{Toy, Sha}
use Rattle.media_model.specs.declared.setup.Codec.{Codec}
use Rattle.media_model.specs.declared.setup.Codec.TheVariants.{Opus, Pcmu, Pcma, Telephone, Vp8, Vp9, H264, H265, H266, Av1}
use Rattle.media_model.specs.declared.setup.Key.{Key}
use Rattle.media_model.specs.declared.setup.Key.TheVariants.{Zero, Given}
use Rattle.media_model.specs.declared.setup.MediaKind.{MediaKind}
use Rattle.media_model.specs.declared.setup.MediaKind.TheVariants.{Audio, Video}
use Rattle.media_model.specs.Application.{AreFew, are_few, data_of}
use Rattle.rtp_wire.specs.Bytes.{words_of as numbers_in}
use Rattle.rtp_wire.specs.declared.extension.Extension.{Extension}
use Rattle.rtp_wire.specs.declared.extension.Extension.TheVariants.{AudioLevel, AbsoluteSendTime, TransportSequenceNumber, RtpMid, RtpStreamId, RepairedRtpStreamId, VideoOrientation, AbsoluteCaptureTime, PlayoutDelay}
use Rattle.rtp_base.specs.declared.keyframe_request.KeyframeRequestKind.{KeyframeRequestKind}
use Rattle.rtp_base.specs.declared.keyframe_request.KeyframeRequestKind.TheVariants.{Pli, Fir}
use Rattle.media_script.specs.Words.{◌>>=◌, below, plain_front, is_number, number_of, narrow_of, millis_of, has_ms, time_of, side_of, flag_of, hex_of, app_data_of, kinds, at_most, key_of, one_of, ciphers, profiles, codecs, rate_of, is_name, name_of, extensions, numbers_of, has_c, sources_of, type_behind, optional, keyframes, media_kinds}
use Rattle.media_script.specs.Names.{side_text, flag_text, kind_text, keyframe_text, cipher_text, profile_text, codec_text, media_kind_text, extension_text}
use Rattle.media_script.specs.Grammar.{named_type, behind}
use Rattle.media_script.specs.Spelling.{IsTime, IsHex, IsName, IsKey, IsOptional, IsBelow, IsNamed, IsNamedType, IsSources}

own : IsNumeralModel (λ ds. all_ascii_digits ds ≡ true) (digits_value 10)
own = numerals_by_value _ tells_all_ascii_digits

both : (a b : Bool) → (a && b) ≡ true → (a ≡ true) × (b ≡ true)
both true b e = (refl, e)
both false b e = absurd cc

pub if_some : {X : Type 0} (b : Bool) (x y : X) → cond b (Some x) None ≡ Some y → (b ≡ true) × (x ≡ y)
if_some true x y e = (refl, cc)
if_some false x y e = absurd cc

if_then : {X : Type 0} (b : Bool) (o : Option X) (y : X) → cond b o None ≡ Some y → (b ≡ true) × (o ≡ Some y)
if_then true o y e = (refl, e)
if_then false o y e = absurd cc

pub bind_some : {X Y : Type 0} (r : Option X) (f : X → Option Y) (y : Y) → (r >>= f) ≡ Some y → (x : X) × (r ≡ Some x) × (f x ≡ Some y)
bind_some (Some x) f y e = (x, refl, e)
bind_some None f y e = absurd cc

front_nonempty : (word : List ℕ) → plain_front word ≡ true → 0 < length word
front_nonempty [] e = absurd cc
front_nonempty (b ∷ word) e = omega arith

front_first : (word : List ℕ) → plain_front word ≡ true → get_or word 0 0 ≡ 48 → length word ≡ 1
front_first [] e z = absurd cc
front_first (b ∷ []) e z = refl
front_first (b ∷ c ∷ word) e z = let same : eqb b 48 ≡ true = eq-eqb b 48 z in absurd (cc (e, ap not same))

-- a number
pub number_spelled : (word : List ℕ) (n : ℕ) → number_of word ≡ Some n → (word ≡ decimal n) × (n < 2 ^ 64)
unfolding number_of
number_spelled word n e =
    let a = if_then (is_number word) (below (2 ^ 64) (digits_value 10 word)) n e in
    let b = if_some (ltb (digits_value 10 word) (2 ^ 64)) (digits_value 10 word) n a.1 in
    let c = both (plain_front word) (all_ascii_digits word) a.0 in
    let small : digits_value 10 word < 2 ^ 64 = ltb-true _ _ b.0 in
    (sym (decimal-digits_value own word c.1 (front_nonempty word c.0) (front_first word c.0) small) ∙ ap decimal b.1, subst (λ k. k < 2 ^ 64) b.1 small)

plain_from : (word : List ℕ) → 0 < length word → (get_or word 0 0 ≡ 48 → length word ≡ 1) → plain_front word ≡ true
plain_from [] lt h = absurd (omega arith)
plain_from (b ∷ []) lt h = refl
plain_from (b ∷ c ∷ word) lt h = grind (arith, nat_tests, h)

zero_or_more : (n : ℕ) → get_or (decimal n) 0 0 ≡ 48 → n < 2 ^ 64 → length (decimal n) ≡ 1
zero_or_more zero z small = ap length (decimal_digit 0 (lit< tt))
zero_or_more (suc n) z small = absurd (omega (arith, first_decimal (suc n) (omega arith) small))

pub number_again : (n : ℕ) → n < 2 ^ 64 → number_of (decimal n) ≡ Some n
unfolding number_of
number_again n small =
    let front : plain_front (decimal n) ≡ true = plain_from (decimal n) (decimal_nonempty n small) (λ z. zero_or_more n z small) in
    let digits : all_ascii_digits (decimal n) ≡ true = digits_decimal own n small in
    rw (front, digits, digits_value-decimal own n small) (ap (λ b. cond b (Some n) None) (lt-ltb _ _ small))

pub narrow_spelled : (limit : ℕ) (word : List ℕ) (n : ℕ) → narrow_of limit word ≡ Some n → (word ≡ decimal n) × (n < limit)
unfolding narrow_of
narrow_spelled limit word n e =
    let a = bind_some (number_of word) (λ m. below limit m) n e in
    let b = if_some (ltb a.0 limit) a.0 n a.2 in
    ((number_spelled word a.0 a.1).0 ∙ ap decimal b.1, subst (λ k. k < limit) b.1 (ltb-true _ _ b.0))

pub narrow_again : (limit n : ℕ) → limit ≤ 2 ^ 64 → n < limit → narrow_of limit (decimal n) ≡ Some n
unfolding narrow_of
narrow_again limit n le lt = rw (number_again n (omega arith)) (ap (λ b. cond b (Some n) None) (lt-ltb _ _ lt))

-- milliseconds
pub millis_spelled : (word : List ℕ) (nanos : ℕ) → millis_of word ≡ Some nanos → (ms : ℕ) × (word ≡ decimal ms) × (nanos ≡ ms * 1000000) × (nanos < 2 ^ 64)
unfolding millis_of
millis_spelled word nanos e =
    let a = bind_some (number_of word) (λ n. below (2 ^ 64) (n * 1000000)) nanos e in
    let b = if_some (ltb (a.0 * 1000000) (2 ^ 64)) (a.0 * 1000000) nanos a.2 in
    (a.0, (number_spelled word a.0 a.1).0, sym b.1, subst (λ k. k < 2 ^ 64) b.1 (ltb-true _ _ b.0))

pub millis_again : (ms nanos : ℕ) → nanos ≡ ms * 1000000 → nanos < 2 ^ 64 → millis_of (decimal ms) ≡ Some nanos
unfolding millis_of
millis_again ms nanos is fits =
    rw (number_again ms (omega (arith, fits, is))) (ap (λ b. cond b (Some (ms * 1000000)) None) (lt-ltb _ _ (omega (arith, fits, is))) ∙ ap (λ (t : ℕ). Some t) (sym is))

-- a time
ms_is : (word : List ℕ) → (has_ms word ≡ true → word ≡ take (length word - 2) word ++ codes "ms") × ((front : List ℕ) → word ≡ front ++ codes "ms" → has_ms word ≡ true)
ms_is word = ends_is Decides-eqb word (codes "ms") (has_ms word) refl

no_ms : (n : ℕ) → n < 2 ^ 64 → has_ms (decimal n) ≡ false
no_ms n small = cases (has_ms (decimal n)) refl where
  cases : (b : Bool) → has_ms (decimal n) ≡ b → b ≡ false
  cases false e = refl
  cases true e =
      let split = (ms_is (decimal n)).0 e in
      let front = take (length (decimal n) - 2) (decimal n) in
      let lt : length front < length (decimal n) = omega (arith, ap length split, length-append front (codes "ms")) in
      let digit = digit_at (decimal n) (length front) (own.to (decimal n) (digits_decimal own n small)) lt in
      let m : get_or (decimal n) (length front) 0 ≡ 109 = ap (λ (l : List ℕ). get_or l (length front) 0) split ∙ get_or_at front 109 (115 ∷ []) 0 (length front) refl in
      absurd (omega (arith, digit, m))

pub time_spelled : (word : List ℕ) (time : ℕ) → time_of word ≡ Some time → IsTime word time
unfolding time_of
time_spelled word time e = cases (has_ms word) refl e where
  cases : (b : Bool) → has_ms word ≡ b → cond b (millis_of (take (length word - 2) word)) (number_of word) ≡ Some time → IsTime word time
  cases true is e =
      let m = millis_spelled (take (length word - 2) word) time e in
      record { fits = m.3; spelled = inr (m.0, (ms_is word).0 is ∙ ap (λ (l : List ℕ). l ++ codes "ms") m.1, m.2) }
  cases false is e = let n = number_spelled word time e in record { fits = n.1; spelled = inl n.0 }

pub time_again : (word : List ℕ) (time : ℕ) → IsTime word time → time_of word ≡ Some time
unfolding time_of
time_again word time is = go is.spelled where
  go : (word ≡ decimal time) ⊎ ((ms : ℕ) × (word ≡ decimal ms ++ codes "ms") × (time ≡ ms * 1000000)) → time_of word ≡ Some time
  go (inl plain) = ap time_of plain ∙ rw (no_ms time is.fits) (number_again time is.fits)
  go (inr ms) =
      let small : ms.0 < 2 ^ 64 = omega (arith, is.fits, ms.2) in
      let len : length word ≡ length (decimal ms.0) + 2 = ap length ms.1 ∙ length-append (decimal ms.0) (codes "ms") in
      let digits : take (length word - 2) word ≡ decimal ms.0 = ap (take (length word - 2)) ms.1 ∙ take_at (decimal ms.0) (codes "ms") (length word - 2) (omega arith) in
      rw ((ms_is word).1 (decimal ms.0) ms.1, digits) (millis_again ms.0 time ms.2 is.fits)

-- the other words
pub equal : (a b : List ℕ) → bytes_eq a b ≡ true → a ≡ b
equal a b e = (bytes_eq-Decides a b).0 e

pub side_spelled : (word : List ℕ) (side : Side) → side_of word ≡ Some side → word ≡ side_text side
unfolding side_of
side_spelled word side e = first (bytes_eq word (codes "A")) (bytes_eq word (codes "B")) refl refl e where
  first : (a b : Bool) → bytes_eq word (codes "A") ≡ a → bytes_eq word (codes "B") ≡ b → cond a (Some A) (cond b (Some B) None) ≡ Some side → word ≡ side_text side
  first true b p q e = let is : A ≡ side = cc in equal word (codes "A") p ∙ ap side_text is
  first false true p q e = let is : B ≡ side = cc in equal word (codes "B") q ∙ ap side_text is
  first false false p q e = absurd cc

pub side_again : (side : Side) → side_of (side_text side) ≡ Some side
unfolding side_of
side_again A = refl
side_again B = refl

pub flag_spelled : (word : List ℕ) (flag : Bool) → flag_of word ≡ Some flag → word ≡ flag_text flag
unfolding flag_of
flag_spelled word flag e = first (bytes_eq word (codes "0")) (bytes_eq word (codes "1")) refl refl e where
  first : (a b : Bool) → bytes_eq word (codes "0") ≡ a → bytes_eq word (codes "1") ≡ b → cond a (Some false) (cond b (Some true) None) ≡ Some flag → word ≡ flag_text flag
  first true b p q e = let is : false ≡ flag = cc in equal word (codes "0") p ∙ ap flag_text is
  first false true p q e = let is : true ≡ flag = cc in equal word (codes "1") q ∙ ap flag_text is
  first false false p q e = absurd cc

pub flag_again : (flag : Bool) → flag_of (flag_text flag) ≡ Some flag
unfolding flag_of
flag_again false = refl
flag_again true = refl

ok_is : (r : Result (List ℕ) FromHexError) (bytes : List ℕ) → result_ok r ≡ Some bytes → r ≡ Ok bytes
ok_is (Ok x) bytes e = cc
ok_is (Err d) bytes e = absurd cc

pub hex_spelled : (word bytes : List ℕ) → hex_of word ≡ Some bytes → IsHex word bytes
unfolding hex_of
hex_spelled word bytes e = first (bytes_eq word (codes "-")) (eqb (length word) 0) refl refl e where
  first : (a b : Bool) → bytes_eq word (codes "-") ≡ a → eqb (length word) 0 ≡ b → cond a (Some []) (cond b None (result_ok (decode_of word))) ≡ Some bytes → IsHex word bytes
  first true b p q e = inl (equal word (codes "-") p, cc)
  first false true p q e = absurd cc
  first false false p q e = inr (grind (arith, nat_tests), ok_is (decode_of word) bytes e)

pub hex_again : (word bytes : List ℕ) → IsHex word bytes → hex_of word ≡ Some bytes
unfolding hex_of
hex_again word bytes (inl none) = ap hex_of none.0 ∙ ap (λ b. Some b) (sym none.1)
hex_again word bytes (inr digits) = go (bytes_eq word (codes "-")) refl where
  go : (b : Bool) → bytes_eq word (codes "-") ≡ b → hex_of word ≡ Some bytes
  go true p = let odd = ap decode_of (equal word (codes "-") p) in absurd (cc (odd, digits.1))
  go false p =
      let some : eqb (length word) 0 ≡ false = grind (arith, nat_tests, digits.0) in
      rw (p, some, digits.1) refl

-- what an application sends as feedback
pub app_data_spelled : (word payload : List ℕ) → app_data_of word ≡ Some payload → IsHex word payload × AreFew payload
unfolding app_data_of
app_data_spelled word payload e =
    let a = bind_some (hex_of word) (λ bytes. data_of bytes) payload e in
    let b = if_some (are_few a.0) a.0 payload a.2 in
    let c = both (eqb (length a.0 % 4) 0) (leb (length a.0) 800) b.0 in
    let few : AreFew a.0 = record { whole = grind (arith, nat_tests, c.0); few = grind (arith, nat_tests, c.1) } in
    let P : List ℕ → Type 0 = λ bytes. IsHex word bytes × AreFew bytes in
    subst P b.1 (hex_spelled word a.0 a.1, few)

pub app_data_again : (word payload : List ℕ) → IsHex word payload → AreFew payload → app_data_of word ≡ Some payload
unfolding app_data_of
app_data_again word payload is few =
    let whole : eqb (length payload % 4) 0 ≡ true = grind (arith, nat_tests, few.whole) in
    let small : leb (length payload) 800 ≡ true = grind (arith, nat_tests, few.few) in
    rw (hex_again word payload is, whole, small) refl

-- a number that is at most so great
pub at_most_spelled : (greatest : ℕ) (word : List ℕ) (n : ℕ) → at_most greatest word ≡ Some n → (word ≡ decimal n) × (n ≤ greatest)
unfolding at_most
at_most_spelled greatest word n e =
    let a = bind_some (number_of word) (λ m. cond (leb m greatest) (Some m) None) n e in
    let b = if_some (leb a.0 greatest) a.0 n a.2 in
    ((number_spelled word a.0 a.1).0 ∙ ap decimal b.1, subst (λ k. k ≤ greatest) b.1 (leb-true a.0 greatest b.0))

pub at_most_again : (greatest n : ℕ) → greatest < 2 ^ 64 → n ≤ greatest → at_most greatest (decimal n) ≡ Some n
unfolding at_most
at_most_again greatest n lt le =
    let small : leb n greatest ≡ true = grind (arith, nat_tests, le) in
    rw (number_again n (omega (arith, lt, le)), small) refl

pub key_spelled : (word : List ℕ) (key : Key) → key_of word ≡ Some key → IsKey word key
unfolding key_of
key_spelled word key e = first (bytes_eq word (codes "zero")) refl e where
  first : (b : Bool) → bytes_eq word (codes "zero") ≡ b → cond b (Some Zero) (hex_of word >>= λ bytes. Some (Given bytes)) ≡ Some key → IsKey word key
  first true p e' = let is : Zero ≡ key = cc in subst (IsKey word) is (equal word (codes "zero") p)
  first false p e' =
      let a = bind_some (hex_of word) (λ bytes. Some (Given bytes)) key e' in
      let is : Given a.0 ≡ key = cc in
      subst (IsKey word) is (hex_spelled word a.0 a.1)

zero_no_hex : hex_of (codes "zero") ≡ None
unfolding hex_of decode_pairs
zero_no_hex = refl

pub key_again : (word : List ℕ) (key : Key) → IsKey word key → key_of word ≡ Some key
unfolding key_of
key_again word Zero is = ap key_of is ∙ refl
key_again word (Given bytes) is = go (bytes_eq word (codes "zero")) refl where
  go : (b : Bool) → bytes_eq word (codes "zero") ≡ b → cond b (Some Zero) (hex_of word >>= λ bs. Some (Given bs)) ≡ Some (Given bytes)
  go true p = absurd (let none = ap hex_of (equal word (codes "zero") p) ∙ zero_no_hex in let some = hex_again word bytes is in cc (none, some))
  go false p = rw (hex_again word bytes is) refl

-- one of several words
pub one_spelled : {X : Type 0} (text : X → List ℕ) (xs : List X) (word : List ℕ) (x : X) → one_of text xs word ≡ Some x → word ≡ text x
unfolding one_of
one_spelled text [] word x e = absurd cc
one_spelled {X} text (y ∷ xs) word x e = go (one_spelled text xs word x) (bytes_eq word (text y)) refl e where
  go : (one_of text xs word ≡ Some x → word ≡ text x) → (b : Bool) → bytes_eq word (text y) ≡ b → cond b (Some y) (one_of text xs word) ≡ Some x → word ≡ text x
  go next true p e' = let is : y ≡ x = cc in equal word (text y) p ∙ ap text is
  go next false p e' = next e'

pub kind_again : (kind : Kind) → one_of kind_text kinds (kind_text kind) ≡ Some kind
unfolding one_of
kind_again Rtp = refl
kind_again Rtcp = refl

pub keyframe_again : (kind : KeyframeRequestKind) → one_of keyframe_text keyframes (keyframe_text kind) ≡ Some kind
unfolding one_of
keyframe_again Pli = refl
keyframe_again Fir = refl

pub cipher_again : (cipher : CipherName) → one_of cipher_text ciphers (cipher_text cipher) ≡ Some cipher
unfolding one_of
cipher_again Toy = refl
cipher_again Sha = refl

pub profile_again : (profile : SrtpProfile) → one_of profile_text profiles (profile_text profile) ≡ Some profile
unfolding one_of
profile_again Aes128CmSha1_80 = refl
profile_again AeadAes128Gcm = refl
profile_again AeadAes256Gcm = refl

pub codec_again : (codec : Codec) → one_of codec_text codecs (codec_text codec) ≡ Some codec
unfolding one_of
codec_again Opus = refl
codec_again Pcmu = refl
codec_again Pcma = refl
codec_again Telephone = refl
codec_again Vp8 = refl
codec_again Vp9 = refl
codec_again H264 = refl
codec_again H265 = refl
codec_again H266 = refl
codec_again Av1 = refl

pub media_kind_again : (kind : MediaKind) → one_of media_kind_text media_kinds (media_kind_text kind) ≡ Some kind
unfolding one_of
media_kind_again Audio = refl
media_kind_again Video = refl

pub extension_again : (extension : Extension) → one_of extension_text extensions (extension_text extension) ≡ Some extension
unfolding one_of
extension_again AudioLevel = refl
extension_again AbsoluteSendTime = refl
extension_again TransportSequenceNumber = refl
extension_again RtpMid = refl
extension_again RtpStreamId = refl
extension_again RepairedRtpStreamId = refl
extension_again VideoOrientation = refl
extension_again AbsoluteCaptureTime = refl
extension_again PlayoutDelay = refl

pub rate_spelled : (word : List ℕ) (rate : ℕ) → rate_of word ≡ Some rate → (word ≡ decimal rate) × (0 < rate) × (rate < 2 ^ 32)
unfolding rate_of
rate_spelled word rate e =
    let a = bind_some (narrow_of (2 ^ 32) word) (λ n. cond (eqb n 0) None (Some n)) rate e in
    let n = narrow_spelled (2 ^ 32) word a.0 a.1 in
    go a.0 (eqb a.0 0) refl a.2 n where
      go : (n : ℕ) (b : Bool) → eqb n 0 ≡ b → cond b None (Some n) ≡ Some rate → (word ≡ decimal n) × (n < 2 ^ 32) → (word ≡ decimal rate) × (0 < rate) × (rate < 2 ^ 32)
      go n true p e' is = absurd cc
      go n false p e' is =
          let same : n ≡ rate = cc in
          let some : 0 < n = grind (arith, nat_tests) in
          (is.0 ∙ ap decimal same, omega (arith, same), omega (arith, same, is.1))

pub rate_again : (rate : ℕ) → 0 < rate → rate < 2 ^ 32 → rate_of (decimal rate) ≡ Some rate
unfolding rate_of
rate_again rate some small =
    let not_zero : eqb rate 0 ≡ false = grind (arith, nat_tests) in
    rw (narrow_again (2 ^ 32) rate (lit≤ tt) small, not_zero) refl

-- contributing sources
c_is : (word : List ℕ) → (has_c word ≡ true → word ≡ codes "c=" ++ drop 2 word) × ((rest : List ℕ) → word ≡ codes "c=" ++ rest → has_c word ≡ true)
c_is word = starts_is Decides-eqb word (codes "c=") (has_c word) refl

-- whole numbers are a quarter of their bytes
quarter : (bytes : List ℕ) → length bytes % 4 ≡ 0 → length bytes ≡ 4 * length (numbers_in bytes)
quarter [] e = refl
quarter (a ∷ []) e = absurd (omega arith)
quarter (a ∷ b ∷ []) e = absurd (omega arith)
quarter (a ∷ b ∷ c ∷ []) e = absurd (omega arith)
quarter (a ∷ b ∷ c ∷ d ∷ bytes) e = omega (arith, quarter bytes (omega arith))

pub sources_spelled : (word csrc : List ℕ) → sources_of word ≡ Some csrc → IsSources word csrc
unfolding sources_of numbers_of
sources_spelled word csrc e =
    let a = if_then (has_c word) (hex_of (drop 2 word) >>= λ bytes. numbers_of bytes) csrc e in
    let b = bind_some (hex_of (drop 2 word)) (λ bytes. numbers_of bytes) csrc a.1 in
    let c = if_some (eqb (length b.0 % 4) 0 && leb (length b.0) 60) (numbers_in b.0) csrc b.2 in
    let d = both (eqb (length b.0 % 4) 0) (leb (length b.0) 60) c.0 in
    let whole : length b.0 ≡ 4 * length (numbers_in b.0) = quarter b.0 (grind (arith, nat_tests, d.0)) in
    let small : length b.0 ≤ 60 = grind (arith, nat_tests, d.1) in
    record {
      digits = drop 2 word;
      bytes = b.0;
      spelled = (c_is word).0 a.0;
      hex = hex_spelled (drop 2 word) b.0 b.1;
      whole = whole ∙ ap (λ (ns : List ℕ). 4 * length ns) c.1;
      few = omega (arith, whole, small, ap length c.1);
      numbers = sym c.1;
    }

pub sources_again : (word csrc : List ℕ) → IsSources word csrc → sources_of word ≡ Some csrc
unfolding sources_of numbers_of
sources_again word csrc is =
    let behind : drop 2 word ≡ is.digits = ap (drop 2) is.spelled in
    let rest : eqb (length is.bytes % 4) 0 ≡ true = grind (arith, nat_tests, is.whole) in
    let small : leb (length is.bytes) 60 ≡ true = grind (arith, nat_tests, is.whole, is.few) in
    rw ((c_is word).1 is.digits is.spelled, behind, hex_again is.digits is.bytes is.hex, rest, small) (ap (λ (ns : List ℕ). Some ns) (sym is.numbers))

-- a payload type behind a name

name_is : (name word : List ℕ) → (starts_with nat_eq word name ≡ true → word ≡ name ++ drop (length name) word)
    × ((rest : List ℕ) → word ≡ name ++ rest → starts_with nat_eq word name ≡ true)
name_is name word = starts_is Decides-eqb word name (starts_with nat_eq word name) refl

pub named_type_spelled : (name : List ℕ) (words : List (List ℕ)) (o : Option ℕ) → named_type name words ≡ Some o
    → (r : List (List ℕ)) × IsNamedType name r o × (words ≡ r ++ behind (is_some o) words)
unfolding type_behind
named_type_spelled name [] None e = ([], refl, refl)
named_type_spelled name [] (Some pt) e = absurd cc
named_type_spelled name (word ∷ words) o e = go (starts_with nat_eq word name) refl o e
  where
    go : (b : Bool) → starts_with nat_eq word name ≡ b → (o : Option ℕ)
        → cond b (narrow_of (2 ^ 8) (drop (length name) word) >>= λ pt. Some (Some pt)) (Some None) ≡ Some o
        → (r : List (List ℕ)) × IsNamedType name r o × (word ∷ words ≡ r ++ behind (is_some o) (word ∷ words))
    go true t None is = let b = bind_some (narrow_of (2 ^ 8) (drop (length name) word)) (λ pt. Some (Some pt)) None is in let told = b.2 in absurd cc
    go true t (Some pt) is =
        let b = bind_some (narrow_of (2 ^ 8) (drop (length name) word)) (λ pt. Some (Some pt)) (Some pt) is in
        let told = b.2 in
        let same : b.0 ≡ pt = cc in
        let fits = narrow_spelled (2 ^ 8) (drop (length name) word) pt (b.1 ∙ ap (λ (n : ℕ). Some n) same) in
        let spelled : word ≡ name ++ decimal pt = (name_is name word).0 t ∙ ap (λ (digits : List ℕ). name ++ digits) fits.0 in
        (word ∷ [], (ap (λ (w : List ℕ). w ∷ []) spelled, fits.1), refl)
    go false f None is = ([], refl, refl)
    go false f (Some pt) is = absurd cc

pub named_type_again : (name : List ℕ) (pt : ℕ) (words : List (List ℕ)) → pt < 2 ^ 8 → named_type name ((name ++ decimal pt) ∷ words) ≡ Some (Some pt)
unfolding type_behind
named_type_again name pt words lt =
    ap (λ b. cond b (narrow_of (2 ^ 8) (drop (length name) (name ++ decimal pt)) >>= λ n. Some (Some n)) (Some None))
    ((name_is name (name ++ decimal pt)).1 (decimal pt) refl)
    ∙ ap (λ (digits : List ℕ). narrow_of (2 ^ 8) digits >>= λ n. Some (Some n)) (drop_at name (decimal pt) (length name) refl)
    ∙ ap (λ o. o >>= λ n. Some (Some n)) (narrow_again (2 ^ 8) pt (lit≤ tt) lt)

-- names
pub name_spelled : (most : ℕ) (word name : List ℕ) → name_of most word ≡ Some name → (word ≡ name) × IsName most name
unfolding name_of
name_spelled most word name e =
    let a = if_some (is_name most word) word name e in
    (a.1, subst (IsName most) a.1 (parts (eqb (length word) 0) (leb (length word) most) (list_all is_ascii_alphanumeric word) refl refl refl a.0)) where
      parts : (a b c : Bool) → eqb (length word) 0 ≡ a → leb (length word) most ≡ b → list_all is_ascii_alphanumeric word ≡ c → (not a && (b && c)) ≡ true → IsName most word
      parts false true true p q r e' = record { some = grind (arith, nat_tests); few = grind (arith, nat_tests); plain = AllPass-from_list_all is_ascii_alphanumeric word r }
      parts true b c p q r e' = absurd cc
      parts false false c p q r e' = absurd cc
      parts false true false p q r e' = absurd cc

pub name_again : (most : ℕ) (name : List ℕ) → IsName most name → name_of most name ≡ Some name
unfolding name_of
name_again most name is =
    let p : eqb (length name) 0 ≡ false = grind (arith, nat_tests, is.some) in
    let q : leb (length name) most ≡ true = grind (arith, nat_tests, is.few) in
    rw (p, q, list_all-from_AllPass is_ascii_alphanumeric name is.plain) refl

-- a word, or the word for none
module _ {X : Type 0} (none : List ℕ) (read : List ℕ → Option X) (Spells : List ℕ → X → Type 0) where
  pub optional_spelled : ((word : List ℕ) (x : X) → read word ≡ Some x → Spells word x) → (word : List ℕ) (o : Option X) → optional none read word ≡ Some o → IsOptional none Spells word o
  unfolding optional
  optional_spelled one word o e = go (bytes_eq word none) refl e where
    go : (b : Bool) → bytes_eq word none ≡ b → cond b (Some None) (read word >>= λ x. Some (Some x)) ≡ Some o → IsOptional none Spells word o
    go true p e' = let is : None ≡ o = cc in subst (IsOptional none Spells word) is (equal word none p)
    go false p e' =
        let a = bind_some (read word) (λ x. Some (Some x)) o e' in
        let is : Some a.0 ≡ o = cc in
        subst (IsOptional none Spells word) is (one word a.0 a.1)

  pub optional_again : read none ≡ None → ((word : List ℕ) (x : X) → Spells word x → read word ≡ Some x) → (word : List ℕ) (o : Option X) → IsOptional none Spells word o → optional none read word ≡ Some o
  unfolding optional
  optional_again not_read one word None is = rw ((bytes_eq-Decides word none).1 is) refl
  optional_again not_read one word (Some x) is = go (bytes_eq word none) refl where
    go : (b : Bool) → bytes_eq word none ≡ b → cond b (Some None) (read word >>= λ y. Some (Some y)) ≡ Some (Some x)
    go true p = absurd (let missing = ap read (equal word none p) ∙ not_read in let found = one word x is in cc (missing, found))
    go false p = rw (one word x is) refl

dash_no_number : narrow_of (2 ^ 32) (codes "-") ≡ None
unfolding narrow_of number_of
dash_no_number = refl

none_no_number : narrow_of (2 ^ 32) (codes "none") ≡ None
unfolding narrow_of number_of
none_no_number = refl

dash_no_name : name_of 16 (codes "-") ≡ None
unfolding name_of
dash_no_name = refl

number_below : (word : List ℕ) (n : ℕ) → IsBelow (2 ^ 32) word n → narrow_of (2 ^ 32) word ≡ Some n
number_below word n is = ap (narrow_of (2 ^ 32)) is.0 ∙ narrow_again (2 ^ 32) n (lit≤ tt) is.1

pub optional_32_spelled : (none word : List ℕ) (o : Option ℕ) → optional none (narrow_of (2 ^ 32)) word ≡ Some o → IsOptional none (IsBelow (2 ^ 32)) word o
optional_32_spelled none = optional_spelled none (narrow_of (2 ^ 32)) (IsBelow (2 ^ 32)) (narrow_spelled (2 ^ 32))

pub rtx_again : (word : List ℕ) (rtx : Option ℕ) → IsOptional (codes "-") (IsBelow (2 ^ 32)) word rtx → optional (codes "-") (narrow_of (2 ^ 32)) word ≡ Some rtx
rtx_again = optional_again (codes "-") (narrow_of (2 ^ 32)) (IsBelow (2 ^ 32)) dash_no_number number_below

pub cap_again : (word : List ℕ) (cap : Option ℕ) → IsOptional (codes "none") (IsBelow (2 ^ 32)) word cap → optional (codes "none") (narrow_of (2 ^ 32)) word ≡ Some cap
cap_again = optional_again (codes "none") (narrow_of (2 ^ 32)) (IsBelow (2 ^ 32)) none_no_number number_below

pub rid_spelled : (word : List ℕ) (rid : Option (List ℕ)) → optional (codes "-") (name_of 16) word ≡ Some rid → IsOptional (codes "-") IsNamed word rid
rid_spelled = optional_spelled (codes "-") (name_of 16) IsNamed (λ word name e. name_spelled 16 word name e)

pub rid_again : (word : List ℕ) (rid : Option (List ℕ)) → IsOptional (codes "-") IsNamed word rid → optional (codes "-") (name_of 16) word ≡ Some rid
rid_again = optional_again (codes "-") (name_of 16) IsNamed dash_no_name (λ word name is. ap (name_of 16) is.0 ∙ name_again 16 name is.1)
