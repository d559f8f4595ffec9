-- What the words of a line say.
use Rattle.std.specs.Prelude.{ℕ, ◌-◌, ◌*◌, ◌%◌, ◌^◌, List, [], ◌∷◌, length, take, drop, Bool, true, false, not, ◌&&◌, ◌==◌, nat_lt, nat_le, nat_eq, if◌then◌else◌, Option, Some, None, codes}
use Rattle.std.specs.Char.{is_ascii_alphanumeric}
use Rattle.std.specs.List.{starts_with, ends_with, list_all}
use Rattle.std.specs.Str.{all_ascii_digits, bytes_eq}
use Rattle.std.specs.Str.Parse.{digits_value}
use Rattle.std.specs.Result.{result_ok}
use Rattle.hex.specs.Hex.{decode_of}
use Rattle.srtp_core.specs.declared.profile.SrtpProfile.{SrtpProfile}
use Rattle.srtp_core.specs.declared.profile.SrtpProfile.TheVariants.{Aes128CmSha1_80, AeadAes128Gcm, AeadAes256Gcm}
use Rattle.media_model.specs.declared.entry.Side.{Side}
use Rattle.media_model.specs.declared.entry.Side.TheVariants.{A, B}
use Rattle.rtp_base.specs.declared.kind.Kind.{Kind}
use Rattle.rtp_base.specs.declared.kind.Kind.TheVariants.{Rtp, Rtcp}
use Rattle.media_model.specs.declared.setup.CipherName.{CipherName}
use Rattle.media_model.specs.declared.setup.CipherName.TheVariants.{Toy, Sha}
use Rattle.media_model.specs.declared.setup.Codec.{Codec}
use Rattle.media_model.specs.declared.setup.Codec.TheVariants.{Opus, Pcmu, Pcma, Telephone, Vp8, Vp9, H264, H265, H266, Av1}
use Rattle.media_model.specs.declared.setup.Key.{Key}
use Rattle.media_model.specs.declared.setup.Key.TheVariants.{Zero, Given}
use Rattle.media_model.specs.declared.setup.MediaKind.{MediaKind}
use Rattle.media_model.specs.declared.setup.MediaKind.TheVariants.{Audio, Video}
use Rattle.media_model.specs.Application.{data_of}
use Rattle.media_script.specs.declared.words.TheConstants.{MOST_SOURCE_BYTES}
use Rattle.rtp_wire.specs.Bytes.{words_of as numbers_in}
use Rattle.rtp_wire.specs.declared.extension.Extension.{Extension}
use Rattle.rtp_wire.specs.declared.extension.Extension.TheVariants.{AudioLevel, AbsoluteSendTime, TransportSequenceNumber, RtpMid, RtpStreamId, RepairedRtpStreamId, VideoOrientation, AbsoluteCaptureTime, PlayoutDelay}
use Rattle.rtp_base.specs.declared.keyframe_request.KeyframeRequestKind.{KeyframeRequestKind}
use Rattle.rtp_base.specs.declared.keyframe_request.KeyframeRequestKind.TheVariants.{Pli, Fir}

infixl 10 ◌>>=◌
abbrev pub ◌>>=◌ : {A B : Type 0} → Option A → (A → Option B) → Option B
(Some x) >>= f = f x
None >>= f = None

abbrev pub below : ℕ → ℕ → Option ℕ
below limit n = if nat_lt n limit then Some n else None

-- digits, with no needless zero in front
abbrev pub plain_front : List ℕ → Bool
plain_front [] = false
plain_front (b ∷ []) = true
plain_front (b ∷ c ∷ bs) = not (b == 48)

abbrev pub is_number : List ℕ → Bool
is_number word = plain_front word && all_ascii_digits word

-- a number below 2^64
unfoldable pub number_of : List ℕ → Option ℕ
number_of word = if is_number word then below (2 ^ 64) (digits_value 10 word) else None

-- a number of a narrower type
unfoldable pub narrow_of : ℕ → List ℕ → Option ℕ
narrow_of limit word = do
  n ← number_of word
  below limit n

abbrev pub has_ms : List ℕ → Bool
has_ms word = ends_with nat_eq word (codes "ms")

-- milliseconds, as nanoseconds below 2^64
unfoldable pub millis_of : List ℕ → Option ℕ
millis_of word = do
  n ← number_of word
  below (2 ^ 64) (n * 1000000)

-- nanoseconds, or milliseconds with ms behind them
unfoldable pub time_of : List ℕ → Option ℕ
time_of word =
    if has_ms word then millis_of (take (length word - 2) word)
    else number_of word

unfoldable pub side_of : List ℕ → Option Side
side_of word = if bytes_eq word (codes "A") then Some A else (if bytes_eq word (codes "B") then Some B else None)

unfoldable pub flag_of : List ℕ → Option Bool
flag_of word = if bytes_eq word (codes "0") then Some false else (if bytes_eq word (codes "1") then Some true else None)

-- an even number of hex digits, or - for none
unfoldable pub hex_of : List ℕ → Option (List ℕ)
hex_of word =
    if bytes_eq word (codes "-") then Some []
    else (if length word == 0 then None else result_ok (decode_of word))

-- what an application sends as feedback: whole words of 4 bytes, at most 800 bytes
unfoldable pub app_data_of : List ℕ → Option (List ℕ)
app_data_of word = do
  bytes ← hex_of word
  data_of bytes

-- a number that is at most so great
unfoldable pub at_most : ℕ → List ℕ → Option ℕ
at_most greatest word = do
  n ← number_of word
  if nat_le n greatest then Some n else None

unfoldable pub key_of : List ℕ → Option Key
key_of word =
    if bytes_eq word (codes "zero") then Some Zero
    else (hex_of word >>= λ bytes. Some (Given bytes))

-- the value of the word in a table of texts, as view shows them, and values
abbrev pub in_table : {S X : Type 0} → (S → List ℕ) → List (S × X) → List ℕ → Option X
in_table view [] word = None
in_table view (row ∷ rows) word = if bytes_eq word (view row.0) then Some row.1 else in_table view rows word

-- the first of these whose text the word is
unfoldable pub one_of : {X : Type 0} → (X → List ℕ) → List X → List ℕ → Option X
one_of text [] word = None
one_of text (x ∷ xs) word = if bytes_eq word (text x) then Some x else one_of text xs word

-- the kinds of datagrams that a script may hand in
abbrev pub kinds : List Kind
kinds = Rtp ∷ Rtcp ∷ []

-- how a key frame is asked for
abbrev pub keyframes : List KeyframeRequestKind
keyframes = Pli ∷ Fir ∷ []

abbrev pub ciphers : List CipherName
ciphers = Toy ∷ Sha ∷ []

abbrev pub profiles : List SrtpProfile
profiles = Aes128CmSha1_80 ∷ AeadAes128Gcm ∷ AeadAes256Gcm ∷ []

abbrev pub codecs : List Codec
codecs = Opus ∷ Pcmu ∷ Pcma ∷ Telephone ∷ Vp8 ∷ Vp9 ∷ H264 ∷ H265 ∷ H266 ∷ Av1 ∷ []

abbrev pub media_kinds : List MediaKind
media_kinds = Audio ∷ Video ∷ []

abbrev pub extensions : List Extension
extensions =
    AudioLevel
    ∷ AbsoluteSendTime
    ∷ TransportSequenceNumber
    ∷ RtpMid
    ∷ RtpStreamId
    ∷ RepairedRtpStreamId
    ∷ VideoOrientation
    ∷ AbsoluteCaptureTime
    ∷ PlayoutDelay
    ∷ []

-- at most 15 numbers of 32 bits, in network order
unfoldable pub numbers_of : List ℕ → Option (List ℕ)
numbers_of bytes = if (length bytes % 4 == 0) && nat_le (length bytes) MOST_SOURCE_BYTES then Some (numbers_in bytes) else None

abbrev pub has_c : List ℕ → Bool
has_c word = starts_with nat_eq word (codes "c=")

-- c= and contributing sources
unfoldable pub sources_of : List ℕ → Option (List ℕ)
sources_of word = if has_c word then (hex_of (drop 2 word) >>= λ bytes. numbers_of bytes) else None

-- the payload type behind a name, where the word has that
unfoldable pub type_behind : List ℕ → List ℕ → Option (Option ℕ)
type_behind name word =
    if starts_with nat_eq word name then (narrow_of (2 ^ 8) (drop (length name) word) >>= λ pt. Some (Some pt)) else Some None

-- units of RTP time in a second
unfoldable pub rate_of : List ℕ → Option ℕ
rate_of word = do
  n ← narrow_of (2 ^ 32) word
  if n == 0 then None else Some n

-- 1 to so many ASCII letters and digits
abbrev pub is_name : ℕ → List ℕ → Bool
is_name most word = not (length word == 0) && (nat_le (length word) most && list_all is_ascii_alphanumeric word)

unfoldable pub name_of : ℕ → List ℕ → Option (List ℕ)
name_of most word = if is_name most word then Some word else None

-- a word, or the word for none
unfoldable pub optional : {X : Type 0} → List ℕ → (List ℕ → Option X) → List ℕ → Option (Option X)
optional none read word = if bytes_eq word none then Some None else (read word >>= λ x. Some (Some x))
