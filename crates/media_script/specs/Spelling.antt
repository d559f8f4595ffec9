-- The grammar of scripts: which bytes spell which setup and steps.
use Rattle.std.specs.Prelude.{◌≡◌, ◌≢◌, ◌⊎◌, ℕ, min, ◌*◌, ◌^◌, ◌<◌, ◌≤◌, List, [], ◌∷◌, ◌++◌, length, slice_index, Bool, true, false, not, ◌==◌, ◌||◌, filter, Option, Some, None, Ok, codes, All}
use Rattle.std.specs.Char.{is_ascii_alphanumeric}
use Rattle.std.specs.Fmt.{decimal}
use Rattle.std.specs.List.{slice_split, flat_map, AllByRecursion, AllPass}
use Rattle.hex.specs.Hex.{decode_of}
use Rattle.media_model.specs.Application.{AreFew}
use Rattle.media_units.specs.declared.rate.TheConstants.{GREATEST_RATE}
use Rattle.rtp_base.specs.declared.name.TheConstants.{MAX_NAME_LEN}
use Rattle.rtp_base.specs.declared.number.TheConstants.{NUMBER_LIMIT}
use Rattle.rtp_wire.specs.declared.header.TheConstants.{MAX_SOURCES}
use Rattle.srtp_core.specs.declared.context.TheConstants.{SRTCP_INDEX_LIMIT}
use Rattle.media_model.specs.declared.entry.Write.{Write}
use Rattle.media_model.specs.declared.setup.Key.{Key}
use Rattle.media_model.specs.declared.setup.Key.TheVariants.{Zero, Given}
use Rattle.media_model.specs.declared.setup.Setup.{Setup}
use Rattle.media_script.specs.declared.setup_line.SetupLine.{SetupLine}
use Rattle.media_script.specs.declared.setup_line.SetupLine.TheVariants as line
use Rattle.media_model.specs.declared.step.Act.{Act}
use Rattle.media_model.specs.declared.step.Act.TheVariants as act
use Rattle.media_model.specs.declared.step.Step.{Step}
use Rattle.rtp_wire.specs.Bytes.{words_of as numbers_in}
use Rattle.media_script.specs.Names.{side_text, kind_text, keyframe_text, flag_text, cipher_text, profile_text, codec_text, media_kind_text, extension_text}
use Rattle.media_script.specs.Draft.{setup_of}
use Rattle.media_script.specs.Order.{AreInOrder, said_by}

-- a time in nanoseconds, or in milliseconds with ms behind it
pub record IsTime (word : List ℕ) (time : ℕ) : Type 0 where
  pub fits : time < 2 ^ 64
  pub spelled : (word ≡ decimal time) ⊎ ((ms : ℕ) × (word ≡ decimal ms ++ codes "ms") × (time ≡ ms * 1000000))

-- hex digits in either case, or - for none
abbrev pub IsHex : List ℕ → List ℕ → Type 0
IsHex word bytes = ((word ≡ codes "-") × (bytes ≡ [])) ⊎ ((0 < length word) × (decode_of word ≡ Ok bytes))

-- 1 to so many ASCII letters and digits
pub record IsName (most : ℕ) (word : List ℕ) : Type 0 where
  pub some : 0 < length word
  pub few : length word ≤ most
  pub plain : AllPass is_ascii_alphanumeric word

-- the keying material, or zero for as many zeros as the profile asks for
abbrev pub IsKey : List ℕ → Key → Type 0
IsKey word Zero = word ≡ codes "zero"
IsKey word (Given bytes) = IsHex word bytes

-- a word, or the word for none
abbrev pub IsOptional : {X : Type 0} → List ℕ → (List ℕ → X → Type 0) → List ℕ → Option X → Type 0
IsOptional none Spells word None = word ≡ none
IsOptional none Spells word (Some x) = Spells word x

abbrev pub IsBelow : ℕ → List ℕ → ℕ → Type 0
IsBelow limit word n = (word ≡ decimal n) × (n < limit)

abbrev pub IsNamed : List ℕ → List ℕ → Type 0
IsNamed word rid = (word ≡ rid) × IsName MAX_NAME_LEN rid

-- no word where there is no such type, or one word that says it behind this name
abbrev pub IsNamedType : List ℕ → List (List ℕ) → Option ℕ → Type 0
IsNamedType name words None = words ≡ []
IsNamedType name words (Some pt) = (words ≡ (name ++ decimal pt) ∷ []) × (pt < 2 ^ 8)

-- this word, or none
abbrev pub flag_words : List ℕ → Bool → List (List ℕ)
flag_words name false = []
flag_words name true = name ∷ []

-- the words of a setup line
abbrev pub IsSetupLine : List (List ℕ) → SetupLine → Type 0
IsSetupLine words (line.Cipher cipher) = words ≡ codes "cipher" ∷ cipher_text cipher ∷ []
IsSetupLine words (line.Profile profile) = words ≡ codes "profile" ∷ profile_text profile ∷ []
IsSetupLine words (line.Key key) = (k : List ℕ) × IsKey k key × (words ≡ codes "key" ∷ k ∷ [])
IsSetupLine words (line.Unix beginning) =
    (beginning.unix_secs < 2 ^ 64) × (words ≡ codes "unix" ∷ decimal beginning.unix_secs ∷ [])
-- the most bytes that a datagram of RTCP is to have, and above how many any datagram is longer than wanted
IsSetupLine words (line.Mtu mtu) =
    (mtu.target < 2 ^ 64) × (mtu.warn < 2 ^ 64) × (words ≡ codes "mtu" ∷ decimal mtu.target ∷ decimal mtu.warn ∷ [])
-- after how long without packets a stream that comes counts as paused: the word has milliseconds
IsSetupLine words (line.Pause threshold) =
    (ms : ℕ) × (threshold ≡ ms * 1000000) × (threshold < 2 ^ 64) × (words ≡ codes "pause" ∷ decimal ms ∷ [])
-- after how long the next report of a stream of sound, and of one of pictures, is due: the words have milliseconds
IsSetupLine words (line.Reports intervals) =
    (audio : ℕ) × (video : ℕ) × (intervals.audio ≡ audio * 1000000) × (intervals.audio < 2 ^ 64)
    × (intervals.video ≡ video * 1000000) × (intervals.video < 2 ^ 64)
    × (words ≡ codes "reports" ∷ decimal audio ∷ decimal video ∷ [])
-- the index of a side's first SRTCP datagram
IsSetupLine words (line.Rtcp side index) = (index ≤ SRTCP_INDEX_LIMIT) × (words ≡ codes "rtcp" ∷ side_text side ∷ decimal index ∷ [])
-- the SSRC under which a side speaks of what it receives
IsSetupLine words (line.Local side ssrc) = (ssrc < 2 ^ 32) × (words ≡ codes "local" ∷ side_text side ∷ decimal ssrc ∷ [])
-- an id and the header extension that it names
IsSetupLine words (line.Ext named) =
    (named.id < 2 ^ 8) × (words ≡ codes "ext" ∷ decimal named.id ∷ extension_text named.extension ∷ [])
-- a payload type, its clock rate, the type of its repairs, that of its redundant data, and how a key frame of it may be asked for
IsSetupLine words (line.Type t) =
    (rtx : List (List ℕ)) × (red : List (List ℕ)) × IsNamedType (codes "rtx=") rtx t.rtx × IsNamedType (codes "red=") red t.red
    × (t.pt < 2 ^ 8) × (0 < t.rate) × (t.rate < 2 ^ 32)
    × (words ≡ codes "type" ∷ decimal t.pt ∷ codec_text t.codec ∷ decimal t.rate
    ∷ (rtx ++ (red ++ (flag_words (codes "pli") t.pli ++ flag_words (codes "fir") t.fir))))
IsSetupLine words (line.Media mid kind cname) =
    IsName MAX_NAME_LEN mid × IsName 255 cname × (words ≡ codes "media" ∷ mid ∷ media_kind_text kind ∷ cname ∷ [])
IsSetupLine words (line.Stream mid stream) =
    (rtx : List ℕ) × (rid : List ℕ) × IsName MAX_NAME_LEN mid × (stream.ssrc < 2 ^ 32)
    × IsOptional (codes "-") (IsBelow (2 ^ 32)) rtx stream.rtx × IsOptional (codes "-") IsNamed rid stream.rid
    × (words ≡ codes "stream" ∷ side_text stream.side ∷ mid ∷ decimal stream.ssrc ∷ rtx ∷ rid ∷ [])
-- the main SSRC of a stream and the number of its first repair
IsSetupLine words (line.Start start) =
    (start.ssrc < 2 ^ 32) × (start.number ≤ NUMBER_LIMIT) × (words ≡ codes "start" ∷ decimal start.ssrc ∷ decimal start.number ∷ [])
-- the main SSRC of a stream, how many packets it keeps and for how many milliseconds, and how many hundredths of what it
-- sends may be repairs, or none for any number
IsSetupLine words (line.Cache named) =
    (ms : ℕ) × (cap : List ℕ) × (named.ssrc < 2 ^ 32) × (named.cache.packets < 2 ^ 64) × (named.cache.age ≡ ms * 1000000)
    × (named.cache.age < 2 ^ 64) × IsOptional (codes "none") (IsBelow (2 ^ 32)) cap named.cache.cap
    × (words ≡ codes "cache" ∷ decimal named.ssrc ∷ decimal named.cache.packets ∷ decimal ms ∷ cap ∷ [])

-- the numbers of a packet are within their types
pub record Fits (w : Write) : Type 0 where
  pub ssrc : w.ssrc < 2 ^ 32
  pub number : w.number < 2 ^ 64
  pub pt : w.pt < 2 ^ 8
  pub rtp_time : w.rtp_time < 2 ^ 32

-- the hex of at most 15 numbers of 32 bits in network order, behind c=
pub record IsSources (word csrc : List ℕ) : Type 0 where
  pub digits : List ℕ
  pub bytes : List ℕ
  pub spelled : word ≡ codes "c=" ++ digits
  pub hex : IsHex digits bytes
  pub whole : length bytes ≡ 4 * length csrc
  pub few : length csrc ≤ MAX_SOURCES
  pub numbers : csrc ≡ numbers_in bytes

-- no word where there are no sources, or one word that says them
abbrev pub AreSources : List (List ℕ) → List ℕ → Type 0
AreSources words csrc = ((words ≡ []) × (csrc ≡ [])) ⊎ ((word : List ℕ) × (words ≡ word ∷ []) × IsSources word csrc)

-- the words of an act: the first word of a step, and those behind its time
abbrev pub IsAct : List (List ℕ) → Act → Type 0
IsAct words act.Tick = words ≡ codes "tick" ∷ []
IsAct words (act.Deliver k) = (k < 2 ^ 64) × (words ≡ codes "deliver" ∷ decimal k ∷ [])
IsAct words (act.Write w) =
    (h : List ℕ) × (c : List (List ℕ)) × IsHex h w.payload × AreSources c w.csrc × Fits w
    × (words ≡ codes "write" ∷ decimal w.ssrc ∷ decimal w.number ∷ decimal w.pt ∷ decimal w.rtp_time ∷ flag_text w.marker
    ∷ flag_text w.nackable ∷ h ∷ c)
IsAct words (act.Foreign kind bytes) = (h : List ℕ) × IsHex h bytes × (words ≡ codes "foreign" ∷ kind_text kind ∷ h ∷ [])
-- feedback of an application: the SSRC that it is from, the one that it is about, and whole words of 4 bytes
IsAct words (act.Feedback sender media payload) =
    (h : List ℕ) × (sender < 2 ^ 32) × (media < 2 ^ 32) × IsHex h payload × AreFew payload
    × (words ≡ codes "app" ∷ decimal sender ∷ decimal media ∷ h ∷ [])
-- a request for a key frame of the stream of an SSRC
IsAct words (act.Ask ssrc kind) = (ssrc < 2 ^ 32) × (words ≡ codes "ask" ∷ decimal ssrc ∷ keyframe_text kind ∷ [])
-- the greatest rate of the stream of an SSRC, in bits a second: above 10 Gbit/s it is 10 Gbit/s
IsAct words (act.Rate ssrc rate) =
    (n : ℕ) × (ssrc < 2 ^ 32) × (n < 2 ^ 64) × (rate ≡ min n GREATEST_RATE)
    × (words ≡ codes "remb" ∷ decimal ssrc ∷ decimal n ∷ [])

-- the words of a step: those of its act, with the side and the time behind the first
pub record IsStep (words : List (List ℕ)) (s : Step) : Type 0 where
  pub kind : List ℕ
  pub at : List ℕ
  pub rest : List (List ℕ)
  pub time : IsTime at s.time
  pub does : IsAct (kind ∷ rest) s.act
  pub spelled : words ≡ kind ∷ side_text s.side ∷ at ∷ rest

-- one space stands between two words
abbrev pub words_of : List ℕ → List (List ℕ)
words_of line = slice_split (λ b. b == 32) line

-- each line says its value
abbrev pub AreLines : {X : Type 0} → (List (List ℕ) → X → Type 0) → List (List ℕ) → List X → Type 0
AreLines Is [] [] = Unit {0}
AreLines Is [] (x ∷ xs) = ⊥
AreLines Is (line ∷ lines) [] = ⊥
AreLines Is (line ∷ lines) (x ∷ xs) = Is (words_of line) x × AreLines Is lines xs

-- an empty line, and one that begins with #
abbrev pub is_passed_over : List ℕ → Bool
is_passed_over line = (length line == 0) || (slice_index line 0 == 35)

-- the first line, the setup lines, and the steps
pub record AreParts (lines : List (List ℕ)) (said : List SetupLine) (steps : List Step) : Type 0 where
  pub setup_lines : List (List ℕ)
  pub step_lines : List (List ℕ)
  pub parts : lines ≡ codes "str0m-media 1" ∷ (setup_lines ++ (codes "begin" ∷ (step_lines ++ (codes "end" ∷ []))))
  pub lines_are : AreLines IsSetupLine setup_lines said
  pub in_order : AreInOrder said
  pub steps_are : AreLines IsStep step_lines steps

-- each line ends with a line feed; empty lines and lines that begin with # are passed over
pub record IsForm (bytes : List ℕ) (said : List SetupLine) (steps : List Step) : Type 0 where
  pub lines : List (List ℕ)
  pub split : bytes ≡ flat_map (λ line. line ++ 10 ∷ []) lines
  pub plain : AllByRecursion (λ line. All (λ b. b ≢ 10) line) lines
  pub parts : AreParts (filter (λ line. not (is_passed_over line)) lines) said steps

-- and the setup lines say this setup, of which the key is required
pub record IsScript (bytes : List ℕ) (setup : Setup) (steps : List Step) : Type 0 where
  pub said : List SetupLine
  pub form : IsForm bytes said steps
  pub whole : setup_of (said_by said).draft ≡ Some setup
