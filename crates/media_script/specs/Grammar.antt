-- What is read of a script, and the first line outside the grammar.
use Rattle.std.specs.Prelude.{ℕ, map, min, ◌+◌, ◌^◌, List, [], ◌∷◌, ◌++◌, length, Bool, true, false, nat_lt, ◌==◌, if◌then◌else◌, Option, Some, None, is_some, Result, Ok, Err, codes}
use Rattle.std.specs.Borrow.{Bor}
use Rattle.std.specs.List.{slice_split}
use Rattle.std.specs.Str.{bytes_eq}
use Rattle.media_units.specs.declared.rate.TheConstants.{GREATEST_RATE}
use Rattle.rtp_base.specs.declared.name.TheConstants.{MAX_NAME_LEN}
use Rattle.rtp_base.specs.declared.number.TheConstants.{NUMBER_LIMIT}
use Rattle.srtp_core.specs.declared.context.TheConstants.{SRTCP_INDEX_LIMIT}
use Rattle.media_script.specs.declared.lines.TheConstants.{MOST_WORDS}
use Rattle.media_script.specs.declared.reader.Reader.{Reader}
use Rattle.media_script.specs.declared.reader.Reader.TheVariants.{Head, InSetup, InSteps, Ended}
use Rattle.media_model.specs.declared.setup.Setup.{Setup}
use Rattle.media_script.specs.declared.setup_line.SetupLine.{SetupLine}
use Rattle.media_script.specs.declared.setup_line.SetupLine.TheVariants as line
use Rattle.media_model.specs.declared.step.Act.{Act}
use Rattle.media_model.specs.declared.step.Act.TheVariants as act
use Rattle.media_model.specs.declared.step.Step.{Step}
use Rattle.media_model.specs.Steps.{step_at}
use Rattle.media_script.specs.Draft.{setup_of}
use Rattle.media_script.specs.Order.{none_said, with_line}
use Rattle.media_script.specs.Spelling.{words_of, is_passed_over}
use Rattle.media_script.specs.Names.{cipher_text, codec_text, extension_text, keyframe_text, kind_text, media_kind_text, profile_text}
use Rattle.media_script.specs.Words.{◌>>=◌, number_of, narrow_of, millis_of, time_of, side_of, flag_of, hex_of, app_data_of, at_most, key_of, rate_of, name_of, sources_of, type_behind, optional, one_of, kinds, keyframes, ciphers, profiles, codecs, media_kinds, extensions}

-- the words without where they lie in memory
abbrev pub texts : List (Bor (List ℕ)) → List (List ℕ)
texts words = map (λ w. w.now) words

-- a line has fewer words
abbrev pub is_long : List (List ℕ) → Bool
is_long words = nat_lt MOST_WORDS (length words)

abbrev pub in_few : {L : Type 0} → (List (List ℕ) → Option L) → List (List ℕ) → Option L
in_few read words = if is_long words then None else read words

-- what the first word says, and then what the words after it say
abbrev pub and_then : {A L : Type 0} → (List ℕ → Option A) → (A → List (List ℕ) → Option L) → List (List ℕ) → Option L
and_then read more [] = None
and_then read more (word ∷ words) = read word >>= λ x. more x words

-- no word is left
abbrev pub done : {L : Type 0} → L → List (List ℕ) → Option L
done l [] = Some l
done l (word ∷ words) = None

-- what the reader of the first word reads, or the other reader where it is none of these
abbrev pub look_up :
    {L : Type 0} → (List (List ℕ) → Option L) → List (List ℕ × (List (List ℕ) → Option L)) → List (List ℕ) → Option L
look_up other readers [] = None
look_up other [] (kind ∷ words) = other (kind ∷ words)
look_up other (r ∷ readers) (kind ∷ words) =
    if bytes_eq kind r.0 then r.1 words else look_up other readers (kind ∷ words)

abbrev pub no_other : {L : Type 0} → List (List ℕ) → Option L
no_other words = None

-- ---- setup lines, without their first word

abbrev pub cipher_line : List (List ℕ) → Option SetupLine
cipher_line = and_then (one_of cipher_text ciphers) (λ cipher. done (line.Cipher cipher))

abbrev pub profile_line : List (List ℕ) → Option SetupLine
profile_line = and_then (one_of profile_text profiles) (λ profile. done (line.Profile profile))

abbrev pub key_line : List (List ℕ) → Option SetupLine
key_line = and_then key_of (λ key. done (line.Key key))

abbrev pub unix_line : List (List ℕ) → Option SetupLine
unix_line = and_then number_of (λ secs. done (line.Unix (record { unix_secs = secs })))

abbrev pub mtu_line : List (List ℕ) → Option SetupLine
mtu_line =
    and_then number_of (λ target.
    and_then number_of (λ warn.
    done (line.Mtu (record { target = target; warn = warn }))))

abbrev pub pause_line : List (List ℕ) → Option SetupLine
pause_line = and_then millis_of (λ threshold. done (line.Pause threshold))

abbrev pub reports_line : List (List ℕ) → Option SetupLine
reports_line =
    and_then millis_of (λ audio.
    and_then millis_of (λ video.
    done (line.Reports (record { audio = audio; video = video }))))

abbrev pub rtcp_line : List (List ℕ) → Option SetupLine
rtcp_line =
    and_then side_of (λ side.
    and_then (at_most SRTCP_INDEX_LIMIT) (λ index.
    done (line.Rtcp side index)))

abbrev pub local_line : List (List ℕ) → Option SetupLine
local_line =
    and_then side_of (λ side.
    and_then (narrow_of (2 ^ 32)) (λ ssrc.
    done (line.Local side ssrc)))

abbrev pub ext_line : List (List ℕ) → Option SetupLine
ext_line =
    and_then (narrow_of (2 ^ 8)) (λ id.
    and_then (one_of extension_text extensions) (λ extension.
    done (line.Ext (record { id = id; extension = extension }))))

-- the payload type behind a name, where the first of these words has that
abbrev pub named_type : List ℕ → List (List ℕ) → Option (Option ℕ)
named_type name [] = Some None
named_type name (word ∷ words) = type_behind name word

-- whether the first of these words is this
abbrev pub is_flagged : List ℕ → List (List ℕ) → Bool
is_flagged name [] = false
is_flagged name (word ∷ words) = bytes_eq word name

-- these words, without the first one where that was read
abbrev pub behind : Bool → List (List ℕ) → List (List ℕ)
behind true (word ∷ words) = words
behind was_read words = words

-- what stands behind words that may be missing
abbrev pub with_type : {X : Type 0} → List ℕ → (Option ℕ → List (List ℕ) → Option X) → List (List ℕ) → Option X
with_type name more words = named_type name words >>= λ pt. more pt (behind (is_some pt) words)

abbrev pub with_flag : {X : Type 0} → List ℕ → (Bool → List (List ℕ) → Option X) → List (List ℕ) → Option X
with_flag name more words = more (is_flagged name words) (behind (is_flagged name words) words)

abbrev pub type_line : List (List ℕ) → Option SetupLine
type_line =
    and_then (narrow_of (2 ^ 8)) (λ pt.
    and_then (one_of codec_text codecs) (λ codec.
    and_then rate_of (λ rate.
    with_type (codes "rtx=") (λ rtx.
    with_type (codes "red=") (λ red.
    with_flag (codes "pli") (λ pli.
    with_flag (codes "fir") (λ fir.
    done (line.Type (record { pt = pt; codec = codec; rate = rate; rtx = rtx; red = red; pli = pli; fir = fir })))))))))

abbrev pub media_line : List (List ℕ) → Option SetupLine
media_line =
    and_then (name_of MAX_NAME_LEN) (λ mid.
    and_then (one_of media_kind_text media_kinds) (λ kind.
    and_then (name_of 255) (λ cname.
    done (line.Media mid kind cname))))

abbrev pub stream_line : List (List ℕ) → Option SetupLine
stream_line =
    and_then side_of (λ side.
    and_then (name_of MAX_NAME_LEN) (λ mid.
    and_then (narrow_of (2 ^ 32)) (λ ssrc.
    and_then (optional (codes "-") (narrow_of (2 ^ 32))) (λ rtx.
    and_then (optional (codes "-") (name_of MAX_NAME_LEN)) (λ rid.
    done (line.Stream mid (record { side = side; ssrc = ssrc; rtx = rtx; rid = rid })))))))

abbrev pub start_line : List (List ℕ) → Option SetupLine
start_line =
    and_then (narrow_of (2 ^ 32)) (λ ssrc.
    and_then (at_most NUMBER_LIMIT) (λ number.
    done (line.Start (record { ssrc = ssrc; number = number }))))

abbrev pub cache_line : List (List ℕ) → Option SetupLine
cache_line =
    and_then (narrow_of (2 ^ 32)) (λ ssrc.
    and_then number_of (λ packets.
    and_then millis_of (λ age.
    and_then (optional (codes "none") (narrow_of (2 ^ 32))) (λ cap.
    done (line.Cache (record { ssrc = ssrc; cache = record { packets = packets; age = age; cap = cap } }))))))

abbrev pub side_kinds : List (List ℕ × (List (List ℕ) → Option SetupLine))
side_kinds = (codes "rtcp", rtcp_line) ∷ (codes "local", local_line) ∷ []

-- what the lines of one side say
unfoldable pub side_line_of : List (List ℕ) → Option SetupLine
side_line_of words = look_up no_other side_kinds words

abbrev pub named_kinds : List (List ℕ × (List (List ℕ) → Option SetupLine))
named_kinds =
    (codes "media", media_line) ∷ (codes "stream", stream_line) ∷ (codes "start", start_line) ∷ (codes "cache", cache_line) ∷ []

-- what the lines of media, of streams and of one side say
unfoldable pub named_line_of : List (List ℕ) → Option SetupLine
named_line_of words = look_up side_line_of named_kinds words

abbrev pub number_kinds : List (List ℕ × (List (List ℕ) → Option SetupLine))
number_kinds =
    (codes "unix", unix_line) ∷ (codes "mtu", mtu_line) ∷ (codes "pause", pause_line) ∷ (codes "reports", reports_line) ∷ []

-- what the lines that have numbers alone, and those of media, of streams and of one side say
unfoldable pub number_line_of : List (List ℕ) → Option SetupLine
number_line_of words = look_up named_line_of number_kinds words

abbrev pub setup_kinds : List (List ℕ × (List (List ℕ) → Option SetupLine))
setup_kinds =
    (codes "cipher", cipher_line)
    ∷ (codes "profile", profile_line)
    ∷ (codes "key", key_line)
    ∷ (codes "ext", ext_line)
    ∷ (codes "type", type_line)
    ∷ []

-- what a setup line says
unfoldable pub setup_line_of : List (List ℕ) → Option SetupLine
setup_line_of words = look_up number_line_of setup_kinds words

-- ---- acts: what stands behind the first word of a step, its side and its time

-- what the words behind a payload say: no sources, or those of one word
abbrev pub sources_in : List (List ℕ) → Option (List ℕ)
sources_in [] = Some []
sources_in (word ∷ []) = sources_of word
sources_in words = None

unfoldable pub write_act : List (List ℕ) → Option Act
write_act =
    and_then (narrow_of (2 ^ 32)) (λ ssrc.
    and_then number_of (λ number.
    and_then (narrow_of (2 ^ 8)) (λ pt.
    and_then (narrow_of (2 ^ 32)) (λ rtp_time.
    and_then flag_of (λ marker.
    and_then flag_of (λ nackable.
    and_then hex_of (λ payload words. sources_in words >>= λ csrc.
    Some (act.Write (record {
      ssrc = ssrc;
      number = number;
      pt = pt;
      rtp_time = rtp_time;
      marker = marker;
      nackable = nackable;
      csrc = csrc;
      payload = payload;
    })))))))))

abbrev pub tick_act : List (List ℕ) → Option Act
tick_act = done act.Tick

abbrev pub deliver_act : List (List ℕ) → Option Act
deliver_act = and_then number_of (λ k. done (act.Deliver k))

abbrev pub foreign_act : List (List ℕ) → Option Act
foreign_act =
    and_then (one_of kind_text kinds) (λ kind.
    and_then hex_of (λ bytes.
    done (act.Foreign kind bytes)))

abbrev pub app_act : List (List ℕ) → Option Act
app_act =
    and_then (narrow_of (2 ^ 32)) (λ sender.
    and_then (narrow_of (2 ^ 32)) (λ media.
    and_then app_data_of (λ payload.
    done (act.Feedback sender media payload))))

abbrev pub ask_act : List (List ℕ) → Option Act
ask_act =
    and_then (narrow_of (2 ^ 32)) (λ ssrc.
    and_then (one_of keyframe_text keyframes) (λ kind.
    done (act.Ask ssrc kind)))

abbrev pub remb_act : List (List ℕ) → Option Act
remb_act =
    and_then (narrow_of (2 ^ 32)) (λ ssrc.
    and_then number_of (λ rate.
    done (act.Rate ssrc (min rate GREATEST_RATE))))

abbrev pub act_kinds : List (List ℕ × (List (List ℕ) → Option Act))
act_kinds =
    (codes "write", write_act)
    ∷ (codes "tick", tick_act)
    ∷ (codes "deliver", deliver_act)
    ∷ (codes "foreign", foreign_act)
    ∷ (codes "app", app_act)
    ∷ (codes "ask", ask_act)
    ∷ (codes "remb", remb_act)
    ∷ []

-- the act of a first word and of the words behind the time
unfoldable pub act_of : List (List ℕ) → Option Act
act_of words = look_up no_other act_kinds words

-- the step of a line
unfoldable pub step_of : List (List ℕ) → Option Step
step_of (kind ∷ by ∷ at ∷ words) = do
  side ← side_of by
  time ← time_of at
  does ← act_of (kind ∷ words)
  Some (step_at side time does)
step_of words = None

-- what was read so far, and one more line that is not passed over
unfoldable pub read_on : Reader → List ℕ → Option Reader
read_on Head line = if bytes_eq line (codes "str0m-media 1") then Some (InSetup none_said) else None
read_on (InSetup said) line =
    if bytes_eq line (codes "begin") then Some (InSteps said [])
    else (in_few setup_line_of (words_of line) >>= λ l. with_line said l >>= λ more. Some (InSetup more))
read_on (InSteps said steps) line =
    if bytes_eq line (codes "end") then Some (Ended said steps)
    else (in_few step_of (words_of line) >>= λ s. Some (InSteps said (steps ++ s ∷ [])))
read_on (Ended said steps) line = None

unfoldable pub line_taken : Reader → List ℕ → Option Reader
line_taken reader line = if is_passed_over line then Some reader else read_on reader line

-- the setup and the steps, where no line is missing
abbrev pub whole_script : ℕ → Option Setup → List Step → Result (Setup × List Step) ℕ
whole_script n None steps = Err n
whole_script n (Some setup) steps = Ok (setup, steps)

-- the setup and the steps, after the line end
unfoldable pub whole_of : ℕ → Reader → Result (Setup × List Step) ℕ
whole_of n (Ended said steps) = whole_script n (setup_of said.draft) steps
whole_of n reader = Err n

abbrev pub read_then : ℕ → Option Reader → (Reader → Result (Setup × List Step) ℕ) → Result (Setup × List Step) ℕ
read_then n None more = Err n
read_then n (Some reader) more = more reader

-- the pieces between line ends, the first of which has this number; the last piece is no line
unfoldable pub read_from : ℕ → Reader → List (List ℕ) → Result (Setup × List Step) ℕ
read_from n reader [] = Err n
read_from n reader (line ∷ pieces) =
    if length pieces == 0 then (if length line == 0 then whole_of n reader else Err n)
    else read_then n (line_taken reader line) (λ more. read_from (n + 1) more pieces)

abbrev pub pieces_of : List ℕ → List (List ℕ)
pieces_of bytes = slice_split (λ b. b == 10) bytes

-- the setup and the steps, or the first line outside the grammar
abbrev pub script_of : List ℕ → Result (Setup × List Step) ℕ
script_of bytes = read_from 1 Head (pieces_of bytes)
