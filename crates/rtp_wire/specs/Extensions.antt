-- Header extensions (RFC 8285): which id names which value, and the values of a header.
use Rattle.std.specs.Prelude.{ℕ, zero, suc, ◌+◌, ◌-◌, ◌*◌, ◌/◌, ◌%◌, ◌==◌, nat_lt, Bool, false, ◌||◌, Option, Some, None, List, [], ◌∷◌, ◌++◌, length, take, drop, map, replicate, slice_set, slice_index, slice_index_or, position, if◌then◌else◌}
use Rattle.std.specs.List.{flat_map, list_any, range_with_len}
use Rattle.std.specs.Int.{w16, to_be_bytes}
use Rattle.std.specs.Option.{option_or}
use Rattle.rtp_wire.specs.declared.extension.Extension.{Extension}
use Rattle.rtp_wire.specs.declared.extension.Extension.TheVariants.{AudioLevel, AbsoluteSendTime, TransportSequenceNumber, RtpMid, RtpStreamId, RepairedRtpStreamId, VideoOrientation, AbsoluteCaptureTime, PlayoutDelay}
use Rattle.rtp_wire.specs.declared.extension.TheConstants.{MAP_PLACES, MAX_ID_ONE_BYTE_FORM, RESERVED_ID}
use Rattle.rtp_wire.specs.declared.values.ExtensionValues.{ExtensionValues}
use Rattle.rtp_wire.specs.declared.values.TheConstants.{ONE_BYTE_PROFILE, TWO_BYTE_PROFILE}
use Rattle.rtp_base.specs.Name.{name_of}
use Rattle.rtp_wire.specs.Reading.{transport_in, send_time_in, level_in, voice_in, turn_in, capture_in, least_delay_in, greatest_delay_in}
use Rattle.rtp_wire.specs.Writing.{value_bytes, without, wire_values}

-- the extensions told apart
abbrev pub extension_number : Extension → ℕ
extension_number AudioLevel = 0
extension_number AbsoluteSendTime = 1
extension_number TransportSequenceNumber = 2
extension_number RtpMid = 3
extension_number RtpStreamId = 4
extension_number RepairedRtpStreamId = 5
extension_number VideoOrientation = 6
extension_number AbsoluteCaptureTime = 7
extension_number PlayoutDelay = 8

abbrev pub is_at : Extension → Option Extension → Bool
is_at e None = false
is_at e (Some f) = extension_number e == extension_number f

-- A map has 15 places: place i is the extension that the id i names. Id 0 is padding and names none.
abbrev pub no_extensions : List (Option Extension)
no_extensions = replicate MAP_PLACES None

-- the ids that hold where nothing else was agreed
abbrev pub standard_extensions : List (Option Extension)
standard_extensions =
    None
    ∷ Some AudioLevel
    ∷ Some AbsoluteSendTime
    ∷ Some TransportSequenceNumber
    ∷ Some RtpMid
    ∷ None
    ∷ None
    ∷ None
    ∷ None
    ∷ None
    ∷ Some RtpStreamId
    ∷ Some RepairedRtpStreamId
    ∷ None
    ∷ Some VideoOrientation
    ∷ None
    ∷ []

-- the extension that an id names: ids above 14 name none
abbrev pub named_by : List (Option Extension) → ℕ → Option Extension
named_by exts id = if nat_lt id RESERVED_ID then slice_index_or exts id None else None

-- the id that names an extension
abbrev pub id_of : List (Option Extension) → Extension → Option ℕ
id_of exts e = position (is_at e) exts

-- the place, empty if it had this extension
abbrev pub cleared : Extension → Option Extension → Option Extension
cleared e place = if is_at e place then None else place

-- the map in which this id, and no other, names this extension
abbrev pub with_extension : List (Option Extension) → ℕ → Extension → List (Option Extension)
with_extension exts id e = slice_set (map (cleared e) exts) id (Some e)

-- a header with no extension has none of the values
abbrev pub no_values : ExtensionValues
no_values = record {
  audio_level = None;
  voice_activity = None;
  video_orientation = None;
  abs_send_time = None;
  transport_cc = None;
  play_delay_min = None;
  play_delay_max = None;
  rid = None;
  rid_repair = None;
  mid = None;
  abs_capture_time = None;
}

-- The elements of the one-byte form (RFC 8285 section 4.2), each an id and its bytes. The byte 0 is padding; the other
-- elements begin with a byte of id and length less 1. The id 15 ends the reading, as an element does that runs past the
-- end. So many bytes at the front as the first number says belong to an element before.
unfoldable pub one_byte_elements : ℕ → List ℕ → List (ℕ × List ℕ)
one_byte_elements passed [] = []
one_byte_elements (suc passed) (b ∷ bytes) = one_byte_elements passed bytes
one_byte_elements zero (b ∷ bytes) =
    if b == 0
    then one_byte_elements 0 bytes
    else if b / 16 == RESERVED_ID || nat_lt (length bytes) (b % 16 + 1)
    then []
    else (b / 16, take (b % 16 + 1) bytes) ∷ one_byte_elements (b % 16 + 1) bytes

-- The elements of the two-byte form (RFC 8285 section 4.3): the byte 0 is padding; the other elements begin with a byte of
-- id and one of length. An element that runs past the end ends the reading.
unfoldable pub two_byte_elements : ℕ → List ℕ → List (ℕ × List ℕ)
two_byte_elements passed [] = []
two_byte_elements (suc passed) (b ∷ bytes) = two_byte_elements passed bytes
two_byte_elements zero (b ∷ bytes) =
    if b == 0
    then two_byte_elements 0 bytes
    else if nat_lt (length bytes) (slice_index bytes 0 + 1)
    then []
    else (b, take (slice_index bytes 0) (drop 1 bytes)) ∷ two_byte_elements (slice_index bytes 0 + 1) bytes

-- the values after an element of an extension: the last one of a value counts, and one of a wrong form is passed over
abbrev pub with_value : ExtensionValues → Option Extension → List ℕ → ExtensionValues
with_value values None bytes = values
with_value values (Some AudioLevel) bytes = record values { audio_level = option_or (level_in bytes) values.audio_level; voice_activity = option_or (voice_in bytes) values.voice_activity }
with_value values (Some AbsoluteSendTime) bytes = record values { abs_send_time = option_or (send_time_in bytes) values.abs_send_time }
with_value values (Some TransportSequenceNumber) bytes = record values { transport_cc = option_or (transport_in bytes) values.transport_cc }
with_value values (Some RtpMid) bytes = record values { mid = option_or (name_of bytes) values.mid }
with_value values (Some RtpStreamId) bytes = record values { rid = option_or (name_of bytes) values.rid }
with_value values (Some RepairedRtpStreamId) bytes = record values { rid_repair = option_or (name_of bytes) values.rid_repair }
with_value values (Some VideoOrientation) bytes = record values { video_orientation = option_or (turn_in bytes) values.video_orientation }
with_value values (Some AbsoluteCaptureTime) bytes = record values { abs_capture_time = option_or (capture_in bytes) values.abs_capture_time }
with_value values (Some PlayoutDelay) bytes = record values { play_delay_min = option_or (least_delay_in bytes) values.play_delay_min; play_delay_max = option_or (greatest_delay_in bytes) values.play_delay_max }

-- the values after elements, in order: those of unknown ids are passed over
unfoldable pub with_elements : List (Option Extension) → ExtensionValues → List (ℕ × List ℕ) → ExtensionValues
with_elements exts values [] = values
with_elements exts values (e ∷ elements) = with_elements exts (with_value values (named_by exts e.0) e.1) elements

-- the elements of an extension: other profiles have none
abbrev pub elements_of : ℕ → List ℕ → List (ℕ × List ℕ)
elements_of profile bytes =
    if profile == ONE_BYTE_PROFILE
    then one_byte_elements 0 bytes
    else if profile / 16 == TWO_BYTE_PROFILE
    then two_byte_elements 0 bytes
    else []

-- the values that an extension of this profile with these bytes has under a map
unfoldable pub values_of : List (Option Extension) → ℕ → List ℕ → ExtensionValues
values_of exts profile bytes = with_elements exts no_values (elements_of profile bytes)

-- the ids that are written: 0 is padding, and 15 ends a reading
abbrev pub written_ids : List ℕ
written_ids = range_with_len 1 MAX_ID_ONE_BYTE_FORM

abbrev pub bytes_at : Option Extension → ExtensionValues → Option (List ℕ)
bytes_at None values = None
bytes_at (Some e) values = value_bytes e values

abbrev pub left_after : Option Extension → ExtensionValues → ExtensionValues
left_after None values = values
left_after (Some e) values = without e values

abbrev pub element_at : ℕ → Option (List ℕ) → List (ℕ × List ℕ)
element_at id None = []
element_at id (Some bytes) = (id, bytes) ∷ []

-- the elements in which values are written, in the order of these ids: a value is written once
unfoldable pub written_elements : List ℕ → List (Option Extension) → ExtensionValues → List (ℕ × List ℕ)
written_elements [] exts values = []
written_elements (id ∷ ids) exts values = element_at id (bytes_at (named_by exts id) values) ++ written_elements ids exts (left_after (named_by exts id) values)

-- an element of the one-byte form: a byte of its id and its length less 1, and its bytes
abbrev pub element_bytes : ℕ × List ℕ → List ℕ
element_bytes e = (e.0 * 16 + (length e.1 - 1)) ∷ e.1

-- the data of an extension in which values are written, before it is filled up
unfoldable pub written_data : List (Option Extension) → ExtensionValues → List ℕ
written_data exts values = flat_map element_bytes (written_elements written_ids exts values)

abbrev pub words_for : ℕ → ℕ
words_for n = (n + 3) / 4

-- data with a header of its own: the profile of the one-byte form (RFC 8285 section 4.2) and the length in words, for which
-- zeros fill up the data. No data has no extension.
abbrev pub with_data : List ℕ → List ℕ
with_data [] = []
with_data (b ∷ bytes) =
    let n = words_for (length (b ∷ bytes)) in
    ONE_BYTE_PROFILE / 256 ∷ ONE_BYTE_PROFILE % 256 ∷ to_be_bytes w16 n ++ ((b ∷ bytes) ++ replicate (4 * n - length (b ∷ bytes)) 0)

-- the extension in which values are written, with its own header
unfoldable pub extension_bytes : List (Option Extension) → ExtensionValues → List ℕ
extension_bytes exts values = with_data (written_data exts values)

-- an id from 1 to 14 names the extension
abbrev pub is_named : List ℕ → List (Option Extension) → Extension → Bool
is_named ids exts e = list_any (λ id. is_at e (named_by exts id)) ids

abbrev pub if_named : {X : Type 0} → List (Option Extension) → Extension → Option X → Option X
if_named exts e value = if is_named written_ids exts e then value else None

-- the values as they are read again: those that are there and whose extension has an id, each as its wire form holds it
unfoldable pub written_values : List (Option Extension) → ExtensionValues → ExtensionValues
written_values exts values =
    let wire = wire_values values in record {
      audio_level = if_named exts AudioLevel wire.audio_level;
      voice_activity = if_named exts AudioLevel wire.voice_activity;
      video_orientation = if_named exts VideoOrientation wire.video_orientation;
      abs_send_time = if_named exts AbsoluteSendTime wire.abs_send_time;
      transport_cc = if_named exts TransportSequenceNumber wire.transport_cc;
      play_delay_min = if_named exts PlayoutDelay wire.play_delay_min;
      play_delay_max = if_named exts PlayoutDelay wire.play_delay_max;
      rid = if_named exts RtpStreamId wire.rid;
      rid_repair = if_named exts RepairedRtpStreamId wire.rid_repair;
      mid = if_named exts RtpMid wire.mid;
      abs_capture_time = if_named exts AbsoluteCaptureTime wire.abs_capture_time;
    }
