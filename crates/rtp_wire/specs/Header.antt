-- The RTP header (RFC 3550 section 5.1).
use Rattle.std.specs.Prelude.{ℕ, ◌+◌, ◌-◌, ◌*◌, ◌/◌, ◌%◌, Bool, not, ◌==◌, nat_le, nat_lt, ◌&&◌, ◌||◌, if◌then◌else◌, Option, Some, None, List, ◌∷◌, ◌++◌, length, take, drop, replicate, slice_index}
use Rattle.std.specs.List.{flat_map}
use Rattle.std.specs.Int.{w16, w32, to_be_bytes}
use Rattle.rtp_base.specs.Wire.{half_at, word_at}
use Rattle.rtp_wire.specs.Bytes.{words_of}
use Rattle.rtp_wire.specs.declared.extension.ExtensionMap.{ExtensionMap}
use Rattle.rtp_wire.specs.declared.values.ExtensionValues.{ExtensionValues}
use Rattle.rtp_wire.specs.declared.header.RtpHeader.{RtpHeader}
use Rattle.rtp_wire.specs.declared.header.TheConstants.{FIXED_HEADER_LEN, MAX_SOURCES}
use Rattle.rtp_base.specs.declared.kind.TheConstants.{RTP_VERSION}
use Rattle.rtp_wire.specs.Extensions.{no_values, values_of, extension_bytes, written_values}

-- Byte 0: version (2 bits), padding, extension, CSRC count (4 bits). Byte 1: marker, payload type (7 bits).
abbrev pub version : List ℕ → ℕ
version bytes = slice_index bytes 0 / 64

abbrev pub has_padding_bit : List ℕ → Bool
has_padding_bit bytes = slice_index bytes 0 / 32 % 2 == 1

abbrev pub has_extension_bit : List ℕ → Bool
has_extension_bit bytes = slice_index bytes 0 / 16 % 2 == 1

abbrev pub source_count : List ℕ → ℕ
source_count bytes = slice_index bytes 0 % 16

abbrev pub has_marker_bit : List ℕ → Bool
has_marker_bit bytes = slice_index bytes 1 / 128 % 2 == 1

abbrev pub type_number : List ℕ → ℕ
type_number bytes = slice_index bytes 1 % 128

-- the contributing sources, behind the twelve bytes of each header
abbrev pub sources : List ℕ → List ℕ
sources bytes = words_of (take (4 * source_count bytes) (drop FIXED_HEADER_LEN bytes))

-- where the sources end: there the extension begins, if there is one
abbrev pub sources_end : List ℕ → ℕ
sources_end bytes = FIXED_HEADER_LEN + 4 * source_count bytes

-- an extension has a profile, its length in words and so many words of data (RFC 3550 section 5.3.1)
abbrev pub extension_profile : List ℕ → ℕ
extension_profile bytes = half_at bytes (sources_end bytes)

abbrev pub extension_length : List ℕ → ℕ
extension_length bytes = 4 * half_at bytes (sources_end bytes + 2)

abbrev pub extension_data : List ℕ → List ℕ
extension_data bytes = take (extension_length bytes) (drop (sources_end bytes + 4) bytes)

abbrev pub header_end : List ℕ → ℕ
header_end bytes = if has_extension_bit bytes then sources_end bytes + 4 + extension_length bytes else sources_end bytes

-- Twelve bytes stand, the version is 2, and neither the sources, nor the extension's own header, nor its data run past
-- the end.
abbrev pub has_header : List ℕ → Bool
has_header bytes =
    nat_le FIXED_HEADER_LEN (length bytes)
    && (version bytes == RTP_VERSION)
    && nat_le (sources_end bytes) (length bytes)
    && (not (has_extension_bit bytes) || (nat_le (sources_end bytes + 4) (length bytes) && nat_le (header_end bytes) (length bytes)))

-- the values of a header that stands: none without an extension
abbrev pub ext_vals_of : ExtensionMap → List ℕ → ExtensionValues
ext_vals_of exts bytes =
    if has_extension_bit bytes then values_of exts (extension_profile bytes) (extension_data bytes) else no_values

-- the fields of a header that stands
abbrev pub fields_of : ExtensionMap → List ℕ → RtpHeader
fields_of exts bytes = record {
  has_padding = has_padding_bit bytes;
  marker = has_marker_bit bytes;
  payload_type = type_number bytes;
  sequence_number = half_at bytes 2;
  timestamp = word_at bytes 4;
  ssrc = word_at bytes 8;
  csrc_count = source_count bytes;
  csrc = sources bytes ++ replicate (MAX_SOURCES - source_count bytes) 0;
  ext_vals = ext_vals_of exts bytes;
  header_len = header_end bytes;
}

-- the header that stands at the front of the bytes, or none
unfoldable pub header_of : ExtensionMap → List ℕ → Option RtpHeader
header_of exts bytes = if has_header bytes then Some (fields_of exts bytes) else None

-- the contributing sources of a header
abbrev pub csrc_of : RtpHeader → List ℕ
csrc_of h = take h.csrc_count h.csrc

abbrev pub bit : Bool → ℕ → ℕ
bit b n = if b then n else 0

-- the first twelve bytes: version 2, the bits, the count and the numbers
abbrev pub fixed_bytes : RtpHeader → Bool → List ℕ
fixed_bytes h extended =
    (64 * RTP_VERSION + bit h.has_padding 32 + bit extended 16 + h.csrc_count)
    ∷ (bit h.marker 128 + h.payload_type % 128)
    ∷ to_be_bytes w16 h.sequence_number ++ to_be_bytes w32 h.timestamp ++ to_be_bytes w32 h.ssrc

-- the bytes of a header: the first twelve, the sources, and an extension where some value is written
unfoldable pub header_bytes : ExtensionMap → RtpHeader → List ℕ
header_bytes exts h =
    let extension = extension_bytes exts h.ext_vals in
    fixed_bytes h (nat_lt 0 (length extension)) ++ flat_map (to_be_bytes w32) (csrc_of h) ++ extension

-- a header as it is read again: the low 7 bits of its type, zeros behind its sources, its values as their wire form holds
-- them, and its length
unfoldable pub wire_form : ExtensionMap → RtpHeader → RtpHeader
wire_form exts h = record h {
  payload_type = h.payload_type % 128;
  csrc = csrc_of h ++ replicate (MAX_SOURCES - h.csrc_count) 0;
  ext_vals = written_values exts h.ext_vals;
  header_len = length (header_bytes exts h);
}
