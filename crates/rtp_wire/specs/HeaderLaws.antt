-- What holds of each header: it is read off its own bytes, and what is written is read again.
use Rattle.std.specs.Prelude.{◌≡◌, ℕ, ◌+◌, ◌-◌, ◌*◌, ◌<◌, ◌≤◌, ◌^◌, List, ◌++◌, length, take, replicate, Some}
use Rattle.rtp_wire.specs.Extensions.{no_values}
use Rattle.rtp_wire.specs.declared.extension.ExtensionMap.{ExtensionMap}
use Rattle.rtp_wire.specs.declared.header.RtpHeader.{RtpHeader}
use Rattle.rtp_wire.specs.declared.header.TheConstants.{FIXED_HEADER_LEN, MAX_HEADER_LEN, MAX_SOURCES}
use Rattle.rtp_wire.specs.Header.{header_of, csrc_of, header_bytes, wire_form}
use Rattle.rtp_wire.specs.BytesLaws.{AreWords}

-- The header at the front of some bytes is read off its own bytes alone: whatever else follows them, it is the same.
abbrev pub ReadsOwnBytes : Type 0
ReadsOwnBytes =
    (exts : ExtensionMap) (bytes rest : List ℕ) (h : RtpHeader) → header_of exts bytes ≡ Some h
    → (header_of exts (take h.header_len bytes ++ rest) ≡ Some h) × (FIXED_HEADER_LEN ≤ h.header_len) × (h.header_len ≤ length bytes)

-- a header whose fields are in their ranges
pub record IsHeader (h : RtpHeader) : Type 0 where
  pub number : h.sequence_number < 2 ^ 16
  pub time : h.timestamp < 2 ^ 32
  pub source : h.ssrc < 2 ^ 32
  pub few : h.csrc_count ≤ MAX_SOURCES
  pub room : length h.csrc ≡ MAX_SOURCES
  pub words : AreWords h.csrc

-- A header is written so that it is read again, as its wire form is, whatever follows it.
abbrev pub IsReadAgain : ExtensionMap → RtpHeader → Type 0
IsReadAgain exts h = (rest : List ℕ) → header_of exts (header_bytes exts h ++ rest) ≡ Some (wire_form exts h)

-- Each header whose fields are in their ranges is read again as its wire form, under each map and whatever follows it.
abbrev pub WrittenIsReadAgain : Type 0
WrittenIsReadAgain = (exts : ExtensionMap) (h : RtpHeader) → IsHeader h → IsReadAgain exts h

-- a header without values, whose fields are in the ranges of their places on the wire
pub record IsPlainHeader (h : RtpHeader) : Type 0 where
  pub number : h.sequence_number < 2 ^ 16
  pub time : h.timestamp < 2 ^ 32
  pub source : h.ssrc < 2 ^ 32
  pub type : h.payload_type < 128
  pub few : h.csrc_count ≤ MAX_SOURCES
  pub room : length h.csrc ≡ MAX_SOURCES
  pub words : AreWords h.csrc
  pub zeros : h.csrc ≡ csrc_of h ++ replicate (MAX_SOURCES - h.csrc_count) 0
  pub values : h.ext_vals ≡ no_values
  pub len : h.header_len ≡ FIXED_HEADER_LEN + 4 * h.csrc_count

-- A header without values is read again just as it was, under each map.
abbrev pub PlainIsReadAgain : Type 0
PlainIsReadAgain =
    (exts : ExtensionMap) (h : RtpHeader) (rest : List ℕ) → IsPlainHeader h → header_of exts (header_bytes exts h ++ rest) ≡ Some h

-- A header without values has twelve bytes, and four for each source.
abbrev pub PlainIsAsLong : Type 0
PlainIsAsLong =
    (exts : ExtensionMap) (h : RtpHeader) → h.ext_vals ≡ no_values → h.csrc_count ≤ length h.csrc → length (header_bytes exts h) ≡ FIXED_HEADER_LEN + 4 * h.csrc_count

-- Each header that is written has at least its first twelve bytes.
abbrev pub HasFixedBytes : Type 0
HasFixedBytes = (exts : ExtensionMap) (h : RtpHeader) → FIXED_HEADER_LEN ≤ length (header_bytes exts h)

-- Each header of at most 15 sources has at most 160 bytes.
abbrev pub HasFewBytes : Type 0
HasFewBytes = (exts : ExtensionMap) (h : RtpHeader) → h.csrc_count ≤ MAX_SOURCES → length (header_bytes exts h) ≤ MAX_HEADER_LEN
