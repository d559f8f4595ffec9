-- What the laws of a run need of sealing and of headers.
use Rattle.std.specs.Prelude.{◌≡◌, ◌≤◌, ◌+◌, ℕ, List, ◌++◌, length, take, Some}
use Rattle.rtp_wire.specs.declared.header.RtpHeader.{RtpHeader}
use Rattle.media_model.specs.declared.entry.Side.{Side}
use Rattle.media_model.specs.declared.entry.Write.{Write as Writing}
use Rattle.media_model.specs.declared.setup.Setup.{Setup}
use Rattle.media_laws.specs.Opening.{Sealing}
use Rattle.media_laws.specs.Plain.{extensions_of, read_header, Carries}

-- a header is read off its own bytes; one of a write has at most 160 bytes; a seal begins with the
-- header, is at most 16 bytes longer than the plain datagram, and tells it
pub record WireLaws (seal : Sealing) (setup : Setup) : Type 0 where
  pub by_front : (bytes rest : List ℕ) (h : RtpHeader) → read_header setup bytes ≡ Some h
      → read_header setup (take h.header_len bytes ++ rest) ≡ Some h
  pub within : (bytes : List ℕ) (h : RtpHeader) → read_header setup bytes ≡ Some h
      → h.header_len ≤ length bytes
  pub long : (plain : List ℕ) (w : Writing) → Carries (extensions_of setup) plain w
      → length plain ≤ 160 + length w.payload
  pub front : (side : Side) (ssrc index : ℕ) (plain : List ℕ) (h : RtpHeader)
      → read_header setup plain ≡ Some h
      → take h.header_len (seal.rtp side ssrc index plain) ≡ take h.header_len plain
  pub tag : (side : Side) (ssrc index : ℕ) (plain : List ℕ) (h : RtpHeader)
      → read_header setup plain ≡ Some h
      → length (seal.rtp side ssrc index plain) ≤ length plain + 16
  pub apart : (side : Side) (ssrc index : ℕ) (p q : List ℕ) (h : RtpHeader)
      → read_header setup p ≡ Some h → read_header setup q ≡ Some h
      → seal.rtp side ssrc index p ≡ seal.rtp side ssrc index q → p ≡ q
