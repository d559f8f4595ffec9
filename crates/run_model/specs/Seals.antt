-- How one side seals, and what can be opened.
use Rattle.std.specs.Prelude.{◌≡◌, ◌≤◌, ◌%◌, ℕ, Bool, List, length, Option, Some}
use Rattle.rtcp_wire.specs.declared.rtcp_fb.RtcpFb.{RtcpFb}
use Rattle.run_model.specs.Events.{Plain}
use Rattle.srtp_core.specs.declared.srtcp.TheConstants.{HEADER_LEN}

-- how a plain RTP datagram is read, as its SSRC, the low 16 bits of its number and the rest, and how it is sealed under an SSRC
-- and a number
pub record Sealing : Type 0 where
  pub read : List ℕ → Option (ℕ × ℕ × Plain)
  pub seal : (ssrc number : ℕ) → List ℕ → List ℕ

-- these bytes are a seal, under an SSRC and a number, of a plain datagram that reads so
pub record IsSeal (S : Sealing) (ssrc number : ℕ) (p : Plain) (bytes : List ℕ) : Type 0 where
  pub plain : List ℕ
  pub reads : S.read plain ≡ Some (ssrc, number % 65536, p)
  pub sealed : S.seal ssrc number plain ≡ bytes

-- how RTCP is sealed, encrypted or not, under an index; what a datagram states of both; and the items that a packet has
pub record Reporting : Type 0 where
  pub seal : (encrypted : Bool) → (index : ℕ) → List ℕ → List ℕ
  pub encrypts : List ℕ → Bool
  pub states : List ℕ → ℕ
  pub items : List ℕ → List RtcpFb

-- these bytes are a seal of a packet of at least 8 bytes with these items, under the index that they state, encrypted or not as
-- they state
pub record IsReport (R : Reporting) (bytes : List ℕ) (index : ℕ) (items : List RtcpFb) : Type 0 where
  pub packet : List ℕ
  pub long : HEADER_LEN ≤ length packet
  pub stated : index ≡ R.states bytes
  pub held : items ≡ R.items packet
  pub sealed : R.seal (R.encrypts bytes) index packet ≡ bytes
