-- How streams go on while others are declared and SSRCs change.
use Rattle.std.specs.Prelude.{◌≡◌, ◌≢◌, ◌⊎◌, ◌≤◌, ℕ, List, length, slice_get, Some}
use Rattle.mapping_core.specs.declared.stream.IncomingStream.{IncomingStream}

-- the packets of a stream come under another SSRC, which is not the one that they had right before
pub record HasMoved (s t : IncomingStream) : Type 0 where
  pub remembers : t.previous ≡ Some s.ssrc
  pub never_back : s.previous ≢ Some t.ssrc

-- a stream is the same one at two moments: it is still named so, and its packets come under the same SSRC or have moved
pub record GoesOn (s t : IncomingStream) : Type 0 where
  pub mid : t.mid ≡ s.mid
  pub rid : t.rid ≡ s.rid
  pub suppressed : t.suppress_nack ≡ s.suppress_nack
  pub packets : (t.ssrc ≡ s.ssrc) ⊎ HasMoved s t

-- each stream goes on in its place, and none goes away
pub record GoOn (old new : List IncomingStream) : Type 0 where
  pub none_gone : length old ≤ length new
  pub each : (i : ℕ) (s t : IncomingStream) → slice_get old i ≡ Some s → slice_get new i ≡ Some t → GoesOn s t
