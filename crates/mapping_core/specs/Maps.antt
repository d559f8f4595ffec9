-- Where a datagram under an unknown SSRC maps, in so many words.
use Rattle.std.specs.Prelude.{◌≡◌, ◌≢◌, ◌⊎◌, ℕ, true, false, List, Some, None, Option}
use Rattle.std.specs.List.{list_any}
use Rattle.rtp_wire.specs.declared.header.RtpHeader.{RtpHeader}
use Rattle.mapping_core.specs.Claims.{claim_of}
use Rattle.mapping_core.specs.Expecting.{expects, is_specific}
use Rattle.mapping_core.specs.Streams.{is_known, is_named}
use Rattle.mapping_core.specs.Mapped.{is_packet, rid_in}
use Rattle.mapping_core.specs.declared.claim.TypeClaim.{TypeClaim}
use Rattle.mapping_core.specs.declared.rids.Rids.{Rids}
use Rattle.mapping_core.specs.declared.stream.IncomingStream.{IncomingStream}

-- an SSRC is no probe's, and no stream has it, neither for its packets nor for its repairs
pub record IsUnknown (streams : List IncomingStream) (ssrc : ℕ) : Type 0 where
  pub no_probe : ssrc ≢ 0
  pub no_stream : is_known streams ssrc ≡ false

-- an unknown SSRC maps where its mid names a media section and its type is claimed, where each rid that it carries is
-- expected, or it carries none and none is asked for, and where it is a packet, or the stream stands that it repairs
pub record MapsAnew (rids : Option Rids) (types : List TypeClaim) (streams : List IncomingStream) (h : RtpHeader) : Type 0 where
  pub unknown : IsUnknown streams h.ssrc
  pub mid : List ℕ
  pub expected : Rids
  pub claim : TypeClaim
  pub carries : h.ext_vals.mid ≡ Some mid
  pub names : rids ≡ Some expected
  pub claimed : claim_of types h.payload_type ≡ Some claim
  pub own_rid : (rid : List ℕ) → h.ext_vals.rid ≡ Some rid → expects expected rid ≡ true
  pub repair_rid : (rid : List ℕ) → h.ext_vals.rid_repair ≡ Some rid → expects expected rid ≡ true
  pub no_rid : h.ext_vals.rid ≡ None → h.ext_vals.rid_repair ≡ None → is_specific expected ≡ false
  pub belongs : (is_packet claim h ≡ true) ⊎ (list_any (is_named mid (rid_in h)) streams ≡ true)
