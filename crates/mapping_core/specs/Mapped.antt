-- Of which stream a datagram is: the first rule that applies.
use Rattle.std.specs.Prelude.{ℕ, Bool, true, false, not, ◌==◌, ◌&&◌, ◌||◌, is_some, is_none, if◌then◌else◌, List, [], ◌∷◌, find, Option, Some, None, unwrap_or}
use Rattle.std.specs.Option.{option_map, option_map_or}
use Rattle.rtp_wire.specs.declared.header.RtpHeader.{RtpHeader}
use Rattle.mapping_core.specs.Claims.{claim_of, carries_media, is_number}
use Rattle.mapping_core.specs.Expecting.{expects, is_specific}
use Rattle.mapping_core.specs.Streams.{has_main, has_repairs, is_named}
use Rattle.mapping_core.specs.declared.claim.TypeClaim.{TypeClaim}
use Rattle.mapping_core.specs.declared.rids.Rids.{Rids}
use Rattle.mapping_core.specs.declared.stream.IncomingStream.{IncomingStream}
use Rattle.mapping_core.specs.declared.mapping.Mapping.{Mapping}
use Rattle.mapping_core.specs.declared.mapping.Mapping.TheVariants.{Main, Repairs, NewStream, NewMain, NewRepairs, Nowhere}
use Rattle.mapping_core.specs.declared.mapping.Unmapped.TheVariants.{Probe, NoMid, UnknownMid, UnclaimedType, UnexpectedRid, RidMissing, NoMainStream}

-- an unknown SSRC maps to a stream
abbrev pub is_new : Mapping → Bool
is_new (NewStream s) = true
is_new (NewMain c) = true
is_new (NewRepairs c) = true
is_new (Main ssrc) = false
is_new (Repairs ssrc) = false
is_new (Nowhere why) = false

-- a rule applies where something holds, and then answers so
abbrev pub when : Bool → Mapping → Option Mapping
when holds answer = if holds then Some answer else None

-- one answer, or where it has none another
abbrev pub or_else : {A : Type 0} → Option A → Option A → Option A
or_else (Some x) y = Some x
or_else None y = y

-- the answer of the first rule that applies
abbrev pub first_that_applies : List (Option Mapping) → Option Mapping
first_that_applies [] = None
first_that_applies (rule ∷ rules) = or_else rule (first_that_applies rules)

-- the stream that a header names: its own rid, or that of the stream that it repairs
abbrev pub rid_in : RtpHeader → Option (List ℕ)
rid_in h = or_else h.ext_vals.rid h.ext_vals.rid_repair

-- a header carries a rid, as its own or as that of the stream that it repairs
abbrev pub names_rid : RtpHeader → Bool
names_rid h = is_some h.ext_vals.rid || is_some h.ext_vals.rid_repair

-- a rid is carried, and not expected
abbrev pub is_unexpected : Rids → Option (List ℕ) → Bool
is_unexpected rids rid = option_map_or (λ r. not (expects rids r)) rid false

-- a header carries a rid or a repair rid that is not expected
abbrev pub refuses : Rids → RtpHeader → Bool
refuses rids h = is_unexpected rids h.ext_vals.rid || is_unexpected rids h.ext_vals.rid_repair

-- a datagram of a type that a row knows is a packet, and no repair: it carries a rid of its own, or neither and its type is
-- one of media
abbrev pub is_packet : TypeClaim → RtpHeader → Bool
is_packet claim h = is_some h.ext_vals.rid || (is_none h.ext_vals.rid_repair && carries_media h.payload_type claim)

-- a stream whose packets come under an SSRC, with a rid where the header has one
abbrev pub declared_in : List ℕ → Option ℕ → TypeClaim → RtpHeader → IncomingStream
declared_in mid rtx claim h = record {
  ssrc = h.ssrc;
  rtx = rtx;
  mid = mid;
  rid = h.ext_vals.rid;
  previous = None;
  suppress_nack = is_none claim.rtx;
}

-- a packet under an unknown SSRC for a stream that stands: the stream's packets come under it from then on; where it is the
-- SSRC that they had before, it is another stream beside that one, with the same SSRC of repairs
abbrev pub for_standing : TypeClaim → RtpHeader → IncomingStream → Mapping
for_standing claim h s = if is_number s.previous h.ssrc then NewStream (declared_in s.mid s.rtx claim h) else NewMain (record { from = s.ssrc; to = h.ssrc })

-- where a packet under an unknown SSRC belongs in a media section
abbrev pub placed_packet : List IncomingStream → List ℕ → TypeClaim → RtpHeader → Mapping
placed_packet streams mid claim h =
    option_map_or (for_standing claim h) (find (is_named mid (rid_in h)) streams) (NewStream (declared_in mid None claim h))

-- where a repair under an unknown SSRC belongs in a media section
abbrev pub placed_repair : List IncomingStream → List ℕ → RtpHeader → Mapping
placed_repair streams mid h =
    option_map_or (λ s. NewRepairs (record { main = s.ssrc; rtx = h.ssrc })) (find (is_named mid (rid_in h)) streams) (Nowhere NoMainStream)

-- what is so of a value, where there is one
abbrev pub where_some : {A : Type 0} → (A → Option Mapping) → Option A → Option Mapping
where_some rule None = None
where_some rule (Some x) = rule x

-- a probe (SSRC 0) is of no media section
abbrev pub probe_rule : RtpHeader → Option Mapping
probe_rule h = when (h.ssrc == 0) (Nowhere Probe)

-- packets of a stream come under the SSRC
abbrev pub main_rule : List IncomingStream → RtpHeader → Option Mapping
main_rule streams h = option_map (λ s. Main s.ssrc) (find (has_main h.ssrc) streams)

-- repairs of a stream come under the SSRC: of two such streams they are those of the first
abbrev pub repairs_rule : List IncomingStream → RtpHeader → Option Mapping
repairs_rule streams h = option_map (λ s. Repairs s.ssrc) (find (has_repairs h.ssrc) streams)

-- no mid is carried
abbrev pub mid_rule : RtpHeader → Option Mapping
mid_rule h = when (is_none h.ext_vals.mid) (Nowhere NoMid)

-- no media section has the mid
abbrev pub section_rule : Option Rids → Option Mapping
section_rule rids = when (is_none rids) (Nowhere UnknownMid)

-- no row knows the type
abbrev pub type_rule : List TypeClaim → RtpHeader → Option Mapping
type_rule types h = when (is_none (claim_of types h.payload_type)) (Nowhere UnclaimedType)

-- a rid or a repair rid that is carried is not expected
abbrev pub rid_rule : Option Rids → RtpHeader → Option Mapping
rid_rule rids h = where_some (λ expected. when (refuses expected h) (Nowhere UnexpectedRid)) rids

-- neither is carried, and certain rids are expected
abbrev pub no_rid_rule : Option Rids → RtpHeader → Option Mapping
no_rid_rule rids h = where_some (λ expected. when (not (names_rid h) && is_specific expected) (Nowhere RidMissing)) rids

-- the datagram is a packet
abbrev pub packet_rule : List TypeClaim → List IncomingStream → RtpHeader → Option Mapping
packet_rule types streams h = where_some (λ mid. where_some (λ claim.
    when (is_packet claim h) (placed_packet streams mid claim h)) (claim_of types h.payload_type)) h.ext_vals.mid

-- it is a repair
abbrev pub repair_rule : List IncomingStream → RtpHeader → Option Mapping
repair_rule streams h = where_some (λ mid. Some (placed_repair streams mid h)) h.ext_vals.mid

-- an SSRC that is known
abbrev pub known_rules : List IncomingStream → RtpHeader → List (Option Mapping)
known_rules streams h = probe_rule h ∷ main_rule streams h ∷ repairs_rule streams h ∷ []

-- the rules in their order: the first one that applies says of which stream a datagram is. `rids` is what the media section
-- expects whose mid the header carries, where there is one
abbrev pub mapping_rules : Option Rids → List TypeClaim → List IncomingStream → RtpHeader → List (Option Mapping)
mapping_rules rids types streams h =
    probe_rule h ∷ main_rule streams h ∷ repairs_rule streams h
    ∷ mid_rule h ∷ section_rule rids ∷ type_rule types h ∷ rid_rule rids h ∷ no_rid_rule rids h
    ∷ packet_rule types streams h ∷ repair_rule streams h ∷ []

-- what that rule answers; one of them applies to each datagram
abbrev pub mapped : Option Rids → List TypeClaim → List IncomingStream → RtpHeader → Mapping
mapped rids types streams h = unwrap_or (first_that_applies (mapping_rules rids types streams h)) (Nowhere NoMid)

-- a repair rid is carried that is expected
abbrev pub repairs_expected : Option Rids → RtpHeader → Bool
repairs_expected rids h = option_map_or (λ expected. option_map_or (expects expected) h.ext_vals.rid_repair false) rids false

-- the type is known, and has a type of repairs
abbrev pub has_rtx : List TypeClaim → RtpHeader → Bool
has_rtx types h = option_map_or (λ claim. is_some claim.rtx) (claim_of types h.payload_type) false

-- an SSRC that stays unknown may open only so: with padding, a repair rid that is expected, no rid, and a type that has
-- a type of repairs
abbrev pub is_early_padding : Option Rids → List TypeClaim → RtpHeader → Bool
is_early_padding rids types h = h.has_padding && is_none h.ext_vals.rid && repairs_expected rids h && has_rtx types h
