-- Of which stream a datagram is: what is taken up of it, and how it opens then.
use Rattle.std.proofs.Common.{◌≡◌, ℕ, Bool, true, false, List, Option, Some, None, is_none, refl}
use Rattle.std.specs.Prelude.{◌==◌, ◌&&◌, not, unwrap_or, find, if◌then◌else◌}
use Rattle.std.specs.Option.{option_map, option_map_or}
use Rattle.mapping_core.specs.Claims.{claim_of, is_number}
use Rattle.mapping_core.specs.Expecting.{is_specific}
use Rattle.mapping_core.specs.Mapped.{mapped, mapping_rules, first_that_applies, or_else, when, where_some, probe_rule, main_rule, repairs_rule, mid_rule, section_rule, type_rule, rid_rule, no_rid_rule, packet_rule, repair_rule, rid_in, refuses, names_rid, is_packet, placed_packet, placed_repair, for_standing, declared_in}
use Rattle.mapping_core.specs.Streams.{has_main, has_repairs, is_named}
use Rattle.mapping_core.specs.declared.claim.TypeClaim.{TypeClaim}
use Rattle.mapping_core.specs.declared.mapping.Mapping.{Mapping}
use Rattle.mapping_core.specs.declared.mapping.Mapping.TheVariants.{Main, Repairs, NewStream, NewMain, NewRepairs, Nowhere}
use Rattle.mapping_core.specs.declared.mapping.Unmapped.TheVariants.{Probe, NoMid, UnknownMid, UnclaimedType, UnexpectedRid, RidMissing, NoMainStream}
use Rattle.mapping_core.specs.declared.rids.Rids.{Rids}
use Rattle.mapping_core.specs.declared.stream.IncomingStream.{IncomingStream}
use Rattle.rtp_wire.specs.declared.header.RtpHeader.{RtpHeader}

-- what is taken up of a datagram is of its own SSRC
abbrev pub IsOf : ℕ → Mapping → Type 0
IsOf ssrc (Main main) = Unit {0}
IsOf ssrc (Repairs main) = Unit {0}
IsOf ssrc (NewStream s) = s.ssrc ≡ ssrc
IsOf ssrc (NewMain c) = c.to ≡ ssrc
IsOf ssrc (NewRepairs c) = c.rtx ≡ ssrc
IsOf ssrc (Nowhere why) = Unit {0}

abbrev IsOfIn : ℕ → Option Mapping → Type 0
IsOfIn ssrc None = Unit {0}
IsOfIn ssrc (Some m) = IsOf ssrc m

first_of : (ssrc : ℕ) (rule rest : Option Mapping) → IsOfIn ssrc rule → IsOfIn ssrc rest → IsOfIn ssrc (or_else rule rest)
first_of ssrc None rest a b = b
first_of ssrc (Some m) rest a b = a

nowhere_when : (ssrc : ℕ) (b : Bool) (m : Mapping) → IsOf ssrc m → IsOfIn ssrc (when b m)
nowhere_when ssrc true m is = is
nowhere_when ssrc false m is = tt

module _ (rids : Option Rids) (types : List TypeClaim) (streams : List IncomingStream) (h : RtpHeader) where
  main_of : (o : Option IncomingStream) → IsOfIn h.ssrc (option_map (λ (s : IncomingStream). Main s.ssrc) o)
  main_of None = tt
  main_of (Some s) = tt

  repairs_of : (o : Option IncomingStream) → IsOfIn h.ssrc (option_map (λ (s : IncomingStream). Repairs s.ssrc) o)
  repairs_of None = tt
  repairs_of (Some s) = tt

  rid_of : (o : Option Rids) → IsOfIn h.ssrc (rid_rule o h)
  rid_of None = tt
  rid_of (Some e) = nowhere_when h.ssrc (refuses e h) (Nowhere UnexpectedRid) tt

  no_rid_of : (o : Option Rids) → IsOfIn h.ssrc (no_rid_rule o h)
  no_rid_of None = tt
  no_rid_of (Some e) = nowhere_when h.ssrc (not (names_rid h) && is_specific e) (Nowhere RidMissing) tt

  standing_of : (claim : TypeClaim) (s : IncomingStream) (b : Bool)
      → IsOf h.ssrc (if b then NewStream (declared_in s.mid s.rtx claim h) else NewMain (record { from = s.ssrc; to = h.ssrc }))
  standing_of claim s true = refl
  standing_of claim s false = refl

  placed_of : (mid : List ℕ) (claim : TypeClaim) (o : Option IncomingStream)
      → IsOf h.ssrc (option_map_or (for_standing claim h) o (NewStream (declared_in mid None claim h)))
  placed_of mid claim None = refl
  placed_of mid claim (Some s) = standing_of claim s (is_number s.previous h.ssrc)

  packet_by : (mid : List ℕ) (o : Option TypeClaim)
      → IsOfIn h.ssrc (where_some (λ claim. when (is_packet claim h) (placed_packet streams mid claim h)) o)
  packet_by mid None = tt
  packet_by mid (Some claim) =
      nowhere_when h.ssrc (is_packet claim h) (placed_packet streams mid claim h) (placed_of mid claim (find (is_named mid (rid_in h)) streams))

  packet_of : (o : Option (List ℕ)) → IsOfIn h.ssrc (where_some (λ mid. where_some (λ claim.
      when (is_packet claim h) (placed_packet streams mid claim h)) (claim_of types h.payload_type)) o)
  packet_of None = tt
  packet_of (Some mid) = packet_by mid (claim_of types h.payload_type)

  repair_by : (o : Option IncomingStream)
      → IsOf h.ssrc (option_map_or (λ (s : IncomingStream). NewRepairs (record { main = s.ssrc; rtx = h.ssrc })) o (Nowhere NoMainStream))
  repair_by None = tt
  repair_by (Some s) = refl

  repair_of : (o : Option (List ℕ)) → IsOfIn h.ssrc (where_some (λ mid. Some (placed_repair streams mid h)) o)
  repair_of None = tt
  repair_of (Some mid) = repair_by (find (is_named mid (rid_in h)) streams)

  answered : (o : Option Mapping) → IsOfIn h.ssrc o → IsOf h.ssrc (unwrap_or o (Nowhere NoMid))
  answered None is = tt
  answered (Some m) is = is

  pub mapped_of : IsOf h.ssrc (mapped rids types streams h)
  mapped_of =
      answered (first_that_applies (mapping_rules rids types streams h))
      (first_of h.ssrc (probe_rule h) _ (nowhere_when h.ssrc (h.ssrc == 0) (Nowhere Probe) tt)
      (first_of h.ssrc (main_rule streams h) _ (main_of (find (has_main h.ssrc) streams))
      (first_of h.ssrc (repairs_rule streams h) _ (repairs_of (find (has_repairs h.ssrc) streams))
      (first_of h.ssrc (mid_rule h) _ (nowhere_when h.ssrc (is_none h.ext_vals.mid) (Nowhere NoMid) tt)
      (first_of h.ssrc (section_rule rids) _ (nowhere_when h.ssrc (is_none rids) (Nowhere UnknownMid) tt)
      (first_of h.ssrc (type_rule types h) _ (nowhere_when h.ssrc (is_none (claim_of types h.payload_type)) (Nowhere UnclaimedType) tt)
      (first_of h.ssrc (rid_rule rids h) _ (rid_of rids)
      (first_of h.ssrc (no_rid_rule rids h) _ (no_rid_of rids)
      (first_of h.ssrc (packet_rule types streams h) _ (packet_of h.ext_vals.mid)
      (first_of h.ssrc (repair_rule streams h) _ (repair_of h.ext_vals.mid) tt))))))))))
