-- Of which stream a datagram is that comes under an SSRC of no table of a session.
use Rattle.std.specs.Prelude.{◌==◌, ◌||◌, ℕ, Bool, true, false, is_some, option_and_then, if◌then◌else◌, List, Option, Some, None}
use Rattle.std.specs.Option.{option_map}
use Rattle.mapping_core.specs.Mapped.{mapped}
use Rattle.mapping_core.specs.declared.mapping.Mapping.{Mapping}
use Rattle.mapping_core.specs.declared.mapping.Mapping.TheVariants.{Main, Nowhere}
use Rattle.mapping_core.specs.declared.rids.Rids.{Rids}
use Rattle.rtp_base.specs.Widen.{widen16}
use Rattle.rtp_wire.specs.declared.header.RtpHeader.{RtpHeader}
use Rattle.stream_core.specs.Repairing.{claims_in}
use Rattle.stream_core.specs.Seen.{seen_of, is_unseen}
use Rattle.stream_core.specs.StreamsRecord.{taken_up}
use Rattle.stream_core.specs.Tables.{place_of}
use Rattle.session_core.specs.Medias.{media_of}
use Rattle.session_core.specs.SessionRecord.{MediaRecord, SessionRecord, streams_in, with_incoming}

-- what the media section expects whose mid a header carries, where there is one
abbrev pub rids_for : RtpHeader → List MediaRecord → Option Rids
rids_for h medias = option_map (λ m. m.rids) (option_and_then (λ mid. media_of mid medias) h.ext_vals.mid)

-- an SSRC of some table: the one of probes, that of a stream's packets, or that of a stream's repairs
abbrev pub is_standing : {X : Type 0} → ℕ → List (ℕ × X) → List (ℕ × ℕ) → Bool
is_standing ssrc rx originals = ssrc == 0 || (is_some (place_of ssrc rx) || is_some (place_of ssrc originals))

-- of which stream a datagram is: under an SSRC of a table the rules of mapping are not asked
abbrev pub mapped_in : RtpHeader → SessionRecord → Mapping
mapped_in h r = mapped (rids_for h r.state.medias) (claims_in r.state.types) r.known.streams h

abbrev pub mapping_for : RtpHeader → SessionRecord → Mapping
mapping_for h r = if is_standing h.ssrc r.rx r.known.originals then Main h.ssrc else mapped_in h r

-- the session once that is taken up
abbrev pub taken_up_for : RtpHeader → SessionRecord → SessionRecord
taken_up_for h r = with_incoming (taken_up h.ssrc (mapping_for h r) (streams_in r)) r

-- it is of no stream: its SSRC stays unknown
abbrev pub is_nowhere : Mapping → Bool
is_nowhere (Nowhere why) = true
is_nowhere other = false

-- the number of a datagram whose SSRC stays unknown: near the greatest that was seen on the SSRC
abbrev pub number_near : List (ℕ × List ℕ) → RtpHeader → ℕ
number_near seen h = widen16 (seen_of h.ssrc seen) h.sequence_number

-- that number, where no datagram under the SSRC opened under it
abbrev pub unseen_number : List (ℕ × List ℕ) → RtpHeader → Option ℕ
unseen_number seen h = if is_unseen h.ssrc (number_near seen h) seen then Some (number_near seen h) else None
