-- The streams that are received, and what taking up a mapping makes of them.
use Rattle.std.specs.Prelude.{ℕ, Bool, false, not, ◌==◌, ◌&&◌, ◌||◌, is_some, bytes_eq, if◌then◌else◌, List, [], ◌∷◌, ◌++◌, filter, position, slice_get, slice_set, Option, Some, None}
use Rattle.std.specs.List.{list_any}
use Rattle.std.specs.Option.{option_map_or}
use Rattle.mapping_core.specs.Claims.{is_number}
use Rattle.mapping_core.specs.declared.stream.IncomingStream.{IncomingStream}
use Rattle.mapping_core.specs.declared.mapping.Mapping.{Mapping}
use Rattle.mapping_core.specs.declared.mapping.MainChange.{MainChange}
use Rattle.mapping_core.specs.declared.mapping.RepairsChange.{RepairsChange}
use Rattle.mapping_core.specs.declared.mapping.Mapping.TheVariants.{Main, Repairs, NewStream, NewMain, NewRepairs, Nowhere}

-- there is a rid, and it is this one
abbrev pub is_rid : Option (List ℕ) → List ℕ → Bool
is_rid one rid = option_map_or (λ r. bytes_eq r rid) one false

-- a stream is of a media section, and of this rid where one is asked for
abbrev pub is_named : List ℕ → Option (List ℕ) → IncomingStream → Bool
is_named mid None s = bytes_eq s.mid mid
is_named mid (Some rid) s = bytes_eq s.mid mid && is_rid s.rid rid

-- the packets of a stream come under an SSRC, or its repairs do
abbrev pub has_main : ℕ → IncomingStream → Bool
has_main ssrc s = s.ssrc == ssrc

abbrev pub has_repairs : ℕ → IncomingStream → Bool
has_repairs ssrc s = is_number s.rtx ssrc

-- a stream has an SSRC, for its packets or for its repairs
abbrev pub is_of : ℕ → IncomingStream → Bool
is_of ssrc s = has_main ssrc s || has_repairs ssrc s

abbrev pub is_known : List IncomingStream → ℕ → Bool
is_known streams ssrc = list_any (is_of ssrc) streams

-- packets of some stream come under an SSRC
abbrev pub is_main : List IncomingStream → ℕ → Bool
is_main streams ssrc = is_some (position (has_main ssrc) streams)

-- a stream whose packets had no other SSRC before
abbrev pub fresh : IncomingStream → IncomingStream
fresh s = record s { previous = None }

-- the streams with one more behind them; one whose packets have the same SSRC stays alone
abbrev pub with_stream : IncomingStream → List IncomingStream → List IncomingStream
with_stream s streams = if is_main streams s.ssrc then streams else streams ++ fresh s ∷ []

-- the packets of a stream come under another SSRC, but never again under the one before
abbrev pub moved : ℕ → IncomingStream → IncomingStream
moved to s = if is_number s.previous to then s else record s { ssrc = to; previous = Some s.ssrc }

-- the repairs of a stream come under this SSRC
abbrev pub repaired_under : ℕ → IncomingStream → IncomingStream
repaired_under rtx s = record s { rtx = Some rtx }

-- the stream at a place changes so
abbrev pub changed_at : (IncomingStream → IncomingStream) → List IncomingStream → ℕ → List IncomingStream
changed_at f streams i = option_map_or (λ s. slice_set streams i (f s)) (slice_get streams i) streams

-- the first stream whose packets come under an SSRC changes so
abbrev pub changed : (IncomingStream → IncomingStream) → ℕ → List IncomingStream → List IncomingStream
changed f ssrc streams = option_map_or (changed_at f streams) (position (has_main ssrc) streams) streams

-- a change of the SSRC of packets; where packets of some stream come under the new one, nothing changes
abbrev pub with_main : MainChange → List IncomingStream → List IncomingStream
with_main c streams = if is_main streams c.to then streams else changed (moved c.to) c.from streams

abbrev pub with_repairs : RepairsChange → List IncomingStream → List IncomingStream
with_repairs c streams = changed (repaired_under c.rtx) c.main streams

-- the streams once a mapping was taken up
abbrev pub committed : Mapping → List IncomingStream → List IncomingStream
committed (Main ssrc) streams = streams
committed (Repairs ssrc) streams = streams
committed (NewStream s) streams = with_stream s streams
committed (NewMain c) streams = with_main c streams
committed (NewRepairs c) streams = with_repairs c streams
committed (Nowhere why) streams = streams

-- the streams without those whose packets come under an SSRC
abbrev pub without : ℕ → List IncomingStream → List IncomingStream
without ssrc streams = filter (λ s. not (has_main ssrc s)) streams

-- the streams without those of a media section
abbrev pub without_section : List ℕ → List IncomingStream → List IncomingStream
without_section mid streams = filter (λ s. not (bytes_eq s.mid mid)) streams
