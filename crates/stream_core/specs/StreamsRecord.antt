-- The streams of a session as a record, and what each call makes of it.
use Rattle.std.specs.Prelude.{◌≡◌, ℕ, ◌+◌, ◌||◌, Bool, true, is_some, if◌then◌else◌, List, [], ◌∷◌, Option, Some, None, slice_get, length, option_and_then}
use Rattle.std.specs.Map.{values_of}
use Rattle.std.specs.Option.{option_map, option_map_or}
use Rattle.mapping_core.specs.Streams.{with_stream}
use Rattle.mapping_core.specs.declared.mapping.MainChange.{MainChange}
use Rattle.mapping_core.specs.declared.mapping.Mapping.{Mapping}
use Rattle.mapping_core.specs.declared.mapping.Mapping.TheVariants.{Main, Repairs, NewStream, NewMain, NewRepairs, Nowhere}
use Rattle.mapping_core.specs.declared.mapping.RepairsChange.{RepairsChange}
use Rattle.mapping_core.specs.declared.stream.IncomingStream.{IncomingStream}
use Rattle.repair_core.specs.Rounds.{Heard}
use Rattle.resend_core.specs.ResendStore.{Past}
use Rattle.rtp_base.specs.declared.media_time.MediaTime.{MediaTime}
use Rattle.rtp_base.specs.declared.nack_entry.NackEntry.{NackEntry}
use Rattle.rtx_core.specs.Resends.{ResendView, Asks, asked_for, numbers_of, created, begun_anew}
use Rattle.rtx_core.specs.declared.resend.Resend.{Resend}
use Rattle.resend_core.specs.ResendStore.{last_position}
use Rattle.stream_core.specs.declared.payload_types.TypeRow.{TypeRow}
use Rattle.stream_core.specs.declared.reports.Arrival.{Arrival}
use Rattle.stream_core.specs.declared.stream_tx.PacketReceipt.{PacketReceipt}
use Rattle.stream_core.specs.declared.transport.Transport.{Transport}
use Rattle.stream_core.specs.Known.{KnownRecord, none_known, without_known, with_original_of, with_main, with_repairs as known_with_repairs}
use Rattle.stream_core.specs.Queue.{next_of}
use Rattle.stream_core.specs.Repairing.{SentPacket, RepairsView, RepairsRecord, RepairsStandFor, Polls, Stays, IsUsedUp, has_asked, state_in, repairs_of, with_repairs, size_of_sent}
use Rattle.stream_core.specs.RxRecord.{RxView, RxRecord, expected, fresh_number, taken_time, restored_time, moved_to, repaired_under, StandsFor as RxStandsFor}
use Rattle.stream_core.specs.RxRepairs.{own_number, fresh_repair, restored_for, restored}
use Rattle.stream_core.specs.Tables.{place_of, value_under, with_new, with_value, without_key, change_place, change_at, renamed, Along, rekeyed}
use Rattle.stream_core.specs.TxRecord.{TxRecord, declared, anew_under}

-- the streams as their callers see them: how long nothing comes on an incoming one until it is paused, where nothing else is
-- set; the streams, each under its SSRC, in order of declaration; what tells of which stream a datagram is that comes under no
-- SSRC of these; and what those that send repairs send again, under the SSRC of their packets
pub record StreamsView (W S : Type 0) : Type 0 where
  pub threshold : ℕ
  pub rx : List (ℕ × RxView W)
  pub known : KnownRecord
  pub tx : List (ℕ × TxRecord)
  pub repairs : List (ℕ × RepairsView S)

pub record StreamsRecord : Type 0 where
  pub threshold : ℕ
  pub rx : List (ℕ × RxRecord)
  pub known : KnownRecord
  pub tx : List (ℕ × TxRecord)
  pub repairs : List (ℕ × RepairsRecord)

pub record StandsFor {W S : Type 0} (remembers : W → Heard → Type 0) (stands_for : S → Past SentPacket → Type 0) (s : StreamsView W S) (r : StreamsRecord) : Type 0 where
  pub threshold : s.threshold ≡ r.threshold
  pub rx : Along (RxStandsFor remembers) s.rx r.rx
  pub known : s.known ≡ r.known
  pub tx : s.tx ≡ r.tx
  pub repairs : Along (RepairsStandFor stands_for) s.repairs r.repairs

abbrev pub no_streams : ℕ → StreamsRecord
no_streams threshold = record { threshold = threshold; rx = []; known = none_known; tx = []; repairs = [] }

-- the SSRC of a new stream under that of its repairs, if it has one; where another stream has that one it stays with it
abbrev pub with_original : {X : Type 0} → ℕ → Option ℕ → List (ℕ × X) → List (ℕ × ℕ) → List (ℕ × ℕ)
with_original ssrc None rs os = os
with_original ssrc (Some rtx) rs os = if is_some (place_of ssrc rs) then os else with_new rtx ssrc os

-- what is known after a stream was expected; where there is one of its SSRC it is known already
abbrev pub known_with : {X : Type 0} → IncomingStream → List (ℕ × X) → KnownRecord → KnownRecord
known_with s rs k = record {
  originals = with_original s.ssrc s.rtx rs k.originals;
  streams = if is_some (place_of s.ssrc rs) then k.streams else with_stream s k.streams;
}

-- a stream of a media section whose packets had no other SSRC
abbrev pub first_known : ℕ → Option ℕ → List ℕ → Option (List ℕ) → Bool → IncomingStream
first_known ssrc rtx mid rid suppressed =
    record { ssrc = ssrc; rtx = rtx; mid = mid; rid = rid; previous = None; suppress_nack = suppressed }

-- the streams after one was expected; one that there is stays as it is
abbrev pub with_stream_rx : ℕ → Option ℕ → List ℕ → Option (List ℕ) → Bool → StreamsRecord → StreamsRecord
with_stream_rx ssrc rtx mid rid suppressed r = record r {
  rx = with_new ssrc (expected ssrc rtx mid rid suppressed r.threshold) r.rx;
  known = known_with (first_known ssrc rtx mid rid suppressed) r.rx r.known;
}

-- the streams after one was taken out, with its SSRC of repairs
abbrev pub without_stream_rx : ℕ → StreamsRecord → StreamsRecord
without_stream_rx ssrc r = record r { rx = without_key ssrc r.rx; known = without_known ssrc r.known }

-- the streams after the packets of one came under another SSRC: it stays in its place. Where there is no such stream, or another
-- one has that SSRC, nothing changes
abbrev pub moved_at : MainChange → StreamsRecord → ℕ → StreamsRecord
moved_at c r i = record r { rx = change_place (moved_to c.to) (renamed c.to r.rx i) i; known = with_main c r.known }

abbrev pub with_main_rx : MainChange → StreamsRecord → StreamsRecord
with_main_rx c r = if is_some (place_of c.to r.rx) then r else option_map_or (moved_at c r) (place_of c.from r.rx) r

-- the streams after the repairs of one came under another SSRC, or for the first time under one
abbrev pub with_repairs_rx : RepairsChange → StreamsRecord → StreamsRecord
with_repairs_rx c r = record r { rx = change_at c.main (repaired_under c.rtx) r.rx; known = known_with_repairs c r.known }

-- the streams after a datagram of an SSRC opened, and of which stream it is was taken up. An SSRC that some stream has for its
-- repairs is that stream's from then on, where the one before it that had it was taken out
abbrev pub taken_up : ℕ → Mapping → StreamsRecord → StreamsRecord
taken_up ssrc (Main main) r = r
taken_up ssrc (Repairs main) r = record r { known = with_original_of ssrc main r.known }
taken_up ssrc (NewStream s) r = with_stream_rx s.ssrc s.rtx s.mid s.rid s.suppress_nack r
taken_up ssrc (NewMain c) r = with_main_rx c r
taken_up ssrc (NewRepairs c) r = with_repairs_rx c r
taken_up ssrc (Nowhere why) r = r

-- what a new stream sends again: repairs begin with a number, where it has repairs
abbrev pub with_first : ℕ → Option ℕ → List (ℕ × RepairsRecord) → List (ℕ × RepairsRecord)
with_first ssrc None qs = qs
with_first ssrc (Some first) qs = with_new ssrc (created first) qs

-- the streams after one was declared, with the SSRC and the first number of its repairs, if it has them; one that there is
-- stays as it is
abbrev pub with_stream_tx : ℕ → Option (ℕ × ℕ) → List ℕ → Option (List ℕ) → StreamsRecord → StreamsRecord
with_stream_tx ssrc rtx mid rid r = if is_some (place_of ssrc r.tx) then r else record r {
  tx = with_new ssrc (declared ssrc (option_map (λ x. x.0) rtx) mid rid) r.tx;
  repairs = with_first ssrc (option_map (λ x. x.1) rtx) r.repairs;
}

-- what a stream sends again that begins anew with a first number of repairs: with the limits that it had, if it sent repairs
abbrev pub anew_from : ℕ → Option RepairsRecord → RepairsRecord
anew_from first None = created first
anew_from first (Some q) = begun_anew first q

-- and that of all streams, where the stream of an SSRC begins anew under another one
abbrev pub with_anew : (ssrc to : ℕ) → Option ℕ → List (ℕ × RepairsRecord) → List (ℕ × RepairsRecord)
with_anew ssrc to None qs = without_key ssrc qs
with_anew ssrc to (Some first) qs = without_key ssrc (with_value to (anew_from first (value_under ssrc qs)) qs)

-- whether there is a cap of how much of what a stream sends may be repairs; one without repairs has that of the beginning
abbrev pub has_cap : Option RepairsRecord → Bool
has_cap None = true
has_cap (Some q) = is_some q.state.cap

-- the streams after the one that sends under an SSRC began anew under another one, in its place, with another SSRC and a
-- first number of its repairs, if it has them from then on. What its receivers report as lost is kept from then on exactly where
-- there is a cap
abbrev pub with_reset_tx : (ssrc to : ℕ) → Option (ℕ × ℕ) → StreamsRecord → StreamsRecord
with_reset_tx ssrc to rtx r = if is_some (place_of ssrc r.tx) then record r {
  tx = rekeyed ssrc to (change_at ssrc (anew_under to (option_map (λ x. x.0) rtx) (has_cap (value_under ssrc r.repairs))) r.tx);
  repairs = with_anew ssrc to (option_map (λ x. x.1) rtx) r.repairs;
} else r

-- the number under which a datagram of this SSRC with these low 16 bits may open, where a greatest number may be remembered
-- of the SSRC
abbrev pub accepted : Option ℕ → List (ℕ × RxRecord) → ℕ → ℕ → Option ℕ
accepted remembered rs ssrc low = option_and_then (λ r. fresh_number remembered r low) (value_under ssrc rs)

-- the own number under which a repair of the stream of an SSRC may open, where so great a number was seen on the SSRC of
-- its datagram
abbrev pub accepted_repair : Option ℕ → List (ℕ × RxRecord) → ℕ → ℕ → Option ℕ
accepted_repair seen rs ssrc low = option_and_then (λ r. fresh_repair seen r low) (value_under ssrc rs)

-- the fresh number of the packet that a repair of the stream of an SSRC restores
abbrev pub restored_on : Option ℕ → List (ℕ × RxRecord) → ℕ → ℕ → Option ℕ
restored_on remembered rs ssrc low = option_and_then (λ r. restored remembered r low) (value_under ssrc rs)

-- the own number of a repair of the stream of an SSRC, and the number of the packet that it restores, fresh or not
abbrev pub own_number_on : Option ℕ → List (ℕ × RxRecord) → ℕ → ℕ → Option ℕ
own_number_on seen rs ssrc low = option_and_then (λ r. Some (own_number seen r low)) (value_under ssrc rs)

abbrev pub restored_number_on : Option ℕ → List (ℕ × RxRecord) → ℕ → ℕ → Option ℕ
restored_number_on remembered rs ssrc low = option_and_then (λ r. Some (restored_for remembered r low)) (value_under ssrc rs)

-- the RTP time of a packet that so comes for the stream of an SSRC: taken as it came, or restored from a repair
abbrev pub taken_time_on : Arrival → List (ℕ × RxRecord) → ℕ → Option MediaTime
taken_time_on a rs ssrc = option_and_then (λ r. Some (taken_time a r.state)) (value_under ssrc rs)

abbrev pub restored_time_on : Arrival → List (ℕ × RxRecord) → ℕ → Option MediaTime
restored_time_on a rs ssrc = option_and_then (λ r. Some (restored_time a r.state)) (value_under ssrc rs)

-- some packet of a stream is asked for
abbrev pub is_asked : {C : Type 0} → List (ℕ × ResendView C) → TxRecord → Bool
is_asked qs x = has_asked (state_in (repairs_of x qs))

-- a stream has something to send: some packet is asked for, or there was a tick since the one at the front was written
abbrev pub is_ready : {C : Type 0} → List (ℕ × ResendView C) → TxRecord → Bool
is_ready qs x = is_asked qs x || is_some (next_of x.queue)

-- what the stream at a place gives at a moment, and what it leaves of all
pub data PollsAt (types : List (ℕ × TypeRow)) (t : Transport) (now place : ℕ) (r : StreamsRecord) : StreamsRecord → Option PacketReceipt → Type 0 where
  polls_at : (x after : TxRecord) (q : Option RepairsRecord) (o : Option PacketReceipt) → slice_get (values_of r.tx) place ≡ Some x
      → Polls types t now x (repairs_of x r.repairs) after q o
      → PollsAt types t now place r (record r { tx = change_place (λ old. after) r.tx place; repairs = with_repairs x.ssrc q r.repairs }) o

-- and where it gives nothing for want of memory
pub data StaysAt (now place : ℕ) (r : StreamsRecord) : StreamsRecord → Type 0 where
  stays_at : (x : TxRecord) (q : Option RepairsRecord) → slice_get (values_of r.tx) place ≡ Some x → Stays now (repairs_of x r.repairs) q
      → StaysAt now place r (record r { repairs = with_repairs x.ssrc q r.repairs })

-- the stream at a place has something to send again, and no number left for it
abbrev pub IsUsedUpAt : ℕ → ℕ → ℕ → StreamsRecord → Type 0
IsUsedUpAt now place ssrc r = (x : TxRecord) × (q : RepairsRecord) × (slice_get (values_of r.tx) place ≡ Some x) × (x.rtx ≡ Some ssrc)
    × (repairs_of x r.repairs ≡ Some q) × IsUsedUp now q

-- what streams send again, after a NACK with these entries came for the packets of an SSRC
pub data Asked (now ssrc : ℕ) (entries : List NackEntry) (qs : List (ℕ × RepairsRecord)) : List (ℕ × RepairsRecord) → Type 0 where
  no_repairs : value_under ssrc qs ≡ None → Asked now ssrc entries qs qs
  asked : (q : RepairsRecord) (more : List Resend) → value_under ssrc qs ≡ Some q
      → Asks size_of_sent now q.cache (numbers_of (last_position q.cache.events) entries) more
      → Asked now ssrc entries qs (change_at ssrc (λ old. record q { state = asked_for more q.state }) qs)

-- how many packets wait, and how many are asked for
abbrev pub all_waiting : List (ℕ × TxRecord) → ℕ
all_waiting [] = 0
all_waiting (e ∷ es) = length e.1.queue + all_waiting es

abbrev pub all_asked : {C : Type 0} → List (ℕ × ResendView C) → ℕ
all_asked [] = 0
all_asked (e ∷ es) = length e.1.state.resends + all_asked es
