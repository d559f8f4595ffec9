-- What a session gave before an error ended a drain, and what it leaves then.
use Rattle.std.specs.Prelude.{◌≡◌, ℕ, true, false, List, [], ◌++◌, Some, None}
use Rattle.srtp_core.specs.Cipher.{CipherMeaning}
use Rattle.srtp_core.specs.declared.counter.Counter.TheVariants.{Rtcp}
use Rattle.stream_core.specs.declared.stream_tx.PacketReceipt.{PacketReceipt}
use Rattle.stream_core.specs.StreamsRecord.{StreamsRecord, StaysAt, IsUsedUpAt}
use Rattle.session_core.specs.declared.datagram.Datagram.{Datagram}
use Rattle.session_core.specs.declared.datagram.Event.{Event}
use Rattle.session_core.specs.declared.error.RtcError.{RtcError}
use Rattle.session_core.specs.declared.error.RtcError.TheVariants.{Memory, KeyExhausted, RepairsExhausted}
use Rattle.session_core.specs.Calls.{after_events, told}
use Rattle.session_core.specs.Feedback.{due_of, some_due, exhausts, without_compound}
use Rattle.session_core.specs.SessionRecord.{SessionState, SessionRecord, streams_in}
use Rattle.session_core.specs.Sending.{is_silent, next_place, after_streams, Gives, DrainsTo}

abbrev pub stopped_from : SessionState → SessionState
stopped_from s = record s { stopped = true }

-- a poll for a packet fails, and leaves this: the stream that is due wants memory, and then at most nothing of it is asked for
-- any more, or its packet was lost before it was sealed; or it has no number left for what is asked for
pub data PacketFails (now : ℕ) : SessionRecord → SessionRecord → RtcError → Type 0 where
  stream_stays : (r : SessionRecord) (place : ℕ) (s : StreamsRecord) → next_place r ≡ Some place → StaysAt now place (streams_in r) s
      → PacketFails now r (after_streams r s None) Memory
  packet_lost : (r : SessionRecord) (place : ℕ) (s : StreamsRecord) (p : PacketReceipt) → next_place r ≡ Some place → Gives now r place s (Some p)
      → PacketFails now r (after_streams r s (Some p)) Memory
  used_up : (r : SessionRecord) (place ssrc : ℕ) → next_place r ≡ Some place → IsUsedUpAt now place ssrc (streams_in r)
      → PacketFails now r r (RepairsExhausted ssrc)
  after_pass : (r after : SessionRecord) (place : ℕ) (s : StreamsRecord) (e : RtcError) → next_place r ≡ Some place → Gives now r place s None
      → PacketFails now (after_streams r s None) after e → PacketFails now r after e

-- a poll fails, and leaves this: where feedback is due, no index is left for it, or memory runs out with the compound kept or
-- lost
pub data PollFails (now : ℕ) (r : SessionRecord) : SessionRecord → RtcError → Type 0 where
  packet : (after : SessionRecord) (e : RtcError) → is_silent now r.state ≡ false → due_of now r.state ≡ [] → PacketFails now r after e → PollFails now r after e
  key_used_up : exhausts now r.state ≡ true → PollFails now r r (KeyExhausted Rtcp)
  compound_kept : some_due (due_of now r.state) ≡ true → exhausts now r.state ≡ false → PollFails now r r Memory
  compound_lost : some_due (due_of now r.state) ≡ true → exhausts now r.state ≡ false → PollFails now r (record r { state = without_compound r.state }) Memory

abbrev pub stopped_record : SessionRecord → SessionRecord
stopped_record r = record r { state = stopped_from r.state }

-- an error ended polls, and they leave a session: a poll failed after these datagrams were taken, or memory ran out between
-- two polls
pub data IsDrainCut (cipher : CipherMeaning) (now : ℕ) (r : SessionRecord) : RtcError → SessionRecord → List Datagram → Type 0 where
  at_poll : (between after : SessionRecord) (e : RtcError) (sent : List Datagram) → DrainsTo cipher now r between sent
      → PollFails now between after e → IsDrainCut cipher now r e (stopped_record after) sent
  between_polls : (between : SessionRecord) (sent : List Datagram) → DrainsTo cipher now r between sent
      → IsDrainCut cipher now r Memory (stopped_record between) sent

-- an error ended a drain: memory ran out after the front of what was told was taken, or all that was told and some
-- datagrams were taken
pub data IsCutOff (cipher : CipherMeaning) (now : ℕ) (r : SessionRecord) : RtcError → SessionRecord → List Event → List Datagram → Type 0 where
  at_event : (between : SessionRecord) (taken : List Event) → told r ≡ taken ++ told between → after_events between ≡ after_events r
      → IsCutOff cipher now r Memory (stopped_record between) taken []
  later : (error : RtcError) (after : SessionRecord) (sent : List Datagram) → IsDrainCut cipher now (after_events r) error after sent
      → IsCutOff cipher now r error after (told r) sent
