-- What holds of the entries of a run.
use Rattle.std.specs.Prelude.{◌≡◌, ◌↔◌, ◌%◌, ◌+◌, ◌⊎◌, ℕ, true, List, [], ◌∷◌, ◌++◌, map, length, drop, Option, Some, None}
use Rattle.std.specs.List.{AllByRecursion}
use Rattle.std.specs.Int.{w16, to_be_bytes}
use Rattle.rtp_wire.specs.declared.header.RtpHeader.{RtpHeader}
use Rattle.rtp_wire.specs.Header.{csrc_of}
use Rattle.rtp_base.specs.Widen.{widen16}
use Rattle.rtp_base.specs.declared.kind.Kind.TheVariants.{Rtp, Rtcp}
use Rattle.rtcp_wire.specs.declared.rtcp_fb.RtcpFb.{RtcpFb}
use Rattle.media_model.specs.declared.entry.Side.{Side}
use Rattle.media_model.specs.declared.entry.Call.{Call}
use Rattle.media_model.specs.declared.entry.Call.TheVariants as call
use Rattle.media_model.specs.declared.entry.Got.{Got as GotEntry}
use Rattle.media_model.specs.declared.entry.Write.{Write as Writing}
use Rattle.media_model.specs.declared.entry.Sealed.{Sealed as SealedEntry}
use Rattle.media_model.specs.declared.entry.Entry.{Entry}
use Rattle.media_model.specs.declared.entry.Entry.TheVariants.{Wrote, Ticked, Called, Got, Sealed, Yielded}
use Rattle.media_model.specs.declared.step.Act.{Act}
use Rattle.media_model.specs.declared.step.Act.TheVariants.{Write, Tick}
use Rattle.media_model.specs.declared.step.Step.{Step}
use Rattle.media_model.specs.declared.setup.Setup.{Setup}
use Rattle.media_model.specs.Genuine.{IsGenuine}
use Rattle.media_model.specs.Sides.{peer_of}
use Rattle.media_model.specs.Entries.{writes_by, writes_on, sealed_numbers, nonces, packets, moment_of}
use Rattle.media_model.specs.Steps.{step_at}
use Rattle.repair_core.specs.Fresh.{greatest_of, is_fresh}
use Rattle.run_model.specs.Asking.{side_of, asked, modulo, owed}
use Rattle.run_model.specs.Capping.{IsCapped}
use Rattle.run_model.specs.Events.{Plain, Event, opened, opened_items, yielded, Outgoing, Incoming}
use Rattle.run_model.specs.Receiving.{lists, begun_taken, yields, Opens}
use Rattle.run_model.specs.RxPlay.{RxRecord}
use Rattle.run_model.specs.Runs.{events_of, on_side}
use Rattle.run_model.specs.Seals.{IsReport}
use Rattle.run_model.specs.Sending.{sendings, Answers as Answering, AnswersPartly as AnsweringPartly}
use Rattle.run_model.specs.Transcripts.{happenings, types_of, outgoing_of}
pub use Rattle.run_model.specs.Widening.{RunWidens}
use Rattle.run_model.specs.Whole.{setup_of, incoming_of}
use Rattle.media_laws.specs.declared.counter.Counter.{Counter}
use Rattle.media_laws.specs.Config.{config_of, rtp_sealing, reporting}
use Rattle.media_laws.specs.Exhausting.{IsUsedUp}
use Rattle.media_laws.specs.Feedback.{SendsFeedback}
use Rattle.media_laws.specs.Listing.{IsIn, NoRepeat, Each, EachStep}
use Rattle.media_laws.specs.Opening.{Sealing}
use Rattle.media_laws.specs.Plain.{extensions_of, read_header, Carries, as_packet}
use Rattle.media_laws.specs.Play.{Brings, IsBroughtBy, IsCall}
use Rattle.media_laws.specs.Right.{IsRight, IsRightSeal}

-- what happened on a side among these entries, as it is read
abbrev pub past_of : Setup → Side → List Entry → List Event
past_of setup side entries = events_of side (happenings setup entries)

abbrev pub IsRightIfSealed : Sealing → Setup → Entry → Type 0
IsRightIfSealed seal setup (Sealed s) = IsRight seal setup s
IsRightIfSealed seal setup _ = Unit {0}

-- each sealed datagram is a seal under its side's keys
abbrev pub SealsAreRight : Sealing → Setup → List Entry → Type 0
SealsAreRight seal setup entries = Each (λ past entry. IsRightIfSealed seal setup entry) entries

-- no two datagrams of a direction share a nonce
abbrev pub NoNonceTwice : List Entry → Type 0
NoNonceTwice entries = (side : Side) → NoRepeat (nonces side entries)

-- a sealed RTP datagram carries one earlier write of its side, which was not sealed before
pub record IsSending (setup : Setup) (past : List Entry) (s : SealedEntry) : Type 0 where
  pub write : Writing
  pub earlier : IsIn write (writes_on s.side s.ssrc past)
  pub number : s.index ≡ write.number
  pub carried : Carries (extensions_of setup) s.plain write
  pub first : IsIn s.index (sealed_numbers s.side s.ssrc past) → ⊥

-- it is the repair (RFC 4588 section 4) of a write that its side sealed before under the SSRC and the number of the write: it is
-- under the SSRC of the repairs of the write's stream, and of the type of the repairs of the write's type; the low 16 bits of the
-- write's number stand in front of the write's payload, and marker, time and sources are the write's. Its own number is that of
-- the stream's first repair and how many repairs of the stream were sealed before
pub record IsRepair (setup : Setup) (past : List Entry) (s : SealedEntry) : Type 0 where
  pub line : Outgoing
  pub of_side : IsIn line (outgoing_of s.side setup)
  pub source : line.rtx ≡ Some s.ssrc
  pub index : s.index ≡ line.start + length (sealed_numbers s.side s.ssrc past)
  pub write : Writing
  pub earlier : IsIn write (writes_on s.side line.ssrc past)
  pub sent : IsIn write.number (sealed_numbers s.side line.ssrc past)
  pub header : RtpHeader
  pub reads : read_header setup s.plain ≡ Some header
  pub type : (types_of setup).rtx_of write.pt ≡ Some header.payload_type
  pub time : header.timestamp ≡ write.rtp_time
  pub marker : header.marker ≡ write.marker
  pub sources : csrc_of header ≡ write.csrc
  pub payload : drop header.header_len s.plain ≡ to_be_bytes w16 (write.number % 65536) ++ write.payload

abbrev pub IsSentWrite : Setup → List Entry → Entry → Type 0
IsSentWrite setup past (Sealed s) = s.kind ≡ Rtp → IsSending setup past s ⊎ IsRepair setup past s
IsSentWrite setup past _ = Unit {0}

-- each sealed RTP datagram is the first sending of one earlier write of its side, none twice, or the repair of a write that was
-- sent before
abbrev pub SendsWrites : Setup → List Entry → Type 0
SendsWrites setup entries = Each (IsSentWrite setup) entries

-- what a tick of a side seals: nothing else is brought; of each stream that it sends first sendings of all writes that wait, in
-- order, and repairs that carry, in order, some of the numbers that NACKs named since its last tick, each kept one unless the
-- stream is capped; and it asks on each stream that it receives for exactly the numbers that are due
pub record TickAnswers (seal : Sealing) (setup : Setup) (side : Side) (past : List Entry) (time : ℕ) (chunk : List Entry) : Type 0 where
  pub only : AllByRecursion (IsRightSeal seal setup) chunk
  pub new : List Event
  pub read : happenings setup chunk ≡ on_side side new
  pub answers : (L : Outgoing) → IsIn L (outgoing_of side setup)
      → Answering (types_of setup) L (IsCapped L (past_of setup side past) time) (sendings L.ssrc (past_of setup side past)) new
  pub asks : (s : Incoming × RxRecord) → IsIn s (side_of (setup_of (config_of seal setup) side) (past_of setup side past)).table
      → asked s.0.ssrc new ≡ map modulo (owed (side_of (setup_of (config_of seal setup) side) (past_of setup side past)) time s)

-- what a tick seals until it is cut off: nothing else; of each stream that its side sends first sendings of the first writes that
-- wait, in order, and repairs that carry, in order, some of the numbers that NACKs named since its last tick
pub record TickAnswersPartly (seal : Sealing) (setup : Setup) (side : Side) (past chunk : List Entry) : Type 0 where
  pub only : AllByRecursion (IsRightSeal seal setup) chunk
  pub new : List Event
  pub read : happenings setup chunk ≡ on_side side new
  pub answers : (L : Outgoing) → IsIn L (outgoing_of side setup)
      → AnsweringPartly (types_of setup) L (sendings L.ssrc (past_of setup side past)) new

-- what a datagram brings that comes to a side: on a stream that it receives, by the numbers that this took before, it opens, and
-- then the packet is yielded that it gives; as RTCP it opens; or it does not open, and brings nothing
pub data Receives (seal : Sealing) (setup : Setup) (past : List Entry) (came : GotEntry) : List Event → Type 0 where
  opens : (L : Incoming) (ssrc n : ℕ) (p : Plain) → came.kind ≡ Rtp → IsIn L (setup_of (config_of seal setup) came.side).streams
      → Opens (types_of setup) L (rtp_sealing seal setup (peer_of came.side)) (lists (types_of setup) L (past_of setup came.side past)) came.bytes ssrc n p
      → Receives seal setup past came
      (opened ssrc n p ∷ map yielded (yields (types_of setup) L (lists (types_of setup) L (past_of setup came.side past)) ssrc n p))
  opens_rtcp : (index : ℕ) (items : List RtcpFb) → came.kind ≡ Rtcp → IsReport (reporting seal (peer_of came.side)) came.bytes index items
      → Receives seal setup past came (opened_items index items ∷ [])
  stays : (came.kind ≡ Rtp → (L : Incoming) → IsIn L (setup_of (config_of seal setup) came.side).streams → (ssrc n : ℕ) (p : Plain)
      → Opens (types_of setup) L (rtp_sealing seal setup (peer_of came.side)) (lists (types_of setup) L (past_of setup came.side past)) came.bytes ssrc n p → ⊥)
      → (came.kind ≡ Rtcp → (index : ℕ) (items : List RtcpFb) → IsReport (reporting seal (peer_of came.side)) came.bytes index items → ⊥)
      → Receives seal setup past came []

pub record Arrives (seal : Sealing) (setup : Setup) (past : List Entry) (came : GotEntry) (chunk : List Entry) : Type 0 where
  pub brought : AllByRecursion (IsBroughtBy seal setup came) chunk
  pub new : List Event
  pub read : happenings setup chunk ≡ on_side came.side new
  pub receives : Receives seal setup past came new

-- a call seals its feedback, and nothing else; one that asks for what leaves in a later tick brings nothing
abbrev pub AnswersCall : Sealing → Setup → Side → List Entry → Call → List Entry → Type 0
AnswersCall seal setup side past call.Application chunk = SendsFeedback seal setup side past chunk
AnswersCall seal setup side past call.Ask chunk = chunk ≡ []
AnswersCall seal setup side past call.Remb chunk = chunk ≡ []

-- a write brings nothing; a tick seals what it has to, and nothing else; a call what it has to; a datagram that comes is opened,
-- and its packet yielded, exactly where it opens
abbrev pub Answers : Sealing → Setup → List Entry → Entry → List Entry → Type 0
Answers seal setup past (Wrote side time write) chunk = chunk ≡ []
Answers seal setup past (Ticked side time) chunk = TickAnswers seal setup side past time chunk
Answers seal setup past (Called side time c) chunk = AnswersCall seal setup side past c chunk
Answers seal setup past (Got got) chunk = Arrives seal setup past got chunk
Answers seal setup past _ chunk = Unit {0}

abbrev pub StepsAreAnswered : Sealing → Setup → List Entry → Type 0
StepsAreAnswered seal setup entries = EachStep (Answers seal setup) entries

-- the last step, which finds a key used up: a call that sends feedback brings nothing, a tick what it seals until then
abbrev pub AnswersAtKey : Sealing → Setup → List Entry → List Entry → Type 0
AnswersAtKey seal setup past (Called side time call.Application ∷ chunk) = chunk ≡ []
AnswersAtKey seal setup past (Ticked side time ∷ chunk) = TickAnswersPartly seal setup side past chunk
AnswersAtKey seal setup past told = ⊥

-- each step is answered but the last, which finds a key used up
pub record StepsAreAnsweredToKey (seal : Sealing) (setup : Setup) (entries : List Entry) : Type 0 where
  pub past : List Entry
  pub told : List Entry
  pub all : entries ≡ past ++ told
  pub steps : StepsAreAnswered seal setup past
  pub last : AnswersAtKey seal setup past told

-- no side yields a packet twice
abbrev pub NoPacketTwice : List Entry → Type 0
NoPacketTwice entries = (side : Side) → NoRepeat (packets side entries)

-- a packet that is yielded is an earlier write of the other side
abbrev pub IsOwedTo : List Entry → Entry → Type 0
IsOwedTo past (Yielded side packet) =
    (w : Writing) × IsIn w (writes_by (peer_of side) past) × (packet ≡ as_packet w)
IsOwedTo past _ = Unit {0}

-- in a genuine run whose repairs widen each packet that is yielded is a write of the other side
abbrev pub YieldsWrites : Setup → List Entry → Type 0
YieldsWrites setup entries = IsGenuine entries → RunWidens setup entries → Each IsOwedTo entries

-- the numbers that a side took on a stream that it receives, or the greatest one that it saw where it took none
abbrev pub taken : Setup → Side → Outgoing → List Entry → List ℕ
taken setup side L entries = begun_taken (lists (types_of setup) (incoming_of L) (past_of setup side entries))

-- where the first sending of a write comes that the other side sealed before, the write is yielded exactly where its number
-- widens to itself and is fresh
abbrev pub YieldsExactly : Setup → List Entry → Entry → List Entry → Type 0
YieldsExactly setup past (Got got) chunk =
    (s : SealedEntry) (w : Writing) (L : Outgoing) → got.kind ≡ Rtp → IsIn (Sealed s) past
    → s.side ≡ peer_of got.side → s.kind ≡ Rtp → s.bytes ≡ got.bytes
    → IsIn L (outgoing_of (peer_of got.side) setup) → s.ssrc ≡ L.ssrc
    → IsIn w (writes_on (peer_of got.side) s.ssrc past) → w.number ≡ s.index
    → IsIn (Yielded got.side (as_packet w)) chunk
    ↔ ((widen16 (greatest_of (taken setup got.side L past)) (s.index % 65536) ≡ s.index)
    × (is_fresh (taken setup got.side L past) s.index ≡ true))
YieldsExactly setup past _ chunk = Unit {0}

abbrev pub FirstSendingsAreYielded : Setup → List Entry → Type 0
FirstSendingsAreYielded setup entries = EachStep (YieldsExactly setup) entries

-- an entry, which stands behind these, is that of this act: bytes that come are those that the act brings
abbrev pub IsActOf : List Entry → Entry → Act → Type 0
IsActOf past (Wrote side time write) act = act ≡ Write write
IsActOf past (Ticked side time) act = act ≡ Tick
IsActOf past (Called side time call) act = IsCall call act
IsActOf past (Got got) act = Brings past got act
IsActOf past entry act = ⊥

-- the steps that are left once an entry came, which stands behind these: the first one went where the entry is a step
abbrev pub IsNext : List Entry → Entry → Option (Side × ℕ) → List Step → List Step → Type 0
IsNext past entry None steps rest = rest ≡ steps
IsNext past entry (Some moment) steps rest =
    (act : Act) × (steps ≡ step_at moment.0 moment.1 act ∷ rest) × IsActOf past entry act

-- the steps among these entries are those of the script, in order
abbrev pub PlaysFrom : List Entry → List Step → List Entry → Type 0
PlaysFrom past steps [] = steps ≡ []
PlaysFrom past steps (entry ∷ entries) =
    (rest : List Step) × IsNext past entry (moment_of entry) steps rest × PlaysFrom (past ++ entry ∷ []) rest entries

abbrev pub PlaysSteps : List Step → List Entry → Type 0
PlaysSteps steps entries = PlaysFrom [] steps entries

-- all that holds of the entries of a run, whether it came to its end or not
pub record HoldsOfRun (seal : Sealing) (setup : Setup) (entries : List Entry) : Type 0 where
  pub steps : StepsAreAnswered seal setup entries
  pub seals : SealsAreRight seal setup entries
  pub nonces : NoNonceTwice entries
  pub sendings : SendsWrites setup entries
  pub yields : YieldsWrites setup entries
  pub once : NoPacketTwice entries
  pub exactly : FirstSendingsAreYielded setup entries

-- what of it holds of each front of them too, so also where a run ended within a step
pub record HoldsOfFront (seal : Sealing) (setup : Setup) (entries : List Entry) : Type 0 where
  pub seals : SealsAreRight seal setup entries
  pub nonces : NoNonceTwice entries
  pub sendings : SendsWrites setup entries
  pub yields : YieldsWrites setup entries
  pub once : NoPacketTwice entries

-- and of them where the run ended at a step that found a key used up
pub record HoldsToKey (seal : Sealing) (setup : Setup) (side : Side) (counter : Counter) (entries : List Entry) : Type 0 where
  pub steps : StepsAreAnsweredToKey seal setup entries
  pub front : HoldsOfFront seal setup entries
  pub exactly : FirstSendingsAreYielded setup entries
  pub used_up : IsUsedUp setup side counter entries

-- *sendings* and *yields* under the setup of the run, whichever it is
abbrev pub SendsInSome : List Entry → Type 0
SendsInSome entries = (setup : Setup) × SendsWrites setup entries

abbrev pub YieldsInSome : List Entry → Type 0
YieldsInSome entries = (setup : Setup) × YieldsWrites setup entries
