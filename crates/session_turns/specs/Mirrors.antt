-- When the record of a session is that of a plain session of the laws.
use Rattle.std.specs.Prelude.{◌≡◌, ◌≤◌, ◌<◌, ◌^◌, ℕ, true, false, is_some, unwrap_or, List, [], ◌∷◌, map, length, Option, Some, None}
use Rattle.std.specs.List.{AllByRecursion, AllZip, flat_map}
use Rattle.rtp_base.specs.Window.{is_fresh_after, greatest_after}
use Rattle.rtp_wire.specs.BytesLaws.{AreWords}
use Rattle.rtp_wire.specs.Extensions.{no_values}
use Rattle.mapping_core.specs.declared.rids.Rids.TheVariants.{Specific}
use Rattle.mapping_core.specs.declared.stream.IncomingStream.{IncomingStream}
use Rattle.resend_core.specs.ResendStore.{Event as Stored, pushed, evicted}
use Rattle.repair_core.specs.Rounds.{Heard, taken}
use Rattle.rtx_core.specs.Ratio.{CapRecord, recent}
use Rattle.rtx_core.specs.Repairs.{RepairPast}
use Rattle.rtx_core.specs.declared.resend.Resend.{Resend}
use Rattle.srtp_core.specs.Cipher.{CipherMeaning}
use Rattle.srtp_core.specs.Contexts.{SrtpState}
use Rattle.stream_core.specs.declared.packet.RtpPacket.{RtpPacket}
use Rattle.stream_core.specs.declared.payload_types.TypeRow.{TypeRow}
use Rattle.stream_core.specs.Write.{WriteRecord, packet_of}
use Rattle.stream_core.specs.Repairing.{SentPacket, RepairsRecord, rtx_type_of, repairs_of}
use Rattle.stream_core.specs.RxRecord.{RxRecord as StreamRx}
use Rattle.stream_core.specs.TxRecord.{TxRecord as StreamTx}
use Rattle.stream_core.specs.Tables.{place_of, value_under}
use Rattle.session_core.specs.Hearing.{is_own, trip_of, ntp_of}
use Rattle.session_core.specs.Sending.{has_mid}
use Rattle.session_core.specs.SessionRecord.{MediaRecord, SessionRecord}
use Rattle.media_model.specs.declared.entry.Side.{Side}
use Rattle.media_model.specs.declared.entry.Write.{Write}
use Rattle.media_model.specs.Sides.{peer_of}
use Rattle.run_model.specs.Events.{Outgoing, Incoming}
use Rattle.run_model.specs.TxPlay.{TxRecord, past_of}
use Rattle.run_model.specs.RxPlay.{RxRecord}
use Rattle.run_model.specs.Tables.{lines, AreApart}
use Rattle.run_model.specs.Whole.{Config, Session, setup_of, incoming_of, probes}
use Rattle.session_turns.specs.Reading.{types_in, sealing_of, reporting_of}
use Rattle.rtp_base.specs.declared.number.TheConstants.{NUMBER_LIMIT}
use Rattle.srtp_core.specs.declared.context.TheConstants.{SRTCP_INDEX_LIMIT}
use Rattle.media_model.specs.declared.step.TheConstants.{LAST_TIME}
use Rattle.stream_core.specs.declared.stream_tx.TheConstants.{MAX_PAYLOAD_LEN}
use Rattle.session_core.specs.declared.config.TheConstants.{LEAST_TARGET}
use Rattle.rtp_wire.specs.declared.header.TheConstants.{MAX_SOURCES}

-- a write that a stream of an SSRC may have been given
pub record IsGiven (ssrc : ℕ) (w : Write) : Type 0 where
  pub on : w.ssrc ≡ ssrc
  pub word : w.ssrc < 2 ^ 32
  pub number : w.number < NUMBER_LIMIT
  pub time : w.rtp_time < 2 ^ 32
  pub pt : w.pt < 2 ^ 7
  pub few : length w.csrc ≤ MAX_SOURCES
  pub sources : AreWords w.csrc
  pub payload : length w.payload ≤ MAX_PAYLOAD_LEN

-- a write that is kept to be sent again: its type has a type of repairs
pub record IsKept (rows : List (ℕ × TypeRow)) (ssrc : ℕ) (w : Write) : Type 0 where
  pub given : IsGiven ssrc w
  pub type : is_some (rtx_type_of rows w.pt) ≡ true

-- a write as it is handed to its stream, at a moment, and the packet of it, with the moment of the first tick since, if there
-- was one
abbrev pub write_at : ℕ → Write → WriteRecord
write_at time w = record {
  pt = w.pt;
  seq_no = w.number;
  time = w.rtp_time;
  wallclock = time;
  marker = w.marker;
  ext_vals = no_values;
  nackable = w.nackable;
  payload = w.payload;
  csrc = w.csrc;
}

abbrev pub packet_at : Option ℕ → Write → RtpPacket
packet_at stamp w = record (packet_of w.ssrc (write_at 0 w)) { timestamp = stamp }

-- what a cache keeps of a write that was sent at a moment, the first tick since
abbrev pub sent_packet : List (ℕ × TypeRow) → ℕ → Write → SentPacket
sent_packet rows moment w = record { packet = packet_at (Some moment) w; rtx_type = unwrap_or (rtx_type_of rows w.pt) 0 }

abbrev pub sent_event : List (ℕ × TypeRow) → Stored Write → Stored SentPacket
sent_event rows (pushed n t w stored) = pushed n t (sent_packet rows t w) stored
sent_event rows (evicted t) = evicted t

abbrev pub write_in : Stored Write → List Write
write_in (pushed n t w stored) = w ∷ []
write_in (evicted t) = []

-- a log from which what was too old at some moment up to now was taken off
pub record IsRecent (now : ℕ) (all kept : List (ℕ × ℕ)) : Type 0 where
  pub moment : ℕ
  pub past : moment ≤ now
  pub kept_is : kept ≡ recent moment all

pub record CapMirrors (now : ℕ) (L : Outgoing) (t : TxRecord) (c : CapRecord) : Type 0 where
  pub cap : L.cap ≡ Some c.hundredths
  pub sent : IsRecent now t.sent c.sent
  pub resent : IsRecent now t.resent c.resent
  pub read_at : c.read_at ≡ t.reading.moment
  pub met : c.met ≡ t.reading.met

abbrev pub MirrorsCap : ℕ → Outgoing → TxRecord → Option CapRecord → Type 0
MirrorsCap now L t None = L.cap ≡ None
MirrorsCap now L t (Some c) = CapMirrors now L t c

-- what a stream sends again
pub record RepairsMirror (rows : List (ℕ × TypeRow)) (now : ℕ) (L : Outgoing) (t : TxRecord) (q : RepairsRecord) : Type 0 where
  pub has : is_some L.rtx ≡ true
  pub resends : map (λ (r : Resend). r.seq_no) q.state.resends ≡ t.resends
  pub next : q.state.next_seq_no ≡ t.next_rtx
  pub cap : MirrorsCap now L t q.state.cap
  pub initial : q.cache.initial ≡ (past_of L t.store).initial
  pub age : q.cache.age ≡ L.age
  pub greatest_is : q.cache.greatest ≡ L.packets
  pub events : q.cache.events ≡ map (sent_event rows) t.store

pub record SendsNothingAgain (L : Outgoing) (t : TxRecord) : Type 0 where
  pub has : L.rtx ≡ None
  pub resends : t.resends ≡ []
  pub store : t.store ≡ []

abbrev pub MirrorsRepairs : List (ℕ × TypeRow) → ℕ → Outgoing → TxRecord → Option RepairsRecord → Type 0
MirrorsRepairs rows now L t None = SendsNothingAgain L t
MirrorsRepairs rows now L t (Some q) = RepairsMirror rows now L t q

-- an outgoing stream, whose waiting packets all have this stamp, or none
pub record TxMirrors (rows : List (ℕ × TypeRow)) (medias : List MediaRecord) (now : ℕ) (stamp : Option ℕ)
    (repairs : List (ℕ × RepairsRecord)) (e : ℕ × StreamTx) (s : Outgoing × TxRecord) : Type 0 where
  pub key : e.0 ≡ s.0.ssrc
  pub ssrc : e.1.ssrc ≡ s.0.ssrc
  pub rtx : e.1.rtx ≡ s.0.rtx
  pub mid : has_mid e.1.mid medias ≡ true
  pub queue : e.1.queue ≡ map (packet_at stamp) s.1.queue
  pub given : AllByRecursion (IsGiven s.0.ssrc) s.1.queue
  pub cached : AllByRecursion (IsKept rows s.0.ssrc) (flat_map write_in s.1.store)
  pub again : MirrorsRepairs rows now s.0 s.1 (repairs_of e.1 repairs)

-- two lists of which the greatest is the same, and after which the same numbers are fresh
pub record SameNumbers (floor : Option ℕ) (xs ys : List ℕ) : Type 0 where
  pub high : greatest_after floor xs ≡ greatest_after floor ys
  pub fresh : (n : ℕ) → is_fresh_after floor xs n ≡ is_fresh_after floor ys n

-- what opened under an SSRC
abbrev pub MirrorsSeen : Option (List ℕ) → List ℕ → Type 0
MirrorsSeen None ys = ys ≡ []
MirrorsSeen (Some xs) [] = ⊥
MirrorsSeen (Some xs) (y ∷ ys) = SameNumbers None xs (y ∷ ys)

-- the repairs that opened
abbrev pub MirrorsPast : Option RepairPast → Option ℕ → List ℕ → Type 0
MirrorsPast None floor ys = ys ≡ []
MirrorsPast (Some past) floor [] = ⊥
MirrorsPast (Some past) floor (y ∷ ys) = (past.floor ≡ floor) × SameNumbers floor past.tried (y ∷ ys)

abbrev pub rtx_seen : List (ℕ × List ℕ) → Option ℕ → List ℕ → Type 0
rtx_seen seen None ys = ys ≡ []
rtx_seen seen (Some rtx) ys = MirrorsSeen (value_under rtx seen) ys

-- a register that was made has taken a number
abbrev pub HasBegun : Option Heard → Type 0
HasBegun None = Unit {0}
HasBegun (Some h) = taken h ≡ [] → ⊥

-- an incoming stream
pub record RxMirrors (threshold : ℕ) (seen : List (ℕ × List ℕ)) (x : StreamRx) (s : Incoming × RxRecord) : Type 0 where
  pub ssrc : x.state.ssrc ≡ s.0.ssrc
  pub roc : x.state.roc ≡ None
  pub suppressed : x.state.suppressed ≡ s.0.suppressed
  pub threshold_is : x.state.threshold ≡ threshold
  pub pause : x.state.pause_at ≡ s.1.pause_at
  pub numbers : x.numbers ≡ s.1.numbers
  pub begun : HasBegun s.1.numbers
  pub repairs : MirrorsPast x.repairs s.1.floor s.1.tried
  pub seen_main : MirrorsSeen (value_under s.0.ssrc seen) s.1.seen_main
  pub seen_rtx : rtx_seen seen s.0.rtx s.1.seen_rtx

-- one that is under its SSRC, and knows the round trip
pub record RxStands (threshold : ℕ) (trip : Option ℕ) (seen : List (ℕ × List ℕ)) (e : ℕ × StreamRx) (s : Incoming × RxRecord) : Type 0 where
  pub key : e.0 ≡ s.0.ssrc
  pub trip_is : e.1.state.trip ≡ trip
  pub mirrors : RxMirrors threshold seen e.1 s

-- under each SSRC of repairs that comes, that of the stream
abbrev pub original_with : ℕ → Option ℕ → List (ℕ × ℕ)
original_with ssrc None = []
original_with ssrc (Some rtx) = (rtx, ssrc) ∷ []

abbrev pub original_in : Incoming → List (ℕ × ℕ)
original_in L = original_with L.ssrc L.rtx

-- the incoming streams: that of the probes, and the others in order
pub data RxMirror (threshold : ℕ) (trip : Option ℕ) (r : SessionRecord) : List (Incoming × RxRecord) → Type 0 where
  rx_mirror : (s : Incoming × RxRecord) (rest : List (Incoming × RxRecord)) → s.0 ≡ probes → RxMirrors threshold r.seen r.probes s
      → AllZip (RxStands threshold trip r.seen) r.rx rest → RxMirror threshold trip r (s ∷ rest)

-- a media section expects no stream but those that are declared, and of each known stream the SSRC of its repairs is in the table
abbrev pub ExpectsNone : MediaRecord → Type 0
ExpectsNone m = m.rids ≡ Specific []

abbrev pub HasOriginal : List (ℕ × ℕ) → IncomingStream → Type 0
HasOriginal originals s = (rtx : ℕ) → s.rtx ≡ Some rtx → is_some (place_of rtx originals) ≡ true

-- a session, and the plain session of a side of a configuration; nothing waits to be told or sent but packets
pub record Mirrors (cipher : CipherMeaning) (C : Config) (side : Side) (r : SessionRecord) (a : Session) : Type 0 where
  pub own : SrtpState
  pub other : SrtpState
  pub seals : r.state.sealing ≡ Some own
  pub opens : r.state.opening ≡ Some other
  pub own_seals : C.seals side ≡ sealing_of cipher r.state.transport.exts own
  pub other_seals : C.seals (peer_of side) ≡ sealing_of cipher r.state.transport.exts other
  pub own_reports : C.reports side ≡ reporting_of cipher own
  pub other_reports : C.reports (peer_of side) ≡ reporting_of cipher other
  pub index : own.srtcp_index ≡ a.rtcp
  pub bounded : a.rtcp ≤ SRTCP_INDEX_LIMIT
  pub types : C.types ≡ types_in r.state.types
  pub trip : C.trip ≡ (λ now d. trip_of (ntp_of r.state now) d)
  pub owns : C.owns side ≡ is_own r.state.local_ssrc r.state.tx
  pub outgoing : lines a.tx ≡ C.outgoing side
  pub incoming : map (λ s. s.0) a.rx.table ≡ (setup_of C side).streams
  pub tx : AllZip (TxMirrors r.state.types r.state.medias a.rx.now None r.repairs) r.state.tx a.tx
  pub rx : RxMirror C.threshold a.rx.trip r a.rx.table
  pub originals : r.known.originals ≡ flat_map original_in (map incoming_of (C.outgoing (peer_of side)))
  pub sections : AllByRecursion ExpectsNone r.state.medias
  pub known : AllByRecursion (HasOriginal r.known.originals) r.known.streams
  pub last_round : r.state.last_round ≡ a.rx.last_round
  pub target : LEAST_TARGET ≤ r.state.target
  pub feedback : r.state.feedback ≡ []
  pub released : r.state.released ≡ false
  pub application : r.state.application ≡ None
  pub packet : r.state.packet ≡ None

-- SSRCs of a stream that are not 0 and have 32 bits
pub record IsWide (L : Outgoing) : Type 0 where
  pub ssrc : (0 < L.ssrc) × (L.ssrc < 2 ^ 32)
  pub rtx : (x : ℕ) → L.rtx ≡ Some x → (0 < x) × (x < 2 ^ 32)

-- what holds of a configuration: no SSRC of a side is used twice, SSRCs and types fit their fields, and the threshold of pauses
-- is no more than 10^16 ns
pub record IsFit (C : Config) : Type 0 where
  pub apart : (side : Side) → AreApart (C.outgoing side)
  pub words : (side : Side) → AllByRecursion IsWide (C.outgoing side)
  pub rtx_types : (pt rtx : ℕ) → C.types.rtx_of pt ≡ Some rtx → rtx < 2 ^ 7
  pub threshold : C.threshold ≤ LAST_TIME
