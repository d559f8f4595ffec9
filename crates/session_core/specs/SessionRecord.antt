-- The record of a session.
use Rattle.std.specs.Prelude.{◌≡◌, ℕ, Bool, Option, List}
use Rattle.payload_core.specs.Params.{Config}
use Rattle.payload_core.specs.declared.codec.MediaKind.{MediaKind}
use Rattle.session_core.specs.News.{NewsRecord}
use Rattle.mapping_core.specs.declared.rids.Rids.{Rids}
use Rattle.stream_core.specs.Known.{KnownRecord}
use Rattle.stream_core.specs.Seen.{SeenStandsFor}
use Rattle.rtp_base.specs.declared.window.SeqNoWindow.{SeqNoWindow}
use Rattle.srtp_core.specs.Contexts.{SrtpState}
use Rattle.repair_core.specs.Rounds.{Heard}
use Rattle.stream_core.specs.declared.packet.RtpPacket.{RtpPacket}
use Rattle.stream_core.specs.declared.transport.Transport.{Transport}
use Rattle.stream_core.specs.RxRecord.{RxView, RxRecord, StandsFor as RxStandsFor}
use Rattle.stream_core.specs.Tables.{Along}
use Rattle.stream_core.specs.TxRecord.{TxRecord}
use Rattle.rtcp_wire.specs.declared.packet.Rtcp.{Rtcp}
use Rattle.rtcp_wire.specs.declared.feedback.AppSpecificFeedback.{AppSpecificFeedback}
use Rattle.stream_core.specs.declared.payload_types.TypeRow.{TypeRow}
use Rattle.stream_core.specs.Repairing.{SentPacket, RepairsView, RepairsRecord, RepairsStandFor}
use Rattle.stream_core.specs.StreamsRecord.{StreamsRecord}
use Rattle.resend_core.specs.ResendStore.{Past}
use Rattle.report_core.specs.declared.clock.ReportIntervals.{ReportIntervals}
use Rattle.report_core.specs.declared.moments.ReceiverMoment.{ReceiverMoment}

-- a media section: its mid, its kind, the canonical name of its sources, the payload types that the peer takes, and which
-- streams it expects by their rids
pub record MediaRecord : Type 0 where
  pub mid : List ℕ
  pub kind : MediaKind
  pub cname : List ℕ
  pub remote_pts : List ℕ
  pub rids : Rids

-- all of a session but its incoming streams: its identification; the target for the length of its datagrams; the SSRC that
-- its feedback has where it sends on no stream; for how long nothing comes on an incoming stream until it is paused, where
-- nothing else is set; mid and place of the data channel; the codecs, and the payload types that streams use of them, each under
-- its number; the media sections; the
-- contexts that seal and open, once there are keys; the index of the first SRTCP datagram under the keys that are set next;
-- the outgoing streams, each under its SSRC, and what they share; the
-- moment of the last round in which it asked for what is missing, at first 0; whether there was a tick since a poll gave no
-- packet, so that packets that are asked for may leave; after how long the next report of a stream is due, and the moments of
-- receivers that wait for an answer; the feedback that waits to be sent; the feedback of an application and the packet that came
-- and wait to be told, and what the peer asked and told of streams and waits to be told; and whether an error stopped it
pub record SessionState : Type 0 where
  pub id : ℕ
  pub target : ℕ
  pub local_ssrc : ℕ
  pub pause_threshold : ℕ
  pub app : Option (List ℕ × ℕ)
  pub codecs : Config
  pub types : List (ℕ × TypeRow)
  pub medias : List MediaRecord
  pub sealing : Option SrtpState
  pub opening : Option SrtpState
  pub first_index : ℕ
  pub tx : List (ℕ × TxRecord)
  pub transport : Transport
  pub last_round : ℕ
  pub released : Bool
  pub intervals : ReportIntervals
  pub moments : List ReceiverMoment
  pub feedback : List Rtcp
  pub application : Option AppSpecificFeedback
  pub packet : Option RtpPacket
  pub news : NewsRecord
  pub stopped : Bool

-- a session as its callers see it: incoming streams each under its SSRC; what tells of which of them a datagram is that comes
-- under no SSRC of these; the stream of SSRC 0, on which probes come; the numbers that opened under each SSRC; and what the
-- outgoing streams that have repairs send again, each under its SSRC
pub record SessionView (W S : Type 0) : Type 0 where
  pub state : SessionState
  pub rx : List (ℕ × RxView W)
  pub known : KnownRecord
  pub probes : RxView W
  pub seen : List (ℕ × SeqNoWindow)
  pub repairs : List (ℕ × RepairsView S)

pub record SessionRecord : Type 0 where
  pub state : SessionState
  pub rx : List (ℕ × RxRecord)
  pub known : KnownRecord
  pub probes : RxRecord
  pub seen : List (ℕ × List ℕ)
  pub repairs : List (ℕ × RepairsRecord)

pub record StandsFor {W S : Type 0} (remembers : W → Heard → Type 0) (stands_for : S → Past SentPacket → Type 0) (s : SessionView W S) (r : SessionRecord) : Type 0 where
  pub state : s.state ≡ r.state
  pub rx : Along (RxStandsFor remembers) s.rx r.rx
  pub known : s.known ≡ r.known
  pub probes : RxStandsFor remembers s.probes r.probes
  pub seen : SeenStandsFor s.seen r.seen
  pub repairs : Along (RepairsStandFor stands_for) s.repairs r.repairs

-- its streams
abbrev pub streams_in : SessionRecord → StreamsRecord
streams_in r = record { threshold = r.state.pause_threshold; rx = r.rx; known = r.known; tx = r.state.tx; repairs = r.repairs }

-- the session with these as what comes to it
abbrev pub with_incoming : StreamsRecord → SessionRecord → SessionRecord
with_incoming s r = record r { rx = s.rx; known = s.known }
