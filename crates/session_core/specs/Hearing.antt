-- What an RTCP datagram opens to, and what a session makes of it.
use Rattle.std.specs.Prelude.{◌≡◌, ℕ, ◌+◌, ◌-◌, ◌==◌, ◌&&◌, ◌||◌, Bool, nat_lt, nat_le, is_some, if◌then◌else◌, List, [], ◌∷◌, map, take, Option, Some, None}
use Rattle.std.specs.Option.{option_or}
use Rattle.rtp_base.specs.declared.kind.Kind.TheVariants.{Rtcp}
use Rattle.rtcp_wire.specs.declared.feedback.AppSpecificFeedback.{AppSpecificFeedback as Application}
use Rattle.rtcp_items.specs.declared.extended.DlrrItem.{DlrrItem as Delay}
use Rattle.rtp_base.specs.declared.nack_entry.NackEntry.{NackEntry}
use Rattle.rtcp_wire.specs.declared.rtcp_fb.RtcpFb.{RtcpFb}
use Rattle.rtcp_wire.specs.declared.rtcp_fb.RtcpFb.TheVariants.{ReceptionReport, Goodbye, Nack, Pli, Fir, AppSpecificFeedback, DlrrItem}
pub use Rattle.rtcp_wire.specs.Streams.{feedback_in}
use Rattle.report_core.specs.declared.moments.ReceiverMoment.{ReceiverMoment}
use Rattle.srtp_core.specs.Cipher.{CipherMeaning}
use Rattle.srtp_core.specs.Contexts.{SrtpState}
use Rattle.srtp_core.specs.RtcpSeals.{RtcpOpensTo, stated_index, sender_of}
use Rattle.srtp_core.specs.declared.srtcp.TheConstants.{HEADER_LEN}
use Rattle.media_units.specs.Trip.{middle_bits, trip_nanos}
use Rattle.media_units.specs.Wallclock.{ntp_nanos}
use Rattle.stream_core.specs.Pauses.{on_record, with_trip}
use Rattle.stream_core.specs.Repairing.{RepairsRecord}
use Rattle.stream_core.specs.RxRecord.{RxRecord}
use Rattle.stream_core.specs.StreamsRecord.{Asked}
use Rattle.stream_core.specs.Tables.{place_of, each, change_at}
use Rattle.stream_core.specs.TxRecord.{TxRecord, told_by}
use Rattle.session_core.specs.declared.datagram.Opened.{Opened}
use Rattle.session_core.specs.News.{NewsRecord, news_heard}
use Rattle.session_core.specs.Reports.{rx_heard, moments_heard}
use Rattle.session_core.specs.SessionRecord.{SessionState, SessionRecord}

-- the bytes open to this packet, where there are keys
abbrev pub RtcpOpensIn : CipherMeaning → Option SrtpState → List ℕ → List ℕ → Type 0
RtcpOpensIn cipher None bytes plain = ⊥
RtcpOpensIn cipher (Some state) bytes plain = RtcpOpensTo cipher state.profile state.keys bytes plain

-- the index that they state
abbrev pub stated : Option SrtpState → List ℕ → ℕ
stated None bytes = 0
stated (Some state) bytes = stated_index state.profile bytes

-- what they opened to: the SSRC is that of the first item's sender
abbrev pub rtcp_opening_of : Option SrtpState → List ℕ → List ℕ → Opened
rtcp_opening_of opening bytes plain = record { kind = Rtcp; ssrc = sender_of (take HEADER_LEN plain); index = stated opening bytes; plain = plain }

-- the streams that send after an item came: a reception block tells what was lost of the packets of the stream that it
-- reports on, where that is kept, and that the peer knows the stream's SSRC; what asks a stream for packets or for a key frame
-- counts
abbrev pub tx_heard_by : RtcpFb → List (ℕ × TxRecord) → List (ℕ × TxRecord)
tx_heard_by (ReceptionReport b) es = change_at b.ssrc (told_by (ReceptionReport b)) es
tx_heard_by (Nack ssrc entries) es = change_at ssrc (told_by (Nack ssrc entries)) es
tx_heard_by (Pli p) es = change_at p.ssrc (told_by (Pli p)) es
tx_heard_by (Fir e) es = change_at e.ssrc (told_by (Fir e)) es
tx_heard_by _ es = es

abbrev pub tx_heard : List RtcpFb → List (ℕ × TxRecord) → List (ℕ × TxRecord)
tx_heard [] es = es
tx_heard (f ∷ fs) es = tx_heard fs (tx_heard_by f es)

abbrev pub application_in : RtcpFb → Option Application
application_in (AppSpecificFeedback f) = Some f
application_in _ = None

-- the last feedback of an application, or the one that waited before
abbrev pub last_application : List RtcpFb → Option Application → Option Application
last_application [] before = before
last_application (f ∷ fs) before = last_application fs (option_or (application_in f) before)

-- what streams send again after an item came: a NACK asks for packets
pub data AskedBy (now : ℕ) (f : RtcpFb) (qs : List (ℕ × RepairsRecord)) : List (ℕ × RepairsRecord) → Type 0 where
  by_nack : (ssrc : ℕ) (entries : List NackEntry) (after : List (ℕ × RepairsRecord)) → f ≡ Nack ssrc entries → Asked now ssrc entries qs after
      → AskedBy now f qs after
  by_none : ((ssrc : ℕ) (entries : List NackEntry) → f ≡ Nack ssrc entries → ⊥) → AskedBy now f qs qs

-- and after items came, in order
pub data AskedByAll (now : ℕ) : List RtcpFb → List (ℕ × RepairsRecord) → List (ℕ × RepairsRecord) → Type 0 where
  asked_none : (qs : List (ℕ × RepairsRecord)) → AskedByAll now [] qs qs
  asked_next : (f : RtcpFb) (fs : List RtcpFb) (qs between after : List (ℕ × RepairsRecord)) → AskedBy now f qs between
      → AskedByAll now fs between after → AskedByAll now (f ∷ fs) qs after

-- whether an SSRC is the session's own, or that of a stream that it sends
abbrev pub is_own : ℕ → List (ℕ × TxRecord) → ℕ → Bool
is_own local tx ssrc = ssrc == local || is_some (place_of ssrc tx)

-- the last item that tells how long ago a moment of the session came in (RFC 3611 section 4.5)
abbrev pub delay_in : ℕ → List (ℕ × TxRecord) → RtcpFb → Option Delay
delay_in local tx (DlrrItem d) = if is_own local tx d.ssrc then Some d else None
delay_in local tx _ = None

abbrev pub last_delay : ℕ → List (ℕ × TxRecord) → List RtcpFb → Option Delay → Option Delay
last_delay local tx [] before = before
last_delay local tx (f ∷ fs) before = last_delay local tx fs (option_or (delay_in local tx f) before)

-- the round trip that it tells at a moment, given from 1900: None where no moment had come in, or more passed than can be
abbrev pub trip_of : ℕ → Delay → Option ℕ
trip_of ntp d =
    if nat_lt 0 d.last_rr_delay && nat_le (d.last_rr_delay + d.last_rr_time) (middle_bits ntp)
    then Some (trip_nanos (middle_bits ntp - d.last_rr_delay - d.last_rr_time))
    else None

-- the incoming streams after it was heard
abbrev pub measured : ℕ → Option Delay → List (ℕ × RxRecord) → List (ℕ × RxRecord)
measured ntp None rx = rx
measured ntp (Some d) rx = each (on_record (with_trip (trip_of ntp d))) rx

-- a moment of the session, from 1900
abbrev pub ntp_of : SessionState → ℕ → ℕ
ntp_of s now = ntp_nanos s.transport.beginning.unix_secs now

-- the session after a packet opened at a moment
abbrev pub state_heard : ℕ → List ℕ → List (ℕ × RxRecord) → SessionState → SessionState
state_heard now plain rx s = record s {
  tx = tx_heard (feedback_in plain) s.tx;
  application = last_application (feedback_in plain) s.application;
  moments = moments_heard now (feedback_in plain) s.moments;
  news = news_heard now s.tx rx (feedback_in plain) s.news;
}

abbrev pub after_rtcp : ℕ → List ℕ → List (ℕ × RepairsRecord) → SessionRecord → SessionRecord
after_rtcp now plain repairs r = record r {
  state = state_heard now plain r.rx r.state;
  rx = rx_heard now (feedback_in plain) (measured (ntp_of r.state now) (last_delay r.state.local_ssrc r.state.tx (feedback_in plain) None) r.rx);
  repairs = repairs;
}

-- what bytes that come as RTCP at a moment make of a session: they open to some packet, or to none
pub data ReceivesRtcp (cipher : CipherMeaning) (r : SessionRecord) (bytes : List ℕ) (now : ℕ) : SessionRecord → Option Opened → Type 0 where
  opened : (plain : List ℕ) (repairs : List (ℕ × RepairsRecord)) → RtcpOpensIn cipher r.state.opening bytes plain
      → AskedByAll now (feedback_in plain) r.repairs repairs
      → ReceivesRtcp cipher r bytes now (after_rtcp now plain repairs r) (Some (rtcp_opening_of r.state.opening bytes plain))
  stays : ((plain : List ℕ) → RtcpOpensIn cipher r.state.opening bytes plain → ⊥) → ReceivesRtcp cipher r bytes now r None

-- what streams that send were told where memory runs out: nothing, or the items in front of a packet to which the bytes open
pub data HearsFront (cipher : CipherMeaning) (opening : Option SrtpState) (bytes : List ℕ) (before after : List (ℕ × TxRecord)) : Type 0 where
  unheard : after ≡ before → HearsFront cipher opening bytes before after
  heard_front : (plain : List ℕ) (count : ℕ) → RtcpOpensIn cipher opening bytes plain → after ≡ tx_heard (take count (feedback_in plain)) before
      → HearsFront cipher opening bytes before after

-- what streams send again where memory runs out: what it was, or what the items in front of a packet to which the bytes open,
-- or all of them, make of it
pub data AsksFront (cipher : CipherMeaning) (opening : Option SrtpState) (bytes : List ℕ) (now : ℕ) (before : List (ℕ × RepairsRecord)) : List (ℕ × RepairsRecord) → Type 0 where
  unasked : AsksFront cipher opening bytes now before before
  asked_front : (plain : List ℕ) (count : ℕ) (after : List (ℕ × RepairsRecord)) → RtcpOpensIn cipher opening bytes plain
      → AskedByAll now (take count (feedback_in plain)) before after → AsksFront cipher opening bytes now before after
  asked_all : (plain : List ℕ) (after : List (ℕ × RepairsRecord)) → RtcpOpensIn cipher opening bytes plain
      → AskedByAll now (feedback_in plain) before after → AsksFront cipher opening bytes now before after

-- what is to be told of streams where memory runs out: what it was, or what the items in front of a packet to which the bytes open
-- make of it
pub data NewsFront (cipher : CipherMeaning) (opening : Option SrtpState) (bytes : List ℕ) (now : ℕ) (tx : List (ℕ × TxRecord)) (rx : List (ℕ × RxRecord)) (before after : NewsRecord) : Type 0 where
  no_news_more : after ≡ before → NewsFront cipher opening bytes now tx rx before after
  news_front : (plain : List ℕ) (count : ℕ) → RtcpOpensIn cipher opening bytes plain → after ≡ news_heard now tx rx (take count (feedback_in plain)) before
      → NewsFront cipher opening bytes now tx rx before after

-- which moments wait for an answer where memory runs out: those that waited, or what the items in front of a packet to which the
-- bytes open make of them
pub data MomentsFront (cipher : CipherMeaning) (opening : Option SrtpState) (bytes : List ℕ) (now : ℕ) (before after : List ReceiverMoment) : Type 0 where
  no_moments_more : after ≡ before → MomentsFront cipher opening bytes now before after
  moments_front : (plain : List ℕ) (count : ℕ) → RtcpOpensIn cipher opening bytes plain → after ≡ moments_heard now (take count (feedback_in plain)) before
      → MomentsFront cipher opening bytes now before after

-- a packet of goodbyes alone (RFC 3550 section 6.6) changes nothing, and asks for nothing
abbrev pub GoodbyesChangeNothing : Type 0
GoodbyesChangeNothing =
    (now : ℕ) (plain ssrcs : List ℕ) (r : SessionRecord) (repairs : List (ℕ × RepairsRecord)) → feedback_in plain ≡ map Goodbye ssrcs
    → AskedByAll now (feedback_in plain) r.repairs repairs → after_rtcp now plain repairs r ≡ r
