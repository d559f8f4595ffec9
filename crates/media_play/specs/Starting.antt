-- A session before any step, with some of the streams of its setup.
use Rattle.std.specs.Prelude.{◌≡◌, ◌<◌, ◌≤◌, ◌^◌, ℕ, true, false, ◌==◌, if◌then◌else◌, List, [], ◌∷◌, map, filter_map, option_to_list, is_some, Option, None, Some}
use Rattle.std.specs.List.{AllByRecursion, AllZip, flat_map}
use Rattle.payload_core.specs.declared.codec.Codec.{Codec as CarriedCodec}
use Rattle.payload_core.specs.declared.codec.Codec.TheVariants as carried
use Rattle.payload_core.specs.declared.codec.MediaKind.{MediaKind as SectionKind}
use Rattle.payload_core.specs.declared.codec.MediaKind.TheVariants as section
use Rattle.payload_core.specs.declared.params.PayloadParams.{PayloadParams}
use Rattle.payload_core.specs.Params.{no_format}
use Rattle.rtx_core.specs.Resends.{created, recached}
use Rattle.srtp_core.specs.Cipher.{CipherMeaning}
use Rattle.srtp_core.specs.Contexts.{new_state}
use Rattle.stream_core.specs.declared.payload_types.TypeRow.{TypeRow}
use Rattle.stream_core.specs.Repairing.{RepairsRecord}
use Rattle.stream_core.specs.RxRecord.{RxRecord}
use Rattle.stream_core.specs.StreamsRecord.{StreamsRecord}
use Rattle.report_core.specs.declared.clock.ReportIntervals.{ReportIntervals}
use Rattle.stream_core.specs.TxRecord.{TxRecord}
use Rattle.session_core.specs.Sending.{has_mid}
use Rattle.session_core.specs.SessionRecord.{MediaRecord, SessionRecord, streams_in}
use Rattle.session_turns.specs.Mirrors.{RxMirrors, RxStands, original_in, ExpectsNone, HasOriginal}
use Rattle.media_model.specs.declared.entry.Side.{Side}
use Rattle.media_model.specs.declared.entry.Side.TheVariants.{A, B}
use Rattle.media_model.specs.declared.setup.Codec.{Codec}
use Rattle.media_model.specs.declared.setup.Codec.TheVariants as codec
use Rattle.media_model.specs.declared.setup.Media.{Media}
use Rattle.media_model.specs.declared.setup.MediaKind.{MediaKind}
use Rattle.media_model.specs.declared.setup.MediaKind.TheVariants as kind
use Rattle.media_model.specs.declared.setup.PayloadType.{PayloadType}
use Rattle.media_model.specs.declared.setup.Setup.{Setup}
use Rattle.media_model.specs.Sides.{peer_of}
use Rattle.media_model.specs.Setup.{local_of, material_of, types_of as type_numbers}
use Rattle.run_model.specs.Events.{Outgoing}
use Rattle.run_model.specs.Listing.{NoRepeat}
use Rattle.run_model.specs.RxPlay.{new_rx}
use Rattle.run_model.specs.Transcripts.{outgoing_in}
use Rattle.run_model.specs.Whole.{incoming_of, probes}
use Rattle.stream_core.specs.Tables.{place_of}
use Rattle.session_turns.specs.Mirrors.{Mirrors, IsFit}
use Rattle.run_model.specs.Whole.{new_session}
use Rattle.media_laws.specs.Config.{config_of}
use Rattle.media_laws.specs.Keys.{sealing_of}
use Rattle.media_laws.specs.Rules.{has}
use Rattle.media_play.specs.Ends.{EndSession, SessionStands}
use Rattle.media_laws.specs.Plain.{extensions_of}
use Rattle.media_laws.specs.Keys.{is_left}
use Rattle.srtp_core.specs.declared.context.TheConstants.{SRTCP_INDEX_LIMIT}
use Rattle.session_core.specs.declared.config.TheConstants.{LEAST_TARGET}

-- the types of a session for one of a setup: itself, and that of its redundant data as one without repairs
abbrev pub red_rows : PayloadType → Option ℕ → List PayloadType
red_rows t None = []
red_rows t (Some red) = record t { pt = red; rtx = None } ∷ []

abbrev pub rows_in : PayloadType → List PayloadType
rows_in t = t ∷ red_rows t t.red

abbrev pub rows_of : List PayloadType → List PayloadType
rows_of types = flat_map rows_in types

-- the codec of a session for one of a setup
abbrev pub codec_of : Codec → CarriedCodec
codec_of codec.Opus = carried.Opus
codec_of codec.Pcmu = carried.Pcmu
codec_of codec.Pcma = carried.Pcma
codec_of codec.Telephone = carried.Telephone
codec_of codec.Vp8 = carried.Vp8
codec_of codec.Vp9 = carried.Vp9
codec_of codec.H264 = carried.H264
codec_of codec.H265 = carried.H265
codec_of codec.H266 = carried.H266
codec_of codec.Av1 = carried.Av1

-- the kind of a media section of a session for that of a setup
abbrev pub section_kind : MediaKind → SectionKind
section_kind kind.Audio = section.Audio
section_kind kind.Video = section.Video

-- by which number the session of a side is told apart
abbrev pub identification : Side → ℕ
identification A = 1
identification B = 2

-- what a session is told of a payload type of a setup: its number, the types of its repairs and of its redundant data, its
-- codec, its clock, which has ticks of 1 s where the setup gives no rate, and the feedback that it takes; nothing of channels,
-- of the format and of reports for the whole transport
pub record IsParams (p : PayloadParams) (t : PayloadType) : Type 0 where
  pub pt : p.pt ≡ t.pt
  pub resend : p.resend ≡ t.rtx
  pub red : p.red ≡ t.red
  pub codec : p.spec.codec ≡ codec_of t.codec
  pub clock : p.spec.clock_rate ≡ (if t.rate == 0 then 1 else t.rate)
  pub channels : p.spec.channels ≡ None
  pub format : p.spec.format ≡ no_format
  pub transport : p.fb_transport_cc ≡ false
  pub pli : p.fb_pli ≡ t.pli
  pub fir : p.fb_fir ≡ t.fir

-- a payload type of a session is one of these: its number, and the type of its repairs
pub record IsRow (e : ℕ × TypeRow) (t : PayloadType) : Type 0 where
  pub key : e.0 ≡ t.pt
  pub pt : e.1.pt ≡ t.pt
  pub rtx : e.1.rtx ≡ t.rtx

-- both SSRCs of a stream
abbrev pub ssrcs_in : Outgoing → List ℕ
ssrcs_in L = L.ssrc ∷ option_to_list L.rtx

-- no SSRC is of two streams, nor twice of one
abbrev pub AreOnce : List Outgoing → Type 0
AreOnce Ls = NoRepeat (flat_map ssrcs_in Ls)

-- SSRCs of a stream that have 32 bits
pub record HasWords (L : Outgoing) : Type 0 where
  pub ssrc : L.ssrc < 2 ^ 32
  pub rtx : (x : ℕ) → L.rtx ≡ Some x → x < 2 ^ 32

-- the streams of a media section that a side sends
abbrev pub outgoing_at : Setup → Side → Media → List Outgoing
outgoing_at setup side media = filter_map (outgoing_in setup side) media.streams

-- an outgoing stream of some media section on which nothing was written
pub record IsIdle (medias : List MediaRecord) (e : ℕ × TxRecord) (L : Outgoing) : Type 0 where
  pub key : e.0 ≡ L.ssrc
  pub ssrc : e.1.ssrc ≡ L.ssrc
  pub rtx : e.1.rtx ≡ L.rtx
  pub mid : has_mid e.1.mid medias ≡ true
  pub queue : e.1.queue ≡ []

-- what it sends again, where it has repairs
abbrev pub kept_for : Outgoing → Option ℕ → List (ℕ × RepairsRecord)
kept_for L None = []
kept_for L (Some rtx) = (L.ssrc, recached L.packets L.age L.cap (created L.start)) ∷ []

abbrev pub kept_in : Outgoing → List (ℕ × RepairsRecord)
kept_in L = kept_for L L.rtx

-- an incoming stream on which nothing opened
abbrev pub IsUnheard : ℕ → ℕ × RxRecord → Outgoing → Type 0
IsUnheard threshold e L = RxStands threshold None [] e (incoming_of L, new_rx)

-- a session with these streams
abbrev pub with_streams : StreamsRecord → SessionRecord → SessionRecord
with_streams s r = record r {
  state = record r.state { tx = s.tx; pause_threshold = s.threshold };
  rx = s.rx;
  known = s.known;
  repairs = s.repairs;
}

-- whichever record a session has, it then has the one with its streams changed so
abbrev pub StreamsChange : (StreamsRecord → StreamsRecord) → EndSession → EndSession → Type 0
StreamsChange f old new = (r : SessionRecord) → SessionStands old r → SessionStands new (with_streams (f (streams_in r)) r)

-- after how long the next report of a stream is due
abbrev pub intervals_of : Setup → ReportIntervals
intervals_of setup = record { audio = setup.intervals.audio; video = setup.intervals.video }

-- a media section of a session of a setup: it expects no stream by a rid, and its peer takes all types of the setup
pub record IsSection (setup : Setup) (m : MediaRecord) : Type 0 where
  pub expects : ExpectsNone m
  pub types : m.remote_pts ≡ map (λ t. t.pt) setup.types

-- a session of a side with keys that sends these streams and receives those, on which nothing happened
pub record Begun (cipher : CipherMeaning) (setup : Setup) (side : Side) (sent received : List Outgoing) (s : SessionRecord) : Type 0 where
  pub seals : s.state.sealing
      ≡ Some (new_state cipher setup.profile (material_of setup) (is_left side) (local_of side setup).srtcp_index)
  pub opens : s.state.opening
      ≡ Some (new_state cipher setup.profile (material_of setup) (is_left (peer_of side)) 0)
  pub target : s.state.target ≡ setup.mtu.target
  pub wide : LEAST_TARGET ≤ s.state.target
  pub runs : s.state.stopped ≡ false
  pub feedback : s.state.feedback ≡ []
  pub released : s.state.released ≡ false
  pub application : s.state.application ≡ None
  pub packet : s.state.packet ≡ None
  pub last_round : s.state.last_round ≡ 0
  pub local_ssrc : s.state.local_ssrc ≡ (local_of side setup).ssrc
  pub beginning : s.state.transport.beginning ≡ setup.beginning
  pub seen : s.seen ≡ []
  pub types : AllZip IsRow s.state.types (rows_of setup.types)
  pub exts : s.state.transport.exts ≡ extensions_of setup
  pub pauses : s.state.pause_threshold ≡ setup.pause_threshold
  pub intervals : s.state.intervals ≡ intervals_of setup
  pub sends : AllZip (IsIdle s.state.medias) s.state.tx sent
  pub repairs : s.repairs ≡ flat_map kept_in sent
  pub takes : AllZip (IsUnheard setup.pause_threshold) s.rx received
  pub probes_stand : RxMirrors setup.pause_threshold [] s.probes (probes, new_rx)
  pub originals : s.known.originals ≡ flat_map original_in (map incoming_of received)
  pub sections : AllByRecursion (IsSection setup) s.state.medias
  pub known : AllByRecursion (HasOriginal s.known.originals) s.known.streams

pub record Starts (cipher : CipherMeaning) (setup : Setup) (side : Side) (sent received : List Outgoing) (view : EndSession) : Type 0 where
  pub session : SessionRecord
  pub bounded : (local_of side setup).srtcp_index ≤ SRTCP_INDEX_LIMIT
  pub sent_words : AllByRecursion HasWords sent
  pub heard_words : AllByRecursion HasWords received
  pub stands : SessionStands view session
  pub begun : Begun cipher setup side sent received session

-- the session of a side of a setup before any step: it mirrors the plain session of the setup, and runs; and the configuration
-- of the setup fits its fields
pub record IsStarted (cipher : CipherMeaning) (setup : Setup) (side : Side) (view : EndSession) : Type 0 where
  pub session : SessionRecord
  pub stands : SessionStands view session
  pub mirrors : Mirrors cipher (config_of (sealing_of cipher setup) setup) side session (new_session (config_of (sealing_of cipher setup) setup) side)
  pub types : (pt : ℕ) → is_some (place_of pt session.state.types) ≡ has (type_numbers setup) pt
  pub exts : session.state.transport.exts ≡ extensions_of setup
  pub intervals : session.state.intervals ≡ intervals_of setup
  pub runs : session.state.stopped ≡ false
  pub fit : IsFit (config_of (sealing_of cipher setup) setup)
