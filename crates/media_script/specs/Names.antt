-- The words for what a script names.
use Rattle.std.specs.Prelude.{ℕ, List, codes, Bool, true, false}
use Rattle.srtp_core.specs.declared.profile.SrtpProfile.{SrtpProfile}
use Rattle.srtp_core.specs.declared.profile.SrtpProfile.TheVariants.{Aes128CmSha1_80, AeadAes128Gcm, AeadAes256Gcm}
use Rattle.media_model.specs.declared.entry.Side.{Side}
use Rattle.media_model.specs.declared.entry.Side.TheVariants.{A, B}
use Rattle.media_model.specs.declared.entry.Call.{Call}
use Rattle.media_model.specs.declared.entry.Call.TheVariants.{Application, Ask, Remb}
use Rattle.rtp_base.specs.declared.keyframe_request.KeyframeRequestKind.{KeyframeRequestKind}
use Rattle.rtp_base.specs.declared.keyframe_request.KeyframeRequestKind.TheVariants.{Pli, Fir}
use Rattle.rtp_base.specs.declared.kind.Kind.{Kind}
use Rattle.rtp_base.specs.declared.kind.Kind.TheVariants.{Rtp, Rtcp}
use Rattle.media_model.specs.declared.setup.CipherName.{CipherName}
use Rattle.media_model.specs.declared.setup.CipherName.TheVariants.{Toy, Sha}
use Rattle.media_model.specs.declared.setup.Codec.{Codec}
use Rattle.media_model.specs.declared.setup.Codec.TheVariants.{Opus, Pcmu, Pcma, Telephone, Vp8, Vp9, H264, H265, H266, Av1}
use Rattle.media_model.specs.declared.setup.MediaKind.{MediaKind}
use Rattle.media_model.specs.declared.setup.MediaKind.TheVariants.{Audio, Video}
use Rattle.rtp_wire.specs.declared.extension.Extension.{Extension}
use Rattle.rtp_wire.specs.declared.extension.Extension.TheVariants.{AudioLevel, AbsoluteSendTime, TransportSequenceNumber, RtpMid, RtpStreamId, RepairedRtpStreamId, VideoOrientation, AbsoluteCaptureTime, PlayoutDelay}

abbrev pub side_text : Side → List ℕ
side_text A = codes "A"
side_text B = codes "B"

abbrev pub kind_text : Kind → List ℕ
kind_text Rtp = codes "rtp"
kind_text Rtcp = codes "rtcp"

-- what an application asks of its session
abbrev pub call_text : Call → List ℕ
call_text Application = codes "app"
call_text Ask = codes "ask"
call_text Remb = codes "remb"

-- how a key frame is asked for
abbrev pub keyframe_text : KeyframeRequestKind → List ℕ
keyframe_text Pli = codes "pli"
keyframe_text Fir = codes "fir"

abbrev pub flag_text : Bool → List ℕ
flag_text false = codes "0"
flag_text true = codes "1"

abbrev pub cipher_text : CipherName → List ℕ
cipher_text Toy = codes "toy"
cipher_text Sha = codes "sha"

abbrev pub profile_text : SrtpProfile → List ℕ
profile_text Aes128CmSha1_80 = codes "cm"
profile_text AeadAes128Gcm = codes "gcm128"
profile_text AeadAes256Gcm = codes "gcm256"

abbrev pub codec_text : Codec → List ℕ
codec_text Opus = codes "opus"
codec_text Pcmu = codes "pcmu"
codec_text Pcma = codes "pcma"
codec_text Telephone = codes "telephone"
codec_text Vp8 = codes "vp8"
codec_text Vp9 = codes "vp9"
codec_text H264 = codes "h264"
codec_text H265 = codes "h265"
codec_text H266 = codes "h266"
codec_text Av1 = codes "av1"

abbrev pub extension_text : Extension → List ℕ
extension_text AudioLevel = codes "level"
extension_text AbsoluteSendTime = codes "abs"
extension_text TransportSequenceNumber = codes "twcc"
extension_text RtpMid = codes "mid"
extension_text RtpStreamId = codes "rid"
extension_text RepairedRtpStreamId = codes "rrid"
extension_text VideoOrientation = codes "orient"
extension_text AbsoluteCaptureTime = codes "capture"
extension_text PlayoutDelay = codes "delay"

abbrev pub media_kind_text : MediaKind → List ℕ
media_kind_text Audio = codes "audio"
media_kind_text Video = codes "video"
