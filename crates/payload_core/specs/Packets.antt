-- Frames in packets.
use Rattle.std.specs.Prelude.{ℕ, Bool, false, ◌&&◌, nat_lt, if◌then◌else◌, Option, Some, None, Result, Ok, Err, List}
use Rattle.payload_core.specs.declared.codec.Codec.{Codec}
use Rattle.payload_core.specs.declared.codec.MediaKind.TheVariants.{Video}
use Rattle.payload_core.specs.declared.error.PacketError.{PacketError}
use Rattle.payload_core.specs.declared.error.PacketError.TheVariants.{Unsupported, TooBig, ShortTelephone}
use Rattle.payload_core.specs.declared.telephone.TelephoneEvent.{TelephoneEvent}
use Rattle.payload_core.specs.declared.telephone.TheConstants.{TELE_EVENT_LEN}
use Rattle.payload_core.specs.declared.payload.CodecExtra.{CodecExtra}
use Rattle.payload_core.specs.declared.payload.CodecExtra.TheVariants as extra
use Rattle.payload_core.specs.Codecs.{kind_of, same_kind, is_tele}
use Rattle.payload_core.specs.Telephone.{event_of}

-- why a frame of so many bytes is refused: the format is one of video, the frame is above the limit, or it
-- is a telephone event under 4 bytes
abbrev pub refusal : Codec → ℕ → ℕ → Option PacketError
refusal codec len limit =
    if same_kind Video (kind_of codec) then Some Unsupported
    else (if nat_lt limit len then Some TooBig
    else (if is_tele codec && nat_lt len TELE_EVENT_LEN then Some ShortTelephone else None))

-- the frame is a whole picture
abbrev pub is_keyframe : CodecExtra → Bool
is_keyframe extra.None = false
is_keyframe (extra.Tele e) = false
is_keyframe (extra.Vp8 v) = v.is_keyframe
is_keyframe (extra.Vp9 v) = v.is_keyframe
is_keyframe (extra.H264 v) = v.is_keyframe
is_keyframe (extra.H265 v) = v.is_keyframe
is_keyframe (extra.H266 v) = v.is_keyframe
is_keyframe (extra.Av1 v) = v.is_keyframe

abbrev pub event_extra : Option TelephoneEvent → Result CodecExtra PacketError
event_extra None = Err ShortTelephone
event_extra (Some e) = Ok (extra.Tele e)

-- what the frame in a packet tells beside its bytes
abbrev pub extra_of : Codec → ℕ → List ℕ → Result CodecExtra PacketError
extra_of codec clock payload =
    if same_kind Video (kind_of codec) then Err Unsupported
    else (if is_tele codec then event_extra (event_of clock payload) else Ok extra.None)
