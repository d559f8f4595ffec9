-- Codecs.
use Rattle.std.specs.Prelude.{Bool, true, false}
use Rattle.payload_core.specs.declared.codec.Codec.{Codec}
use Rattle.payload_core.specs.declared.codec.Codec.TheVariants.{Opus, Pcmu, Pcma, Telephone, Vp8, Vp9, H264, H265, H266, Av1, Null}
use Rattle.payload_core.specs.declared.codec.MediaKind.{MediaKind}
use Rattle.payload_core.specs.declared.codec.MediaKind.TheVariants.{Audio, Video}

-- on which kind of media it is carried
abbrev pub kind_of : Codec → MediaKind
kind_of Opus = Audio
kind_of Pcmu = Audio
kind_of Pcma = Audio
kind_of Telephone = Audio
kind_of Vp8 = Video
kind_of Vp9 = Video
kind_of H264 = Video
kind_of H265 = Video
kind_of H266 = Video
kind_of Av1 = Video
kind_of Null = Video

-- it codes sound
abbrev pub is_heard : Codec → Bool
is_heard Opus = true
is_heard Pcmu = true
is_heard Pcma = true
is_heard Telephone = false
is_heard Vp8 = false
is_heard Vp9 = false
is_heard H264 = false
is_heard H265 = false
is_heard H266 = false
is_heard Av1 = false
is_heard Null = false

-- it is telephone events
abbrev pub is_tele : Codec → Bool
is_tele Telephone = true
is_tele Opus = false
is_tele Pcmu = false
is_tele Pcma = false
is_tele Vp8 = false
is_tele Vp9 = false
is_tele H264 = false
is_tele H265 = false
is_tele H266 = false
is_tele Av1 = false
is_tele Null = false

-- two kinds are one
abbrev pub same_kind : MediaKind → MediaKind → Bool
same_kind Audio Audio = true
same_kind Audio Video = false
same_kind Video Audio = false
same_kind Video Video = true
