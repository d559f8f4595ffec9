-- What a setup gives to a run.
use Rattle.std.specs.Prelude.{ℕ, Bool, ◌&&◌, ◌==◌, nat_le, List, ◌∷◌, ◌++◌, find, replicate, option_to_list, Option, Some, None, if◌then◌else◌}
use Rattle.std.specs.List.{flat_map, filter_map, fold}
use Rattle.std.specs.Option.{option_map_or}
use Rattle.rtp_wire.specs.declared.extension.ExtensionMap.{ExtensionMap}
use Rattle.rtp_wire.specs.Extensions.{no_extensions, with_extension}
use Rattle.srtp_core.specs.declared.profile.SrtpProfile.{SrtpProfile}
use Rattle.srtp_core.specs.Keys.{material_len}
use Rattle.media_model.specs.declared.entry.Side.{Side}
use Rattle.media_model.specs.declared.entry.Side.TheVariants.{A, B}
use Rattle.media_model.specs.declared.setup.Local.{Local}
use Rattle.media_model.specs.declared.setup.Key.{Key}
use Rattle.media_model.specs.declared.setup.Key.TheVariants.{Zero, Given}
use Rattle.media_model.specs.declared.setup.PayloadType.{PayloadType}
use Rattle.media_model.specs.declared.setup.Stream.{Stream}
use Rattle.media_model.specs.declared.setup.Media.{Media}
use Rattle.media_model.specs.declared.setup.NamedExtension.{NamedExtension}
use Rattle.media_model.specs.declared.setup.Cache.{Cache}
use Rattle.media_model.specs.declared.setup.Mtu.{Mtu}
use Rattle.media_model.specs.declared.setup.NamedCache.{NamedCache}
use Rattle.media_model.specs.declared.setup.NamedStart.{NamedStart}
use Rattle.media_model.specs.declared.setup.ReportTimes.{ReportTimes}
use Rattle.media_model.specs.declared.setup.Setup.{Setup}
use Rattle.media_model.specs.Sides.{same_side}
use Rattle.media_model.specs.declared.setup.TheConstants.{DEFAULT_CACHE_PACKETS, DEFAULT_CACHE_NANOS, DEFAULT_CACHE_CAP, DEFAULT_MTU_TARGET, DEFAULT_MTU_WARN, DEFAULT_AUDIO_NANOS, DEFAULT_VIDEO_NANOS}
use Rattle.rtp_wire.specs.declared.extension.TheConstants.{MAX_ID_ONE_BYTE_FORM}

abbrev pub key_bytes : SrtpProfile → Key → List ℕ
key_bytes profile Zero = replicate (material_len profile) 0
key_bytes profile (Given bytes) = bytes

-- the keying material
abbrev pub material_of : Setup → List ℕ
material_of setup = key_bytes setup.profile setup.key

-- what a side alone brings
abbrev pub local_of : Side → Setup → Local
local_of A setup = setup.a
local_of B setup = setup.b

-- the main SSRC of a stream that this side sends
abbrev pub main_in : Side → Stream → Option ℕ
main_in side stream = if same_side stream.side side then Some stream.ssrc else None

abbrev pub streams_in : Side → Media → List ℕ
streams_in side media = filter_map (main_in side) media.streams

-- the main SSRCs of the streams that this side sends, in order
abbrev pub streams_of : Side → Setup → List ℕ
streams_of side setup = flat_map (streams_in side) setup.media

-- a type, and that of its redundant data where it has one
abbrev pub written_in : PayloadType → List ℕ
written_in t = t.pt ∷ option_to_list t.red

-- the payload types of what is written
abbrev pub types_of : Setup → List ℕ
types_of setup = flat_map written_in setup.types

-- a type, that of its repairs and that of its redundant data where it has them
abbrev pub claimed_in : PayloadType → List ℕ
claimed_in t = t.pt ∷ (option_to_list t.rtx ++ option_to_list t.red)

-- the payload types that are claimed
abbrev pub claimed_of : Setup → List ℕ
claimed_of setup = flat_map claimed_in setup.types

abbrev pub starts_on : ℕ → NamedStart → Bool
starts_on ssrc start = start.ssrc == ssrc

-- the number of the first repair of the stream of this main SSRC: what the first line of it says, or 0
abbrev pub start_of : ℕ → Setup → ℕ
start_of ssrc setup = option_map_or (λ (s : NamedStart). s.number) (find (starts_on ssrc) setup.starts) 0

-- 2,000 packets, each for 3 s, and 15 hundredths
abbrev pub default_cache : Cache
default_cache = record { packets = DEFAULT_CACHE_PACKETS; age = DEFAULT_CACHE_NANOS; cap = Some DEFAULT_CACHE_CAP }

-- 1,150 bytes of RTCP, and 1,280 at all
abbrev pub default_mtu : Mtu
default_mtu = record { target = DEFAULT_MTU_TARGET; warn = DEFAULT_MTU_WARN }

-- 5 s for sound, and 1 s for pictures
abbrev pub default_intervals : ReportTimes
default_intervals = record { audio = DEFAULT_AUDIO_NANOS; video = DEFAULT_VIDEO_NANOS }

abbrev pub keeps_on : ℕ → NamedCache → Bool
keeps_on ssrc named = named.ssrc == ssrc

-- what the stream of this main SSRC keeps: what the first line of it says, or the default
abbrev pub cache_of : ℕ → Setup → Cache
cache_of ssrc setup = option_map_or (λ (n : NamedCache). n.cache) (find (keeps_on ssrc) setup.caches) default_cache

-- the ids that may name an extension
abbrev pub is_extension_id : ℕ → Bool
is_extension_id id = nat_le 1 id && nat_le id MAX_ID_ONE_BYTE_FORM

-- a map after a line: an id that may not name an extension names none
abbrev pub with_named : ExtensionMap → NamedExtension → ExtensionMap
with_named exts named = if is_extension_id named.id then with_extension exts named.id named.extension else exts

-- Which id names which extension: what the lines say one after the other. (Where two lines share an id or an extension, the
-- later one holds.)
abbrev pub extensions_of : Setup → ExtensionMap
extensions_of setup = fold with_named no_extensions setup.exts
