-- The rules of a setup, and the first one that it breaks.
use Rattle.std.specs.Prelude.{ℕ, Bool, true, false, not, ◌||◌, ◌&&◌, ◌==◌, nat_lt, nat_le, List, [], ◌∷◌, ◌++◌, length, option_to_list, Option, Some, None, if◌then◌else◌}
use Rattle.std.specs.List.{flat_map, list_any}
use Rattle.std.specs.Str.{bytes_eq}
use Rattle.rtp_wire.specs.Extensions.{extension_number}
use Rattle.media_model.specs.declared.setup.NamedExtension.{NamedExtension}
use Rattle.media_model.specs.declared.setup.Stream.{Stream}
use Rattle.media_model.specs.declared.setup.NamedCache.{NamedCache}
use Rattle.media_model.specs.declared.setup.Media.{Media}
use Rattle.media_model.specs.declared.setup.Mtu.{Mtu}
use Rattle.media_model.specs.declared.setup.ReportTimes.{ReportTimes}
use Rattle.media_model.specs.declared.setup.Setup.{Setup}
use Rattle.srtp_core.specs.Keys.{material_len}
use Rattle.media_model.specs.Setup.{material_of, claimed_of, is_extension_id}
use Rattle.media_model.specs.Sides.{same_side}
use Rattle.media_model.specs.declared.step.TheConstants.{LAST_TIME}
use Rattle.setup_rules.specs.declared.rules.TheConstants.{MAX_PT, LEAST_TARGET, GREATEST_WARN, MAX_UNIX_SECS, MOST_PACKETS}
use Rattle.setup_rules.specs.declared.fault.SetupFault.{SetupFault}
use Rattle.setup_rules.specs.declared.fault.SetupFault.TheVariants.{KeyLength, Mtu as MtuRule, Times, ExtId, TypeTwice, SsrcZero, SsrcTwice, RidTwice, CacheSize}

-- a number stands in a list
abbrev pub has : List ℕ → ℕ → Bool
has xs n = list_any (λ x. x == n) xs

-- the fault of the first rule of a list that is broken
abbrev pub first_fault : {F : Type 0} → List (Bool × F) → Option F
first_fault [] = None
first_fault (rule ∷ rules) = if rule.0 then Some rule.1 else first_fault rules

-- a number stands twice
abbrev pub repeats : List ℕ → Bool
repeats [] = false
repeats (x ∷ xs) = has xs x || repeats xs

-- two lines share an id or an extension
abbrev pub clash : NamedExtension → NamedExtension → Bool
clash m n = m.id == n.id || extension_number m.extension == extension_number n.extension

-- an id is outside 1 to 14, or two lines share an id or an extension
abbrev pub any_ext_wrong : List NamedExtension → Bool
any_ext_wrong [] = false
any_ext_wrong (n ∷ ns) = not (is_extension_id n.id) || list_any (clash n) ns || any_ext_wrong ns

-- the streams of both sides, in order
abbrev pub all_streams : Setup → List Stream
all_streams setup = flat_map (λ (m : Media). m.streams) setup.media

-- the main SSRC of a stream, and its RTX SSRC where it has one
abbrev pub both_of : Stream → List ℕ
both_of stream = stream.ssrc ∷ option_to_list stream.rtx

abbrev pub stream_ssrcs : Setup → List ℕ
stream_ssrcs setup = flat_map both_of (all_streams setup)

-- the SSRCs under which the sides themselves speak, and then those of all streams
abbrev pub all_ssrcs : Setup → List ℕ
all_ssrcs setup = setup.a.ssrc ∷ setup.b.ssrc ∷ stream_ssrcs setup

-- 900 to 1,500 bytes, and the target is not the greater one
abbrev pub is_mtu : Mtu → Bool
is_mtu mtu = nat_le LEAST_TARGET mtu.target && nat_le mtu.target mtu.warn && nat_le mtu.warn GREATEST_WARN

-- an interval of reports, in nanoseconds, is too great
abbrev pub are_long : ReportTimes → Bool
are_long intervals = nat_lt LAST_TIME intervals.audio || nat_lt LAST_TIME intervals.video

-- the age of a cache, in nanoseconds, is too great
abbrev pub is_old : NamedCache → Bool
is_old named = nat_lt LAST_TIME named.cache.age

-- the Unix time of the moment 0 in seconds, or an interval of reports, the threshold of pauses or the age of a cache in
-- nanoseconds, is too great
abbrev pub is_beyond : Setup → Bool
is_beyond setup =
    nat_lt MAX_UNIX_SECS setup.beginning.unix_secs || are_long setup.intervals || nat_lt LAST_TIME setup.pause_threshold
    || list_any is_old setup.caches

abbrev pub any_mid_again : List Media → Bool
any_mid_again [] = false
any_mid_again (m ∷ ms) = list_any (λ (n : Media). bytes_eq n.mid m.mid) ms || any_mid_again ms

-- a stream without a rid shares every rid
abbrev pub rids_meet : Option (List ℕ) → Option (List ℕ) → Bool
rids_meet (Some a) (Some b) = bytes_eq a b
rids_meet _ _ = true

-- two streams of one media and side share a rid
abbrev pub meets : Stream → Stream → Bool
meets s t = same_side s.side t.side && rids_meet s.rid t.rid

abbrev pub any_rid_again : List Stream → Bool
any_rid_again [] = false
any_rid_again (s ∷ ss) = list_any (meets s) ss || any_rid_again ss

-- 1 to 32,000 packets
abbrev pub has_size : NamedCache → Bool
has_size named = nat_le 1 named.cache.packets && nat_le named.cache.packets MOST_PACKETS

abbrev pub any_size_wrong : List NamedCache → Bool
any_size_wrong caches = list_any (λ (n : NamedCache). not (has_size n)) caches

-- the rules of media, their streams and caches
abbrev pub media_rules : Setup → List (Bool × SetupFault)
media_rules setup =
    (any_mid_again setup.media || list_any (λ (m : Media). any_rid_again m.streams) setup.media, RidTwice)
    ∷ (any_size_wrong setup.caches, CacheSize) ∷ []

-- the rules of a setup, in their order
abbrev pub setup_rules : Setup → List (Bool × SetupFault)
setup_rules setup =
    (not (length (material_of setup) == material_len setup.profile), KeyLength)
    ∷ (not (is_mtu setup.mtu), MtuRule)
    ∷ (is_beyond setup, Times)
    ∷ (any_ext_wrong setup.exts, ExtId)
    ∷ (list_any (nat_lt MAX_PT) (claimed_of setup) || repeats (claimed_of setup), TypeTwice)
    ∷ (has (all_ssrcs setup) 0, SsrcZero)
    ∷ (repeats (all_ssrcs setup), SsrcTwice)
    ∷ media_rules setup

abbrev pub media_fault : Setup → Option SetupFault
media_fault setup = first_fault (media_rules setup)

abbrev pub setup_fault : Setup → Option SetupFault
setup_fault setup = first_fault (setup_rules setup)
