-- What the setup lines of a script say together.
use Rattle.std.specs.Prelude.{ℕ, List, [], ◌∷◌, ◌++◌, Bool, true, false, Option, Some, None, if◌then◌else◌}
use Rattle.std.specs.Str.{bytes_eq}
use Rattle.srtp_core.specs.declared.profile.SrtpProfile.TheVariants.{AeadAes128Gcm}
use Rattle.media_model.specs.declared.entry.Side.{Side}
use Rattle.media_model.specs.declared.entry.Side.TheVariants.{A, B}
use Rattle.media_model.specs.declared.setup.CipherName.TheVariants.{Toy}
use Rattle.media_model.specs.declared.setup.Key.{Key}
use Rattle.media_model.specs.declared.setup.Key.TheVariants.{Zero}
use Rattle.media_model.specs.declared.setup.Stream.{Stream}
use Rattle.media_model.specs.declared.setup.Media.{Media}
use Rattle.media_model.specs.declared.setup.Setup.{Setup}
use Rattle.media_model.specs.declared.setup.TheConstants.{DEFAULT_MTU_TARGET, DEFAULT_MTU_WARN, DEFAULT_PAUSE_THRESHOLD_NANOS, DEFAULT_AUDIO_NANOS, DEFAULT_VIDEO_NANOS}
use Rattle.media_script.specs.declared.draft.TheConstants.{DEFAULT_UNIX_SECS}
use Rattle.media_script.specs.declared.draft.Draft.{Draft}
use Rattle.media_script.specs.declared.setup_line.SetupLine.{SetupLine}
use Rattle.media_script.specs.declared.setup_line.SetupLine.TheVariants as line

abbrev pub is_of : List ℕ → Media → Bool
is_of mid media = bytes_eq media.mid mid

-- the first media of this mid has one stream more
abbrev pub with_stream : List ℕ → Stream → List Media → List Media
with_stream mid stream [] = []
with_stream mid stream (media ∷ rest) =
    if is_of mid media then record media { streams = media.streams ++ stream ∷ [] } ∷ rest
    else media ∷ with_stream mid stream rest

-- what stands where no line says it: the key has to be said
abbrev pub blank : Draft
blank = record {
  setup = record {
    cipher = Toy;
    profile = AeadAes128Gcm;
    key = Zero;
    beginning = record { unix_secs = DEFAULT_UNIX_SECS };
    mtu = record { target = DEFAULT_MTU_TARGET; warn = DEFAULT_MTU_WARN };
    pause_threshold = DEFAULT_PAUSE_THRESHOLD_NANOS;
    intervals = record { audio = DEFAULT_AUDIO_NANOS; video = DEFAULT_VIDEO_NANOS };
    a = record { ssrc = 1; srtcp_index = 0 };
    b = record { ssrc = 2; srtcp_index = 0 };
    exts = [];
    types = [];
    media = [];
    starts = [];
    caches = [];
  };
  has_key = false;
  media = [];
}

-- a draft whose setup is changed so
abbrev pub on_setup : (Setup → Setup) → Draft → Draft
on_setup change draft = record draft { setup = change draft.setup }

-- the index of a side's first SRTCP datagram
abbrev pub with_index : Side → ℕ → Draft → Draft
with_index A index = on_setup (λ s. record s { a = record s.a { srtcp_index = index } })
with_index B index = on_setup (λ s. record s { b = record s.b { srtcp_index = index } })

-- the SSRC under which a side speaks of what it receives
abbrev pub with_ssrc : Side → ℕ → Draft → Draft
with_ssrc A ssrc = on_setup (λ s. record s { a = record s.a { ssrc = ssrc } })
with_ssrc B ssrc = on_setup (λ s. record s { b = record s.b { ssrc = ssrc } })

-- the keying material of both sides
abbrev pub with_key : Key → Draft → Draft
with_key key draft = record draft { setup = record draft.setup { key = key }; has_key = true }

-- what one line more says
abbrev pub told : Draft → SetupLine → Draft
told draft (line.Cipher cipher) = on_setup (λ s. record s { cipher = cipher }) draft
told draft (line.Profile profile) = on_setup (λ s. record s { profile = profile }) draft
told draft (line.Key key) = with_key key draft
told draft (line.Unix beginning) = on_setup (λ s. record s { beginning = beginning }) draft
told draft (line.Mtu mtu) = on_setup (λ s. record s { mtu = mtu }) draft
told draft (line.Pause threshold) = on_setup (λ s. record s { pause_threshold = threshold }) draft
told draft (line.Reports intervals) = on_setup (λ s. record s { intervals = intervals }) draft
told draft (line.Rtcp side index) = with_index side index draft
told draft (line.Local side ssrc) = with_ssrc side ssrc draft
told draft (line.Ext named) = on_setup (λ s. record s { exts = s.exts ++ named ∷ [] }) draft
told draft (line.Type payload_type) = on_setup (λ s. record s { types = s.types ++ payload_type ∷ [] }) draft
told draft (line.Media mid kind cname) =
    record draft { media = draft.media ++ record { mid = mid; kind = kind; cname = cname; streams = [] } ∷ [] }
told draft (line.Stream mid stream) = record draft { media = with_stream mid stream draft.media }
told draft (line.Start start) = on_setup (λ s. record s { starts = s.starts ++ start ∷ [] }) draft
told draft (line.Cache named) = on_setup (λ s. record s { caches = s.caches ++ named ∷ [] }) draft

-- the setup, if the key stands
abbrev pub setup_of : Draft → Option Setup
setup_of draft = if draft.has_key then Some (record draft.setup { media = draft.media }) else None
