-- Payload types and what they carry.
use Rattle.std.specs.Prelude.{◌≡◌, ◌≢◌, ℕ, ◌<◌, Bool, true, false, ◌==◌, ◌&&◌, if◌then◌else◌, Option, Some, None, List, slice_get, length, filter}
use Rattle.std.specs.List.{list_any}
use Rattle.payload_core.specs.declared.codec.Codec.TheVariants.{Null}
use Rattle.payload_core.specs.declared.codec.FormatParams.{FormatParams}
use Rattle.payload_core.specs.declared.params.ParamsOfKind.{ParamsOfKind}
use Rattle.payload_core.specs.declared.codec.MediaKind.{MediaKind}
use Rattle.payload_core.specs.declared.codec.CodecSpec.{CodecSpec}
use Rattle.payload_core.specs.declared.params.PayloadParams.{PayloadParams}
use Rattle.payload_core.specs.declared.params.TheConstants.{TELE_EVENT_MAX}
use Rattle.payload_core.specs.Codecs.{kind_of, same_kind, is_tele}

-- the payload types in their order, and how many packets back RED repeats a frame
pub record Config : Type 0 where
  pub params : List PayloadParams
  pub distances : List ℕ

abbrev pub no_format : FormatParams
no_format = record {
  min_p_time = None;
  use_inband_fec = None;
  use_dtx = None;
  level_asymmetry_allowed = None;
  packetization_mode = None;
  profile_level_id = None;
  profile_id = None;
  sprop_max_don_diff = None;
}

-- a payload type without RED and without feedback
abbrev pub plain_params : ℕ → Option ℕ → CodecSpec → PayloadParams
plain_params pt resend spec = record {
  pt = pt;
  resend = resend;
  red = None;
  spec = spec;
  fb_transport_cc = false;
  fb_pli = false;
  fb_fir = false;
}

-- what probes are sent as
abbrev pub probe_params : ℕ → PayloadParams
probe_params pt = record {
  pt = pt;
  resend = None;
  red = None;
  spec = record { codec = Null; clock_rate = 90000; channels = None; format = no_format };
  fb_transport_cc = true;
  fb_pli = false;
  fb_fir = false;
}

abbrev pub is_type : ℕ → PayloadParams → Bool
is_type pt p = p.pt == pt

-- a payload type that carries telephone events
abbrev pub is_tele_type : ℕ → PayloadParams → Bool
is_tele_type pt p = is_type pt p && is_tele p.spec.codec

-- the greatest telephone event under a payload type: the sixteen keys (RFC 4733 section 3.2)
abbrev pub tele_event_max : List PayloadParams → ℕ → Option ℕ
tele_event_max params pt = if list_any (is_tele_type pt) params then Some TELE_EVENT_MAX else None

-- none of the first n payload types carries this
abbrev pub NoneBelow : CodecSpec → List PayloadParams → ℕ → Type 0
NoneBelow spec params n = (k : ℕ) → k < n → (p : PayloadParams) → slice_get params k ≡ Some p → p.spec ≢ spec

abbrev pub NoneWith : CodecSpec → List PayloadParams → Type 0
NoneWith spec params = NoneBelow spec params (length params)

-- it is the first payload type that carries this
pub record IsFirstWith (spec : CodecSpec) (params : List PayloadParams) (p : PayloadParams) : Type 0 where
  pub place : ℕ
  pub there : slice_get params place ≡ Some p
  pub carries : p.spec ≡ spec
  pub none_before : NoneBelow spec params place

-- the payload types for a kind of media
abbrev pub for_kind : MediaKind → List PayloadParams → List PayloadParams
for_kind kind params = filter (λ p. same_kind kind (kind_of p.spec.codec)) params

abbrev pub left_of : ParamsOfKind → List PayloadParams
left_of i = for_kind i.kind i.rest.now
