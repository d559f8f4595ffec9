-- What two sessions exchange.
use Rattle.std.specs.Prelude.{ℕ, Bool, List, [], ◌∷◌, None, codes}
use Rattle.mapping_core.specs.declared.rids.Rids.TheVariants.{Any}
use Rattle.rtp_wire.specs.Extensions.{no_extensions}
use Rattle.srtp_core.specs.Toy.{toy_meaning}
use Rattle.srtp_core.specs.declared.profile.SrtpProfile.TheVariants.{AeadAes128Gcm}
use Rattle.session_core.specs.declared.config.SessionConfig.{SessionConfig}
use Rattle.session_core.specs.declared.config.TheConstants.{DATAGRAM_MTU, DATAGRAM_MTU_WARN}
use Rattle.session_core.specs.declared.datagram.Event.{Event}
use Rattle.session_core.specs.declared.datagram.Event.TheVariants.{RtpPacket, AppSpecificFeedback}
use Rattle.payload_core.specs.Params.{Config, no_format, plain_params}
use Rattle.payload_core.specs.declared.codec.Codec.TheVariants.{Vp8}
use Rattle.payload_core.specs.declared.codec.MediaKind.TheVariants.{Video}
use Rattle.session_core.specs.Calls.{fresh_session, keyed}
use Rattle.session_core.specs.SessionRecord.{SessionState, SessionRecord}

-- the payload of what is told: none where it is of streams alone
abbrev pub payload_told : Event → List ℕ
payload_told (RtpPacket packet) = packet.payload
payload_told (AppSpecificFeedback feedback) = feedback.payload
payload_told _ = []

-- VP8 as type 96, without repairs
abbrev pub vp8 : Config
vp8 = record {
  params = plain_params 96 None (record { codec = Vp8; clock_rate = 90000; channels = None; format = no_format }) ∷ [];
  distances = 1 ∷ [];
}

-- an end on which nothing was done, with the keys of one side of the material and a media section of this mid
abbrev pub end_config : SessionConfig
end_config = record {
  id = 1;
  beginning = record { unix_secs = 0 };
  mtu = record { target = DATAGRAM_MTU; warn = DATAGRAM_MTU_WARN };
  local_ssrc = 1;
  pause_threshold = 1500000000;
  intervals = record { audio = 5000000000; video = 1000000000 };
  srtcp_index = 0;
  exts = no_extensions;
  codecs = vp8;
}

abbrev pub with_media : List ℕ → SessionState → SessionState
with_media mid s = record s { medias = record { mid = mid; kind = Video; cname = codes "cam"; remote_pts = 96 ∷ []; rids = Any } ∷ [] }

abbrev pub end_of : List ℕ → List ℕ → Bool → SessionRecord
end_of material mid left =
    let fresh = fresh_session end_config in
    record fresh { state = keyed toy_meaning AeadAes128Gcm material left (with_media mid fresh.state) }
