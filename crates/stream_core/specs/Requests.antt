-- What incoming streams ask of their senders (RFC 4585 section 6.3.1, RFC 5104 section 4.3.1, draft-alvestrand-rmcat-remb).
use Rattle.std.specs.Prelude.{ℕ, ◌+◌, ◌%◌, ◌||◌, min, Bool, is_some, List, [], ◌∷◌, ◌++◌, Option, Some, None}
use Rattle.media_units.specs.declared.rate.TheConstants.{GREATEST_RATE}
use Rattle.rtcp_wire.specs.declared.packet.Rtcp.{Rtcp}
use Rattle.rtcp_wire.specs.declared.packet.Rtcp.TheVariants as rtcp
use Rattle.rtp_base.specs.declared.keyframe_request.KeyframeRequestKind.{KeyframeRequestKind}
use Rattle.rtp_base.specs.declared.keyframe_request.KeyframeRequestKind.TheVariants.{Pli, Fir}
use Rattle.stream_core.specs.declared.requests.RxRequests.{RxRequests}

-- nothing is asked, and no full intra request was made
abbrev pub no_requests : RxRequests
no_requests = record { keyframe = None; bitrate = None; fir_number = 0 }

-- something is asked
abbrev pub is_request : RxRequests → Bool
is_request q = is_some q.keyframe || is_some q.bitrate

-- how many items ask for it
abbrev pub one_of : {X : Type 0} → Option X → ℕ
one_of None = 0
one_of (Some x) = 1

abbrev pub request_count : RxRequests → ℕ
request_count q = one_of q.keyframe + one_of q.bitrate

-- the item of one sender that asks the source of an SSRC for a key frame: a full intra request has a number
abbrev pub keyframe_with : (sender ssrc fir_number : ℕ) → Option KeyframeRequestKind → List Rtcp
keyframe_with sender ssrc fir_number None = []
keyframe_with sender ssrc fir_number (Some Pli) = rtcp.Pli (record { sender_ssrc = sender; ssrc = ssrc }) ∷ []
keyframe_with sender ssrc fir_number (Some Fir) =
    rtcp.Fir (record { sender_ssrc = sender; reports = record { ssrc = ssrc; seq_no = fir_number } ∷ [] }) ∷ []

abbrev pub keyframe_items : (sender ssrc : ℕ) → RxRequests → List Rtcp
keyframe_items sender ssrc q = keyframe_with sender ssrc q.fir_number q.keyframe

-- the item that tells it the greatest rate, which is 10 Gbit/s at most
abbrev pub bitrate_with : (sender ssrc : ℕ) → Option ℕ → List Rtcp
bitrate_with sender ssrc None = []
bitrate_with sender ssrc (Some rate) = rtcp.Remb (record { sender_ssrc = sender; bitrate = min rate GREATEST_RATE; ssrcs = ssrc ∷ [] }) ∷ []

abbrev pub bitrate_items : (sender ssrc : ℕ) → RxRequests → List Rtcp
bitrate_items sender ssrc q = bitrate_with sender ssrc q.bitrate

-- all that asks it, for a key frame first
abbrev pub request_items : (sender ssrc : ℕ) → RxRequests → List Rtcp
request_items sender ssrc q = keyframe_items sender ssrc q ++ bitrate_items sender ssrc q

-- the number of the full intra request that follows on one with this number
abbrev pub next_fir : Option KeyframeRequestKind → ℕ → ℕ
next_fir None n = n
next_fir (Some Pli) n = n
next_fir (Some Fir) n = (n + 1) % 256

-- all that was asked was told
abbrev pub told_requests : RxRequests → RxRequests
told_requests q = record { keyframe = None; bitrate = None; fir_number = next_fir q.keyframe q.fir_number }

-- a key frame is asked for, in place of a request that waits; and a rate told, in place of one that waits
abbrev pub with_keyframe : KeyframeRequestKind → RxRequests → RxRequests
with_keyframe kind q = record q { keyframe = Some kind }

abbrev pub with_bitrate : ℕ → RxRequests → RxRequests
with_bitrate rate q = record q { bitrate = Some rate }
