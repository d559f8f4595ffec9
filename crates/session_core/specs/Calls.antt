-- What the calls of a session answer, and what they leave.
use Rattle.std.specs.Prelude.{◌≡◌, ◌+◌, ◌==◌, ◌&&◌, ◌||◌, ℕ, Bool, true, false, not, is_none, if◌then◌else◌, List, [], ◌∷◌, ◌++◌, map, Option, Some, None}
use Rattle.std.specs.Option.{option_map, option_to_list}
use Rattle.std.specs.Cmp.Lexicographic.{pointwise}
use Rattle.rtp_base.specs.Ids.{halved}
use Rattle.rtcp_wire.specs.declared.packet.Rtcp.{Rtcp}
use Rattle.rtcp_wire.specs.declared.feedback.AppSpecificFeedback.{AppSpecificFeedback}
use Rattle.srtp_core.specs.Cipher.{CipherMeaning}
use Rattle.srtp_core.specs.Contexts.{new_state}
use Rattle.srtp_core.specs.declared.profile.SrtpProfile.{SrtpProfile}
use Rattle.stream_core.specs.declared.packet.RtpPacket.{RtpPacket}
use Rattle.stream_core.specs.declared.stream_paused.StreamPaused.{StreamPaused}
use Rattle.stream_core.specs.Known.{none_known}
use Rattle.stream_core.specs.Pauses.{on_record, told as stream_told, next_pause, after_pause, pauses, untold_in, first_pause}
use Rattle.media_units.specs.Soonest.{earlier}
use Rattle.stream_core.specs.RxRecord.{expected}
use Rattle.stream_core.specs.Tables.{each}
use Rattle.session_core.specs.declared.config.SessionConfig.{SessionConfig}
use Rattle.session_core.specs.declared.datagram.Event.{Event}
use Rattle.session_core.specs.declared.datagram.Event.TheVariants as event
use Rattle.session_core.specs.SessionRecord.{SessionState, SessionView, SessionRecord}
use Rattle.session_core.specs.News.{NewsRecord, no_news, news_told, news_count, next_news, after_news}
use Rattle.session_core.specs.Reports.{reports_at}
use Rattle.session_core.specs.Rounds.{requests_at, round_at, send_at}
use Rattle.session_core.specs.Sending.{has_mid}
use Rattle.session_core.specs.Types.{types_of}
use Rattle.stream_core.specs.Requests.{one_of}

-- the mid of the stream on which probes come: the text 0
abbrev pub probe_mid : List ℕ
probe_mid = 48 ∷ []

-- a session on which nothing was done
abbrev pub fresh_session : SessionConfig → SessionRecord
fresh_session config = record {
  state = record {
    id = halved config.id;
    target = config.mtu.target;
    local_ssrc = config.local_ssrc;
    pause_threshold = config.pause_threshold;
    app = None;
    codecs = config.codecs;
    types = types_of config.codecs.params;
    medias = [];
    sealing = None;
    opening = None;
    first_index = config.srtcp_index;
    tx = [];
    transport = record { exts = config.exts; beginning = config.beginning; twcc = 0 };
    last_round = 0;
    released = false;
    intervals = config.intervals;
    moments = [];
    feedback = [];
    application = None;
    packet = None;
    news = no_news;
    stopped = false;
  };
  rx = [];
  known = none_known;
  probes = expected 0 None probe_mid None true config.pause_threshold;
  seen = [];
  repairs = [];
}

-- the keys of one end, which seals as the left side of the material or as the right one; the indices of SRTCP datagrams
-- under the keys after these begin with 0
abbrev pub keyed : CipherMeaning → SrtpProfile → List ℕ → Bool → SessionState → SessionState
keyed cipher profile material left s = record s {
  sealing = Some (new_state cipher profile material left s.first_index);
  opening = Some (new_state cipher profile material (not left) 0);
  first_index = 0;
}

-- there are no keys
abbrev pub lacks_keys : SessionState → Bool
lacks_keys s = is_none s.sealing || is_none s.opening

-- what is told next, where there are keys: the feedback of an application that came last, then which incoming streams were
-- paused or unpaused, in order, then the packet, then what the peer asked and told of streams
abbrev pub next_of : Option AppSpecificFeedback → Option StreamPaused → Option RtpPacket → NewsRecord → Option Event
next_of (Some f) paused packet news = Some (event.AppSpecificFeedback f)
next_of None (Some p) packet news = Some (event.StreamPaused p)
next_of None None (Some q) news = Some (event.RtpPacket q)
next_of None None None news = next_news news

abbrev pub next_event : SessionRecord → Option Event
next_event r = if lacks_keys r.state then None else next_of r.state.application (next_pause r.rx) r.state.packet r.state.news

abbrev pub after_next : Option AppSpecificFeedback → Option StreamPaused → Option RtpPacket → SessionRecord → SessionRecord
after_next (Some f) paused packet r = record r { state = record r.state { application = None } }
after_next None (Some p) packet r = record r { rx = after_pause r.rx }
after_next None None (Some q) r = record r { state = record r.state { packet = None } }
after_next None None None r = record r { state = record r.state { news = after_news r.state.news } }

abbrev pub after_event : SessionRecord → SessionRecord
after_event r = if lacks_keys r.state then r else after_next r.state.application (next_pause r.rx) r.state.packet r

-- how much waits to be told

abbrev pub events_in : {W S : Type 0} → SessionView W S → ℕ
events_in s = one_of s.state.application + (untold_in s.rx + (one_of s.state.packet + news_count s.state.news))

-- all that is told, in order
abbrev pub told : SessionRecord → List Event
told r =
    if lacks_keys r.state then []
    else option_to_list (option_map event.AppSpecificFeedback r.state.application)
    ++ (map event.StreamPaused (pauses r.rx) ++ (option_to_list (option_map event.RtpPacket r.state.packet) ++ news_told r.state.news))

-- the state where nothing waits to be told
abbrev pub silenced : SessionState → SessionState
silenced s = record s { application = None; packet = None; news = no_news }

abbrev pub state_told : SessionState → SessionState
state_told s = if lacks_keys s then s else silenced s

abbrev pub after_events : SessionRecord → SessionRecord
after_events r = record r { state = state_told r.state; rx = if lacks_keys r.state then r.rx else each (on_record stream_told) r.rx }

-- a poll gives the first of what is told, and none where nothing is left
abbrev pub Polled : SessionRecord → Option Event → SessionRecord → Type 0
Polled r None after = (told r ≡ []) × (after ≡ after_events r)
Polled r (Some e) after = (told r ≡ e ∷ told after) × (after_events after ≡ after_events r)

-- one more item of feedback waits
abbrev pub with_feedback : Rtcp → SessionState → SessionState
with_feedback x s = record s { feedback = s.feedback ++ x ∷ [] }

-- when a tick is wanted: for reports, for requests of streams to their senders, for a round, to pause a stream, and at once where
-- some packet was written since the last one
abbrev pub wake_of : SessionRecord → Option ℕ
wake_of r =
    earlier (earlier (reports_at r) (requests_at r))
    (earlier (round_at r) (earlier (earlier (first_pause r.rx) r.probes.state.pause_at) (send_at r.state)))

abbrev pub is_app : List ℕ → Option (List ℕ × ℕ) → Bool
is_app mid None = false
is_app mid (Some a) = pointwise ◌==◌ a.0 mid

-- some media section has this mid, or the data channel
abbrev pub has_media : List ℕ → SessionState → Bool
has_media mid s = has_mid mid s.medias || is_app mid s.app

-- the data channel has another mid, or this mid and another place
abbrev pub has_other_mid : List ℕ → Option (List ℕ × ℕ) → Bool
has_other_mid mid None = false
has_other_mid mid (Some a) = not (pointwise ◌==◌ a.0 mid)

abbrev pub has_other_place : List ℕ → ℕ → Option (List ℕ × ℕ) → Bool
has_other_place mid index None = false
has_other_place mid index (Some a) = pointwise ◌==◌ a.0 mid && not (a.1 == index)
