-- What the peer asks and tells of streams, and waits to be told to the application.
use Rattle.std.specs.Prelude.{ℕ, ◌+◌, ◌==◌, not, List, [], ◌∷◌, ◌++◌, length, filter, map, position, slice_set, Option, Some, None}
use Rattle.std.specs.Cmp.Lexicographic.{pointwise}
use Rattle.rtcp_items.specs.declared.report.SenderInfo.{SenderInfo}
use Rattle.rtcp_wire.specs.declared.rtcp_fb.RtcpFb.{RtcpFb}
use Rattle.rtcp_wire.specs.declared.rtcp_fb.RtcpFb.TheVariants as feedback
use Rattle.rtp_base.specs.declared.keyframe_request.KeyframeRequestKind.{KeyframeRequestKind}
use Rattle.rtp_base.specs.declared.keyframe_request.KeyframeRequestKind.TheVariants.{Pli, Fir}
use Rattle.stream_core.specs.RxRecord.{RxRecord}
use Rattle.stream_core.specs.Tables.{value_under}
use Rattle.stream_core.specs.TxRecord.{TxRecord}
use Rattle.session_core.specs.declared.datagram.Event.{Event}
use Rattle.session_core.specs.declared.datagram.Event.TheVariants as event
use Rattle.session_core.specs.declared.news.KeyframeRequest.{KeyframeRequest}
use Rattle.session_core.specs.declared.news.RembRequest.{RembRequest}
use Rattle.session_core.specs.declared.news.SenderFeedback.{SenderFeedback}

-- what waits, each under the SSRC of its stream: key frames that are asked for, reports of senders, and greatest rates
pub record NewsRecord : Type 0 where
  pub keyframes : List (ℕ × KeyframeRequest)
  pub senders : List (ℕ × SenderFeedback)
  pub rates : List (ℕ × RembRequest)

abbrev pub no_news : NewsRecord
no_news = record { keyframes = []; senders = []; rates = [] }

-- in place of what waits under the SSRC, or behind the others where nothing does
abbrev pub put_at : {E : Type 0} → Option ℕ → ℕ → E → List (ℕ × E) → List (ℕ × E)
put_at None ssrc e es = es ++ (ssrc, e) ∷ []
put_at (Some place) ssrc e es = slice_set es place (ssrc, e)

abbrev pub put : {E : Type 0} → ℕ → E → List (ℕ × E) → List (ℕ × E)
put ssrc e es = put_at (position (λ x. x.0 == ssrc) es) ssrc e es

-- a key frame of an outgoing stream is asked for, where there is the stream
abbrev pub with_keyframe : ℕ → Option TxRecord → KeyframeRequestKind → NewsRecord → NewsRecord
with_keyframe ssrc None kind n = n
with_keyframe ssrc (Some x) kind n = record n { keyframes = put ssrc (record { mid = x.mid; rid = x.rid; kind = kind }) n.keyframes }

-- the sender of an incoming stream reported at a moment
abbrev pub with_sender : Option RxRecord → SenderInfo → ℕ → NewsRecord → NewsRecord
with_sender None info now n = n
with_sender (Some x) info now n =
    record n { senders = put info.ssrc (record { mid = x.state.mid; rid = x.state.rid; received_at = now; sender_info = info }) n.senders }

-- the greatest rate of an outgoing stream is told
abbrev pub with_rate : ℕ → Option TxRecord → ℕ → NewsRecord → NewsRecord
with_rate ssrc None rate n = n
with_rate ssrc (Some x) rate n = record n { rates = put ssrc (record { mid = x.mid; bitrate = rate }) n.rates }

-- what waits after an item came at a moment, and after items came, in order
abbrev pub news_heard_by : ℕ → List (ℕ × TxRecord) → List (ℕ × RxRecord) → RtcpFb → NewsRecord → NewsRecord
news_heard_by now tx rx (feedback.Pli p) n = with_keyframe p.ssrc (value_under p.ssrc tx) Pli n
news_heard_by now tx rx (feedback.Fir f) n = with_keyframe f.ssrc (value_under f.ssrc tx) Fir n
news_heard_by now tx rx (feedback.SenderInfo i) n = with_sender (value_under i.ssrc rx) i now n
news_heard_by now tx rx (feedback.Remb ssrc rate) n = with_rate ssrc (value_under ssrc tx) rate n
news_heard_by now tx rx _ n = n

abbrev pub news_heard : ℕ → List (ℕ × TxRecord) → List (ℕ × RxRecord) → List RtcpFb → NewsRecord → NewsRecord
news_heard now tx rx [] n = n
news_heard now tx rx (f ∷ fs) n = news_heard now tx rx fs (news_heard_by now tx rx f n)

-- what waits without what is of the streams of a media section
abbrev pub news_without : List ℕ → NewsRecord → NewsRecord
news_without mid n = record {
  keyframes = filter (λ w. not (pointwise ◌==◌ w.1.mid mid)) n.keyframes;
  senders = filter (λ w. not (pointwise ◌==◌ w.1.mid mid)) n.senders;
  rates = filter (λ w. not (pointwise ◌==◌ w.1.mid mid)) n.rates;
}

-- the events that tell it, in order: all requests for key frames, all reports of senders, all rates
abbrev pub keyframe_event : ℕ × KeyframeRequest → Event
keyframe_event w = event.KeyframeRequest w.1

abbrev pub sender_event : ℕ × SenderFeedback → Event
sender_event w = event.SenderFeedback w.1

abbrev pub rate_event : ℕ × RembRequest → Event
rate_event w = event.Remb w.1

abbrev pub news_told : NewsRecord → List Event
news_told n = map keyframe_event n.keyframes ++ (map sender_event n.senders ++ map rate_event n.rates)

abbrev pub news_count : NewsRecord → ℕ
news_count n = length n.keyframes + (length n.senders + length n.rates)

-- the first of them, and what waits then
abbrev pub first_of : List (ℕ × KeyframeRequest) → List (ℕ × SenderFeedback) → List (ℕ × RembRequest) → Option Event
first_of (k ∷ ks) ss rs = Some (keyframe_event k)
first_of [] (s ∷ ss) rs = Some (sender_event s)
first_of [] [] (r ∷ rs) = Some (rate_event r)
first_of [] [] [] = None

abbrev pub rest_of : List (ℕ × KeyframeRequest) → List (ℕ × SenderFeedback) → List (ℕ × RembRequest) → NewsRecord
rest_of (k ∷ ks) ss rs = record { keyframes = ks; senders = ss; rates = rs }
rest_of [] (s ∷ ss) rs = record { keyframes = []; senders = ss; rates = rs }
rest_of [] [] (r ∷ rs) = record { keyframes = []; senders = []; rates = rs }
rest_of [] [] [] = no_news

abbrev pub next_news : NewsRecord → Option Event
next_news n = first_of n.keyframes n.senders n.rates

abbrev pub after_news : NewsRecord → NewsRecord
after_news n = rest_of n.keyframes n.senders n.rates
