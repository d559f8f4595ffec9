-- Feedback that is heard item by item.
use Rattle.std.proofs.Common.{◌≡◌, ℕ, List, [], ◌∷◌, ◌++◌, length, take, Option, refl, sym, ap, ◌∙◌, arith}
use Rattle.std.proofs.lemmas.List.{take_all}
use Rattle.std.specs.Option.{option_or}
use Rattle.rtcp_wire.specs.declared.feedback.AppSpecificFeedback.{AppSpecificFeedback}
use Rattle.rtcp_wire.specs.declared.rtcp_fb.RtcpFb.{RtcpFb}
use Rattle.srtp_core.specs.Contexts.{SrtpState}
use Rattle.stream_core.specs.TxRecord.{TxRecord}
use Rattle.session_core.specs.Hearing.{feedback_in, tx_heard_by, tx_heard, application_in, last_application, state_heard}
use Rattle.report_core.specs.declared.moments.ReceiverMoment.{ReceiverMoment}
use Rattle.stream_core.specs.RxRecord.{RxRecord}
use Rattle.session_core.specs.News.{NewsRecord, news_heard_by, news_heard}
use Rattle.session_core.specs.Reports.{rx_heard_by, rx_heard, moments_heard_by, moments_heard}
use Rattle.session_core.specs.SessionRecord.{SessionState}

-- all items are as many in front
pub all_taken : (fs : List RtcpFb) → fs ≡ take (length fs) fs
all_taken fs = sym (take_all (length fs) fs (omega arith))

pub tx_more : (fs : List RtcpFb) (f : RtcpFb) (es : List (ℕ × TxRecord)) → tx_heard (fs ++ f ∷ []) es ≡ tx_heard_by f (tx_heard fs es)
tx_more [] f es = refl
tx_more (g ∷ fs) f es = tx_more fs f (tx_heard_by g es)

pub application_more : (fs : List RtcpFb) (f : RtcpFb) (before : Option AppSpecificFeedback) → last_application (fs ++ f ∷ []) before ≡ option_or (application_in f) (last_application fs before)
application_more [] f before = refl
application_more (g ∷ fs) f before = application_more fs f (option_or (application_in g) before)

pub rx_more : (now : ℕ) (fs : List RtcpFb) (f : RtcpFb) (rx : List (ℕ × RxRecord)) → rx_heard now (fs ++ f ∷ []) rx ≡ rx_heard_by now f (rx_heard now fs rx)
rx_more now [] f rx = refl
rx_more now (g ∷ fs) f rx = rx_more now fs f (rx_heard_by now g rx)

pub moments_more : (now : ℕ) (fs : List RtcpFb) (f : RtcpFb) (ms : List ReceiverMoment) → moments_heard now (fs ++ f ∷ []) ms ≡ moments_heard_by now f (moments_heard now fs ms)
moments_more now [] f ms = refl
moments_more now (g ∷ fs) f ms = moments_more now fs f (moments_heard_by now g ms)

pub news_more : (now : ℕ) (tx : List (ℕ × TxRecord)) (rx : List (ℕ × RxRecord)) (fs : List RtcpFb) (f : RtcpFb) (n : NewsRecord)
    → news_heard now tx rx (fs ++ f ∷ []) n ≡ news_heard_by now tx rx f (news_heard now tx rx fs n)
news_more now tx rx [] f n = refl
news_more now tx rx (g ∷ fs) f n = news_more now tx rx fs f (news_heard_by now tx rx g n)

-- the state after a packet opened
pub heard_state : (s r : SessionState) (now : ℕ) (plain : List ℕ) (rx : List (ℕ × RxRecord)) (threshold : ℕ) (opening : Option SrtpState) (tx : List (ℕ × TxRecord)) (application : Option AppSpecificFeedback)
    (moments : List ReceiverMoment) (news : NewsRecord) → s ≡ r → threshold ≡ s.pause_threshold → opening ≡ s.opening → tx ≡ tx_heard (feedback_in plain) s.tx
    → application ≡ last_application (feedback_in plain) s.application → moments ≡ moments_heard now (feedback_in plain) s.moments → news ≡ news_heard now s.tx rx (feedback_in plain) s.news
    → record s { pause_threshold = threshold; opening = opening; tx = tx; application = application; moments = moments; news = news } ≡ state_heard now plain rx r
heard_state s r now plain rx threshold opening tx application moments news same h o x a m n =
    let changed : record s { pause_threshold = threshold; opening = opening; tx = tx; application = application; moments = moments; news = news } ≡ state_heard now plain rx s =
    λ j. record s { pause_threshold = h j; opening = o j; tx = x j; application = a j; moments = m j; news = n j } in
    changed ∙ ap {A = SessionState} {B = SessionState} (state_heard now plain rx) same
