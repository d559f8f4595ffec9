-- What is heard of goodbyes alone.
use Rattle.std.proofs.Common.{◌≡◌, ℕ, List, [], ◌∷◌, map, Option, None, refl, ap, subst, ◌∙◌}
use Rattle.rtcp_items.specs.declared.extended.DlrrItem.{DlrrItem as Delay}
use Rattle.rtcp_wire.specs.declared.feedback.AppSpecificFeedback.{AppSpecificFeedback as Application}
use Rattle.rtcp_wire.specs.declared.rtcp_fb.RtcpFb.{RtcpFb}
use Rattle.rtcp_wire.specs.declared.rtcp_fb.RtcpFb.TheVariants.{Goodbye}
use Rattle.report_core.specs.declared.moments.ReceiverMoment.{ReceiverMoment}
use Rattle.stream_core.specs.Repairing.{RepairsRecord}
use Rattle.stream_core.specs.RxRecord.{RxRecord}
use Rattle.stream_core.specs.TxRecord.{TxRecord}
use Rattle.session_core.specs.Hearing.{feedback_in, tx_heard, last_application, AskedBy, AskedByAll, by_nack, by_none, asked_none, asked_next, last_delay, measured, ntp_of, after_rtcp}
use Rattle.session_core.specs.News.{NewsRecord, news_heard}
use Rattle.session_core.specs.Reports.{rx_heard, moments_heard}
use Rattle.session_core.specs.SessionRecord.{SessionRecord}

tells_none : (ss : List ℕ) (es : List (ℕ × TxRecord)) → tx_heard (map Goodbye ss) es ≡ es
tells_none [] es = refl
tells_none (s ∷ ss) es = tells_none ss es

no_application : (ss : List ℕ) (before : Option Application) → last_application (map Goodbye ss) before ≡ before
no_application [] before = refl
no_application (s ∷ ss) before = no_application ss before

no_delay : (local : ℕ) (tx : List (ℕ × TxRecord)) (ss : List ℕ) (before : Option Delay) → last_delay local tx (map Goodbye ss) before ≡ before
no_delay local tx [] before = refl
no_delay local tx (s ∷ ss) before = no_delay local tx ss before

module _ (now : ℕ) where
  no_moments : (ss : List ℕ) (ms : List ReceiverMoment) → moments_heard now (map Goodbye ss) ms ≡ ms
  no_moments [] ms = refl
  no_moments (s ∷ ss) ms = no_moments ss ms

  no_news : (tx : List (ℕ × TxRecord)) (rx : List (ℕ × RxRecord)) (ss : List ℕ) (n : NewsRecord) → news_heard now tx rx (map Goodbye ss) n ≡ n
  no_news tx rx [] n = refl
  no_news tx rx (s ∷ ss) n = no_news tx rx ss n

  no_senders : (ss : List ℕ) (rx : List (ℕ × RxRecord)) → rx_heard now (map Goodbye ss) rx ≡ rx
  no_senders [] rx = refl
  no_senders (s ∷ ss) rx = no_senders ss rx

  asks_nothing : (s : ℕ) (qs after : List (ℕ × RepairsRecord)) → AskedBy now (Goodbye s) qs after → after ≡ qs
  asks_nothing s qs after (by_nack ssrc entries _ is names) = absurd cc
  asks_nothing s qs _ (by_none not_nack) = refl

  ask_nothing : (ss : List ℕ) (qs after : List (ℕ × RepairsRecord)) → AskedByAll now (map Goodbye ss) qs after → after ≡ qs
  ask_nothing [] qs _ (asked_none _) = refl
  ask_nothing (s ∷ ss) qs after (asked_next _ _ _ between _ first rest) = ask_nothing ss between after rest ∙ asks_nothing s qs between first

  heard : SessionRecord → List (ℕ × RepairsRecord) → List RtcpFb → SessionRecord
  heard r repairs fs = record r {
    state = record r.state {
      tx = tx_heard fs r.state.tx;
      application = last_application fs r.state.application;
      moments = moments_heard now fs r.state.moments;
      news = news_heard now r.state.tx r.rx fs r.state.news;
    };
    rx = rx_heard now fs (measured (ntp_of r.state now) (last_delay r.state.local_ssrc r.state.tx fs None) r.rx);
    repairs = repairs;
  }

  pub goodbyes_heard : (plain ssrcs : List ℕ) (r : SessionRecord) (repairs : List (ℕ × RepairsRecord)) → feedback_in plain ≡ map Goodbye ssrcs
      → AskedByAll now (feedback_in plain) r.repairs repairs → after_rtcp now plain repairs r ≡ r
  unfolding heard
  goodbyes_heard plain ss r repairs are asked =
      let left = ask_nothing ss r.repairs repairs (subst (λ (fs : List RtcpFb). AskedByAll now fs r.repairs repairs) are asked) in
      let tx = tells_none ss r.state.tx in
      let application = no_application ss r.state.application in
      let moments = no_moments ss r.state.moments in
      let news = no_news r.state.tx r.rx ss r.state.news in
      let rx =
      no_senders ss (measured (ntp_of r.state now) (last_delay r.state.local_ssrc r.state.tx (map Goodbye ss) None) r.rx)
      ∙ ap (λ (d : Option Delay). measured (ntp_of r.state now) d r.rx) (no_delay r.state.local_ssrc r.state.tx ss None) in
      ap (heard r repairs) are
      ∙ (λ j. record r {
        state = record r.state { tx = tx j; application = application j; moments = moments j; news = news j };
        rx = rx j;
        repairs = left j;
      })
