use Rattle.std.proofs.Common.{◌≡◌, ℕ, List, Option, Some, None, length, take, sym, ap, subst, ◌∙◌}
use Rattle.rtp_base.specs.declared.kind.Kind.TheVariants.{Rtcp}
use Rattle.rtcp_items.specs.declared.extended.DlrrItem.{DlrrItem}
use Rattle.rtcp_wire.specs.declared.rtcp_fb.RtcpFb.{RtcpFb}
use Rattle.srtp_core.specs.RtcpSeals.{sender_of}
use Rattle.stream_core.specs.Repairing.{RepairsRecord, RepairsStandFor}
use Rattle.stream_core.specs.RxRecord.{StandsFor as StreamStandsFor}
use Rattle.stream_core.specs.StreamsRecord.{StreamsView, StreamsRecord, StandsFor as StreamsStand}
use Rattle.stream_core.specs.Tables.{Along}
use Rattle.session_core.specs.declared.datagram.Opened.{Opened}
use Rattle.session_core.specs.Hearing.{RtcpOpensIn, stated, rtcp_opening_of, feedback_in, tx_heard, last_application, last_delay, measured, ntp_of, after_rtcp, AskedByAll, ReceivesRtcp, opened, stays, HearsFront, unheard, heard_front, AsksFront, unasked, asked_front, asked_all, MomentsFront, no_moments_more, moments_front, NewsFront, no_news_more, news_front}
use Rattle.session_core.specs.News.{news_heard}
use Rattle.session_core.specs.Reports.{rx_heard, moments_heard}
use Rattle.session_core.specs.SessionRecord.{streams_in, SessionRecord, SessionState, SessionView, StandsFor}
use Rattle.session_core.proofs.StreamsIn.{streams_stand}
use Rattle.session_core.proofs.Failing.{on_err_any}
use Rattle.session_core.proofs.Heard.{all_taken, heard_state}
use Rattle.session_core.proofs.Others.{opening_kept}
use Rattle.session_core.proofs.session.Session.receive_rtcp.Goals as goal

pub returns-in_default-clause-received : goal.returns-in_default-clause-received
returns-in_default-clause-received g c = λ r h.
    let K = g.C.SrtpCipher.meaning in
    let mine = subst (λ s. StandsFor g.W.GapWindow.remembers g.S.ResendStore.stands_for s r) (sym c.self.view_is) h in
    let none : (p : List ℕ) → RtcpOpensIn K c.self.inside.opening c.args.bytes.now p → ⊥ = rw c.in_default.is at c.in_ok-plain.ensures.none in (
      r,
      stays (subst (λ (s : SessionState). (p : List ℕ) → RtcpOpensIn K s.opening c.args.bytes.now p → ⊥) mine.state none),
      record {
        state = opening_kept _ r.state c.open_rtcp.new.opening mine.state c.open_rtcp.ensures.same;
        rx = mine.rx;
        probes = mine.probes;
        seen = mine.seen;
        known = mine.known;
        repairs = mine.repairs;
      },
    )

pub returns-in_err-plain-clause-heard : goal.returns-in_err-plain-clause-heard
returns-in_err-plain-clause-heard g c = on_err_any c.from_residual.result (unheard (ap (λ (v : SessionView g.row.W.Denot g.row.S.Denot). v.state.tx) c.self.view_is))

pub returns-in_err-feedback-clause-heard : goal.returns-in_err-feedback-clause-heard
returns-in_err-feedback-clause-heard g c = on_err_any _ (unheard (ap (λ (v : SessionView g.row.W.Denot g.row.S.Denot). v.state.tx) c.self.view_is))

pub returns-in_err-ask_all-clause-heard : goal.returns-in_err-ask_all-clause-heard
returns-in_err-ask_all-clause-heard g c =
    on_err_any _ (unheard (ap (λ (v : StreamsView g.row.W.Denot g.row.S.Denot). v.tx) c.in_err-ask_all.ensures.others ∙ ap (λ (v : SessionView g.row.W.Denot g.row.S.Denot). v.state.tx) c.self.view_is))

pub returns-in_err-take_moments-clause-heard : goal.returns-in_err-take_moments-clause-heard
returns-in_err-take_moments-clause-heard g c =
    on_err_any _ (unheard (ap (λ (v : StreamsView g.row.W.Denot g.row.S.Denot). v.tx) c.in_ok-ask_all.ensures.others ∙ ap (λ (v : SessionView g.row.W.Denot g.row.S.Denot). v.state.tx) c.self.view_is))

pub returns-in_err-hear-clause-heard : goal.returns-in_err-hear-clause-heard
returns-in_err-hear-clause-heard g c =
    on_err_any _ (unheard (ap (λ (v : StreamsView g.row.W.Denot g.row.S.Denot). v.tx) c.in_ok-ask_all.ensures.others ∙ ap (λ (v : SessionView g.row.W.Denot g.row.S.Denot). v.state.tx) c.self.view_is))

pub returns-in_err-tell_all-clause-heard : goal.returns-in_err-tell_all-clause-heard
returns-in_err-tell_all-clause-heard g c =
    let K = g.C.SrtpCipher.meaning in
    let bytes = c.args.bytes.now in
    let plain = c.in-Some.field-0.plain in
    let opens : RtcpOpensIn K c.self.inside.opening bytes plain = rw c.in-Some.is at c.in_ok-plain.ensures.opened in
    let heard : c.in_ok-feedback.feedback.items ≡ feedback_in plain = c.in_ok-feedback.ensures ∙ ap feedback_in c.as_slice.ensures in
    let told_by : c.as_slice-6.result.now ≡ feedback_in plain = c.as_slice-6.ensures.value ∙ heard in
    let front = c.in_err-tell_all.ensures.err in
    let tx : c.tell_all.new.streams.tx ≡ tx_heard (take front.0 (feedback_in plain)) c.self.inside.streams.tx =
    ap (λ (v : StreamsView g.row.W.Denot g.row.S.Denot). v.tx) front.1
    ∙ ap (λ (l : List RtcpFb). tx_heard (take front.0 l) c.ask_all.new.streams.tx) told_by
    ∙ ap (λ (v : StreamsView g.row.W.Denot g.row.S.Denot). tx_heard (take front.0 (feedback_in plain)) v.tx) c.in_ok-ask_all.ensures.others in
    on_err_any _ (subst (λ (v : SessionView g.row.W.Denot g.row.S.Denot). HearsFront K v.state.opening bytes v.state.tx c.tell_all.new.streams.tx) c.self.view_is (heard_front plain front.0 opens tx))

pub returns-in_err-plain-clause-asked : goal.returns-in_err-plain-clause-asked
returns-in_err-plain-clause-asked g c =
    let front : (r : SessionRecord) → StandsFor g.W.GapWindow.remembers g.S.ResendStore.stands_for c.args.self.now r
    → (after : List (ℕ × RepairsRecord)) × AsksFront g.C.SrtpCipher.meaning r.state.opening c.args.bytes.now c.args.now r.repairs after
    × Along (RepairsStandFor g.S.ResendStore.stands_for) c.self.inside.streams.repairs after =
    λ r h.
    let mine = subst (λ s. StandsFor g.W.GapWindow.remembers g.S.ResendStore.stands_for s r) (sym c.self.view_is) h in
    (r.repairs, unasked, mine.repairs) in
    on_err_any c.from_residual.result front

pub returns-in_err-feedback-clause-asked : goal.returns-in_err-feedback-clause-asked
returns-in_err-feedback-clause-asked g c =
    let front : (r : SessionRecord) → StandsFor g.W.GapWindow.remembers g.S.ResendStore.stands_for c.args.self.now r
    → (after : List (ℕ × RepairsRecord)) × AsksFront g.C.SrtpCipher.meaning r.state.opening c.args.bytes.now c.args.now r.repairs after
    × Along (RepairsStandFor g.S.ResendStore.stands_for) c.self.inside.streams.repairs after =
    λ r h.
    let mine = subst (λ s. StandsFor g.W.GapWindow.remembers g.S.ResendStore.stands_for s r) (sym c.self.view_is) h in
    (r.repairs, unasked, mine.repairs) in
    on_err_any _ front

pub returns-in_err-ask_all-clause-asked : goal.returns-in_err-ask_all-clause-asked
returns-in_err-ask_all-clause-asked g c =
    let front : (r : SessionRecord) → StandsFor g.W.GapWindow.remembers g.S.ResendStore.stands_for c.args.self.now r
    → (after : List (ℕ × RepairsRecord)) × AsksFront g.C.SrtpCipher.meaning r.state.opening c.args.bytes.now c.args.now r.repairs after
    × Along (RepairsStandFor g.S.ResendStore.stands_for) c.ask_all.new.streams.repairs after =
    λ r h.
    let K = g.C.SrtpCipher.meaning in
    let bytes = c.args.bytes.now in
    let plain = c.in-Some.field-0.plain in
    let mine = subst (λ s. StandsFor g.W.GapWindow.remembers g.S.ResendStore.stands_for s r) (sym c.self.view_is) h in
    let opens : RtcpOpensIn K c.self.inside.opening bytes plain = rw c.in-Some.is at c.in_ok-plain.ensures.opened in
    let opens_so : RtcpOpensIn K r.state.opening bytes plain = subst (λ (s : SessionState). RtcpOpensIn K s.opening bytes plain) mine.state opens in
    let heard : c.in_ok-feedback.feedback.items ≡ feedback_in plain = c.in_ok-feedback.ensures ∙ ap feedback_in c.as_slice.ensures in
    let stands = streams_stand g.W.GapWindow.remembers g.S.ResendStore.stands_for _ r mine in
    let front = c.in_err-ask_all.ensures.err (streams_in r) stands in
    let asked = front.1 in
    (asked.0, asked_front plain front.0 asked.0 opens_so (subst (λ (fs : List RtcpFb). AskedByAll c.args.now (take front.0 fs) r.repairs asked.0) (c.as_slice-3.ensures.value ∙ heard) asked.1), asked.2.repairs) in
    on_err_any _ front

pub returns-in_err-take_moments-clause-asked : goal.returns-in_err-take_moments-clause-asked
returns-in_err-take_moments-clause-asked g c =
    let front : (r : SessionRecord) → StandsFor g.W.GapWindow.remembers g.S.ResendStore.stands_for c.args.self.now r
    → (after : List (ℕ × RepairsRecord)) × AsksFront g.C.SrtpCipher.meaning r.state.opening c.args.bytes.now c.args.now r.repairs after
    × Along (RepairsStandFor g.S.ResendStore.stands_for) c.ask_all.new.streams.repairs after =
    λ r h.
    let K = g.C.SrtpCipher.meaning in
    let bytes = c.args.bytes.now in
    let plain = c.in-Some.field-0.plain in
    let mine = subst (λ s. StandsFor g.W.GapWindow.remembers g.S.ResendStore.stands_for s r) (sym c.self.view_is) h in
    let opens : RtcpOpensIn K c.self.inside.opening bytes plain = rw c.in-Some.is at c.in_ok-plain.ensures.opened in
    let opens_so : RtcpOpensIn K r.state.opening bytes plain = subst (λ (s : SessionState). RtcpOpensIn K s.opening bytes plain) mine.state opens in
    let heard : c.in_ok-feedback.feedback.items ≡ feedback_in plain = c.in_ok-feedback.ensures ∙ ap feedback_in c.as_slice.ensures in
    let stands = streams_stand g.W.GapWindow.remembers g.S.ResendStore.stands_for _ r mine in
    let asked = c.in_ok-ask_all.ensures.ok (streams_in r) stands in
    (asked.0, asked_all plain asked.0 opens_so (subst (λ (fs : List RtcpFb). AskedByAll c.args.now fs r.repairs asked.0) (c.as_slice-3.ensures.value ∙ heard) asked.1), asked.2.repairs) in
    on_err_any _ front

pub returns-in_err-hear-clause-asked : goal.returns-in_err-hear-clause-asked
returns-in_err-hear-clause-asked g c =
    let front : (r : SessionRecord) → StandsFor g.W.GapWindow.remembers g.S.ResendStore.stands_for c.args.self.now r
    → (after : List (ℕ × RepairsRecord)) × AsksFront g.C.SrtpCipher.meaning r.state.opening c.args.bytes.now c.args.now r.repairs after
    × Along (RepairsStandFor g.S.ResendStore.stands_for) c.ask_all.new.streams.repairs after =
    λ r h.
    let K = g.C.SrtpCipher.meaning in
    let bytes = c.args.bytes.now in
    let plain = c.in-Some.field-0.plain in
    let mine = subst (λ s. StandsFor g.W.GapWindow.remembers g.S.ResendStore.stands_for s r) (sym c.self.view_is) h in
    let opens : RtcpOpensIn K c.self.inside.opening bytes plain = rw c.in-Some.is at c.in_ok-plain.ensures.opened in
    let opens_so : RtcpOpensIn K r.state.opening bytes plain = subst (λ (s : SessionState). RtcpOpensIn K s.opening bytes plain) mine.state opens in
    let heard : c.in_ok-feedback.feedback.items ≡ feedback_in plain = c.in_ok-feedback.ensures ∙ ap feedback_in c.as_slice.ensures in
    let stands = streams_stand g.W.GapWindow.remembers g.S.ResendStore.stands_for _ r mine in
    let asked = c.in_ok-ask_all.ensures.ok (streams_in r) stands in
    (asked.0, asked_all plain asked.0 opens_so (subst (λ (fs : List RtcpFb). AskedByAll c.args.now fs r.repairs asked.0) (c.as_slice-3.ensures.value ∙ heard) asked.1), asked.2.repairs) in
    on_err_any _ front

pub returns-in_err-tell_all-clause-asked : goal.returns-in_err-tell_all-clause-asked
returns-in_err-tell_all-clause-asked g c =
    let front : (r : SessionRecord) → StandsFor g.W.GapWindow.remembers g.S.ResendStore.stands_for c.args.self.now r
    → (after : List (ℕ × RepairsRecord)) × AsksFront g.C.SrtpCipher.meaning r.state.opening c.args.bytes.now c.args.now r.repairs after
    × Along (RepairsStandFor g.S.ResendStore.stands_for) c.tell_all.new.streams.repairs after =
    λ r h.
    let K = g.C.SrtpCipher.meaning in
    let bytes = c.args.bytes.now in
    let plain = c.in-Some.field-0.plain in
    let mine = subst (λ s. StandsFor g.W.GapWindow.remembers g.S.ResendStore.stands_for s r) (sym c.self.view_is) h in
    let opens : RtcpOpensIn K c.self.inside.opening bytes plain = rw c.in-Some.is at c.in_ok-plain.ensures.opened in
    let opens_so : RtcpOpensIn K r.state.opening bytes plain = subst (λ (s : SessionState). RtcpOpensIn K s.opening bytes plain) mine.state opens in
    let heard : c.in_ok-feedback.feedback.items ≡ feedback_in plain = c.in_ok-feedback.ensures ∙ ap feedback_in c.as_slice.ensures in
    let stands = streams_stand g.W.GapWindow.remembers g.S.ResendStore.stands_for _ r mine in
    let asked = c.in_ok-ask_all.ensures.ok (streams_in r) stands in
    (asked.0, asked_all plain asked.0 opens_so (subst (λ (fs : List RtcpFb). AskedByAll c.args.now fs r.repairs asked.0) (c.as_slice-3.ensures.value ∙ heard) asked.1), subst (λ (v : StreamsView g.row.W.Denot g.row.S.Denot). Along (RepairsStandFor g.S.ResendStore.stands_for) v.repairs asked.0) (sym c.in_err-tell_all.ensures.err.1) asked.2.repairs) in
    on_err_any _ front

pub returns-in_err-plain-clause-waiting : goal.returns-in_err-plain-clause-waiting
returns-in_err-plain-clause-waiting g c = on_err_any c.from_residual.result (no_moments_more (ap (λ (v : SessionView g.row.W.Denot g.row.S.Denot). v.state.moments) c.self.view_is))

pub returns-in_err-feedback-clause-waiting : goal.returns-in_err-feedback-clause-waiting
returns-in_err-feedback-clause-waiting g c = on_err_any _ (no_moments_more (ap (λ (v : SessionView g.row.W.Denot g.row.S.Denot). v.state.moments) c.self.view_is))

pub returns-in_err-ask_all-clause-waiting : goal.returns-in_err-ask_all-clause-waiting
returns-in_err-ask_all-clause-waiting g c = on_err_any _ (no_moments_more (ap (λ (v : SessionView g.row.W.Denot g.row.S.Denot). v.state.moments) c.self.view_is))

pub returns-in_err-take_moments-clause-waiting : goal.returns-in_err-take_moments-clause-waiting
returns-in_err-take_moments-clause-waiting g c =
    let K = g.C.SrtpCipher.meaning in
    let bytes = c.args.bytes.now in
    let now = c.args.now in
    let plain = c.in-Some.field-0.plain in
    let opens : RtcpOpensIn K c.self.inside.opening bytes plain = rw c.in-Some.is at c.in_ok-plain.ensures.opened in
    let heard : c.in_ok-feedback.feedback.items ≡ feedback_in plain = c.in_ok-feedback.ensures ∙ ap feedback_in c.as_slice.ensures in
    let front = c.in_err-take_moments.ensures.err in
    let moments : c.take_moments.new.moments ≡ moments_heard now (take front.0 (feedback_in plain)) c.self.inside.moments =
    front.1 ∙ ap (λ (l : List RtcpFb). moments_heard now (take front.0 l) c.self.inside.moments) (c.as_slice-4.ensures.value ∙ heard) in
    on_err_any _ (subst (λ (v : SessionView g.row.W.Denot g.row.S.Denot). MomentsFront K v.state.opening bytes now v.state.moments c.take_moments.new.moments) c.self.view_is (moments_front plain front.0 opens moments))

pub returns-in_err-hear-clause-waiting : goal.returns-in_err-hear-clause-waiting
returns-in_err-hear-clause-waiting g c =
    let K = g.C.SrtpCipher.meaning in
    let bytes = c.args.bytes.now in
    let now = c.args.now in
    let plain = c.in-Some.field-0.plain in
    let opens : RtcpOpensIn K c.self.inside.opening bytes plain = rw c.in-Some.is at c.in_ok-plain.ensures.opened in
    let heard : c.in_ok-feedback.feedback.items ≡ feedback_in plain = c.in_ok-feedback.ensures ∙ ap feedback_in c.as_slice.ensures in
    let moments : c.take_moments.new.moments ≡ moments_heard now (take (length (feedback_in plain)) (feedback_in plain)) c.self.inside.moments =
    c.in_ok-take_moments.ensures.ok
    ∙ ap (λ (l : List RtcpFb). moments_heard now l c.self.inside.moments) (c.as_slice-4.ensures.value ∙ heard ∙ all_taken (feedback_in plain)) in
    on_err_any _ (subst (λ (v : SessionView g.row.W.Denot g.row.S.Denot). MomentsFront K v.state.opening bytes now v.state.moments c.take_moments.new.moments) c.self.view_is (moments_front plain (length (feedback_in plain)) opens moments))

pub returns-in_err-tell_all-clause-waiting : goal.returns-in_err-tell_all-clause-waiting
returns-in_err-tell_all-clause-waiting g c =
    let K = g.C.SrtpCipher.meaning in
    let bytes = c.args.bytes.now in
    let now = c.args.now in
    let plain = c.in-Some.field-0.plain in
    let opens : RtcpOpensIn K c.self.inside.opening bytes plain = rw c.in-Some.is at c.in_ok-plain.ensures.opened in
    let heard : c.in_ok-feedback.feedback.items ≡ feedback_in plain = c.in_ok-feedback.ensures ∙ ap feedback_in c.as_slice.ensures in
    let moments : c.take_moments.new.moments ≡ moments_heard now (take (length (feedback_in plain)) (feedback_in plain)) c.self.inside.moments =
    c.in_ok-take_moments.ensures.ok
    ∙ ap (λ (l : List RtcpFb). moments_heard now l c.self.inside.moments) (c.as_slice-4.ensures.value ∙ heard ∙ all_taken (feedback_in plain)) in
    on_err_any _ (subst (λ (v : SessionView g.row.W.Denot g.row.S.Denot). MomentsFront K v.state.opening bytes now v.state.moments c.take_moments.new.moments) c.self.view_is (moments_front plain (length (feedback_in plain)) opens moments))

pub returns-in_err-plain-clause-told : goal.returns-in_err-plain-clause-told
returns-in_err-plain-clause-told g c =
    let front : (r : SessionRecord) → StandsFor g.W.GapWindow.remembers g.S.ResendStore.stands_for c.args.self.now r
    → NewsFront g.C.SrtpCipher.meaning r.state.opening c.args.bytes.now c.args.now r.state.tx r.rx r.state.news c.self.inside.news =
    λ r h.
    let mine = subst (λ s. StandsFor g.W.GapWindow.remembers g.S.ResendStore.stands_for s r) (sym c.self.view_is) h in
    no_news_more (ap (λ (s : SessionState). s.news) mine.state) in
    on_err_any c.from_residual.result front

pub returns-in_err-feedback-clause-told : goal.returns-in_err-feedback-clause-told
returns-in_err-feedback-clause-told g c =
    let front : (r : SessionRecord) → StandsFor g.W.GapWindow.remembers g.S.ResendStore.stands_for c.args.self.now r
    → NewsFront g.C.SrtpCipher.meaning r.state.opening c.args.bytes.now c.args.now r.state.tx r.rx r.state.news c.self.inside.news =
    λ r h.
    let mine = subst (λ s. StandsFor g.W.GapWindow.remembers g.S.ResendStore.stands_for s r) (sym c.self.view_is) h in
    no_news_more (ap (λ (s : SessionState). s.news) mine.state) in
    on_err_any _ front

pub returns-in_err-ask_all-clause-told : goal.returns-in_err-ask_all-clause-told
returns-in_err-ask_all-clause-told g c =
    let front : (r : SessionRecord) → StandsFor g.W.GapWindow.remembers g.S.ResendStore.stands_for c.args.self.now r
    → NewsFront g.C.SrtpCipher.meaning r.state.opening c.args.bytes.now c.args.now r.state.tx r.rx r.state.news c.self.inside.news =
    λ r h.
    let mine = subst (λ s. StandsFor g.W.GapWindow.remembers g.S.ResendStore.stands_for s r) (sym c.self.view_is) h in
    no_news_more (ap (λ (s : SessionState). s.news) mine.state) in
    on_err_any _ front

pub returns-in_err-take_moments-clause-told : goal.returns-in_err-take_moments-clause-told
returns-in_err-take_moments-clause-told g c =
    let front : (r : SessionRecord) → StandsFor g.W.GapWindow.remembers g.S.ResendStore.stands_for c.args.self.now r
    → NewsFront g.C.SrtpCipher.meaning r.state.opening c.args.bytes.now c.args.now r.state.tx r.rx r.state.news c.self.inside.news =
    λ r h.
    let mine = subst (λ s. StandsFor g.W.GapWindow.remembers g.S.ResendStore.stands_for s r) (sym c.self.view_is) h in
    no_news_more (ap (λ (s : SessionState). s.news) mine.state) in
    on_err_any _ front

pub returns-in_err-hear-clause-told : goal.returns-in_err-hear-clause-told
returns-in_err-hear-clause-told g c =
    let front : (r : SessionRecord) → StandsFor g.W.GapWindow.remembers g.S.ResendStore.stands_for c.args.self.now r
    → NewsFront g.C.SrtpCipher.meaning r.state.opening c.args.bytes.now c.args.now r.state.tx r.rx r.state.news c.hear.new.self =
    λ r h.
    let mine = subst (λ s. StandsFor g.W.GapWindow.remembers g.S.ResendStore.stands_for s r) (sym c.self.view_is) h in
    let K = g.C.SrtpCipher.meaning in
    let bytes = c.args.bytes.now in
    let now = c.args.now in
    let plain = c.in-Some.field-0.plain in
    let opens : RtcpOpensIn K c.self.inside.opening bytes plain = rw c.in-Some.is at c.in_ok-plain.ensures.opened in
    let opens_so : RtcpOpensIn K r.state.opening bytes plain = subst (λ (s : SessionState). RtcpOpensIn K s.opening bytes plain) mine.state opens in
    let heard : c.in_ok-feedback.feedback.items ≡ feedback_in plain = c.in_ok-feedback.ensures ∙ ap feedback_in c.as_slice.ensures in
    let asked = c.in_ok-ask_all.ensures.ok (streams_in r) (streams_stand g.W.GapWindow.remembers g.S.ResendStore.stands_for _ r mine) in
    let some = c.in_err-hear.ensures.err (record (streams_in r) { repairs = asked.0 }) asked.2 in
    news_front plain some.0 opens_so
    (some.1
    ∙ ap (λ (l : List RtcpFb). news_heard now r.state.tx r.rx (take some.0 l) c.self.inside.news) (c.as_slice-5.ensures.value ∙ heard)
    ∙ ap (λ (s : SessionState). news_heard now r.state.tx r.rx (take some.0 (feedback_in plain)) s.news) mine.state) in
    on_err_any _ front

pub returns-in_err-tell_all-clause-told : goal.returns-in_err-tell_all-clause-told
returns-in_err-tell_all-clause-told g c =
    let front : (r : SessionRecord) → StandsFor g.W.GapWindow.remembers g.S.ResendStore.stands_for c.args.self.now r
    → NewsFront g.C.SrtpCipher.meaning r.state.opening c.args.bytes.now c.args.now r.state.tx r.rx r.state.news c.hear.new.self =
    λ r h.
    let mine = subst (λ s. StandsFor g.W.GapWindow.remembers g.S.ResendStore.stands_for s r) (sym c.self.view_is) h in
    let K = g.C.SrtpCipher.meaning in
    let bytes = c.args.bytes.now in
    let now = c.args.now in
    let plain = c.in-Some.field-0.plain in
    let opens : RtcpOpensIn K c.self.inside.opening bytes plain = rw c.in-Some.is at c.in_ok-plain.ensures.opened in
    let opens_so : RtcpOpensIn K r.state.opening bytes plain = subst (λ (s : SessionState). RtcpOpensIn K s.opening bytes plain) mine.state opens in
    let heard : c.in_ok-feedback.feedback.items ≡ feedback_in plain = c.in_ok-feedback.ensures ∙ ap feedback_in c.as_slice.ensures in
    let asked = c.in_ok-ask_all.ensures.ok (streams_in r) (streams_stand g.W.GapWindow.remembers g.S.ResendStore.stands_for _ r mine) in
    news_front plain (length (feedback_in plain)) opens_so
    (c.in_ok-hear.ensures.ok (record (streams_in r) { repairs = asked.0 }) asked.2
    ∙ ap (λ (l : List RtcpFb). news_heard now r.state.tx r.rx l c.self.inside.news) (c.as_slice-5.ensures.value ∙ heard ∙ all_taken (feedback_in plain))
    ∙ ap (λ (s : SessionState). news_heard now r.state.tx r.rx (take (length (feedback_in plain)) (feedback_in plain)) s.news) mine.state) in
    on_err_any _ front

pub returns-clause-received : goal.returns-clause-received
returns-clause-received g c = λ r h.
    let K = g.C.SrtpCipher.meaning in
    let R = StreamStandsFor g.W.GapWindow.remembers in
    let bytes = c.args.bytes.now in
    let now = c.args.now in
    let plain = c.in-Some.field-0.plain in
    let mine = subst (λ s. StandsFor g.W.GapWindow.remembers g.S.ResendStore.stands_for s r) (sym c.self.view_is) h in
    let opens : RtcpOpensIn K c.self.inside.opening bytes plain = rw c.in-Some.is at c.in_ok-plain.ensures.opened in
    let index : c.in-Some.field-0.index ≡ stated c.self.inside.opening bytes = rw c.in-Some.is at c.in_ok-plain.ensures.index in
    let heard : c.in_ok-feedback.feedback.items ≡ feedback_in plain = c.in_ok-feedback.ensures ∙ ap feedback_in c.as_slice.ensures in
    let ssrc : c.sender.result ≡ sender_of (take 8 plain) = c.sender.ensures ∙ ap (λ (l : List ℕ). sender_of (take 8 l)) c.as_slice-7.ensures in
    let stands : c.from-2.result ≡ stated c.self.inside.opening bytes = c.from-2.ensures ∙ c.from.ensures ∙ index in
    let moment : c.to_ntp_duration-ntp.result ≡ ntp_of r.state now = c.to_ntp_duration-ntp.ensures ∙ ap (λ (s : SessionState). ntp_of s now) mine.state in
    let delay : c.last_delay-delay.result ≡ last_delay r.state.local_ssrc r.state.tx (feedback_in plain) None =
    c.last_delay-delay.ensures
    ∙ ap (λ (fs : List RtcpFb). last_delay c.self.inside.local_ssrc c.self.inside.streams.tx fs None) (c.as_slice-2.ensures.value ∙ heard)
    ∙ ap (λ (s : SessionState). last_delay s.local_ssrc s.tx (feedback_in plain) None) mine.state in
    let asked = c.in_ok-ask_all.ensures.ok (streams_in r) (streams_stand g.W.GapWindow.remembers g.S.ResendStore.stands_for _ r mine) in
    let others = c.in_ok-ask_all.ensures.others in
    let fs = c.as_slice-6.result.now in
    let told_by : fs ≡ feedback_in plain = c.as_slice-6.ensures.value ∙ heard in
    let put : c.tell_all.new.streams ≡ record (c.ask_all.new.streams) { tx = tx_heard fs c.ask_all.new.streams.tx } = c.in_ok-tell_all.ensures.ok in
    let between : StreamsRecord = record (streams_in r) { repairs = asked.0; tx = tx_heard fs r.state.tx } in
    let told_so : StreamsStand g.W.GapWindow.remembers g.S.ResendStore.stands_for c.tell_all.new.streams between =
    subst (λ (v : StreamsView g.row.W.Denot g.row.S.Denot). StreamsStand g.W.GapWindow.remembers g.S.ResendStore.stands_for v between) (sym put)
    (record { threshold = asked.2.threshold; rx = asked.2.rx; known = asked.2.known; tx = ap (tx_heard fs) asked.2.tx; repairs = asked.2.repairs }) in
    let known = c.measure.ensures.streams between told_so in
    let reported = c.hear-2.ensures.streams (record between { rx = measured c.to_ntp_duration-ntp.result c.last_delay-delay.result r.rx }) known in
    let moments : c.take_moments.new.moments ≡ moments_heard now (feedback_in plain) c.self.inside.moments =
    c.in_ok-take_moments.ensures.ok ∙ ap (λ (fs : List RtcpFb). moments_heard now fs c.self.inside.moments) (c.as_slice-4.ensures.value ∙ heard) in
    let news : c.hear.new.self ≡ news_heard now c.self.inside.streams.tx r.rx (feedback_in plain) c.self.inside.news =
    c.in_ok-hear.ensures.ok (record (streams_in r) { repairs = asked.0 }) asked.2
    ∙ ap (λ (fs : List RtcpFb). news_heard now r.state.tx r.rx fs c.self.inside.news) (c.as_slice-5.ensures.value ∙ heard)
    ∙ ap (λ (s : SessionState). news_heard now s.tx r.rx (feedback_in plain) c.self.inside.news) (sym mine.state) in
    let threshold : c.hear-2.new.streams.threshold ≡ c.self.inside.streams.threshold =
    c.hear-2.ensures.threshold ∙ c.measure.ensures.threshold
    ∙ ap (λ (v : StreamsView g.row.W.Denot g.row.S.Denot). v.threshold) put ∙ ap (λ (v : StreamsView g.row.W.Denot g.row.S.Denot). v.threshold) others in
    let tx : c.hear-2.new.streams.tx ≡ tx_heard (feedback_in plain) c.self.inside.streams.tx =
    c.hear-2.ensures.tx ∙ c.measure.ensures.tx
    ∙ ap (λ (v : StreamsView g.row.W.Denot g.row.S.Denot). v.tx) put
    ∙ ap (λ (l : List RtcpFb). tx_heard l c.ask_all.new.streams.tx) told_by
    ∙ ap (λ (v : StreamsView g.row.W.Denot g.row.S.Denot). tx_heard (feedback_in plain) v.tx) others in
    let application : c.hear-2.new.application ≡ last_application (feedback_in plain) c.self.inside.application =
    c.hear-2.ensures.application ∙ ap (λ (fs : List RtcpFb). last_application fs c.self.inside.application) heard in
    let told : record { kind = Rtcp; ssrc = c.sender.result; index = c.from-2.result; plain = plain } ≡ rtcp_opening_of r.state.opening bytes plain =
    (λ j. record { kind = Rtcp; ssrc = ssrc j; index = stands j; plain = plain }) ∙ ap (λ (s : SessionState). rtcp_opening_of s.opening bytes plain) mine.state in (
      after_rtcp now plain asked.0 r,
      subst (λ (o : Opened). ReceivesRtcp K r bytes now (after_rtcp now plain asked.0 r) (Some o)) (sym told)
          (opened plain asked.0 (subst (λ (s : SessionState). RtcpOpensIn K s.opening bytes plain) mine.state opens)
          (subst (λ (fs : List RtcpFb). AskedByAll now fs r.repairs asked.0) (c.as_slice-3.ensures.value ∙ heard) asked.1)),
      record {
        state = heard_state _ r.state now plain r.rx c.hear-2.new.streams.threshold c.open_rtcp.new.opening c.hear-2.new.streams.tx c.hear-2.new.application c.take_moments.new.moments c.hear.new.self mine.state threshold c.open_rtcp.ensures.same tx application moments news;
        rx = subst (λ (t : ℕ). Along R c.hear-2.new.streams.rx (rx_heard now (feedback_in plain) (measured t (last_delay r.state.local_ssrc r.state.tx (feedback_in plain) None) r.rx))) moment
            (subst (λ (o : Option DlrrItem). Along R c.hear-2.new.streams.rx (rx_heard now (feedback_in plain) (measured c.to_ntp_duration-ntp.result o r.rx))) delay
            (subst (λ (l : List RtcpFb). Along R c.hear-2.new.streams.rx (rx_heard now l (measured c.to_ntp_duration-ntp.result c.last_delay-delay.result r.rx))) heard reported.rx));
        probes = mine.probes;
        seen = mine.seen;
        known = reported.known;
        repairs = reported.repairs;
      },
    )
