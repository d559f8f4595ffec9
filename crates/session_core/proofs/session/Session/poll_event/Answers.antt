use Rattle.std.proofs.Common.{◌≡◌, ◌<◌, false, None, Some, refl, sym, ap, subst, ◌∙◌, arith, Option}
use Rattle.session_core.specs.declared.datagram.Event.{Event}
use Rattle.stream_core.specs.Pauses.{next_pause, untold_in}
use Rattle.stream_core.specs.RxRecord.{StandsFor as RxStandsFor}
use Rattle.stream_core.specs.StreamsRecord.{StreamsView}
use Rattle.stream_core.specs.Tables.{Along}
use Rattle.session_core.specs.Calls.{lacks_keys, after_event, Polled, events_in}
use Rattle.session_core.specs.News.{news_count, next_news, after_news}
use Rattle.session_core.specs.SessionRecord.{streams_in, SessionState, SessionView, StandsFor}
use Rattle.session_core.proofs.StreamsIn.{streams_stand, moved}
use Rattle.session_core.proofs.Telling.{event_is, after_is, has_keys, polls, state_polled, state_emptied, state_newer}
use Rattle.session_core.proofs.Waiting.{if_fewer}
use Rattle.session_core.proofs.session.Session.poll_event.Goals as goal
use Rattle.stream_core.specs.Requests.{one_of}

pub returns-in-Some-poll_stream_paused-clause-event : goal.returns-in-Some-poll_stream_paused-clause-event
returns-in-Some-poll_stream_paused-clause-event g c = λ r h.
    let m = g.W.GapWindow.remembers in
    let mine = subst (λ s. StandsFor m g.S.ResendStore.stands_for s r) (sym c.self.view_is) h in
    let lacking : lacks_keys r.state ≡ false = sym (ap lacks_keys mine.state) ∙ has_keys c.self.inside.sealing c.self.inside.opening c.if-is_none.ensures c.if-is_none-2.ensures in
    let none : r.state.application ≡ None = sym (ap (λ (s : SessionState). s.application) mine.state) ∙ sym c.take.ensures.value ∙ c.in_default.is in
    let some : next_pause r.rx ≡ Some c.in-Some-poll_stream_paused.paused = sym (c.poll_stream_paused.ensures.event (streams_in r) (streams_stand m g.S.ResendStore.stands_for _ r mine)) ∙ c.in-Some-poll_stream_paused.is in
    event_is r lacking None (Some c.in-Some-poll_stream_paused.paused) r.state.packet none some refl

pub returns-in-Some-poll_stream_paused-clause-after : goal.returns-in-Some-poll_stream_paused-clause-after
returns-in-Some-poll_stream_paused-clause-after g c = λ r h.
    let m = g.W.GapWindow.remembers in
    let mine = subst (λ s. StandsFor m g.S.ResendStore.stands_for s r) (sym c.self.view_is) h in
    let lacking : lacks_keys r.state ≡ false = sym (ap lacks_keys mine.state) ∙ has_keys c.self.inside.sealing c.self.inside.opening c.if-is_none.ensures c.if-is_none-2.ensures in
    let none : r.state.application ≡ None = sym (ap (λ (s : SessionState). s.application) mine.state) ∙ sym c.take.ensures.value ∙ c.in_default.is in
    let some : next_pause r.rx ≡ Some c.in-Some-poll_stream_paused.paused = sym (c.poll_stream_paused.ensures.event (streams_in r) (streams_stand m g.S.ResendStore.stands_for _ r mine)) ∙ c.in-Some-poll_stream_paused.is in
    moved m g.S.ResendStore.stands_for _ _ _ (after_is r lacking None (Some c.in-Some-poll_stream_paused.paused) r.state.packet none some refl)
    (record {
      state = state_polled _ r.state c.poll_stream_paused.new.self.threshold c.poll_stream_paused.new.self.tx c.take.new.self mine.state c.poll_stream_paused.ensures.threshold c.poll_stream_paused.ensures.tx
          (c.take.ensures.after ∙ sym (sym c.take.ensures.value ∙ c.in_default.is));
      rx = (c.poll_stream_paused.ensures.after (streams_in r) (streams_stand m g.S.ResendStore.stands_for _ r mine)).rx;
      probes = mine.probes;
      seen = mine.seen;
      known = (c.poll_stream_paused.ensures.after (streams_in r) (streams_stand m g.S.ResendStore.stands_for _ r mine)).known;
      repairs = (c.poll_stream_paused.ensures.after (streams_in r) (streams_stand m g.S.ResendStore.stands_for _ r mine)).repairs;
    })

pub returns-in-Some-take-clause-event : goal.returns-in-Some-take-clause-event
returns-in-Some-take-clause-event g c = λ r h.
    let m = g.W.GapWindow.remembers in
    let mine = subst (λ s. StandsFor m g.S.ResendStore.stands_for s r) (sym c.self.view_is) h in
    let lacking : lacks_keys r.state ≡ false = sym (ap lacks_keys mine.state) ∙ has_keys c.self.inside.sealing c.self.inside.opening c.if-is_none.ensures c.if-is_none-2.ensures in
    let none : r.state.application ≡ None = sym (ap (λ (s : SessionState). s.application) mine.state) ∙ sym c.take.ensures.value ∙ c.in_default.is in
    let quiet : next_pause r.rx ≡ None = sym (c.poll_stream_paused.ensures.event (streams_in r) (streams_stand m g.S.ResendStore.stands_for _ r mine)) ∙ c.in_default-poll_stream_paused.is in
    let full : r.state.packet ≡ Some c.in-Some-take.packet = sym (ap (λ (s : SessionState). s.packet) mine.state) ∙ sym c.take-2.ensures.value ∙ c.in-Some-take.is in
    event_is r lacking None None (Some c.in-Some-take.packet) none quiet full

pub returns-in-Some-take-clause-after : goal.returns-in-Some-take-clause-after
returns-in-Some-take-clause-after g c = λ r h.
    let m = g.W.GapWindow.remembers in
    let mine = subst (λ s. StandsFor m g.S.ResendStore.stands_for s r) (sym c.self.view_is) h in
    let lacking : lacks_keys r.state ≡ false = sym (ap lacks_keys mine.state) ∙ has_keys c.self.inside.sealing c.self.inside.opening c.if-is_none.ensures c.if-is_none-2.ensures in
    let none : r.state.application ≡ None = sym (ap (λ (s : SessionState). s.application) mine.state) ∙ sym c.take.ensures.value ∙ c.in_default.is in
    let quiet : next_pause r.rx ≡ None = sym (c.poll_stream_paused.ensures.event (streams_in r) (streams_stand m g.S.ResendStore.stands_for _ r mine)) ∙ c.in_default-poll_stream_paused.is in
    let full : r.state.packet ≡ Some c.in-Some-take.packet = sym (ap (λ (s : SessionState). s.packet) mine.state) ∙ sym c.take-2.ensures.value ∙ c.in-Some-take.is in
    moved m g.S.ResendStore.stands_for _ _ _ (after_is r lacking None None (Some c.in-Some-take.packet) none quiet full)
    (record {
      state = state_emptied _ r.state c.poll_stream_paused.new.self.threshold c.poll_stream_paused.new.self.tx c.take.new.self c.take-2.new.self mine.state c.poll_stream_paused.ensures.threshold c.poll_stream_paused.ensures.tx
          (c.take.ensures.after ∙ sym (sym c.take.ensures.value ∙ c.in_default.is)) c.take-2.ensures.after;
      rx = subst (λ (v : StreamsView g.row.W.Denot g.row.S.Denot). Along (RxStandsFor m) v.rx r.rx) (sym c.in_default-poll_stream_paused.ensures.none) mine.rx;
      probes = mine.probes;
      seen = mine.seen;
      known = (c.poll_stream_paused.ensures.after (streams_in r) (streams_stand m g.S.ResendStore.stands_for _ r mine)).known;
      repairs = (c.poll_stream_paused.ensures.after (streams_in r) (streams_stand m g.S.ResendStore.stands_for _ r mine)).repairs;
    })

pub returns-in-Some-take-clause-fewer : goal.returns-in-Some-take-clause-fewer
returns-in-Some-take-clause-fewer g c =
    let view = ap {A = SessionView g.row.W.Denot g.row.S.Denot} (λ s. events_in s) c.self.view_is in
    let left = ap one_of c.take-2.ensures.after in
    let had = ap one_of (sym c.take-2.ensures.value ∙ c.in-Some-take.is) in
    let nothing = ap one_of c.take.ensures.after in
    let told = ap (λ (v : StreamsView g.row.W.Denot g.row.S.Denot). untold_in v.rx) c.in_default-poll_stream_paused.ensures.none in
    omega arith

pub returns-clause-event : goal.returns-clause-event
returns-clause-event g c = λ r h.
    let m = g.W.GapWindow.remembers in
    let mine = subst (λ s. StandsFor m g.S.ResendStore.stands_for s r) (sym c.self.view_is) h in
    let lacking : lacks_keys r.state ≡ false = sym (ap lacks_keys mine.state) ∙ has_keys c.self.inside.sealing c.self.inside.opening c.if-is_none.ensures c.if-is_none-2.ensures in
    let none : r.state.application ≡ None = sym (ap (λ (s : SessionState). s.application) mine.state) ∙ sym c.take.ensures.value ∙ c.in_default.is in
    let quiet : next_pause r.rx ≡ None = sym (c.poll_stream_paused.ensures.event (streams_in r) (streams_stand m g.S.ResendStore.stands_for _ r mine)) ∙ c.in_default-poll_stream_paused.is in
    let empty : r.state.packet ≡ None = sym (ap (λ (s : SessionState). s.packet) mine.state) ∙ sym c.take-2.ensures.value ∙ c.in_default-take.is in
    c.next.ensures.event ∙ ap (λ (s : SessionState). next_news s.news) mine.state ∙ event_is r lacking None None None none quiet empty

pub returns-clause-after : goal.returns-clause-after
returns-clause-after g c = λ r h.
    let m = g.W.GapWindow.remembers in
    let mine = subst (λ s. StandsFor m g.S.ResendStore.stands_for s r) (sym c.self.view_is) h in
    let lacking : lacks_keys r.state ≡ false = sym (ap lacks_keys mine.state) ∙ has_keys c.self.inside.sealing c.self.inside.opening c.if-is_none.ensures c.if-is_none-2.ensures in
    let none : r.state.application ≡ None = sym (ap (λ (s : SessionState). s.application) mine.state) ∙ sym c.take.ensures.value ∙ c.in_default.is in
    let quiet : next_pause r.rx ≡ None = sym (c.poll_stream_paused.ensures.event (streams_in r) (streams_stand m g.S.ResendStore.stands_for _ r mine)) ∙ c.in_default-poll_stream_paused.is in
    let empty : r.state.packet ≡ None = sym (ap (λ (s : SessionState). s.packet) mine.state) ∙ sym c.take-2.ensures.value ∙ c.in_default-take.is in
    moved m g.S.ResendStore.stands_for _ _ _ (after_is r lacking None None None none quiet empty)
    (record {
      state = state_newer _ r.state c.poll_stream_paused.new.self.threshold c.poll_stream_paused.new.self.tx c.take.new.self c.take-2.new.self c.next.new.self mine.state c.poll_stream_paused.ensures.threshold c.poll_stream_paused.ensures.tx
          (c.take.ensures.after ∙ sym (sym c.take.ensures.value ∙ c.in_default.is)) (c.take-2.ensures.after ∙ sym (sym c.take-2.ensures.value ∙ c.in_default-take.is)) c.next.ensures.after;
      rx = subst (λ (v : StreamsView g.row.W.Denot g.row.S.Denot). Along (RxStandsFor m) v.rx r.rx) (sym c.in_default-poll_stream_paused.ensures.none) mine.rx;
      probes = mine.probes;
      seen = mine.seen;
      known = (c.poll_stream_paused.ensures.after (streams_in r) (streams_stand m g.S.ResendStore.stands_for _ r mine)).known;
      repairs = (c.poll_stream_paused.ensures.after (streams_in r) (streams_stand m g.S.ResendStore.stands_for _ r mine)).repairs;
    })

pub returns-clause-fewer : goal.returns-clause-fewer
returns-clause-fewer g c =
    let view = ap {A = SessionView g.row.W.Denot g.row.S.Denot} (λ s. events_in s) c.self.view_is in
    let left = ap one_of c.take-2.ensures.after in
    let nothing = ap one_of c.take.ensures.after in
    let told = ap (λ (v : StreamsView g.row.W.Denot g.row.S.Denot). untold_in v.rx) c.in_default-poll_stream_paused.ensures.none in
    let rest = ap news_count c.next.ensures.after in
    if_fewer c.self.inside.news c.next.result _ c.next.ensures.event (λ (less : news_count (after_news c.self.inside.news) < news_count c.self.inside.news). omega arith)

pub returns-in-Some-poll_stream_paused-clause-told : goal.returns-in-Some-poll_stream_paused-clause-told
returns-in-Some-poll_stream_paused-clause-told g c = λ r h. subst (λ (o : Option Event). Polled r o (after_event r)) (sym (returns-in-Some-poll_stream_paused-clause-event g c r h)) (polls r)

pub returns-in-Some-take-clause-told : goal.returns-in-Some-take-clause-told
returns-in-Some-take-clause-told g c = λ r h. subst (λ (o : Option Event). Polled r o (after_event r)) (sym (returns-in-Some-take-clause-event g c r h)) (polls r)

pub returns-clause-told : goal.returns-clause-told
returns-clause-told g c = λ r h. subst (λ (o : Option Event). Polled r o (after_event r)) (sym (returns-clause-event g c r h)) (polls r)
