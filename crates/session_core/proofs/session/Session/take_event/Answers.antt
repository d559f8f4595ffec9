use Rattle.std.proofs.Common.{◌≡◌, ◌<◌, inl, inr, ◌++◌, false, None, Some, List, refl, sym, ap, subst, ◌∙◌, arith, Option}
use Rattle.std.proofs.lemmas.Bool.{eqb-true}
use Rattle.std.proofs.lemmas.List.{append-nil}
use Rattle.session_core.specs.declared.datagram.Event.{Event}
use Rattle.session_core.specs.declared.datagram.Event.TheVariants as event
use Rattle.stream_core.specs.Pauses.{next_pause, untold_in}
use Rattle.stream_core.specs.RxRecord.{StandsFor as RxStandsFor}
use Rattle.stream_core.specs.StreamsRecord.{StreamsView}
use Rattle.stream_core.specs.Tables.{Along}
use Rattle.session_core.specs.Calls.{lacks_keys, after_event, Polled, events_in}
use Rattle.session_core.specs.News.{news_count, next_news, after_news}
use Rattle.session_core.specs.SessionRecord.{streams_in, SessionState, SessionView, StandsFor}
use Rattle.session_core.proofs.StreamsIn.{streams_stand, moved}
use Rattle.session_core.proofs.Telling.{emptied, newer, event_is, after_is, has_keys, polls, packet_next, packet_last, news_next, taken_one, state_heard, state_polled, state_emptied, state_newer}
use Rattle.session_core.proofs.Waiting.{is_either, none_next, fewer_next}
use Rattle.session_core.proofs.session.Session.take_event.Goals as goal
use Rattle.stream_core.specs.Requests.{one_of}

pub returns-in-Some-clause-more : goal.returns-in-Some-clause-more
returns-in-Some-clause-more g c = λ r h.
    let m = g.W.GapWindow.remembers in
    let mine = subst (λ s. StandsFor m g.S.ResendStore.stands_for s r) (sym c.self.view_is) h in
    let keyed : lacks_keys r.state ≡ false = sym (ap lacks_keys mine.state) ∙ has_keys c.self.inside.sealing c.self.inside.opening c.if-is_none.ensures c.if-is_none-2.ensures in
    let some : r.state.application ≡ Some c.in-Some.feedback = sym (ap (λ (s : SessionState). s.application) mine.state) ∙ sym c.take.ensures.value ∙ c.in-Some.is in
    let step : Polled r (Some (event.AppSpecificFeedback c.in-Some.feedback)) (after_event r) =
    subst (λ (o : Option Event). Polled r o (after_event r)) (sym (event_is r keyed (Some c.in-Some.feedback) (next_pause r.rx) r.state.packet some refl refl)) (polls r) in (
      after_event r,
      moved m g.S.ResendStore.stands_for _ _ _ (after_is r keyed (Some c.in-Some.feedback) (next_pause r.rx) r.state.packet some refl refl)
          (record {
            state = state_heard _ r.state c.take.new.self mine.state c.take.ensures.after;
            rx = mine.rx;
            probes = mine.probes;
            seen = mine.seen;
            known = mine.known;
            repairs = mine.repairs;
          }),
      taken_one c.args.sofar.now.items c.push_reserved.new.self.items (event.AppSpecificFeedback c.in-Some.feedback) r (after_event r) step.0 c.push_reserved.ensures.items,
      step.1,
    )

pub returns-in-Some-poll_stream_paused-clause-more : goal.returns-in-Some-poll_stream_paused-clause-more
returns-in-Some-poll_stream_paused-clause-more g c = λ r h.
    let m = g.W.GapWindow.remembers in
    let mine = subst (λ s. StandsFor m g.S.ResendStore.stands_for s r) (sym c.self.view_is) h in
    let keyed : lacks_keys r.state ≡ false = sym (ap lacks_keys mine.state) ∙ has_keys c.self.inside.sealing c.self.inside.opening c.if-is_none.ensures c.if-is_none-2.ensures in
    let none : r.state.application ≡ None = sym (ap (λ (s : SessionState). s.application) mine.state) ∙ sym c.take.ensures.value ∙ c.in_default.is in
    let some : next_pause r.rx ≡ Some c.in-Some-poll_stream_paused.paused = sym (c.poll_stream_paused.ensures.event (streams_in r) (streams_stand m g.S.ResendStore.stands_for _ r mine)) ∙ c.in-Some-poll_stream_paused.is in
    let step : Polled r (Some (event.StreamPaused c.in-Some-poll_stream_paused.paused)) (after_event r) =
    subst (λ (o : Option Event). Polled r o (after_event r)) (sym (event_is r keyed None (Some c.in-Some-poll_stream_paused.paused) r.state.packet none some refl)) (polls r) in (
      after_event r,
      moved m g.S.ResendStore.stands_for _ _ _ (after_is r keyed None (Some c.in-Some-poll_stream_paused.paused) r.state.packet none some refl)
          (record {
            state = state_polled _ r.state c.poll_stream_paused.new.self.threshold c.poll_stream_paused.new.self.tx c.take.new.self mine.state c.poll_stream_paused.ensures.threshold c.poll_stream_paused.ensures.tx
                (c.take.ensures.after ∙ sym (sym c.take.ensures.value ∙ c.in_default.is));
            rx = (c.poll_stream_paused.ensures.after (streams_in r) (streams_stand m g.S.ResendStore.stands_for _ r mine)).rx;
            probes = mine.probes;
            seen = mine.seen;
            known = (c.poll_stream_paused.ensures.after (streams_in r) (streams_stand m g.S.ResendStore.stands_for _ r mine)).known;
            repairs = (c.poll_stream_paused.ensures.after (streams_in r) (streams_stand m g.S.ResendStore.stands_for _ r mine)).repairs;
          }),
      taken_one c.args.sofar.now.items c.push_reserved-in-Some-poll_stream_paused.new.self.items (event.StreamPaused c.in-Some-poll_stream_paused.paused) r (after_event r) step.0 c.push_reserved-in-Some-poll_stream_paused.ensures.items,
      step.1,
    )

pub returns-in-Some-take-clause-more : goal.returns-in-Some-take-clause-more
returns-in-Some-take-clause-more g c = elim (is_either c.is_empty.result) [
  | inl holds ↦ rw holds tt
  | inr fails ↦ rw fails (λ r h.
      let m = g.W.GapWindow.remembers in
      let mine = subst (λ s. StandsFor m g.S.ResendStore.stands_for s r) (sym c.self.view_is) h in
      let keyed : lacks_keys r.state ≡ false = sym (ap lacks_keys mine.state) ∙ has_keys c.self.inside.sealing c.self.inside.opening c.if-is_none.ensures c.if-is_none-2.ensures in
      let none : r.state.application ≡ None = sym (ap (λ (s : SessionState). s.application) mine.state) ∙ sym c.take.ensures.value ∙ c.in_default.is in
      let quiet : next_pause r.rx ≡ None = sym (c.poll_stream_paused.ensures.event (streams_in r) (streams_stand m g.S.ResendStore.stands_for _ r mine)) ∙ c.in_default-poll_stream_paused.is in
      let full : r.state.packet ≡ Some c.in-Some-take.packet = sym (ap (λ (s : SessionState). s.packet) mine.state) ∙ sym c.take-2.ensures.value ∙ c.in-Some-take.is in
      let step : Polled r (Some (event.RtpPacket c.in-Some-take.packet)) (emptied r) = packet_next r keyed none quiet c.in-Some-take.packet full in (
        emptied r,
        record {
          state = state_emptied _ r.state c.poll_stream_paused.new.self.threshold c.poll_stream_paused.new.self.tx c.take.new.self c.take-2.new.self mine.state c.poll_stream_paused.ensures.threshold c.poll_stream_paused.ensures.tx
              (c.take.ensures.after ∙ sym (sym c.take.ensures.value ∙ c.in_default.is)) c.take-2.ensures.after;
          rx = subst (λ (v : StreamsView g.row.W.Denot g.row.S.Denot). Along (RxStandsFor m) v.rx r.rx) (sym c.in_default-poll_stream_paused.ensures.none) mine.rx;
          probes = mine.probes;
          seen = mine.seen;
          known = (c.poll_stream_paused.ensures.after (streams_in r) (streams_stand m g.S.ResendStore.stands_for _ r mine)).known;
          repairs = (c.poll_stream_paused.ensures.after (streams_in r) (streams_stand m g.S.ResendStore.stands_for _ r mine)).repairs;
        },
        taken_one c.args.sofar.now.items c.push_reserved-in-Some-take.new.self.items (event.RtpPacket c.in-Some-take.packet) r (emptied r) step.0 c.push_reserved-in-Some-take.ensures.items,
        step.1,
      ))
]

pub returns-in-Some-take-clause-last : goal.returns-in-Some-take-clause-last
returns-in-Some-take-clause-last g c = elim (is_either c.is_empty.result) [
  | inr fails ↦ rw fails tt
  | inl holds ↦ rw holds (λ r h.
      let m = g.W.GapWindow.remembers in
      let mine = subst (λ s. StandsFor m g.S.ResendStore.stands_for s r) (sym c.self.view_is) h in
      let keyed : lacks_keys r.state ≡ false = sym (ap lacks_keys mine.state) ∙ has_keys c.self.inside.sealing c.self.inside.opening c.if-is_none.ensures c.if-is_none-2.ensures in
      let none : r.state.application ≡ None = sym (ap (λ (s : SessionState). s.application) mine.state) ∙ sym c.take.ensures.value ∙ c.in_default.is in
      let quiet : next_pause r.rx ≡ None = sym (c.poll_stream_paused.ensures.event (streams_in r) (streams_stand m g.S.ResendStore.stands_for _ r mine)) ∙ c.in_default-poll_stream_paused.is in
      let full : r.state.packet ≡ Some c.in-Some-take.packet = sym (ap (λ (s : SessionState). s.packet) mine.state) ∙ sym c.take-2.ensures.value ∙ c.in-Some-take.is in
      let last : next_news r.state.news ≡ None = sym (ap (λ (s : SessionState). next_news s.news) mine.state) ∙ none_next c.self.inside.news (eqb-true (news_count c.self.inside.news) 0 (sym c.is_empty.ensures ∙ holds)) in
      let rest = packet_last r keyed none quiet c.in-Some-take.packet full last in (
        ap (λ (l : List Event). c.args.sofar.now.items ++ l) rest.0 ∙ sym c.push_reserved-in-Some-take.ensures.items,
        moved m g.S.ResendStore.stands_for _ _ _ rest.1
            (record {
              state = state_emptied _ r.state c.poll_stream_paused.new.self.threshold c.poll_stream_paused.new.self.tx c.take.new.self c.take-2.new.self mine.state c.poll_stream_paused.ensures.threshold c.poll_stream_paused.ensures.tx
                  (c.take.ensures.after ∙ sym (sym c.take.ensures.value ∙ c.in_default.is)) c.take-2.ensures.after;
              rx = subst (λ (v : StreamsView g.row.W.Denot g.row.S.Denot). Along (RxStandsFor m) v.rx r.rx) (sym c.in_default-poll_stream_paused.ensures.none) mine.rx;
              probes = mine.probes;
              seen = mine.seen;
              known = (c.poll_stream_paused.ensures.after (streams_in r) (streams_stand m g.S.ResendStore.stands_for _ r mine)).known;
              repairs = (c.poll_stream_paused.ensures.after (streams_in r) (streams_stand m g.S.ResendStore.stands_for _ r mine)).repairs;
            }),
      ))
]

pub returns-in-Some-take-clause-fewer : goal.returns-in-Some-take-clause-fewer
returns-in-Some-take-clause-fewer g c =
    let view = ap {A = SessionView g.row.W.Denot g.row.S.Denot} (λ s. events_in s) c.self.view_is in
    let left = ap one_of c.take-2.ensures.after in
    let had = ap one_of (sym c.take-2.ensures.value ∙ c.in-Some-take.is) in
    let nothing = ap one_of c.take.ensures.after in
    let told = ap (λ (v : StreamsView g.row.W.Denot g.row.S.Denot). untold_in v.rx) c.in_default-poll_stream_paused.ensures.none in
    elim (is_either c.is_empty.result) [ inl holds ↦ rw holds tt | inr fails ↦ rw fails (omega arith) ]

pub returns-in_default-next-clause-last : goal.returns-in_default-next-clause-last
returns-in_default-next-clause-last g c = λ r h.
    let m = g.W.GapWindow.remembers in
    let mine = subst (λ s. StandsFor m g.S.ResendStore.stands_for s r) (sym c.self.view_is) h in
    let keyed : lacks_keys r.state ≡ false = sym (ap lacks_keys mine.state) ∙ has_keys c.self.inside.sealing c.self.inside.opening c.if-is_none.ensures c.if-is_none-2.ensures in
    let none : r.state.application ≡ None = sym (ap (λ (s : SessionState). s.application) mine.state) ∙ sym c.take.ensures.value ∙ c.in_default.is in
    let quiet : next_pause r.rx ≡ None = sym (c.poll_stream_paused.ensures.event (streams_in r) (streams_stand m g.S.ResendStore.stands_for _ r mine)) ∙ c.in_default-poll_stream_paused.is in
    let empty : r.state.packet ≡ None = sym (ap (λ (s : SessionState). s.packet) mine.state) ∙ sym c.take-2.ensures.value ∙ c.in_default-take.is in
    let last : next_news r.state.news ≡ None = sym (c.next.ensures.event ∙ ap (λ (s : SessionState). next_news s.news) mine.state) ∙ c.in_default-next.is in
    let rest : Polled r None (newer r) = news_next r keyed none quiet empty None last in (
      ap (λ (l : List Event). c.args.sofar.now.items ++ l) rest.0 ∙ append-nil c.args.sofar.now.items,
      moved m g.S.ResendStore.stands_for _ _ _ rest.1
          (record {
            state = state_newer _ r.state c.poll_stream_paused.new.self.threshold c.poll_stream_paused.new.self.tx c.take.new.self c.take-2.new.self c.next.new.self mine.state c.poll_stream_paused.ensures.threshold c.poll_stream_paused.ensures.tx
                (c.take.ensures.after ∙ sym (sym c.take.ensures.value ∙ c.in_default.is)) (c.take-2.ensures.after ∙ sym (sym c.take-2.ensures.value ∙ c.in_default-take.is)) c.next.ensures.after;
            rx = subst (λ (v : StreamsView g.row.W.Denot g.row.S.Denot). Along (RxStandsFor m) v.rx r.rx) (sym c.in_default-poll_stream_paused.ensures.none) mine.rx;
            probes = mine.probes;
            seen = mine.seen;
            known = (c.poll_stream_paused.ensures.after (streams_in r) (streams_stand m g.S.ResendStore.stands_for _ r mine)).known;
            repairs = (c.poll_stream_paused.ensures.after (streams_in r) (streams_stand m g.S.ResendStore.stands_for _ r mine)).repairs;
          }),
    )

pub returns-clause-more : goal.returns-clause-more
returns-clause-more g c = λ r h.
    let m = g.W.GapWindow.remembers in
    let mine = subst (λ s. StandsFor m g.S.ResendStore.stands_for s r) (sym c.self.view_is) h in
    let keyed : lacks_keys r.state ≡ false = sym (ap lacks_keys mine.state) ∙ has_keys c.self.inside.sealing c.self.inside.opening c.if-is_none.ensures c.if-is_none-2.ensures in
    let none : r.state.application ≡ None = sym (ap (λ (s : SessionState). s.application) mine.state) ∙ sym c.take.ensures.value ∙ c.in_default.is in
    let quiet : next_pause r.rx ≡ None = sym (c.poll_stream_paused.ensures.event (streams_in r) (streams_stand m g.S.ResendStore.stands_for _ r mine)) ∙ c.in_default-poll_stream_paused.is in
    let empty : r.state.packet ≡ None = sym (ap (λ (s : SessionState). s.packet) mine.state) ∙ sym c.take-2.ensures.value ∙ c.in_default-take.is in
    let first : next_news r.state.news ≡ Some c.in-Some-next.event = sym (c.next.ensures.event ∙ ap (λ (s : SessionState). next_news s.news) mine.state) ∙ c.in-Some-next.is in
    let step : Polled r (Some c.in-Some-next.event) (newer r) = news_next r keyed none quiet empty (Some c.in-Some-next.event) first in (
      newer r,
      record {
        state = state_newer _ r.state c.poll_stream_paused.new.self.threshold c.poll_stream_paused.new.self.tx c.take.new.self c.take-2.new.self c.next.new.self mine.state c.poll_stream_paused.ensures.threshold c.poll_stream_paused.ensures.tx
            (c.take.ensures.after ∙ sym (sym c.take.ensures.value ∙ c.in_default.is)) (c.take-2.ensures.after ∙ sym (sym c.take-2.ensures.value ∙ c.in_default-take.is)) c.next.ensures.after;
        rx = subst (λ (v : StreamsView g.row.W.Denot g.row.S.Denot). Along (RxStandsFor m) v.rx r.rx) (sym c.in_default-poll_stream_paused.ensures.none) mine.rx;
        probes = mine.probes;
        seen = mine.seen;
        known = (c.poll_stream_paused.ensures.after (streams_in r) (streams_stand m g.S.ResendStore.stands_for _ r mine)).known;
        repairs = (c.poll_stream_paused.ensures.after (streams_in r) (streams_stand m g.S.ResendStore.stands_for _ r mine)).repairs;
      },
      taken_one c.args.sofar.now.items c.push_reserved-2.new.self.items c.in-Some-next.event r (newer r) step.0 c.push_reserved-2.ensures.items,
      step.1,
    )

pub returns-clause-fewer : goal.returns-clause-fewer
returns-clause-fewer g c =
    let view = ap {A = SessionView g.row.W.Denot g.row.S.Denot} (λ s. events_in s) c.self.view_is in
    let left = ap one_of c.take-2.ensures.after in
    let nothing = ap one_of c.take.ensures.after in
    let told = ap (λ (v : StreamsView g.row.W.Denot g.row.S.Denot). untold_in v.rx) c.in_default-poll_stream_paused.ensures.none in
    let rest = ap news_count c.next.ensures.after in
    let less : news_count (after_news c.self.inside.news) < news_count c.self.inside.news = fewer_next c.self.inside.news c.in-Some-next.event (sym c.next.ensures.event ∙ c.in-Some-next.is) in
    omega arith
