use Rattle.std.proofs.Common.{◌≡◌, ◌≤◌, Some, None, Err, false, length, take, slice_get, sym, ap, subst, ◌∙◌, arith}
use Rattle.std.proofs.lemmas.List.{take_all}
use Rattle.std.specs.Prelude.{Option, option_and_then}
use Rattle.std.specs.Map.{values_of}
use Rattle.stream_core.specs.TxRecord.{TxRecord}
use Rattle.session_core.specs.SessionRecord.{SessionState, StandsFor, streams_in}
use Rattle.session_core.specs.Sending.{first_due, PollsFrom, after_streams}
use Rattle.session_core.specs.Draining.{PacketFails, stream_stays, used_up}
use Rattle.session_core.proofs.Asked.{still_none, none_released}
use Rattle.session_core.proofs.Passing.{place_is, polled_stands, same_stands, unreleased_stands, gives_is, either}
use Rattle.session_core.proofs.StreamsIn.{streams_stand}
use Rattle.session_core.proofs.session.Session.poll_stream.Goals as goal

pub invariant_of-self : goal.invariant_of-self
invariant_of-self g c =
    let qs = c.self.inside.streams.repairs in
    let tx = c.self.inside.streams.tx in
    let ms = c.self.inside.medias.items in
    let go = c.self.inside.released in
    let least : length tx ≤ length tx = omega arith in
    let same : c.as_slice-medias.result.now ≡ ms = c.as_slice-medias.ensures.value in
    let none : first_due ms go qs tx ≡ None = sym (c.first_due.ensures.place ∙ ap (λ m. first_due m go qs tx) same) ∙ c.in_default.is in
    record {
      polls =
          ap (λ n. first_due ms false qs (take n tx)) c.tx_len-self-inside.ensures
          ∙ ap (first_due ms false qs) (take_all (length tx) tx least)
          ∙ none_released ms go qs tx none;
      wide = c.self.invariant.wide;
      left = c.self.invariant.left;
      fit = c.self.invariant.fit;
    }

pub returns-in_default-clause-none : goal.returns-in_default-clause-none
returns-in_default-clause-none g c = λ r h.
    let mine = subst (λ v. StandsFor g.W.GapWindow.remembers g.S.ResendStore.stands_for v r) (sym c.self.view_is) h in (
      place_is g.W.GapWindow.remembers g.S.ResendStore.stands_for _ r mine None
          (sym c.in_default.is ∙ c.first_due.ensures.place ∙ ap (λ m. first_due m c.self.inside.released c.self.inside.streams.repairs c.self.inside.streams.tx) c.as_slice-medias.ensures.value),
      unreleased_stands g.W.GapWindow.remembers g.S.ResendStore.stands_for _ r mine,
    )

pub invariant_of-self-2 : goal.invariant_of-self-2
invariant_of-self-2 g c =
    let qs = c.self.inside.streams.repairs in
    let ms = c.self.inside.medias.items in
    let go = c.self.inside.released in
    let i = c.in-Some.place in
    let same : c.as_slice-medias.result.now ≡ ms = c.as_slice-medias.ensures.value in
    let before : PollsFrom i ms go qs c.self.inside.streams.tx = ap (λ m. first_due m go qs (take i c.self.inside.streams.tx)) (sym same) ∙ c.in-Some.ensures.before in
    record {
      polls = still_none ms go qs c.poll_packet-polled.new.self.repairs c.in-Ok.ensures.asked (take i c.poll_packet-polled.new.self.tx)
          (ap (first_due ms go qs) c.in-Ok.ensures.before ∙ before);
      wide = c.self.invariant.wide;
      left = c.self.invariant.left;
      fit = c.self.invariant.fit;
    }

pub returns-clause-polled : goal.returns-clause-polled
returns-clause-polled g c = λ r h.
    let m = g.W.GapWindow.remembers in
    let S = g.S.ResendStore.stands_for in
    let said = c.in-Ok.ensures in
    let mine = subst (λ v. StandsFor m S v r) (sym c.self.view_is) h in
    let next = place_is m S _ r mine (Some c.in-Some.place)
    (sym c.in-Some.is ∙ c.first_due.ensures.place ∙ ap (λ x. first_due x c.self.inside.released c.self.inside.streams.repairs c.self.inside.streams.tx) c.as_slice-medias.ensures.value) in
    let k = said.polled (streams_in r) (streams_stand m S _ r mine) in (
      c.in-Some.place,
      k.0,
      next,
      gives_is m S _ r mine c.args.now c.in-Some.place k.0 c.in-Ok.polled k.1,
      polled_stands m S _ r mine c.poll_packet-polled.new.self c.poll_packet-polled.new.transport k.0 c.in-Ok.polled k.2 said.rx said.known said.threshold said.counted,
    )

pub invariant_of-self-in-Err : goal.invariant_of-self-in-Err
invariant_of-self-in-Err g c =
    let qs = c.self.inside.streams.repairs in
    let ms = c.self.inside.medias.items in
    let go = c.self.inside.released in
    let i = c.in-Some.place in
    let same : c.as_slice-medias.result.now ≡ ms = c.as_slice-medias.ensures.value in
    let before : PollsFrom i ms go qs c.self.inside.streams.tx = ap (λ m. first_due m go qs (take i c.self.inside.streams.tx)) (sym same) ∙ c.in-Some.ensures.before in
    record {
      polls = still_none ms go qs c.poll_packet-polled.new.self.repairs c.in-Err.ensures.asked (take i c.poll_packet-polled.new.self.tx)
          (ap (first_due ms go qs) c.in-Err.ensures.before ∙ before);
      wide = c.self.invariant.wide;
      left = c.self.invariant.left;
      fit = c.self.invariant.fit;
    }

pub returns-in-Err-clause-failed : goal.returns-in-Err-clause-failed
returns-in-Err-clause-failed g c = λ r h.
    let m = g.W.GapWindow.remembers in
    let S = g.S.ResendStore.stands_for in
    let said = c.in-Err.ensures in
    let mine = subst (λ v. StandsFor m S v r) (sym c.self.view_is) h in
    let stand = streams_stand m S _ r mine in
    let next = place_is m S _ r mine (Some c.in-Some.place)
    (sym c.in-Some.is ∙ c.first_due.ensures.place ∙ ap (λ x. first_due x c.self.inside.released c.self.inside.streams.repairs c.self.inside.streams.tx) c.as_slice-medias.ensures.value) in
    let stays = said.failed (streams_in r) stand in
    let after = polled_stands m S _ r mine c.poll_packet-polled.new.self c.poll_packet-polled.new.transport stays.0 None stays.2 said.rx said.known said.threshold said.uncounted in
    either _ c.in-Err.error
    (λ memory. (
      after_streams r stays.0 None,
      subst (λ x. PacketFails c.args.now r (after_streams r stays.0 None) x) (sym (c.cause.ensures.memory memory)) (stream_stays r c.in-Some.place stays.0 next stays.1),
      after,
    ))
    (λ exhausted.
    let used = said.exhausted (ap Err exhausted) in
    let up = used.1 (streams_in r) stand in
    let there : slice_get (values_of c.self.inside.streams.tx) c.in-Some.place ≡ Some up.1.0 = ap (λ (t : SessionState). slice_get (values_of t.tx) c.in-Some.place) mine.state ∙ up.1.2 in
    let stream : Some up.1.0 ≡ Some c.tx.result.now = sym there ∙ c.tx.ensures in
    let rtx : c.rtx-rtx.result ≡ Some up.0 = c.rtx-rtx.ensures ∙ ap (λ (o : Option TxRecord). option_and_then (λ (x : TxRecord). x.rtx) o) (sym stream) ∙ up.1.3 in (
      r,
      subst (λ x. PacketFails c.args.now r r x) (sym (c.cause.ensures.exhausted exhausted up.0 rtx)) (used_up r c.in-Some.place up.0 next up.1),
      same_stands m S _ r mine c.poll_packet-polled.new.self c.poll_packet-polled.new.transport used.0 said.uncounted,
    ))
