use Rattle.std.proofs.Common.{◌≡◌, Option, Some, unwrap_or, length, sym, ap, subst, ◌∙◌}
use Rattle.std.specs.Option.{option_map_or}
use Rattle.rtp_base.specs.declared.media_time.MediaTime.{MediaTime}
use Rattle.stream_core.specs.RxRecord.{StandsFor as StreamStandsFor}
use Rattle.stream_core.specs.RxRepairs.{after_restored}
use Rattle.stream_core.specs.Seen.{SeenStandsFor, seen_of, saw}
use Rattle.stream_core.specs.StreamsRecord.{restored_on, restored_number_on, restored_time_on}
use Rattle.stream_core.specs.Tables.{place_of, change_at, Along}
use Rattle.stream_core.specs.declared.reports.Arrival.{Arrival}
use Rattle.session_core.specs.Receiving.{arrival_of, no_time, time_restored, packet_restored}
use Rattle.session_core.specs.Repairs.{restored_header}
use Rattle.session_core.specs.SessionRecord.{streams_in, SessionRecord, SessionState, SessionView, StandsFor}
use Rattle.session_core.proofs.Others.{restored_state}
use Rattle.session_core.proofs.StreamsIn.{streams_stand}
use Rattle.stream_core.specs.Repairing.{RepairsStandFor}
use Rattle.stream_core.specs.StreamsRecord.{StreamsView}
use Rattle.session_core.proofs.Failing.{on_err_any}
use Rattle.session_core.proofs.Others.{streams_kept}
use Rattle.session_core.proofs.session.Session.restore.Goals as goal

pub returns-clause-ok : goal.returns-clause-ok
returns-clause-ok g c = λ r h place.
    let R = g.W.GapWindow.remembers in
    let S = g.S.ResendStore.stands_for in
    let original = c.args.original in
    let low = c.args.low in
    let mine = subst (λ s. StandsFor R S s r) (sym c.self.view_is) h in
    let here = ap (λ (v : SessionView g.row.W.Denot g.row.S.Denot). place_of original v.rx) c.self.view_is ∙ place in
    let stands = streams_stand R S _ r mine in
    let greatest : c.get-greatest.result ≡ seen_of original r.seen = c.get-greatest.ensures.value r.seen mine.seen in
    let number : Some c.restored_number_at-number.result ≡ restored_number_on (seen_of original r.seen) r.rx original low =
    c.restored_number_at-number.ensures.number (streams_in r) original stands here ∙ ap (λ o. restored_number_on o r.rx original low) greatest in
    let fresh : c.in_ok-fresh.fresh ≡ restored_on (seen_of original r.seen) r.rx original low =
    c.in_ok-fresh.ensures.restored (streams_in r) original stands here ∙ ap (λ o. restored_on o r.rx original low) greatest in
    let came : c.restored_arrival-came.result ≡ arrival_of r.state.types c.args.now (restored_header r.state.types original low c.args.header.now) (length c.args.payload) =
    c.restored_arrival-came.ensures original low ∙ ap (λ (s : SessionState). arrival_of s.types c.args.now (restored_header s.types original low c.args.header.now) c.len.result) mine.state
    ∙ ap (arrival_of r.state.types c.args.now (restored_header r.state.types original low c.args.header.now)) c.len.ensures in
    let given = c.restored_time_at-time.result in
    let timed : MediaTime = time_restored (arrival_of r.state.types c.args.now (restored_header r.state.types original low c.args.header.now) (length c.args.payload)) r.rx original in
    let time : given ≡ timed =
    ap (λ (o : Option MediaTime). unwrap_or o no_time)
    (c.restored_time_at-time.ensures (streams_in r) original stands here ∙ ap (λ (a : Arrival). restored_time_on a r.rx original) came) in
    let after = c.in_ok-fresh.ensures.after (streams_in r) original stands here in
    record {
      state = restored_state _ r.state c.restore_at.new.self.threshold c.restore_at.new.self.tx c.put_restored.new.packet
          (λ s. packet_restored timed s.types c.args.now c.args.header.now original c.args.payload (restored_on (seen_of original r.seen) r.rx original low) s.packet) mine.state
          c.in_ok-fresh.ensures.threshold c.in_ok-fresh.ensures.tx
          (c.put_restored.ensures
          ∙ ap (λ (t : MediaTime). packet_restored t c.self.inside.types c.args.now c.args.header.now original c.args.payload c.in_ok-fresh.fresh c.self.inside.packet) time
          ∙ ap (λ o. packet_restored timed c.self.inside.types c.args.now c.args.header.now original c.args.payload o c.self.inside.packet) fresh);
      rx = subst (λ (a : Arrival). Along (StreamStandsFor R) c.restore_at.new.self.rx (change_at original (after_restored (seen_of original r.seen) a low) r.rx)) came
          (subst (λ o. Along (StreamStandsFor R) c.restore_at.new.self.rx (change_at original (after_restored o c.restored_arrival-came.result low) r.rx)) greatest after.rx);
      known = after.known;
      probes = mine.probes;
      seen = subst (λ o. SeenStandsFor c.put.new.self (option_map_or (λ n. saw original n r.seen) o r.seen)) number (c.in_ok-put.ensures.ok r.seen mine.seen);
      repairs = after.repairs;
    }

pub returns-in_err-fresh-clause-stands : goal.returns-in_err-fresh-clause-stands
returns-in_err-fresh-clause-stands g c =
    let R = g.W.GapWindow.remembers in
    let S = g.S.ResendStore.stands_for in
    let front : (r : SessionRecord) → StandsFor R S c.args.self.now r → place_of c.args.original c.args.self.now.rx ≡ Some c.args.place
    → (after : SessionRecord) × StandsFor R S _ after =
    λ r h place.
    let mine = subst (λ s. StandsFor R S s r) (sym c.self.view_is) h in
    let same = c.in_err-fresh.ensures.err in (
      r,
      record {
        state = streams_kept _ r.state c.restore_at.new.self.threshold c.restore_at.new.self.tx mine.state c.in_err-fresh.ensures.threshold c.in_err-fresh.ensures.tx;
        rx = subst (λ (v : StreamsView g.row.W.Denot g.row.S.Denot). Along (StreamStandsFor R) v.rx r.rx) (sym same) mine.rx;
        known = c.in_err-fresh.ensures.known ∙ mine.known;
        probes = mine.probes;
        seen = mine.seen;
        repairs = subst (λ l. Along (RepairsStandFor S) l r.repairs) (sym c.in_err-fresh.ensures.repairs) mine.repairs;
      },
    ) in
    on_err_any _ front

pub returns-in_err-put-clause-stands : goal.returns-in_err-put-clause-stands
returns-in_err-put-clause-stands g c =
    let R = g.W.GapWindow.remembers in
    let S = g.S.ResendStore.stands_for in
    let front : (r : SessionRecord) → StandsFor R S c.args.self.now r → place_of c.args.original c.args.self.now.rx ≡ Some c.args.place
    → (after : SessionRecord) × StandsFor R S _ after =
    λ r h place.
    let mine = subst (λ s. StandsFor R S s r) (sym c.self.view_is) h in
    let here = ap (λ (v : SessionView g.row.W.Denot g.row.S.Denot). place_of c.args.original v.rx) c.self.view_is ∙ place in
    let after = c.in_ok-fresh.ensures.after (streams_in r) c.args.original (streams_stand R S _ r mine) here in (
      record r { rx = change_at c.args.original (after_restored c.get-greatest.result c.restored_arrival-came.result c.args.low) r.rx },
      record {
        state = streams_kept _ r.state c.restore_at.new.self.threshold c.restore_at.new.self.tx mine.state c.in_ok-fresh.ensures.threshold c.in_ok-fresh.ensures.tx;
        rx = after.rx;
        known = after.known;
        probes = mine.probes;
        seen = subst (λ l. SeenStandsFor l r.seen) (sym c.in_err-put.ensures.err) mine.seen;
        repairs = after.repairs;
      },
    ) in
    on_err_any _ front
