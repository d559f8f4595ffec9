use Rattle.std.proofs.Common.{◌≡◌, ℕ, Bool, true, false, List, Option, Some, None, length, is_none, refl, sym, ap, subst, ◌∙◌}
use Rattle.std.specs.Prelude.{IfSome, ◌==◌, if◌then◌else◌}
use Rattle.rtp_base.specs.declared.media_time.MediaTime.{MediaTime}
use Rattle.rtp_wire.specs.declared.header.RtpHeader.{RtpHeader}
use Rattle.stream_core.specs.RxRecord.{StandsFor as StreamStandsFor}
use Rattle.stream_core.specs.Seen.{seen_of}
use Rattle.stream_core.specs.Tables.{place_of, Along}
use Rattle.stream_core.specs.declared.packet.RtpPacket.{RtpPacket}
use Rattle.stream_core.specs.declared.reports.Arrival.{Arrival}
use Rattle.session_core.specs.Receiving.{arrival_of, rx_opened, probes_opened, time_taken, packet_from, packet_after, cut}
use Rattle.session_core.specs.SessionRecord.{streams_in, SessionRecord, SessionState, SessionView, StandsFor}
use Rattle.session_core.proofs.Others.{restored_state}
use Rattle.session_core.proofs.StreamsIn.{streams_stand}
use Rattle.stream_core.specs.Repairing.{RepairsStandFor}
use Rattle.stream_core.specs.RxRecord.{RxView}
use Rattle.stream_core.specs.Seen.{SeenStandsFor}
use Rattle.stream_core.specs.StreamsRecord.{StreamsView}
use Rattle.session_core.proofs.Failing.{on_err_any}
use Rattle.session_core.proofs.Others.{streams_kept}
use Rattle.session_core.proofs.session.Session.take_packet.Goals as goal

-- a packet that is told has the time that its stream gives, and on SSRC 0 none is told
same_told : (b : Bool) (t u : MediaTime) (now : ℕ) (h : RtpHeader) (n : ℕ) (payload : List ℕ) (before : Option RtpPacket) → (b ≡ false → t ≡ u)
    → (if b then before else Some (packet_from t now h n payload)) ≡ (if b then before else Some (packet_from u now h n payload))
same_told true t u now h n payload before same = refl
same_told false t u now h n payload before same = ap (λ (m : MediaTime). Some (packet_from m now h n payload)) (same refl)

where_placed : (place : Option ℕ) (z : Bool) (P : ℕ → Type 0) (Q : Type 0) → IfSome place P → IfSome place (λ i. P i → Q) → is_none place ≡ z → z ≡ false → Q
where_placed None z P Q at says e f = absurd cc
where_placed (Some i) z P Q at says e f = says at

pub returns-clause-ok : goal.returns-clause-ok
returns-clause-ok g c = λ r p h memory probe place cuts.
    let R = g.W.GapWindow.remembers in
    let S = g.S.ResendStore.stands_for in
    let mine = subst (λ s. StandsFor R S s r) (sym c.self.view_is) h in
    let x = c.args.header.now in
    let n = c.args.number in
    let here : IfSome c.args.place (λ i. place_of x.ssrc c.self.inside.streams.rx ≡ Some i) =
    subst (λ (v : SessionView g.row.W.Denot g.row.S.Denot). IfSome c.args.place (λ i. place_of x.ssrc v.rx ≡ Some i)) (sym c.self.view_is) place in
    let taken = c.in_ok-take.ensures.rx (streams_in r) x.ssrc (streams_stand R S _ r mine) probe here in
    let came : c.arrival-came.result ≡ arrival_of r.state.types c.args.now x (length (cut x p)) =
    c.arrival-came.ensures ∙ ap (λ (s : SessionState). arrival_of s.types c.args.now x c.len.result) mine.state
    ∙ ap (arrival_of r.state.types c.args.now x) (c.len.ensures ∙ ap length cuts) in
    let given = c.taken_time-time.result in
    let timed : MediaTime = time_taken (arrival_of r.state.types c.args.now x (length (cut x p))) r.rx x.ssrc in
    let time : (x.ssrc == 0) ≡ false → given ≡ timed = λ some.
    where_placed c.args.place (x.ssrc == 0) (λ i. place_of x.ssrc c.self.inside.streams.rx ≡ Some i) (given ≡ time_taken c.arrival-came.result r.rx x.ssrc) here
    (c.taken_time-time.ensures (streams_in r) x.ssrc (streams_stand R S _ r mine)) probe some
    ∙ ap (λ (a : Arrival). time_taken a r.rx x.ssrc) came in
    let packet : c.put_packet.new.packet ≡ packet_after timed c.args.now x n (cut x p) c.self.inside.packet =
    c.put_packet.ensures ∙ ap (λ l. packet_after given c.args.now x n l c.self.inside.packet) cuts
    ∙ same_told (x.ssrc == 0) given timed c.args.now x n (cut x p) c.self.inside.packet time in
    record {
      state = restored_state _ r.state c.take.new.streams.threshold c.take.new.streams.tx c.put_packet.new.packet (λ s. packet_after timed c.args.now x n (cut x p) s.packet)
          mine.state c.in_ok-take.ensures.threshold c.in_ok-take.ensures.tx packet;
      rx = subst (λ (a : Arrival). Along (StreamStandsFor R) c.take.new.streams.rx (rx_opened (seen_of x.ssrc r.seen) a x.ssrc n r.rx)) came
          (subst (λ m. Along (StreamStandsFor R) c.take.new.streams.rx (rx_opened m c.arrival-came.result x.ssrc n r.rx)) memory taken.rx);
      probes = subst (λ (a : Arrival). StreamStandsFor R c.take.new.probes (probes_opened (seen_of x.ssrc r.seen) a x.ssrc n r.probes)) came
          (subst (λ m. StreamStandsFor R c.take.new.probes (probes_opened m c.arrival-came.result x.ssrc n r.probes)) memory (c.in_ok-take.ensures.probes r.probes x.ssrc mine.probes probe));
      known = taken.known;
      seen = c.in_ok-put.ensures.ok r.seen mine.seen;
      repairs = taken.repairs;
    }

pub returns-in_err-take-clause-stands : goal.returns-in_err-take-clause-stands
returns-in_err-take-clause-stands g c =
    let R = g.W.GapWindow.remembers in
    let S = g.S.ResendStore.stands_for in
    let front : (r : SessionRecord) → StandsFor R S c.args.self.now r → is_none c.args.place ≡ (c.args.header.now.ssrc == 0) → IfSome c.args.place (λ i. place_of c.args.header.now.ssrc c.args.self.now.rx ≡ Some i)
    → (after : SessionRecord) × StandsFor R S _ after =
    λ r h probe place.
    let mine = subst (λ s. StandsFor R S s r) (sym c.self.view_is) h in
    let same = c.in_err-take.ensures.err in (
      r,
      record {
        state = streams_kept _ r.state c.take.new.streams.threshold c.take.new.streams.tx mine.state c.in_err-take.ensures.threshold c.in_err-take.ensures.tx;
        rx = subst (λ (v : StreamsView g.row.W.Denot g.row.S.Denot). Along (StreamStandsFor R) v.rx r.rx) (sym same.0) mine.rx;
        known = c.in_err-take.ensures.known ∙ mine.known;
        probes = subst (λ (v : RxView g.row.W.Denot). StreamStandsFor R v r.probes) (sym same.1) mine.probes;
        seen = mine.seen;
        repairs = subst (λ l. Along (RepairsStandFor S) l r.repairs) (sym c.in_err-take.ensures.repairs) mine.repairs;
      },
    ) in
    on_err_any _ front

pub returns-in_err-put-clause-stands : goal.returns-in_err-put-clause-stands
returns-in_err-put-clause-stands g c =
    let R = g.W.GapWindow.remembers in
    let S = g.S.ResendStore.stands_for in
    let front : (r : SessionRecord) → StandsFor R S c.args.self.now r → is_none c.args.place ≡ (c.args.header.now.ssrc == 0) → IfSome c.args.place (λ i. place_of c.args.header.now.ssrc c.args.self.now.rx ≡ Some i)
    → (after : SessionRecord) × StandsFor R S _ after =
    λ r h probe place.
    let mine = subst (λ s. StandsFor R S s r) (sym c.self.view_is) h in
    let x = c.args.header.now in
    let n = c.args.number in
    let here : IfSome c.args.place (λ i. place_of x.ssrc c.self.inside.streams.rx ≡ Some i) =
    subst (λ (v : SessionView g.row.W.Denot g.row.S.Denot). IfSome c.args.place (λ i. place_of x.ssrc v.rx ≡ Some i)) (sym c.self.view_is) place in
    let taken = c.in_ok-take.ensures.rx (streams_in r) x.ssrc (streams_stand R S _ r mine) probe here in (
      record r {
        rx = rx_opened c.args.remembered.now c.arrival-came.result x.ssrc n r.rx;
        probes = probes_opened c.args.remembered.now c.arrival-came.result x.ssrc n r.probes;
      },
      record {
        state = streams_kept _ r.state c.take.new.streams.threshold c.take.new.streams.tx mine.state c.in_ok-take.ensures.threshold c.in_ok-take.ensures.tx;
        rx = taken.rx;
        known = taken.known;
        probes = c.in_ok-take.ensures.probes r.probes x.ssrc mine.probes probe;
        seen = subst (λ l. SeenStandsFor l r.seen) (sym c.in_err-put.ensures.err) mine.seen;
        repairs = taken.repairs;
      },
    ) in
    on_err_any _ front
