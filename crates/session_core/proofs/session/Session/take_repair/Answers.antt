use Rattle.std.proofs.Common.{◌≡◌, sym, ap, subst, ◌∙◌}
use Rattle.stream_core.specs.RxRecord.{StandsFor as StreamStandsFor}
use Rattle.stream_core.specs.RxRepairs.{repair_came}
use Rattle.stream_core.specs.Seen.{seen_of}
use Rattle.stream_core.specs.Tables.{place_of, change_at, Along}
use Rattle.session_core.specs.SessionRecord.{streams_in, SessionView, StandsFor}
use Rattle.session_core.proofs.Others.{streams_kept}
use Rattle.session_core.proofs.StreamsIn.{streams_stand}
use Rattle.session_core.proofs.session.Session.take_repair.Goals as goal

pub returns-clause-ok : goal.returns-clause-ok
returns-clause-ok g c = λ r original h place.
    let R = g.W.GapWindow.remembers in
    let S = g.S.ResendStore.stands_for in
    let mine = subst (λ s. StandsFor R S s r) (sym c.self.view_is) h in
    let here = ap (λ (v : SessionView g.row.W.Denot g.row.S.Denot). place_of original v.rx) c.self.view_is ∙ place in
    let greatest : c.get-greatest.result ≡ seen_of c.args.header.now.ssrc r.seen = c.get-greatest.ensures.value r.seen mine.seen in
    let taken = c.take_repair_at.ensures.taken (streams_in r) original (streams_stand R S _ r mine) here in
    record {
      state = streams_kept _ r.state c.take_repair_at.new.self.threshold c.take_repair_at.new.self.tx mine.state c.take_repair_at.ensures.threshold c.take_repair_at.ensures.tx;
      rx = subst (λ o. Along (StreamStandsFor R) c.take_repair_at.new.self.rx (change_at original (repair_came o c.args.now c.args.number) r.rx)) greatest taken.rx;
      known = taken.known;
      probes = mine.probes;
      seen = c.in_ok-put.ensures.ok r.seen mine.seen;
      repairs = taken.repairs;
    }
