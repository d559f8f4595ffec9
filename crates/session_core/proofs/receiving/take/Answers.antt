use Rattle.std.proofs.Common.{◌≡◌, false, Some, sym, ap, subst, ◌∙◌}
use Rattle.std.specs.Prelude.{◌==◌, if◌then◌else◌, is_none}
use Rattle.stream_core.specs.RxRecord.{opened_as}
use Rattle.stream_core.specs.StreamsRecord.{StandsFor}
use Rattle.stream_core.specs.Tables.{place_of, change_at}
use Rattle.session_core.proofs.receiving.take.Goals as goal

pub returns-in_ok-take_at-in-Some-clause-rx : goal.returns-in_ok-take_at-in-Some-clause-rx
returns-in_ok-take_at-in-Some-clause-rx g c = λ r ssrc h probe place.
    let other : (ssrc == 0) ≡ false = sym probe ∙ ap is_none c.in-Some.is in
    let here : place_of ssrc c.args.streams.now.rx ≡ Some c.in-Some.place = rw c.in-Some.is at place in
    let taken = c.in_ok-take_at-in-Some.ensures.ok r ssrc h here in
    subst (λ b. StandsFor g.W.GapWindow.remembers g.S.ResendStore.stands_for c.take_at.new.self (record r { rx = if b then r.rx else change_at ssrc (opened_as c.args.remembered.now c.args.arrival.now c.args.number) r.rx })) (sym other) taken
