use Rattle.std.proofs.Common.{sym, ◌∙◌}
use Rattle.rtx_core.specs.Resends.{recached}
use Rattle.stream_core.proofs.Alongside.{set_same}
use Rattle.stream_core.proofs.RepairSteps.{on_err, repairs_changed, nothing_changed}
use Rattle.stream_core.proofs.streams.Streams.set_rtx_cache.Goals as goal

pub returns-in_err-set_rtx_cache-in-Some-clause-err : goal.returns-in_err-set_rtx_cache-in-Some-clause-err
returns-in_err-set_rtx_cache-in-Some-clause-err g c =
    let same = set_same c.self.inside.repairs c.in-Some.at c.at_mut.result.now c.set_rtx_cache.new.self c.at_mut.ensures.value c.in_err-set_rtx_cache-in-Some.ensures.err in
    on_err c.from_residual.result _ ((λ j. record { threshold = c.self.inside.pause_threshold; rx = c.self.inside.rx; known = c.self.inside.known; tx = c.self.inside.tx; repairs = same j }) ∙ c.self.view_is)

pub returns-in_ok-set_rtx_cache-in-Some-clause-ok : goal.returns-in_ok-set_rtx_cache-in-Some-clause-ok
returns-in_ok-set_rtx_cache-in-Some-clause-ok g c =
    repairs_changed g.W.GapWindow.remembers g.S.ResendStore.stands_for c.args.self.now _ c.self.view_is c.args.ssrc c.in-Some.at c.at_mut.result.now
    (sym c.place.ensures.place ∙ c.in-Some.is) c.at_mut.ensures.value c.set_rtx_cache.new.self (recached c.args.max_packets c.args.max_age c.args.cap) c.in_ok-set_rtx_cache-in-Some.ensures.ok

pub returns-in-None-clause-ok : goal.returns-in-None-clause-ok
returns-in-None-clause-ok g c =
    nothing_changed g.W.GapWindow.remembers g.S.ResendStore.stands_for c.args.self.now _ c.self.view_is c.args.ssrc (recached c.args.max_packets c.args.max_age c.args.cap) (sym c.place.ensures.place ∙ c.in-None.is)
