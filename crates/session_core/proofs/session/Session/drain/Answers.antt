use Rattle.std.proofs.Common.{List, sym, ap, subst, ◌∙◌}
use Rattle.session_core.specs.declared.datagram.Datagram.{Datagram}
use Rattle.session_core.specs.declared.datagram.DrainFault.{DrainFault}
use Rattle.session_core.specs.declared.datagram.Event.{Event}
use Rattle.session_core.specs.declared.error.RtcError.{RtcError}
use Rattle.session_core.specs.SessionRecord.{StandsFor}
use Rattle.session_core.specs.Calls.{after_events}
use Rattle.session_core.specs.Draining.{stopped_from, stopped_record, IsDrainCut}
use Rattle.session_core.proofs.Cuts.{cut_at_event, cut_later}
use Rattle.session_core.proofs.Failing.{on_ok_given, on_err_given}
use Rattle.session_core.proofs.session.Session.drain.Goals as goal

pub returns-then-is_err-clause-sofar : goal.returns-then-is_err-clause-sofar
returns-then-is_err-clause-sofar g c = λ runs r h.
    let m = g.W.GapWindow.remembers in
    let fault = c.cut_off-then-is_err.ensures in
    let k = on_err_given c.take_events.result (sym c.if-is_err.ensures.value) c.take_events.ensures.front r h in
    let mine = subst (λ s. StandsFor m g.S.ResendStore.stands_for s k.0) (sym c.self-2.view_is) k.1 in (
      stopped_record k.0,
      cut_at_event g.C.SrtpCipher.meaning c.args.now r k.0 c.take_events.new.sofar.items c.cut_off-then-is_err.result.error c.cut_off-then-is_err.result.sofar.events.items
          c.cut_off-then-is_err.result.sofar.datagrams.items k.2 k.3
          (ap {A = DrainFault} {B = RtcError} (λ f. f.error) fault)
          (ap {A = DrainFault} {B = List Event} (λ f. f.sofar.events.items) fault)
          (ap {A = DrainFault} {B = List Datagram} (λ f. f.sofar.datagrams.items) fault ∙ c.new-datagrams.ensures.items),
      record { state = ap stopped_from mine.state; rx = mine.rx; known = mine.known; probes = mine.probes; seen = mine.seen; repairs = mine.repairs },
    )

pub returns-in-Err-clause-sofar : goal.returns-in-Err-clause-sofar
returns-in-Err-clause-sofar g c = λ runs r h.
    let K = g.C.SrtpCipher.meaning in
    let fault = c.cut_off-in-Err.ensures in
    let k = on_ok_given c.take_events.result (sym c.if-is_err.ensures.value) c.take_events.ensures.taken r h in
    let cut = c.in-Err.ensures.sofar (after_events r) k.1 in (
      cut.0,
      cut_later K c.args.now r cut.0 c.in-Err.error c.cut_off-in-Err.result.error c.cut_off-in-Err.result.sofar.events.items
          c.cut_off-in-Err.result.sofar.datagrams.items
          (ap {A = DrainFault} {B = List Event} (λ f. f.sofar.events.items) fault ∙ k.0)
          (ap {A = DrainFault} {B = RtcError} (λ f. f.error) fault)
          (subst (λ (l : List Datagram). IsDrainCut K c.args.now (after_events r) c.in-Err.error cut.0 l) (sym (ap {A = DrainFault} {B = List Datagram} (λ f. f.sofar.datagrams.items) fault)) cut.1),
      cut.2,
    )
