use Rattle.std.proofs.Common.{◌≡◌, Bool, false, ◌||◌, is_err, ◌∷◌, refl, sym, ap, ◌∙◌, subst}
use Rattle.session_core.specs.Rounds.{after_timeout}
use Rattle.session_core.specs.SessionRecord.{SessionState}
use Rattle.session_turns.specs.Reading.{events_of}
use Rattle.media_model.specs.declared.entry.Entry.TheVariants.{Ticked}
use Rattle.run_model.specs.Events.{ticked}
use Rattle.media_laws.specs.Config.{config_of}
use Rattle.media_laws.specs.Keys.{sealing_of}
use Rattle.media_play.specs.Packets.{seals_from}
use Rattle.media_play.specs.Ends.{EndSession, SessionStands}
use Rattle.media_play.specs.Sessions.{EndState}
use Rattle.media_play.proofs.Cutting.{tick_cause}
use Rattle.media_play.proofs.Rightly.{tick_read, no_writes_sealed, right_seals}
use Rattle.media_play.proofs.Turned.{turned_quiet}
use Rattle.media_play.proofs.end.End.tick.Goals as goal

pub returns-clause-sealed : goal.returns-clause-sealed
returns-clause-sealed g c = λ setup a entries at.
    let K = g.C.SrtpCipher.meaning in
    let side = c.args.side in
    let time = c.args.time in
    let ready = at.ready in
    let r = ready.session in
    let C = config_of (sealing_of K setup) setup in
    let datagrams = c.in-Ok-drain.drained.datagrams.items in
    let view = c.deref_mut-session.ensures.value ∙ ap (λ (e : EndState). e.session) c.self.view_is in
    let stands : SessionStands c.deref_mut-session.result.now r = subst (λ (v : EndSession). SessionStands v r) (sym view) ready.stands in
    let d = (c.in-Ok-drain.ensures.drained (after_timeout time r) (c.in-Ok.ensures.ok r stands)).1 in
    let turn = c.ticks_turn.ensures K C side r d.0 a time datagrams ready.fit ready.mirrors at.late at.some at.early d.1 in
    let all = c.seals_are_right.ensures K C side r d.1.last a ready.mirrors.own time datagrams ready.fit ready.mirrors ready.mirrors.seals at.some d.1.sent in
    record {
      turns = turned_quiet ready _ d.0 (Ticked side time ∷ seals_from side datagrams) (ticked time ∷ events_of r.state.transport.exts datagrams)
          (tick_read setup r.state.transport.exts side time datagrams ready.exts) (λ q. no_writes_sealed side side q datagrams) refl d.2
          (ap (λ (e : EndState). e.written) c.self.view_is) turn;
      right = right_seals ready.mirrors ready.exts datagrams all;
    }

pub returns-in-Err-drain-clause-refused : goal.returns-in-Err-drain-clause-refused
returns-in-Err-drain-clause-refused g c = λ setup a entries at.
    let ready = at.ready in
    let r = ready.session in
    let fault = c.in-Err-drain.fault in
    let view = c.deref_mut-session.ensures.value ∙ ap (λ (e : EndState). e.session) c.self.view_is in
    let stands : SessionStands c.deref_mut-session.result.now r = subst (λ (v : EndSession). SessionStands v r) (sym view) ready.stands in
    let before : c.deref_mut-session.result.now.state.stopped ≡ false = ap (λ (s : SessionState). s.stopped) stands.state ∙ ready.runs in
    let still : c.handle_timeout.new.self.state.stopped ≡ false =
    c.handle_timeout.ensures.latch ∙ ap (λ (b : Bool). b || is_err c.handle_timeout.result) before ∙ ap (λ x. is_err x) c.in-Ok.is in
    let cut = c.in-Err-drain.ensures.sofar still (after_timeout c.args.time r) (c.in-Ok.ensures.ok r stands) in
    tick_cause c.ticks_cut.ensures c.seals_are_right.ensures at fault.error cut.0 fault.sofar.events.items fault.sofar.datagrams.items
    c.used_up.result c.used_up.ensures cut.1
