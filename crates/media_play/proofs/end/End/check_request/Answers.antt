use Rattle.std.proofs.Common.{◌≡◌, ap, sym, ◌∙◌}
use Rattle.stream_core.specs.Tables.{place_of}
use Rattle.media_play.specs.Ends.{EndSession}
use Rattle.media_play.specs.Sessions.{EndState}
use Rattle.media_play.proofs.Requesting.{unknown_request, known_request}
use Rattle.media_play.proofs.end.End.check_request.Goals.{in-Some, in-None}
use Rattle.media_play.proofs.end.End.check_request.Goals as goal

pub returns-clause-rule : goal.returns-clause-rule
returns-clause-rule g c =
    let ssrc = c.args.ssrc in
    let table : place_of ssrc c.args.self.now.session.rx ≡ place_of ssrc c.streams.result.now.rx =
    ap (λ (e : EndState). place_of ssrc e.session.rx) (sym c.self.view_is) ∙ ap (λ (v : EndSession). place_of ssrc v.rx) (sym c.deref_mut.ensures.value) ∙ sym (ap (place_of ssrc) c.streams.ensures.rx) in
    elim c.match-rx_place.branch [
      | in-Some w ↦ rw w.result-is (λ setup side a entries h. known_request h ssrc w.in-Some.place (table ∙ sym w.in-Some.ensures.place))
      | in-None w ↦ rw w.result-is (λ setup side a entries h. unknown_request h ssrc (table ∙ sym w.in-None.ensures.place))
    ]
