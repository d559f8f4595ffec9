use Rattle.std.proofs.Common.{◌≡◌, ap, ◌∙◌}
use Rattle.stream_core.specs.Pauses.{on_view}
use Rattle.stream_core.specs.Tables.{change_place}
use Rattle.session_turns.specs.Laws.{requesting}
use Rattle.media_play.specs.Ends.{EndSession}
use Rattle.media_play.specs.Requests.{requested}
use Rattle.media_play.specs.Sessions.{EndState}
use Rattle.media_play.proofs.Requesting.{turned_requested}
use Rattle.media_play.proofs.end.End.request.Goals as goal

pub returns-clause-made : goal.returns-clause-made
returns-clause-made g c =
    let what = c.args.what in
    let place = c.args.place in
    let session : c.deref_mut.result.now ≡ c.args.self.now.session = c.deref_mut.ensures.value ∙ ap (λ (e : EndState). e.session) c.self.view_is in
    c.request.ensures ∙ ap {A = EndSession} {B = EndSession} (λ v. record v { rx = change_place (on_view (requesting (requested what))) v.rx place }) session

pub returns-clause-turns : goal.returns-clause-turns
returns-clause-turns g c = λ setup side a entries time at.
    let what = c.args.what in
    let place = c.args.place in
    let session : c.deref_mut.result.now ≡ c.args.self.now.session = c.deref_mut.ensures.value ∙ ap (λ (e : EndState). e.session) c.self.view_is in
    turned_requested c.requests_turn.ensures at what place (record { session = c.request.new.session; written = c.self.inside.written.items })
    (c.request.ensures ∙ ap {A = EndSession} {B = EndSession} (λ v. record v { rx = change_place (on_view (requesting (requested what))) v.rx place }) session)
    (ap (λ (e : EndState). e.written) c.self.view_is)
