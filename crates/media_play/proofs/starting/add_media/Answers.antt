use Rattle.mapping_core.specs.declared.rids.Rids.TheVariants.{Specific}
use Rattle.std.proofs.Common.{◌≡◌, [], ◌++◌, List, map, sym, ap, subst, ◌∙◌}
use Rattle.std.specs.List.{filter_map}
use Rattle.std.proofs.lemmas.Result.{on_ok_weaker}
use Rattle.media_play.specs.Ends.{EndSession}
use Rattle.session_core.specs.Sending.{has_mid}
use Rattle.session_core.specs.SessionRecord.{MediaRecord}
use Rattle.media_model.specs.declared.setup.Stream.{Stream}
use Rattle.media_model.specs.Sides.{peer_of}
use Rattle.run_model.specs.Transcripts.{outgoing_in}
use Rattle.media_play.specs.Starting.{AreOnce}
use Rattle.media_play.proofs.StartingSteps.{has_last, starts_media, starts_same}
use Rattle.media_play.proofs.starting.add_media.Goals as goal

pub returns-in-Ok : goal.returns-in-Ok
returns-in-Ok g c =
    let mid = c.args.media.now.mid in
    let setup = c.args.setup.now in
    let streams = c.as_slice-in-Ok.ensures in
    let known =
    ap (λ (v : EndSession). has_mid mid v.state.medias) c.in-Ok.ensures.ok
    ∙ has_last c.args.session.now.state.medias c.set_rid_rx.new.self mid (ap (λ (m : MediaRecord). m.mid) c.set_rid_rx.ensures ∙ ap (λ (m : MediaRecord). m.mid) c.new-section.ensures) in
    let types : c.set_rid_rx.new.self.remote_pts ≡ map (λ t. t.pt) setup.types =
    ap (λ (m : MediaRecord). m.remote_pts) c.set_rid_rx.ensures ∙ ap (λ (m : MediaRecord). m.remote_pts) c.new-section.ensures ∙ c.in_ok-types.ensures in
    let rids : c.set_rid_rx.new.self.rids ≡ Specific [] = ap (λ (m : MediaRecord). m.rids) c.set_rid_rx.ensures ∙ ap Specific c.new.ensures in
    on_ok_weaker c.add_streams.result
    (λ starts cipher sent received once_sent once_heard h.
    let own = ap (λ (l : List Stream). sent ++ filter_map (outgoing_in setup c.args.side) l) streams in
    let others = ap (λ (l : List Stream). received ++ filter_map (outgoing_in setup (peer_of c.args.side)) l) streams in
    starts_same cipher setup c.args.side _ _ _ _ c.add_streams.new.session own others
    (starts cipher sent received known (subst AreOnce (sym own) once_sent) (subst AreOnce (sym others) once_heard)
    (starts_media cipher setup c.args.side sent received c.args.session.now c.add_media.new.self c.set_rid_rx.new.self (record { expects = rids; types = types }) c.in-Ok.ensures.ok h)))
    c.add_streams.ensures
