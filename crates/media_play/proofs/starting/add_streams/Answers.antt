use Rattle.std.proofs.Common.{◌++◌, List, refl, sym, ap, ◌∙◌}
use Rattle.std.specs.List.{filter_map}
use Rattle.std.proofs.lemmas.List.{append-nil, take_all}
use Rattle.session_core.specs.Sending.{has_mid}
use Rattle.session_core.specs.SessionRecord.{MediaRecord}
use Rattle.media_model.specs.declared.setup.Stream.{Stream}
use Rattle.media_model.specs.Sides.{peer_of}
use Rattle.run_model.specs.Transcripts.{outgoing_in}
use Rattle.media_play.proofs.StartingLists.{filter_more, filter_once}
use Rattle.media_play.proofs.StartingSteps.{starts_same}
use Rattle.media_play.proofs.starting.add_streams.Goals as goal

pub loop-stream-init : goal.loop-stream-init
loop-stream-init g c = record {
  medias = refl;
  starts = λ cipher sent received known once_sent once_heard h.
      starts_same cipher c.args.setup.now c.args.side _ _ _ _ c.args.session.now (sym (append-nil sent)) (sym (append-nil received)) h;
}

pub loop-stream-preserved : goal.loop-stream-preserved
loop-stream-preserved g c = record {
  medias = c.add_stream.ensures.medias ∙ c.loop-stream.invariant.medias;
  starts = λ cipher sent received known once_sent once_heard h.
      let own = outgoing_in c.args.setup.now c.args.side in
      let others = outgoing_in c.args.setup.now (peer_of c.args.side) in
      let xs = c.args.streams.now in
      let i = c.loop-stream.stream-index in
      let x = c.stream-item.result in
      let within = c.loop-stream-test.true in
      let read = c.stream-item.is in
      let before = c.loop-stream.invariant.starts cipher sent received known once_sent once_heard h in
      let still = ap (λ (medias : List MediaRecord). has_mid c.args.mid medias) c.loop-stream.invariant.medias ∙ known in
      starts_same cipher c.args.setup.now c.args.side _ _ _ _ c.add_stream.new.session (filter_more own sent xs i x within read) (filter_more others received xs i x within read)
      (c.in_ok-add_stream.ensures.starts cipher _ _ still (filter_once own sent xs i x within read once_sent) (filter_once others received xs i x within read once_heard) before);
}

pub returns : goal.returns
returns g c = λ cipher sent received known once_sent once_heard h.
    let all = take_all c.loop-stream.stream-index c.args.streams.now c.loop-stream-test.false in
    starts_same cipher c.args.setup.now c.args.side _ _ _ _ c.loop-stream.session (ap (λ (l : List Stream). sent ++ filter_map (outgoing_in c.args.setup.now c.args.side) l) all)
    (ap (λ (l : List Stream). received ++ filter_map (outgoing_in c.args.setup.now (peer_of c.args.side)) l) all) (c.loop-stream.invariant.starts cipher sent received known once_sent once_heard h)
