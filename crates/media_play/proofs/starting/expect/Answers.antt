use Rattle.std.proofs.Common.{◌≡◌, subst, rules}
use Rattle.std.specs.Prelude.{is_none}
use Rattle.std.proofs.lemmas.Result.{on_ok_weaker}
use Rattle.mask_register.specs.MaskRegister.{Remembers}
use Rattle.queue_store.specs.Queue.{StandsFor as Holds}
use Rattle.stream_core.specs.StreamsRecord.{StreamsRecord, StandsFor, with_stream_rx}
use Rattle.media_play.proofs.StartingSteps.{streams_change}
use Rattle.media_play.proofs.starting.expect.Goals as goal

pub returns-clause-stands : goal.returns-clause-stands
returns-clause-stands g c =
    let s = c.streams.ensures in
    let stream = c.args.stream.now in
    let none : c.is_none.result ≡ is_none stream.rtx = search rules in
    on_ok_weaker c.expect_stream_rx.result
    (λ says. streams_change (with_stream_rx stream.ssrc stream.rtx c.args.mid stream.rid (is_none stream.rtx)) c.args.session.now c.streams.result.now c.expect_stream_rx.new.self s.rx s.tx s.threshold s.known s.repairs
    (subst (λ b. (r : StreamsRecord) → StandsFor Remembers Holds c.streams.result.now r → StandsFor Remembers Holds c.expect_stream_rx.new.self (with_stream_rx stream.ssrc stream.rtx c.args.mid stream.rid b r)) none says))
    c.expect_stream_rx.ensures.ok
