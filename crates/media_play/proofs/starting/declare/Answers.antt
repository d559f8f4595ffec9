use Rattle.std.proofs.Common.{◌≡◌, ℕ, subst, rules}
use Rattle.std.specs.Option.{option_map}
use Rattle.std.proofs.lemmas.Result.{on_ok_weaker}
use Rattle.mask_register.specs.MaskRegister.{Remembers}
use Rattle.queue_store.specs.Queue.{StandsFor as Holds}
use Rattle.stream_core.specs.StreamsRecord.{StreamsRecord, StandsFor, with_stream_tx}
use Rattle.media_play.proofs.StartingSteps.{streams_change}
use Rattle.media_play.proofs.starting.declare.Goals.{in-Some, in-None}
use Rattle.media_play.proofs.starting.declare.Goals as goal

pub returns-clause-stands : goal.returns-clause-stands
returns-clause-stands g c =
    let s = c.streams.ensures in
    let stream = c.args.stream.now in
    let first : c.match-stream.rtx ≡ option_map (λ (ssrc : ℕ). (ssrc, c.args.first)) stream.rtx = elim c.match-stream.branch [
      | in-Some w ↦ search rules
      | in-None w ↦ search rules
    ] in
    on_ok_weaker c.declare_stream_tx.result
    (λ says. streams_change (with_stream_tx stream.ssrc (option_map (λ (ssrc : ℕ). (ssrc, c.args.first)) stream.rtx) c.args.mid stream.rid) c.args.session.now c.streams.result.now c.declare_stream_tx.new.self s.rx s.tx s.threshold s.known s.repairs
    (subst (λ o. (r : StreamsRecord) → StandsFor Remembers Holds c.streams.result.now r → StandsFor Remembers Holds c.declare_stream_tx.new.self (with_stream_tx stream.ssrc o c.args.mid stream.rid r)) first says))
    c.declare_stream_tx.ensures.ok
