use Rattle.std.proofs.lemmas.Result.{on_ok_weaker}
use Rattle.rtx_core.specs.Resends.{recached}
use Rattle.stream_core.specs.StreamsRecord.{StreamsRecord}
use Rattle.stream_core.specs.Tables.{change_at}
use Rattle.media_play.proofs.StartingSteps.{streams_change}
use Rattle.media_play.proofs.starting.keep.Goals as goal

pub returns-clause-stands : goal.returns-clause-stands
returns-clause-stands g c =
    let s = c.streams.ensures in
    let f = λ (r : StreamsRecord). let t : StreamsRecord = record r { repairs = change_at c.args.ssrc (recached c.args.cache.packets c.args.cache.age c.args.cache.cap) r.repairs } in t in
    on_ok_weaker c.set_rtx_cache.result (λ says. streams_change f c.args.session.now c.streams.result.now c.set_rtx_cache.new.self s.rx s.tx s.threshold s.known s.repairs says) c.set_rtx_cache.ensures.ok
