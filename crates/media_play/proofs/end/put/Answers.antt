use Rattle.std.proofs.Common.{◌≡◌, ℕ, List, ap, ◌∙◌}
use Rattle.indexmap.specs.IndexMap.{set_value_at}
use Rattle.stream_core.specs.Tables.{change_place}
use Rattle.stream_core.specs.TxRecord.{TxRecord, written}
use Rattle.media_play.proofs.Keys.{set_change}
use Rattle.media_play.proofs.end.put.Goals as goal

pub returns-in-Ok : goal.returns-in-Ok
returns-in-Ok g c =
    let old = c.args.session.now in
    let place = c.args.place in
    let f = written c.args.write in
    let tx : set_value_at c.streams.result.now.tx place c.write_rtp.new.self ≡ change_place f old.state.tx place =
    ap (set_value_at c.streams.result.now.tx place) c.in-Ok.ensures.ok ∙ set_change f c.streams.result.now.tx place c.tx_at.result.now c.tx_at.ensures.value
    ∙ ap (λ (l : List (ℕ × TxRecord)). change_place f l place) c.streams.ensures.tx in
    λ j. record { state = record old.state { tx = tx j; pause_threshold = c.streams.ensures.threshold j }; rx = c.streams.ensures.rx j; probes = old.probes; repairs = c.streams.ensures.repairs j; known = c.streams.ensures.known j; seen = old.seen }
