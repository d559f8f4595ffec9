use Rattle.std.proofs.Common.{◌≡◌, true, get_or, sym, ap, ◌∙◌}
use Rattle.std.proofs.lemmas.List.{get_or_default}
use Rattle.pace_core.specs.declared.null.NullQueue.{NullQueue}
use Rattle.pace_core.specs.Sends.{same_queue}
use Rattle.pace_core.proofs.NullLaws.{noted_at}
use Rattle.pace_core.proofs.null.last_sent.Goals as goal

pub returns-then-same_queue : goal.returns-then-same_queue
returns-then-same_queue c =
    let qs = c.args.noted.now in
    let d = c.index-noted-place-then-same_queue.result in
    let same : same_queue (get_or qs c.args.place d).midrid c.args.key.now ≡ true =
    ap (λ (q : NullQueue). same_queue q.midrid c.args.key.now) (get_or_default qs c.args.place d c.index-noted-place.result c.if-place-noted.true)
    ∙ sym c.same_queue.ensures ∙ c.if-same_queue.true in
    noted_at c.args.sends.now qs c.args.place d c.args.key.now c.if-place-noted.true same
