use Rattle.std.proofs.Common.{◌≤◌, Some, length, ap, ◌∙◌, arith}
use Rattle.std.specs.Option.{option_map}
use Rattle.stream_core.specs.StreamsRecord.{is_ready}
use Rattle.session_core.specs.Sending.{is_due}
use Rattle.session_core.proofs.Asked.{tested_at, ready_is}
use Rattle.session_core.proofs.Dues.{none_more, found_at, found_none}
use Rattle.session_core.proofs.sending.first_due.Goals as goal

pub loop-place-preserved : goal.loop-place-preserved
loop-place-preserved g c =
    let due = is_due c.args.medias.now c.args.released c.args.streams.now.repairs in
    let x = tested_at due _ c.is_due.result c.is_due.ensures in
    record { before = none_more due c.args.streams.now.tx c.loop-place.place x.0 c.loop-place.invariant.before x.1 (x.2 ∙ c.if-is_due.false) }

pub returns-then-is_due-clause-place : goal.returns-then-is_due-clause-place
returns-then-is_due-clause-place g c =
    let due = is_due c.args.medias.now c.args.released c.args.streams.now.repairs in
    let x = tested_at due _ c.is_due.result c.is_due.ensures in
    found_at due c.args.streams.now.tx c.loop-place.place x.0 c.loop-place.invariant.before x.1 (x.2 ∙ c.if-is_due.true)

pub returns-then-is_due-clause-ready : goal.returns-then-is_due-clause-ready
returns-then-is_due-clause-ready g c =
    let due = is_due c.args.medias.now c.args.released c.args.streams.now.repairs in
    let x = tested_at due _ c.is_due.result c.is_due.ensures in
    ap (option_map (is_ready c.args.streams.now.repairs)) x.1
    ∙ ap Some (ready_is c.args.medias.now c.args.released c.args.streams.now.repairs x.0 (x.2 ∙ c.if-is_due.true))

pub returns-clause-place : goal.returns-clause-place
returns-clause-place g c =
    let long : length c.args.streams.now.tx ≤ c.loop-place.place = omega arith in
    found_none (is_due c.args.medias.now c.args.released c.args.streams.now.repairs) c.args.streams.now.tx c.loop-place.place c.loop-place.invariant.before long
