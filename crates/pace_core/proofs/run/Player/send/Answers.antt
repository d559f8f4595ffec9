use Rattle.std.proofs.Common.{◌≡◌, refl}
use Rattle.std.specs.Prelude.{Some}
use Rattle.pace_core.specs.Leaky.{StandsFor}
use Rattle.pace_core.specs.Past.{Past, sent, waiting_in, sends_in}
use Rattle.pace_core.proofs.RunLaws.{sent_from_waiting}
use Rattle.pace_core.proofs.run.Player.send.Goals as goal

-- what is owed is read after the packet
pub returns-clause-entry : goal.returns-clause-entry
returns-clause-entry c = λ past plays.
    let after : Past = sent past c.args.now c.args.size c.in-Some.key in
    let stands : StandsFor c.register_send.new.self after = c.in_ok-register_send.ensures.ok past plays.paces in
    let debt = c.debt.ensures after stands in
    let rate = c.rate.ensures after stands in
    cc

pub returns-clause-plays : goal.returns-clause-plays
returns-clause-plays c = λ past plays.
    let waits : waiting_in past ≡ Some c.in-Some.key = cc in
    let after : Past = sent past c.args.now c.args.size c.in-Some.key in
    let stands : StandsFor c.register_send.new.self after = c.in_ok-register_send.ensures.ok past plays.paces in
    let put = c.in_ok-record.ensures.ok in
    let sends : c.record.new.self ≡ sends_in after = cc in
    rw (sent_from_waiting past c.args.now c.args.size c.in-Some.key waits)
    (record { paces = stands; sent = sends; moment = refl; waits = c.take.ensures.after })
