use Rattle.std.proofs.Common.{◌≡◌, true, false, Some, sym}
use Rattle.payload_core.specs.Buffer.{is_next}
use Rattle.payload_core.specs.Reordering.{front, is_late}
use Rattle.payload_core.proofs.Turns.{turn_late, turn_early}
use Rattle.payload_core.proofs.buffer.DepacketizingBuffer.turn.Goals as goal

pub returns-then-is_late : goal.returns-then-is_late
returns-then-is_late g c =
    let there : front c.args.self.now ≡ Some (c.in-Some.number.now, c.in-Some.arrival.now) = rw (← c.self.view_is) c.in-Some.ensures.first in
    let gap : is_next c.args.self.now.last c.in-Some.number.now ≡ false = rw (← c.self.view_is) (sym c.if-is_next.ensures) in
    let late : is_late c.args.self.now c.in-Some.arrival.now.meta.received c.args.now c.args.audio_timeout ≡ true = sym c.if-is_late.ensures in
    turn_late c.args.self.now (c.in-Some.number.now, c.in-Some.arrival.now) c.args.now c.args.audio_timeout there gap late

pub returns : goal.returns
returns g c =
    let there : front c.args.self.now ≡ Some (c.in-Some.number.now, c.in-Some.arrival.now) = rw (← c.self.view_is) c.in-Some.ensures.first in
    let gap : is_next c.args.self.now.last c.in-Some.number.now ≡ false = rw (← c.self.view_is) (sym c.if-is_next.ensures) in
    let early : is_late c.args.self.now c.in-Some.arrival.now.meta.received c.args.now c.args.audio_timeout ≡ false = sym c.if-is_late.ensures in
    turn_early c.args.self.now (c.in-Some.number.now, c.in-Some.arrival.now) c.args.now c.args.audio_timeout there gap early
