use Rattle.std.proofs.Common.{Some, None, refl, sym, ap, subst, ◌∙◌}
use Rattle.std.specs.Prelude.{List}
use Rattle.media_play.specs.Ends.{SessionStands}
use Rattle.session_core.specs.declared.datagram.Event.{Event}
use Rattle.session_core.specs.Calls.{after_event, told, Polled}
use Rattle.session_core.specs.SessionRecord.{SessionRecord}
use Rattle.media_play.specs.Packets.{packet_in}
use Rattle.media_play.proofs.end.take_packet.Goals as goal

pub loop-event-init : goal.loop-event-init
loop-event-init g c = λ r h. (r, h, refl, refl)

pub loop-event-preserved : goal.loop-event-preserved
loop-event-preserved g c = λ r h.
    let k = c.loop-event.invariant r h in
    let s = k.0 in
    let step : Polled s (Some c.in-Some.event) (after_event s) = c.in-Some.ensures.told s k.1 in (
      after_event s,
      c.in-Some.ensures.after s k.1,
      ap (packet_in (told (after_event s))) c.later_packet-packet.ensures
          ∙ sym (ap (λ (es : List Event). packet_in es c.loop-event.packet) step.0)
          ∙ k.2,
      step.1 ∙ k.3,
    )

pub returns-clause-packet : goal.returns-clause-packet
returns-clause-packet g c = λ r h.
    let k = c.loop-event.invariant r h in
    let s = k.0 in
    let step : Polled s None (after_event s) = c.in_default.ensures.told s k.1 in
    sym (ap (λ (es : List Event). packet_in es c.loop-event.packet) step.0) ∙ k.2

pub returns-clause-after : goal.returns-clause-after
returns-clause-after g c = λ r h.
    let k = c.loop-event.invariant r h in
    let s = k.0 in
    let step : Polled s None (after_event s) = c.in_default.ensures.told s k.1 in
    subst (λ (x : SessionRecord). SessionStands c.poll_event.new.self x) (step.1 ∙ k.3) (c.in_default.ensures.after s k.1)
