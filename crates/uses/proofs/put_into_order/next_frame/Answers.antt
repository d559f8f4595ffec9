use Rattle.std.proofs.Common.{None, ap, ◌∙◌}
use Rattle.payload_core.specs.Reordering.{with_packet, popped, after_pop}
use Rattle.uses.proofs.put_into_order.next_frame.Goals as goal

-- what is given is given of what waits with the packet
pub returns-clause-given : goal.returns-clause-given
returns-clause-given g c = c.pop.ensures.given ∙ ap (λ b. popped b c.args.now None) c.in_ok-push.ensures.ok

pub returns-clause-after : goal.returns-clause-after
returns-clause-after g c = c.pop.ensures.after ∙ ap (λ b. after_pop b c.args.now None) c.in_ok-push.ensures.ok

-- and where nothing waited, that is the packet
pub returns-clause-at_once : goal.returns-clause-at_once
returns-clause-at_once g c format hold_back deadline last empty next =
    returns-clause-given g c ∙ ap (λ b. popped (with_packet b c.args.packet) c.args.now None) empty
    ∙ (c.frames_come_out_as_in.ensures format hold_back deadline last c.args.packet c.args.now None next).0
