use Rattle.resend_core.proofs.DropLaws.{drops_none, drops_bounded, drops_then, sweep_drops, sweep_done}
use Rattle.resend_core.proofs.rtx_cache_buf.EvictingBuffer.drop_old.Goals as goal

pub loop-step-init : goal.loop-step-init
loop-step-init g c = λ h. drops_none c.args.self.now c.args.now h

pub loop-step-preserved : goal.loop-step-preserved
loop-step-preserved g c = λ h.
    let d = c.loop-step.invariant h in
    drops_then c.args.self.now c.loop-step.self c.advance.new.self c.args.now d (c.advance.ensures.drops (drops_bounded c.args.self.now c.loop-step.self c.args.now h d))

pub returns-then-advance-clause-drops : goal.returns-then-advance-clause-drops
returns-then-advance-clause-drops g c = λ h.
    let d = c.loop-step.invariant h in
    drops_then c.args.self.now c.loop-step.self c.advance.new.self c.args.now d (c.advance.ensures.drops (drops_bounded c.args.self.now c.loop-step.self c.args.now h d))

pub returns-then-advance-clause-done : goal.returns-then-advance-clause-done
returns-then-advance-clause-done g c = λ h.
    let d = c.loop-step.invariant h in
    c.if-advance.ensures.done (drops_bounded c.args.self.now c.loop-step.self c.args.now h d)

pub returns-clause-drops : goal.returns-clause-drops
returns-clause-drops g c = λ h.
    let d = c.loop-step.invariant h in
    drops_then c.args.self.now c.loop-step.self c.sweep.new.self c.args.now d (sweep_drops c.loop-step.self c.sweep.new.self c.args.now c.sweep.ensures (drops_bounded c.args.self.now c.loop-step.self c.args.now h d))

pub returns-clause-done : goal.returns-clause-done
returns-clause-done g c = λ h.
    let d = c.loop-step.invariant h in
    sweep_done c.loop-step.self c.sweep.new.self c.args.now c.sweep.ensures (drops_bounded c.args.self.now c.loop-step.self c.args.now h d)
