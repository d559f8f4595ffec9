use Rattle.std.proofs.Common.{◌≡◌, None, Some, arith, inl, refl, sym, ◌∙◌}
use Rattle.resend_core.proofs.BufferLaws.{late_stands, evicted_stands, stands_bounded}
use Rattle.resend_core.proofs.DropLaws.{marks_eviction}
use Rattle.resend_core.specs.EvictingBuffer.{value_at}
use Rattle.resend_core.proofs.rtx_cache_buf.EvictingBuffer.maybe_evict.Goals as goal

pub returns-then-as_nanos-clause-stands : goal.returns-then-as_nanos-clause-stands
returns-then-as_nanos-clause-stands g c = λ past h. late_stands c.args.self.now past c.args.now (omega arith) h

pub returns-then-as_nanos-clause-marks : goal.returns-then-as_nanos-clause-marks
returns-then-as_nanos-clause-marks g c = λ past h. record { above = λ q v was is. absurd (let not_so : None ≡ Some v = sym is ∙ was in cc); either = inl refl }

pub returns-clause-stands : goal.returns-clause-stands
returns-clause-stands g c = λ past h.
    evicted_stands c.args.self.now c.drop_old.new.self past c.args.now (c.drop_old.ensures.drops (stands_bounded c.args.self.now past h)) (c.drop_old.ensures.done (stands_bounded c.args.self.now past h)) (omega arith) h

pub returns-clause-marks : goal.returns-clause-marks
unfolding value_at
returns-clause-marks g c = λ past h. marks_eviction c.args.self.now c.drop_old.new.self c.args.now (c.drop_old.ensures.drops (stands_bounded c.args.self.now past h))
