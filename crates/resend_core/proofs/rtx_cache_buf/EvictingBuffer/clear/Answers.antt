use Rattle.std.proofs.Common.{◌^◌, ◌-◌, refl, None}
use Rattle.resend_core.proofs.BufferLaws.{cleared_stands}
use Rattle.resend_core.proofs.rtx_cache_buf.EvictingBuffer.clear.Goals as goal

pub returns-clause-stands : goal.returns-clause-stands
returns-clause-stands g c = λ past h.
    cleared_stands c.args.self.now (record c.args.self.now { ring = c.drop_below.new.ring; last = None; mark = None; low = 2 ^ 64 - 1; high = 0; timeout = c.from_nanos-self.result }) past c.drop_below.ensures (rw c.from_nanos-self.ensures refl) h
