use Rattle.std.proofs.Common.{rules, ◌<◌, length}
use Rattle.resend_core.proofs.BufferLaws.{grown_stands, grown_ready, grown_roomy}
use Rattle.resend_core.proofs.rtx_cache_buf.EvictingBuffer.make_room.Goals as goal

pub slot_index-requires : goal.slot_index-requires
slot_index-requires g c = let roomy : 0 < length c.grow.new.self.ring.items = grown_roomy c.args.self.now c.grow.new.self c.args.position c.in_ok-grow.ensures.ok in search rules

pub returns-then-is_occupied-clause-stands : goal.returns-then-is_occupied-clause-stands
returns-then-is_occupied-clause-stands g c = λ past h. grown_stands c.args.self.now c.grow.new.self past c.args.position c.requires c.in_ok-grow.ensures.ok h

pub returns-then-is_occupied-clause-ready : goal.returns-then-is_occupied-clause-ready
returns-then-is_occupied-clause-ready g c = λ past h. grown_ready c.args.self.now c.grow.new.self past c.args.position c.in_ok-grow.ensures.ok h
