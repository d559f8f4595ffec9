use Rattle.std.proofs.Common.{◌≡◌, ℕ, ◌∙◌, true, false, refl, sym, subst, inl, arith, Option}
use Rattle.resend_core.specs.EvictingBuffer.{value_at}
use Rattle.resend_core.specs.ResendStore.{MarksPush}
use Rattle.resend_core.proofs.BufferLaws.{must_take, shut_stands, same_marks}
use Rattle.resend_core.proofs.rtx_cache_buf.EvictingBuffer.push.Goals as goal

pub returns-then-not-takes-clause-ok : goal.returns-then-not-takes-clause-ok
returns-then-not-takes-clause-ok g c = λ past h. shut_stands c.args.self.now past c.args.position c.args.timestamp c.args.value (sym c.takes.ensures.exact ∙ c.if-not-takes.true) h

pub returns-clause-ok : goal.returns-clause-ok
returns-clause-ok g c = λ past h. c.place.ensures.pushed past (c.in_ok-index.ensures.stands past h) (c.in_ok-index.ensures.ready past h)

pub returns-clause-marked : goal.returns-clause-marked
returns-clause-marked g c = λ past h.
    let made = c.in_ok-index.ensures.mark in
    let m = c.place.ensures.marked past (c.in_ok-index.ensures.stands past h) in
    subst (λ (o : Option ℕ). MarksPush (value_at c.args.self.now) (value_at c.place.new.self) past c.args.position c.args.timestamp o c.place.new.self.mark) made
    (same_marks (value_at c.make_room.new.self) (value_at c.args.self.now) (value_at c.place.new.self) past c.args.position c.args.timestamp c.make_room.new.self.mark c.place.new.self.mark c.place.ensures.simple m)

pub returns-then-not-takes-clause-marked : goal.returns-then-not-takes-clause-marked
returns-then-not-takes-clause-marked g c = λ past h. record {
  either = inl refl;
  first = λ m. absurd (let not_so : true ≡ false = sym (must_take c.args.self.now past c.args.position c.args.timestamp h m) ∙ sym c.takes.ensures.exact ∙ c.if-not-takes.true in cc);
  rises = λ m k. (m, k, omega arith);
}
