use Rattle.std.proofs.Common.{◌≡◌, ℕ, ◌∙◌, refl, inl, inr, sym, ap, subst, List, Option, true, false}
use Rattle.resend_core.specs.declared.ring.Entry.{Entry}
use Rattle.resend_core.specs.declared.rtx_cache_buf.EvictingBuffer.{EvictingBuffer}
use Rattle.resend_core.specs.Ring.{has_room}
use Rattle.resend_core.specs.ResendStore.{MarksPush}
use Rattle.resend_core.specs.EvictingBuffer.{value_at}
use Rattle.resend_core.proofs.BufferLaws.{put_stands, blocked_stands, put_marks, blocked_marks}
use Rattle.resend_core.proofs.rtx_cache_buf.EvictingBuffer.place.Goals as goal

pub returns-then-is_free-clause-pushed : goal.returns-then-is_free-clause-pushed
returns-then-is_free-clause-pushed g c = λ past h ready.
    let room : has_room c.args.self.now.ring.items c.args.entry.position ≡ true =
    ap (λ (r : List (Option (Entry g.row.T.Denot))). has_room r c.args.entry.position) (sym c.deref.ensures.value) ∙ sym c.is_free.ensures ∙ c.if-is_free.true in
    put_stands c.args.self.now c.write.new.self past c.args.entry c.write.ensures room ready c.requires.roomy c.requires.timely h

pub returns-then-is_free-clause-marked : goal.returns-then-is_free-clause-marked
returns-then-is_free-clause-marked g c = λ past h.
    subst (λ (o : Option ℕ). MarksPush (value_at c.args.self.now) (value_at c.write.new.self) past c.args.entry.position c.args.entry.moment c.args.self.now.mark o) (sym (ap (λ (o : EvictingBuffer g.row.T.Denot). o.mark) c.write.ensures.rest))
    (put_marks (value_at c.args.self.now) (value_at c.write.new.self) past c.args.entry.position c.args.entry.moment c.args.self.now.mark)

pub returns-then-is_free-clause-simple : goal.returns-then-is_free-clause-simple
returns-then-is_free-clause-simple g c = inr (ap (λ (o : EvictingBuffer g.row.T.Denot). o.mark) c.write.ensures.rest)

pub returns-else-is_free-clause-simple : goal.returns-else-is_free-clause-simple
returns-else-is_free-clause-simple g c = inl refl

pub returns-else-is_free-clause-pushed : goal.returns-else-is_free-clause-pushed
returns-else-is_free-clause-pushed g c = λ past h ready.
    let full : has_room c.args.self.now.ring.items c.args.entry.position ≡ false =
    ap (λ (r : List (Option (Entry g.row.T.Denot))). has_room r c.args.entry.position) (sym c.deref.ensures.value) ∙ sym c.is_free.ensures ∙ c.if-is_free.false in
    blocked_stands c.args.self.now past c.args.entry full h

pub returns-else-is_free-clause-marked : goal.returns-else-is_free-clause-marked
returns-else-is_free-clause-marked g c = λ past h.
    let full : has_room c.args.self.now.ring.items c.args.entry.position ≡ false =
    ap (λ (r : List (Option (Entry g.row.T.Denot))). has_room r c.args.entry.position) (sym c.deref.ensures.value) ∙ sym c.is_free.ensures ∙ c.if-is_free.false in
    blocked_marks (value_at c.args.self.now) (value_at c.args.self.now) c.args.self.now past c.args.entry.position c.args.entry.moment full h
