use Rattle.std.proofs.Common.{◌≡◌, ◌∙◌, ◌/◌, true, false, Option, None, Some, refl, sym, arith}
use Rattle.std.specs.Prelude.{IfSome, IsNone}
use Rattle.resend_core.proofs.CacheSteps.{choice_is, smaller_is, none_is}
use Rattle.resend_core.proofs.rtx_cache.RtxCache.get_cached_packet_smaller_than.Goals as goal

if_some : {P : Type 0} (o : Option P) (Q : P → Type 0) → ((p : P) → o ≡ Some p → Q p) → IfSome o Q
if_some None Q all = tt
if_some (Some p) Q all = all p refl

is_none : {P : Type 0} (o : Option P) → IsNone o → o ≡ None
is_none None h = refl
is_none (Some p) h = absurd (let not_so : true ≡ false = h in cc)

pub returns-clause-choice : goal.returns-clause-choice
returns-clause-choice g c = λ past h. c.greatest_below.ensures ∙ choice_is g.S.ResendStore.stands_for g.S.ResendStore.value_at g.P.Cached.size c.args.self.now past (c.args.max_size / 25) (omega arith) h

pub returns-clause-smaller : goal.returns-clause-smaller
returns-clause-smaller g c = λ past h once.
    if_some _ _
    (λ p is.
    smaller_is g.S.ResendStore.stands_for g.S.ResendStore.value_at c.laws.ensures.holds g.P.Cached.size c.args.self.now past (c.args.max_size / 25) p h once
    (sym (c.greatest_below.ensures ∙ choice_is g.S.ResendStore.stands_for g.S.ResendStore.value_at g.P.Cached.size c.args.self.now past (c.args.max_size / 25) (omega arith) h) ∙ is))

pub returns-clause-none : goal.returns-clause-none
returns-clause-none g c = λ past h order roomy aging none.
    none_is g.S.ResendStore.stands_for g.S.ResendStore.value_at c.laws.ensures.holds g.P.Cached.size c.args.self.now past (c.args.max_size / 25) h order roomy aging
    (sym (c.greatest_below.ensures ∙ choice_is g.S.ResendStore.stands_for g.S.ResendStore.value_at g.P.Cached.size c.args.self.now past (c.args.max_size / 25) (omega arith) h) ∙ is_none _ none)
