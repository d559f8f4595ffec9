use Rattle.std.proofs.Common.{Option, None, Some, ◌∷◌, ◌++◌, [], subst, arith}
use Rattle.std.specs.Option.{option_to_list}
use Rattle.media_play.specs.declared.numbers.Stretch.{Stretch}
use Rattle.media_play.specs.UsedNumbers.{AreInOrder}
use Rattle.media_play.proofs.Stretches.{kept, kept_with, one_more, inserted_late, inserted_next, inserted_new, inserted_first, rise_top, rise_longer, rise_more}
use Rattle.media_play.proofs.numbers.Numbers.insert.Goals as goal

-- the first number
pub returns-in_default-clause-ok : goal.returns-in_default-clause-ok
returns-in_default-clause-ok c n =
    let lower = c.self.inside.lower.items in
    let late = c.self.inside.late in
    rw c.of.ensures
    (one_more (kept (lower ++ []) late.keys) c.args.self.now _ c.from-number.result c.args.number n
    (kept_with lower c.self.inside.top None late.keys c.args.self.now c.in_default.is c.self.view_is) c.from-number.ensures
    (inserted_first lower late.keys c.from-number.result n))

-- a late one
pub returns-in_ok-insert-clause-ok : goal.returns-in_ok-insert-clause-ok
returns-in_ok-insert-clause-ok c n =
    let stretches = c.self.inside.lower.items ++ option_to_list c.self.inside.top in
    one_more (kept stretches c.self.inside.late.keys) c.args.self.now _ c.from-number.result c.args.number n
    c.self.view_is c.from-number.ensures
    (inserted_late stretches c.self.inside.late c.insert.new.self c.from-number.result c.in_ok-insert.ensures.updates n)

-- the next one: the top reaches to it
pub invariant_of-self-then-number-top-eq1 : goal.invariant_of-self-then-number-top-eq1
invariant_of-self-then-number-top-eq1 c =
    let lower = c.self.inside.lower.items in
    let top = c.in-Some.top in
    let ordered : AreInOrder lower (Some top) c.self.inside.late = subst (λ (o : Option Stretch). AreInOrder lower o c.self.inside.late) c.in-Some.is c.self.invariant in (
      rise_longer lower top c.from-number.result 0 (omega (arith, c.if-number-top.false)) ordered.0,
      λ n is. omega (arith, ordered.1 n is, c.if-number-top.false),
    )

pub returns-then-number-top-eq1-clause-ok : goal.returns-then-number-top-eq1-clause-ok
returns-then-number-top-eq1-clause-ok c n =
    let lower = c.self.inside.lower.items in
    let late = c.self.inside.late in
    let top = c.in-Some.top in
    let ordered : AreInOrder lower (Some top) late = subst (λ (o : Option Stretch). AreInOrder lower o late) c.in-Some.is c.self.invariant in
    one_more (kept (lower ++ top ∷ []) late.keys) c.args.self.now _ c.from-number.result c.args.number n
    (kept_with lower c.self.inside.top (Some top) late.keys c.args.self.now c.in-Some.is c.self.view_is) c.from-number.ensures
    (inserted_next lower top late.keys c.from-number.result (rise_top lower top 0 ordered.0).1 (omega (arith, c.if-number-top.false, c.if-number-top-eq1.true)) n)

-- one further up: a stretch of its own
pub invariant_of-self-else-number-top-eq1 : goal.invariant_of-self-else-number-top-eq1
invariant_of-self-else-number-top-eq1 c =
    let lower = c.self.inside.lower.items in
    let top = c.in-Some.top in
    let ordered : AreInOrder lower (Some top) c.self.inside.late = subst (λ (o : Option Stretch). AreInOrder lower o c.self.inside.late) c.in-Some.is c.self.invariant in
    rw (c.of-else-number-top-eq1.ensures, c.in_ok-push.ensures.items) (
      rise_more lower top (record { first = c.from-number.result; last = c.from-number.result }) 0 (omega (arith, c.if-number-top.false)) (omega arith) ordered.0,
      λ n is. omega (arith, ordered.1 n is, c.if-number-top.false),
    )

pub returns-in_ok-push-clause-ok : goal.returns-in_ok-push-clause-ok
returns-in_ok-push-clause-ok c n =
    let lower = c.self.inside.lower.items in
    let late = c.self.inside.late in
    let top = c.in-Some.top in
    rw (c.of-else-number-top-eq1.ensures, c.in_ok-push.ensures.items)
    (one_more (kept (lower ++ top ∷ []) late.keys) c.args.self.now _ c.from-number.result c.args.number n
    (kept_with lower c.self.inside.top (Some top) late.keys c.args.self.now c.in-Some.is c.self.view_is) c.from-number.ensures
    (inserted_new (lower ++ top ∷ []) late.keys c.from-number.result n))
