use Rattle.std.proofs.Common.{◌≡◌, List, Option, None, Some, ◌∷◌, ◌++◌, [], sym, ap, subst, ◌∙◌, ◌||◌, true, false}
use Rattle.media_play.specs.declared.numbers.Stretch.{Stretch}
use Rattle.media_laws.specs.Rules.{has}
use Rattle.media_play.specs.UsedNumbers.{numbers_in, AreInOrder}
use Rattle.media_play.proofs.Stretches.{among, kept, kept_with, told, has_none, has_above, has_top, has_lower, rise_lower}
use Rattle.media_play.proofs.numbers.Numbers.has.Goals as goal

pub covered-requires : goal.covered-requires
covered-requires c =
    let lower = c.self.inside.lower.items in
    let late = c.self.inside.late in
    let ordered : AreInOrder lower (Some c.in-Some.top) late = subst (λ (o : Option Stretch). AreInOrder lower o late) c.in-Some.is c.self.invariant in
    rw c.deref.ensures.value (rise_lower lower c.in-Some.top 0 ordered.0)

pub returns-in_default : goal.returns-in_default
returns-in_default c =
    let lower = c.self.inside.lower.items in
    let late = c.self.inside.late in
    let ordered : AreInOrder lower None late = subst (λ (o : Option Stretch). AreInOrder lower o late) c.in_default.is c.self.invariant in
    told (kept (lower ++ []) late.keys) c.args.self.now false c.from-number.result c.args.number
    (kept_with lower c.self.inside.top None late.keys c.args.self.now c.in_default.is c.self.view_is) c.from-number.ensures
    (has_none lower late c.from-number.result ordered)

pub returns-then-number-top : goal.returns-then-number-top
returns-then-number-top c =
    let lower = c.self.inside.lower.items in
    let late = c.self.inside.late in
    let top = c.in-Some.top in
    let ordered : AreInOrder lower (Some top) late = subst (λ (o : Option Stretch). AreInOrder lower o late) c.in-Some.is c.self.invariant in
    told (kept (lower ++ top ∷ []) late.keys) c.args.self.now false c.from-number.result c.args.number
    (kept_with lower c.self.inside.top (Some top) late.keys c.args.self.now c.in-Some.is c.self.view_is) c.from-number.ensures
    (has_above lower top late c.from-number.result ordered c.if-number-top.true)

pub returns-then-number-top-2 : goal.returns-then-number-top-2
returns-then-number-top-2 c =
    let lower = c.self.inside.lower.items in
    let late = c.self.inside.late in
    let top = c.in-Some.top in
    told (kept (lower ++ top ∷ []) late.keys) c.args.self.now true c.from-number.result c.args.number
    (kept_with lower c.self.inside.top (Some top) late.keys c.args.self.now c.in-Some.is c.self.view_is) c.from-number.ensures
    (has_top lower top late.keys c.from-number.result c.if-number-top-2.true c.if-number-top.false)

pub returns-then-covered : goal.returns-then-covered
returns-then-covered c =
    let lower = c.self.inside.lower.items in
    let late = c.self.inside.late in
    let top = c.in-Some.top in
    let n = c.from-number.result in
    let below : has (numbers_in lower) n ≡ c.covered.result = ap (λ (ss : List Stretch). has (numbers_in ss) n) (sym c.deref.ensures.value) ∙ sym c.covered.ensures in
    told (kept (lower ++ top ∷ []) late.keys) c.args.self.now c.covered.result n c.args.number
    (kept_with lower c.self.inside.top (Some top) late.keys c.args.self.now c.in-Some.is c.self.view_is) c.from-number.ensures
    (has_lower lower top late.keys n c.if-number-top-2.false ∙ ap (λ b. b || among n late.keys) (below ∙ c.if-covered.true) ∙ sym c.if-covered.true)

pub returns-else-covered : goal.returns-else-covered
returns-else-covered c =
    let lower = c.self.inside.lower.items in
    let late = c.self.inside.late in
    let top = c.in-Some.top in
    let n = c.from-number.result in
    let below : has (numbers_in lower) n ≡ c.covered.result = ap (λ (ss : List Stretch). has (numbers_in ss) n) (sym c.deref.ensures.value) ∙ sym c.covered.ensures in
    told (kept (lower ++ top ∷ []) late.keys) c.args.self.now c.contains.result n c.args.number
    (kept_with lower c.self.inside.top (Some top) late.keys c.args.self.now c.in-Some.is c.self.view_is) c.from-number.ensures
    (has_lower lower top late.keys n c.if-number-top-2.false ∙ ap (λ b. b || among n late.keys) (below ∙ c.if-covered.false) ∙ sym c.contains.ensures)
