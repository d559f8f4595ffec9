use Rattle.std.proofs.Common.{◌≡◌, List, length, map, ap, sym, ◌∙◌, subst, arith}
use Rattle.std.proofs.lemmas.List.{length-map}
use Rattle.twcc_core.specs.declared.send.TwccSendRecord.{TwccSendRecord}
use Rattle.twcc_core.specs.Sending.{IsRising, after_told}
use Rattle.twcc_core.proofs.Rising.{told_rise}
use Rattle.twcc_core.proofs.send.TwccSendRegister.apply_report.Goals as goal

pub invariant_of-self : goal.invariant_of-self
invariant_of-self c =
    let items = c.self.inside.records.items in
    let marked : c.mark.new.records.items ≡ map (after_told c.widen16-first.result c.as_slice-moments.result.now c.args.now) items = c.mark.ensures in
    let as_long : length c.mark.new.records.items ≡ length items = ap length marked ∙ length-map items (after_told c.widen16-first.result c.as_slice-moments.result.now c.args.now) in
    (omega (arith, as_long, c.self.invariant.0), c.self.invariant.1, subst (λ (l : List TwccSendRecord). IsRising l c.self.inside.rising) (sym marked) (told_rise c.widen16-first.result c.as_slice-moments.result.now c.args.now items c.self.inside.rising c.self.invariant.2))
