use Rattle.std.proofs.Common.{◌≡◌, ap, subst, List, arith}
use Rattle.std.specs.List.Sorted.{IsNonDecreasingBy}
use Rattle.twcc_core.specs.declared.send.TwccSendRecord.{TwccSendRecord}
use Rattle.twcc_core.specs.Sending.{Sending}
use Rattle.twcc_core.proofs.Rising.{all_rise}
use Rattle.twcc_core.proofs.send.TwccSendRegister.places.Goals as goal

pub count_near-end-requires : goal.count_near-end-requires
count_near-end-requires c =
    let e : c.self.inside.records.items ≡ c.args.self.now.records = ap (λ (s : Sending). s.records) c.self.view_is in
    let P : List TwccSendRecord → Type 0 = λ xs. IsNonDecreasingBy (λ r. r.id.seq) xs in
    subst P e (all_rise c.self.inside.records.items c.self.inside.rising (omega (arith, c.len.ensures, c.if-self-len.false)) c.self.invariant.2)

pub count_below-requires : goal.count_below-requires
count_below-requires c =
    let e : c.self.inside.records.items ≡ c.args.self.now.records = ap (λ (s : Sending). s.records) c.self.view_is in
    let P : List TwccSendRecord → Type 0 = λ xs. IsNonDecreasingBy (λ r. r.id.seq) xs in
    subst P e (all_rise c.self.inside.records.items c.self.inside.rising (omega (arith, c.len.ensures, c.if-self-len.false)) c.self.invariant.2)
