use Rattle.std.proofs.Common.{◌≡◌, ◌-◌, ltb, ap, sym, subst, List, rules}
use Rattle.std.specs.List.Sorted.{IsNonDecreasingBy}
use Rattle.std.proofs.lemmas.List.Sorted.{IsPartitionPoint-from_clause, IsPartitionedBy-ltb}
use Rattle.twcc_core.specs.declared.send.TwccSendRecord.{TwccSendRecord}
use Rattle.twcc_core.specs.Sending.{Sending}
use Rattle.twcc_core.proofs.Within.{distances_rise, point_far}
use Rattle.twcc_core.proofs.send.TwccSendRegister.count_near.Goals as goal

pub returns-clause-above : goal.returns-clause-above
returns-clause-above c =
    let e : c.self.inside.records.items ≡ c.args.self.now.records = ap (λ (s : Sending). s.records) c.self.view_is in
    let P : List TwccSendRecord → Type 0 = λ xs. IsNonDecreasingBy (λ r. r.id.seq) xs in
    let sorted : IsNonDecreasingBy (λ r. r.id.seq) c.self.inside.records.items = subst P (sym e) c.requires in
    let point = IsPartitionPoint-from_clause (λ r. ltb (r.id.seq - c.args.number) c.args.span) c.self.inside.records.items c.partition_point.result c.partition_point.ensures.partitioned
    (IsPartitionedBy-ltb (λ r. r.id.seq - c.args.number) c.self.inside.records.items c.args.span (distances_rise c.args.number c.self.inside.records.items sorted)) (λ a r f k. search rules) in
    point_far c.self.inside.records.items c.args.self.now.records c.args.number c.args.span c.partition_point.result e point.1
