use Rattle.std.proofs.Common.{◌≡◌, ltb, ap, sym, subst, List, rules}
use Rattle.std.specs.List.Sorted.{IsNonDecreasingBy}
use Rattle.std.proofs.lemmas.List.Sorted.{IsPartitionPoint-from_clause, IsPartitionedBy-ltb}
use Rattle.twcc_core.specs.declared.send.TwccSendRecord.{TwccSendRecord}
use Rattle.twcc_core.specs.Sending.{Sending}
use Rattle.twcc_core.proofs.Within.{point_below}
use Rattle.twcc_core.proofs.send.TwccSendRegister.count_below.Goals as goal

pub returns-clause-below : goal.returns-clause-below
returns-clause-below c =
    let e : c.self.inside.records.items ≡ c.args.self.now.records = ap (λ (s : Sending). s.records) c.self.view_is in
    let P : List TwccSendRecord → Type 0 = λ xs. IsNonDecreasingBy (λ r. r.id.seq) xs in
    let sorted : IsNonDecreasingBy (λ r. r.id.seq) c.self.inside.records.items = subst P (sym e) c.requires in
    let point = IsPartitionPoint-from_clause (λ r. ltb r.id.seq c.args.number) c.self.inside.records.items c.partition_point.result c.partition_point.ensures.partitioned
    (IsPartitionedBy-ltb (λ r. r.id.seq) c.self.inside.records.items c.args.number sorted) (λ a r f k. search rules) in
    point_below c.self.inside.records.items c.args.self.now.records c.args.number c.partition_point.result e point.0
