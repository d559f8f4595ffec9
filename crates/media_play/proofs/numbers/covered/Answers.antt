use Rattle.std.proofs.Common.{◌≡◌, None, Some, ltb, length, slice_get, refl, sym, ap, ◌∙◌, rules}
use Rattle.std.proofs.lemmas.List.Sorted.{IsPartitionPoint-from_clause, IsPartitionedBy-ltb}
use Rattle.std.proofs.lemmas.Option.{slice_get_read, slice_get_past}
use Rattle.media_play.proofs.Stretches.{found, has_at, last_rises}
use Rattle.media_play.proofs.numbers.covered.Goals as goal

pub returns-in-Some : goal.returns-in-Some
returns-in-Some c =
    let ss = c.args.stretches.now in
    let n = c.args.number in
    let place = c.partition_point-place.result in
    let point = IsPartitionPoint-from_clause (λ s. ltb s.last n) ss place c.partition_point-place.ensures.partitioned
    (IsPartitionedBy-ltb (λ s. s.last) ss n (last_rises ss 0 c.requires)) (λ a r f k. search rules) in
    let s = c.in-Some.stretch.now in
    let read = c.in-Some.ensures.lookup in
    let there : slice_get ss place ≡ Some s = slice_get_read ss (length ss) place s refl read.3.0 read.1 in
    ap (λ o. found o n) (sym there) ∙ has_at ss n place c.requires c.partition_point-place.ensures.bound point.0 point.1

pub returns-in-None : goal.returns-in-None
returns-in-None c =
    let ss = c.args.stretches.now in
    let n = c.args.number in
    let place = c.partition_point-place.result in
    let point = IsPartitionPoint-from_clause (λ s. ltb s.last n) ss place c.partition_point-place.ensures.partitioned
    (IsPartitionedBy-ltb (λ s. s.last) ss n (last_rises ss 0 c.requires)) (λ a r f k. search rules) in
    let past : slice_get ss place ≡ None = slice_get_past ss place c.in-None.ensures.lookup.3 in
    ap (λ o. found o n) (sym past) ∙ has_at ss n place c.requires c.partition_point-place.ensures.bound point.0 point.1
