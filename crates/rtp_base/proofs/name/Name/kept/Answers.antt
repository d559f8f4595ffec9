use Rattle.std.proofs.lemmas.List.{drop-replicate}
use Rattle.std.proofs.Common.{ℕ, length}
use Rattle.rtp_base.proofs.Names.{kept_is_name}
use Rattle.rtp_base.proofs.name.Name.kept.Goals as goal

pub invariant_of-result : goal.invariant_of-result
invariant_of-result c =
    rw (c.copy_from_slice.ensures.after, c.split_at_mut-front.ensures.back, drop-replicate {X = ℕ} (length c.args.bytes.now) 16 0) (kept_is_name c.args.bytes.now c.requires)
