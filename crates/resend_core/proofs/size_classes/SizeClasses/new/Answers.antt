use Rattle.std.proofs.Common.{◌≡◌, ℕ, ◌<◌, ◌≤◌, refl, replicate, ⊎_elim, Option, None}
use Rattle.std.specs.Prelude.{slice_index_or}
use Rattle.std.proofs.lemmas.List.{get_or-replicate, get_or_past, length-replicate}
use Rattle.std.proofs.lemmas.Bool.{cases_lt}
use Rattle.resend_core.proofs.size_classes.SizeClasses.new.Goals as goal

abbrev empty : Option ℕ
empty = None

no_number : (k : ℕ) → slice_index_or (replicate 80 empty) k None ≡ None
no_number k =
    ⊎_elim
    (λ (lt : k < 80). get_or-replicate 80 k empty None lt)
    (λ (ge : 80 ≤ k). get_or_past (replicate 80 empty) k None (rw length-replicate ge))
    (cases_lt k 80)

pub invariant_of-result : goal.invariant_of-result
invariant_of-result c = (refl, λ k h. no_number k)
