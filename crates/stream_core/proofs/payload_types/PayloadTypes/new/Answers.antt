use Rattle.std.proofs.Common.{None, sym, ap, ◌∙◌}
use Rattle.std.proofs.lemmas.List.{get_or-replicate}
use Rattle.stream_core.specs.Repairing.{primary_type_of, claims_in}
use Rattle.stream_core.specs.Tables.{place_of}
use Rattle.stream_core.proofs.payload_types.PayloadTypes.new.Goals as goal

pub invariant_of-result : goal.invariant_of-result
invariant_of-result c = (
  (λ pt fits. get_or-replicate 256 pt None None fits ∙ sym (ap (λ l. primary_type_of l pt) c.new.ensures.empty)),
  (λ pt fits. get_or-replicate 256 pt None None fits ∙ sym (ap (place_of pt) c.new.ensures.empty)),
  c.new-2.ensures.items ∙ sym (ap claims_in c.new.ensures.empty),
)
