use Rattle.std.proofs.Common.{ℕ, ap, ◌∙◌}
use Rattle.std.specs.Prelude.{Option, unwrap_or}
use Rattle.session_core.specs.Receiving.{arrival_of}
use Rattle.session_core.proofs.restoring.restored_arrival.Goals as goal

pub returns : goal.returns
returns c = λ original low.
    let h = c.args.header.now in
    let types = c.args.types.now in
    c.arrival.ensures
    ∙ ap (λ (pt : ℕ). arrival_of types c.args.now (record h { payload_type = pt }) c.args.bytes)
    (c.unwrap_or-restored.ensures ∙ ap (λ (o : Option ℕ). unwrap_or o h.payload_type) c.primary-repaired.ensures)
