use Rattle.std.proofs.Common.{Some, None, ◌++◌, ◌∷◌, [], sym, ap, ◌∙◌}
use Rattle.std.specs.Prelude.{slice_set}
use Rattle.stream_core.specs.Repairing.{claims_in}
use Rattle.stream_core.proofs.Claims.{claims_put, put}
use Rattle.stream_core.proofs.payload_types.put_row.Goals as goal

pub returns-in-Some-clause-claims : goal.returns-in-Some-clause-claims
returns-in-Some-clause-claims c =
    let es = c.args.rows.now.entries in
    let place = c.in-Some.ensures.index in
    ap (λ x. slice_set c.args.claims.now.items c.in-Some.place x) c.claim.ensures
    ∙ ap (λ cs. put c.args.row.pt c.args.row cs (Some c.in-Some.place)) c.requires
    ∙ ap (put c.args.row.pt c.args.row (claims_in es)) place
    ∙ sym (claims_put c.args.row.pt c.args.row es)
    ∙ ap claims_in (sym c.in_ok-insert.ensures.entries)

pub returns-in-Ok-clause-claims : goal.returns-in-Ok-clause-claims
returns-in-Ok-clause-claims c =
    let es = c.args.rows.now.entries in
    c.in_ok-push.ensures.items
    ∙ ap (λ x. c.args.claims.now.items ++ x ∷ []) c.claim-2.ensures
    ∙ ap (λ cs. put c.args.row.pt c.args.row cs None) c.requires
    ∙ ap (put c.args.row.pt c.args.row (claims_in es)) c.in_default.ensures.index
    ∙ sym (claims_put c.args.row.pt c.args.row es)
    ∙ ap claims_in (sym c.in-Ok.ensures.entries)
