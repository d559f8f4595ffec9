use Rattle.std.proofs.Common.{◌≡◌, Some, sym, ap, ◌∙◌}
use Rattle.std.specs.Option.{option_copied}
use Rattle.session_core.specs.Reports.{reports_in}
use Rattle.session_core.proofs.Failing.{on_err_any}
use Rattle.session_core.proofs.Reported.{none_reports}
use Rattle.session_core.proofs.reporting.push_items_of.Goals as goal

pub returns-in_err-push_sender_report-clause-cause : goal.returns-in_err-push_sender_report-clause-cause
returns-in_err-push_sender_report-clause-cause g c =
    let medias = c.args.medias.now in
    let mids = c.args.mids.now in
    let x = c.tx-stream.result.now in
    let some : reports_in mids medias x ≡ Some c.in-Some.media.now = sym (c.reports_in.ensures x (sym c.mid.ensures)) ∙ ap option_copied c.in-Some.is in
    on_err_any c.from_residual.result (none_reports medias mids x c.in-Some.media.now some)
