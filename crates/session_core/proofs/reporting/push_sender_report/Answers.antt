use Rattle.std.proofs.Common.{[], ◌∷◌, ◌++◌, List, ap, ◌∙◌, append_assoc}
use Rattle.rtcp_wire.specs.declared.packet.Rtcp.{Rtcp}
use Rattle.rtcp_wire.specs.declared.packet.Rtcp.TheVariants.{SenderReport}
use Rattle.rtcp_items.specs.declared.report.SenderReport.{SenderReport as Sent}
use Rattle.session_core.proofs.Fitting.{brief_fits}
use Rattle.session_core.proofs.reporting.push_sender_report.Goals as goal

pub returns-clause-fit : goal.returns-clause-fit
returns-clause-fit c =
    let behind = c.push_description.ensures.fit in
    let report = SenderReport c.sender_report-report.result in (
      report ∷ behind.0,
      behind.1 ∙ ap (λ (l : List Rtcp). l ++ behind.0) c.in_ok-push_back.ensures.items ∙ append_assoc c.args.feedback.now.items (report ∷ []) behind.0,
      (brief_fits report c.items_fit_by_lengths.ensures (ap (λ (r : Sent). r.reports) c.sender_report-report.ensures), behind.2),
    )
