use Rattle.session_core.specs.Reports.{due_senders, sender_items, sender_ssrc, answers}
use Rattle.stream_core.specs.Reporting.{due_mids, incoming_items}
use Rattle.session_core.proofs.Fitting.{briefs_fit}
use Rattle.session_core.proofs.TickItems.{incoming_brief, senders_brief, answers_brief}
use Rattle.session_core.proofs.reporting.tick_items_fit.Goals as goal

pub returns : goal.returns
returns c = λ now t s rs moments.
    let fits = c.items_fit_by_lengths.ensures in (
      briefs_fit (incoming_items t rs) fits (incoming_brief t (due_mids t.intervals t.now rs) rs),
      briefs_fit (sender_items now s) fits (senders_brief s.types s.transport.beginning s.medias now (due_senders now s) s.tx),
      briefs_fit (answers now (sender_ssrc s) moments) fits (answers_brief now (sender_ssrc s) moments),
    )
