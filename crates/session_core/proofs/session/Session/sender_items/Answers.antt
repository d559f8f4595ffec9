use Rattle.std.proofs.Common.{◌≡◌, true, List, [], ◌∷◌, ◌++◌, Some, sym, ap, subst, ◌∙◌}
use Rattle.std.specs.List.{AllByRecursion}
use Rattle.rtcp_wire.specs.declared.packet.Rtcp.{Rtcp}
use Rattle.rtcp_wire.specs.declared.packet.Rtcp.TheVariants.{ExtendedReport}
use Rattle.report_core.specs.Moments.{answer_of}
use Rattle.session_core.specs.Feedback.{FitsAlone}
use Rattle.session_core.specs.Reports.{some_reports}
use Rattle.session_core.proofs.Failing.{on_err_any}
use Rattle.session_core.proofs.Fitting.{one_more_fits, brief_fits}
use Rattle.session_core.proofs.Reported.{none_report}
use Rattle.session_core.proofs.Spoken.{some_one, answer_brief, some_seen, silent_seen, alone_seen, answering_seen}
use Rattle.session_core.proofs.session.Session.sender_items.Goals as goal

pub returns-in_err-made-clause-cause : goal.returns-in_err-made-clause-cause
returns-in_err-made-clause-cause g c = on_err_any c.from_residual.result (some_one c.args.mids.now c.in_err-made.ensures.cause)

pub returns-then-not-made-clause-items : goal.returns-then-not-made-clause-items
returns-then-not-made-clause-items g c =
    silent_seen c.args.now _ _ c.self.view_is c.args.mids.now _ c.as_slice-medias.ensures.value c.in_ok-made.made.items.items
    (sym c.in_ok-made.ensures.some ∙ c.if-not-made.true) c.in_ok-made.ensures.said

pub returns-then-not-made-clause-some : goal.returns-then-not-made-clause-some
returns-then-not-made-clause-some g c = c.in_ok-made.ensures.some ∙ some_seen c.args.now _ _ c.self.view_is c.args.mids.now _ c.as_slice-medias.ensures.value

pub returns-in_err-report-clause-cause : goal.returns-in_err-report-clause-cause
returns-in_err-report-clause-cause g c =
    let some : some_reports c.as_slice-medias.result.now c.args.mids.now c.self.inside.streams.tx ≡ true = sym c.in_ok-made.ensures.some ∙ c.if-not-made.false in
    on_err_any c.from_residual-in_err-report.result (some_one c.args.mids.now (none_report c.as_slice-medias.result.now c.args.mids.now c.self.inside.streams.tx some))

pub returns-in_default-clause-items : goal.returns-in_default-clause-items
returns-in_default-clause-items g c =
    alone_seen c.args.now _ _ c.self.view_is c.args.mids.now _ c.as_slice-medias.ensures.value c.sender_ssrc-sender.result c.in_ok-made.made.items.items c.sender_ssrc-sender.ensures
    (sym c.in_ok-made.ensures.some ∙ c.if-not-made.false) (sym c.in_ok-report.ensures.answer ∙ c.in_default.is) c.in_ok-made.ensures.said

pub returns-in_default-clause-some : goal.returns-in_default-clause-some
returns-in_default-clause-some g c = c.in_ok-made.ensures.some ∙ some_seen c.args.now _ _ c.self.view_is c.args.mids.now _ c.as_slice-medias.ensures.value

pub returns-in_err-push_back-clause-cause : goal.returns-in_err-push_back-clause-cause
returns-in_err-push_back-clause-cause g c =
    let some : some_reports c.as_slice-medias.result.now c.args.mids.now c.self.inside.streams.tx ≡ true = sym c.in_ok-made.ensures.some ∙ c.if-not-made.false in
    on_err_any c.from_residual-in_err-push_back.result (some_one c.args.mids.now (none_report c.as_slice-medias.result.now c.args.mids.now c.self.inside.streams.tx some))

pub returns-clause-items : goal.returns-clause-items
returns-clause-items g c =
    answering_seen c.args.now _ _ c.self.view_is c.args.mids.now _ c.as_slice-medias.ensures.value c.sender_ssrc-sender.result c.push_back.new.self.items c.in-Some.report c.sender_ssrc-sender.ensures
    (sym c.in_ok-made.ensures.some ∙ c.if-not-made.false) (sym c.in_ok-report.ensures.answer ∙ c.in-Some.is)
    (c.in_ok-push_back.ensures.items ∙ ap (λ (l : List Rtcp). l ++ ExtendedReport c.in-Some.report ∷ []) c.in_ok-made.ensures.said)

pub returns-clause-some : goal.returns-clause-some
returns-clause-some g c = c.in_ok-made.ensures.some ∙ some_seen c.args.now _ _ c.self.view_is c.args.mids.now _ c.as_slice-medias.ensures.value

pub returns-clause-fit : goal.returns-clause-fit
returns-clause-fit g c =
    let answer : answer_of c.sender_ssrc-sender.result c.args.now c.self.inside.moments ≡ Some c.in-Some.report = sym c.in_ok-report.ensures.answer ∙ c.in-Some.is in
    subst (λ (xs : List Rtcp). AllByRecursion FitsAlone xs) (sym c.in_ok-push_back.ensures.items)
    (one_more_fits c.in_ok-made.made.items.items (ExtendedReport c.in-Some.report) c.in_ok-made.ensures.fit
    (brief_fits (ExtendedReport c.in-Some.report) c.items_fit_by_lengths.ensures (answer_brief c.args.now c.sender_ssrc-sender.result c.self.inside.moments c.in-Some.report answer)))
