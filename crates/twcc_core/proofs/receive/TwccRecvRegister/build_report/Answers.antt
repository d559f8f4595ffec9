use Rattle.std.proofs.Common.{◌≡◌, ◌∙◌, sym, ap, subst, ℕ, ◌<◌, ◌+◌, ◌-◌, ◌%◌, ltb, List, length, filter, Some, arith}
use Rattle.twcc_core.specs.declared.status.PacketStatus.{PacketStatus}
use Rattle.twcc_core.specs.declared.feedback.Twcc.{Twcc}
use Rattle.twcc_core.specs.Reports.{Kept, StandsFor, after_report}
use Rattle.twcc_core.proofs.Reported.{empty_report, empty_after, some_report, some_after}
use Rattle.twcc_core.proofs.receive.TwccRecvRegister.build_report.Goals as goal

pub returns-then-len-eq0-clause-report : goal.returns-then-len-eq0-clause-report
returns-then-len-eq0-clause-report c =
    let rows : List PacketStatus = c.in_ok-rows.rows in
    let same : c.report-report.result.rows ≡ rows = ap (λ (t : Twcc). t.rows) c.report-report.ensures in
    let none : length rows ≡ 0 = sym (ap length same) ∙ sym c.len-len.ensures ∙ c.if-len-eq0.true in
    λ past h. empty_report c.args.self.now past c.args.sender_ssrc c.args.ssrc c.args.limit (c.in-Some.base, c.in-Some.moment) rows h c.in-Some.ensures c.in_ok-rows.ensures.rows none

pub returns-then-len-eq0-clause-ok : goal.returns-then-len-eq0-clause-ok
returns-then-len-eq0-clause-ok c =
    let rows : List PacketStatus = c.in_ok-rows.rows in
    let same : c.report-report.result.rows ≡ rows = ap (λ (t : Twcc). t.rows) c.report-report.ensures in
    let none : length rows ≡ 0 = sym (ap length same) ∙ sym c.len-len.ensures ∙ c.if-len-eq0.true in
    λ past h. empty_after c.args.self.now past c.args.limit (c.in-Some.base, c.in-Some.moment) rows h c.in-Some.ensures c.in_ok-rows.ensures.rows none

pub returns-clause-report : goal.returns-clause-report
returns-clause-report c =
    let rows : List PacketStatus = c.in_ok-rows.rows in
    let same : c.report-report.result.rows ≡ rows = ap (λ (t : Twcc). t.rows) c.report-report.ensures in
    let some : 0 < length rows = omega (arith, ap length same, c.len-len.ensures, c.if-len-eq0.false) in
    λ past h. ap (λ (t : Twcc). Some t) c.report-report.ensures ∙ some_report c.args.self.now past c.args.sender_ssrc c.args.ssrc c.args.limit (c.in-Some.base, c.in-Some.moment) rows h c.in-Some.ensures c.in_ok-rows.ensures.rows some

pub returns-clause-ok : goal.returns-clause-ok
returns-clause-ok c =
    let rows : List PacketStatus = c.in_ok-rows.rows in
    let same : c.report-report.result.rows ≡ rows = ap (λ (t : Twcc). t.rows) c.report-report.ensures in
    let some : 0 < length rows = omega (arith, ap length same, c.len-len.ensures, c.if-len-eq0.false) in
    let last : ℕ = c.in-Some.base + (c.len-len.result - 1) in
    let is : last ≡ c.in-Some.base + (length rows - 1) = ap (λ (n : ℕ). c.in-Some.base + (n - 1)) (c.len-len.ensures ∙ ap length same) in
    λ past h.
    let P : Kept → Type 0 = λ x. StandsFor (record { arrivals = x.arrivals; pending = filter (λ e. ltb last e.0) x.pending; lowest = x.lowest; reports = (x.reports + 1) % 256 }) (after_report past c.args.limit) in
    let kept = some_after c.args.self.now past c.args.limit (c.in-Some.base, c.in-Some.moment) rows last h c.in-Some.ensures c.in_ok-rows.ensures.rows some is in
    rw c.forget_to.ensures (subst P (sym c.self.view_is) kept)
