use Rattle.std.proofs.Common.{◌≡◌, ◌∙◌, ℕ, Option, None, Bool, false, cond, ap, sym, unwrap_or}
use Rattle.std.specs.List.{list_any}
use Rattle.repair_core.specs.Rounds.{grace_of, moment_after}
use Rattle.mask_register.specs.MaskRegister.{window_in, latest_of, is_open}
use Rattle.mask_register.proofs.RegisterLaws.{sees_past}
use Rattle.mask_register.proofs.AskLaws.{give_up_is}
use Rattle.mask_register.proofs.register.MaskRegisterGapWindow.recovery_deadline.Goals as goal

pub returns-then-has_open : goal.returns-then-has_open
returns-then-has_open c = λ past m.
    let w = c.in-Some.window in
    let rows = c.args.self.now.asks in
    let last = latest_of w rows None (window_in w c.args.range.start c.args.range.end) in
    sym
    (ap (λ (b : Bool). cond b None (moment_after (unwrap_or last c.args.received) (grace_of c.args.trip)))
    (sym
    (c.has_open.ensures
    ∙ ap (λ (n : ℕ). list_any (is_open w rows) (window_in w n c.from-to.result)) c.from-from.ensures
    ∙ ap (λ (n : ℕ). list_any (is_open w rows) (window_in w c.args.range.start n)) c.from-to.ensures)
    ∙ c.if-has_open.true))
    ∙ give_up_is w rows past c.args.range.start c.args.range.end c.args.received c.args.trip (sees_past c.args.self.now past w c.in-Some.is m) m.asks

pub returns : goal.returns
returns c = λ past m.
    let w = c.in-Some.window in
    let rows = c.args.self.now.asks in
    let last = latest_of w rows None (window_in w c.args.range.start c.args.range.end) in
    let shut : false ≡ list_any (is_open w rows) (window_in w c.args.range.start c.args.range.end) =
    sym c.if-has_open.false ∙ c.has_open.ensures
    ∙ ap (λ (n : ℕ). list_any (is_open w rows) (window_in w n c.from-to.result)) c.from-from.ensures
    ∙ ap (λ (n : ℕ). list_any (is_open w rows) (window_in w c.args.range.start n)) c.from-to.ensures in
    let latest : c.last_ask.result ≡ last =
    c.last_ask.ensures
    ∙ ap (λ (n : ℕ). latest_of w rows None (window_in w n c.from-to.result)) c.from-from.ensures
    ∙ ap (λ (n : ℕ). latest_of w rows None (window_in w c.args.range.start n)) c.from-to.ensures in
    c.given_up-2.ensures
    ∙ ap (λ (n : ℕ). moment_after n (grace_of c.args.trip)) (c.unwrap_or.ensures ∙ ap (λ (o : Option ℕ). unwrap_or o c.args.received) latest)
    ∙ ap (λ (b : Bool). cond b None (moment_after (unwrap_or last c.args.received) (grace_of c.args.trip))) shut
    ∙ give_up_is w rows past c.args.range.start c.args.range.end c.args.received c.args.trip (sees_past c.args.self.now past w c.in-Some.is m) m.asks
