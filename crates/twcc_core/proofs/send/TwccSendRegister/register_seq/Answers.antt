use Rattle.std.proofs.Common.{◌≡◌, ◌≤◌, ◌+◌, None, ap, arith}
use Rattle.twcc_core.specs.declared.send.TwccSendRecord.{TwccSendRecord}
use Rattle.twcc_core.specs.Sending.{Sending}
use Rattle.twcc_core.proofs.Rising.{held_sent, kept_sent}
use Rattle.twcc_core.proofs.send.TwccSendRegister.register_seq.Goals as goal

pub invariant_of-self-then-len-gt-MAX_RECORDS : goal.invariant_of-self-then-len-gt-MAX_RECORDS
invariant_of-self-then-len-gt-MAX_RECORDS c =
    let same : c.self.inside.records.items ≡ c.args.self.now.records = ap (λ (s : Sending). s.records) c.self.view_is in
    let sent : TwccSendRecord = record { id = c.args.id; size = c.args.size; sent = c.args.now; reported = None; received = None } in
    let order = c.rising_before-rising.ensures.order sent (omega (arith, c.into.ensures)) in
    let low : c.min-self-inside.result ≤ c.rising_before-rising.result + 1 = omega (arith, c.min-self-inside.ensures) in
    let small : c.min-self-inside.result ≤ 1000 = omega (arith, c.min-self-inside.ensures) in
    kept_sent c.self.inside.records.items c.args.self.now.records c.push_back.new.self.items c.pop_front.new.self.items sent c.rising_before-rising.result c.min-self-inside.result same c.self.invariant.0 c.in_ok-push_back.ensures.items
    order low small (omega (arith, c.len.ensures, c.if-len-gt-MAX_RECORDS.true)) c.pop_front.ensures.rest

pub invariant_of-self-else-len-gt-MAX_RECORDS : goal.invariant_of-self-else-len-gt-MAX_RECORDS
invariant_of-self-else-len-gt-MAX_RECORDS c =
    let same : c.self.inside.records.items ≡ c.args.self.now.records = ap (λ (s : Sending). s.records) c.self.view_is in
    let sent : TwccSendRecord = record { id = c.args.id; size = c.args.size; sent = c.args.now; reported = None; received = None } in
    let order = c.rising_before-rising.ensures.order sent (omega (arith, c.into.ensures)) in
    let low : c.min-self-inside.result ≤ c.rising_before-rising.result + 1 = omega (arith, c.min-self-inside.ensures) in
    let small : c.min-self-inside.result ≤ 1000 = omega (arith, c.min-self-inside.ensures) in
    held_sent c.self.inside.records.items c.args.self.now.records c.push_back.new.self.items sent c.rising_before-rising.result c.min-self-inside.result same c.in_ok-push_back.ensures.items
    order low small (omega (arith, c.len.ensures, c.if-len-gt-MAX_RECORDS.false))
