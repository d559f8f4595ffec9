use Rattle.std.proofs.Common.{◌≡◌, ◌≤◌, ◌^◌, ◌-◌, min, true, ap, sym, ◌∙◌, arith}
use Rattle.std.proofs.lemmas.Bool.Decides.{nat_tests}
use Rattle.stream_core.specs.Queue.{stamps_of, waits, earliest_of}
use Rattle.stream_core.proofs.Totals.{in_order, earliest_is}
use Rattle.stream_core.proofs.send_queue.SendQueue.all_waits.Goals as goal

pub overflow_sub-total : goal.overflow_sub-total
overflow_sub-total c =
    let q = c.self.inside in
    let r : q.rising ≡ true = c.if-not-self.false in
    let le : q.last_tick ≤ c.args.now = grind (arith, nat_tests, c.lt.ensures, c.if-lt.false) in
    let e = in_order q.packets.items q.stamped q.bytes q.stamps q.last_tick c.args.now c.from.result q.rising c.self.invariant r le (c.from.ensures ∙ c.as_nanos.ensures) in
    omega arith

pub returns-clause-total : goal.returns-clause-total
returns-clause-total c =
    let q = c.self.inside in
    let r : q.rising ≡ true = c.if-not-self.false in
    let le : q.last_tick ≤ c.args.now = grind (arith, nat_tests, c.lt.ensures, c.if-lt.false) in
    let e = in_order q.packets.items q.stamped q.bytes q.stamps q.last_tick c.args.now c.from.result q.rising c.self.invariant r le (c.from.ensures ∙ c.as_nanos.ensures) in
    let total : c.min.result ≡ min (waits c.args.now (stamps_of q.packets.items)) (2 ^ 64 - 1) = omega arith in
    total ∙ ap (λ l. min (waits c.args.now (stamps_of l)) (2 ^ 64 - 1)) c.self.view_is

pub returns-clause-first : goal.returns-clause-first
returns-clause-first c =
    let q = c.self.inside in
    let r : q.rising ≡ true = c.if-not-self.false in
    c.first_stamp-first.ensures ∙ sym (earliest_is q.stamped q.last_tick q.packets.items c.self.invariant.in_front (c.self.invariant.rise r)) ∙ ap (λ l. earliest_of (stamps_of l)) c.self.view_is
