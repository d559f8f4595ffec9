use Rattle.std.proofs.Common.{sym, ◌∙◌}
use Rattle.run_widens.proofs.SentLaws.{wrote_told, sealed_told}
use Rattle.run_widens.proofs.sent.Sent.add.Goals as goal

pub returns-in_ok-put-in-Wrote : goal.returns-in_ok-put-in-Wrote
returns-in_ok-put-in-Wrote c past holds k =
    let w = c.in-Wrote in
    wrote_told c.args.line.now past c.args.entry.now c.peer-sender.result c.peer-sender.ensures w.side w.field-1 w.write w.is
    (sym c.eq.ensures ∙ c.if-eq.true) (sym c.eq-then-eq.ensures ∙ c.if-eq-2.true)
    c.key_of.result k c.in-Some.pt c.key_of.ensures (sym c.rtx_of.ensures ∙ c.in-Some.is)
    _ _ _ c.args.at (c.in_ok-put-in-Wrote.ensures k) (holds k)

pub returns-in_ok-insert-in-Sealed : goal.returns-in_ok-insert-in-Sealed
returns-in_ok-insert-in-Sealed c past holds k =
    let s = c.in-Sealed.sealed in
    sealed_told c.args.line.now past c.args.entry.now c.peer-sender.result c.peer-sender.ensures s c.in-Sealed.is
    (sym c.eq-in-Sealed.ensures ∙ c.if-eq-3.true) (sym c.is_first.ensures ∙ c.if-is_first.true) c.from.result c.from.ensures
    k _ _ _ c.args.at (c.in_ok-insert-in-Sealed.ensures.updates.0 k.number) (holds k)
