use Rattle.std.proofs.Common.{List, slice_set, ap, subst, arith}
use Rattle.media_play.specs.declared.numbers.Numbers.{Numbers}
use Rattle.media_play.specs.Knowing.{IsNoted}
use Rattle.media_play.specs.Sessions.{EndState}
use Rattle.media_play.proofs.Knowings.{noted_at, noted_past}
use Rattle.media_play.proofs.end.End.note.Goals as goal

pub returns-in_ok-insert-clause-noted : goal.returns-in_ok-insert-clause-noted
returns-in_ok-insert-clause-noted g c =
    let items = c.self.inside.written.items in
    let new = c.insert.new.self in
    subst (λ (old : List Numbers). IsNoted c.args.place c.args.number old (slice_set items c.args.place new)) (ap (λ (e : EndState). e.written) c.self.view_is)
    (noted_at c.args.place c.args.number items c.index_mut.result.now new (omega (arith, c.if-place-len.true, c.len.ensures)) c.index_mut.ensures.value c.in_ok-insert.ensures.ok)

pub returns-else-place-len-clause-noted : goal.returns-else-place-len-clause-noted
returns-else-place-len-clause-noted g c =
    let items = c.self.inside.written.items in
    subst (λ (old : List Numbers). IsNoted c.args.place c.args.number old old) (ap (λ (e : EndState). e.written) c.self.view_is)
    (noted_past c.args.place c.args.number items (omega (arith, c.if-place-len.false, c.len.ensures)))
