use Rattle.std.proofs.Common.{[], ap}
use Rattle.media_play.specs.Knowing.{UsedAs}
use Rattle.media_laws.specs.Rules.{has}
use Rattle.media_play.proofs.StartingLists.{zip_push}
use Rattle.media_play.proofs.starting.no_numbers.Goals as goal

pub loop-preserved : goal.loop-preserved
loop-preserved c = λ of.
    rw c.in_ok-push.ensures.items (zip_push (UsedAs of []) c.loop.yielded c.loop.all.items c.in-Some.field-0 c.new.result (c.loop.invariant of) (λ n. ap (λ ns. has ns n) c.new.ensures))
