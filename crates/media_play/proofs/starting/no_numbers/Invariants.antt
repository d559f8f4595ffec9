use Rattle.std.proofs.Common.{[]}
use Rattle.std.specs.List.{AllZip}
use Rattle.media_model.specs.declared.entry.Side.{Side}
use Rattle.media_play.specs.Knowing.{UsedAs}
use Rattle.media_play.proofs.starting.no_numbers.Given as goal

abbrev pub invariant-loop : goal.invariant-loop
invariant-loop l = (of : Side) → AllZip (UsedAs of []) l.yielded l.all.items
