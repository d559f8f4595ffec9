use Rattle.std.proofs.Common.{rules}
use Rattle.mapping_core.proofs.GoingOn.{go_on_moved}
use Rattle.mapping_core.proofs.streams.MappedStreams.change_main.Goals as goal

pub returns-in-Some-clause-go_on : goal.returns-in-Some-clause-go_on
returns-in-Some-clause-go_on c =
    go_on_moved c.args.change.to c.args.self.now c.self.inside.all.items c.in-Some.place _ c.moved.result (search rules) c.in-Some.ensures.within c.index.ensures c.moved.ensures
