use Rattle.std.proofs.Common.{◌∙◌}
use Rattle.queue_store.proofs.RowLaws.{index_is}
use Rattle.queue_store.proofs.stamps.Stamps.index.Goals as goal

pub returns : goal.returns
returns c = c.ok.ensures.value ∙ index_is c.args.self.now c.args.position c.search.result c.search.ensures.found c.search.ensures.missed
