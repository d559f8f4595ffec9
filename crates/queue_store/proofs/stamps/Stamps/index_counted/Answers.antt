use Rattle.std.proofs.Common.{◌∙◌}
use Rattle.queue_store.proofs.RowLaws.{index_is}
use Rattle.queue_store.proofs.stamps.Stamps.index_counted.Goals as goal

pub returns-clause-value : goal.returns-clause-value
returns-clause-value g c = c.ok.ensures.value ∙ index_is c.args.self.now c.args.position c.search_counted.result c.search_counted.ensures.found c.search_counted.ensures.missed
