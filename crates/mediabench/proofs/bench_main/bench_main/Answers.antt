use Rattle.std.proofs.Common.{refl, map, string_bytes}
use Rattle.mediabench.proofs.Named.{asks_for_none}
use Rattle.mediabench.proofs.bench_main.bench_main.Goals as goal

pub returns-in-None-row_of-clause-usage : goal.returns-in-None-row_of-clause-usage
returns-in-None-row_of-clause-usage g c =
    ((λ _. asks_for_none c.args.table.now (map string_bytes c.args.words.now) c.in-Some-RunOne.name.now (rw c.in-Some-RunOne.field-0-is at c.in-Some-RunOne.ensures) c.in-None-row_of.ensures), (λ _. refl))
