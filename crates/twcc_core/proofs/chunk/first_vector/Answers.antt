use Rattle.std.proofs.Common.{◌∙◌, ap, ℕ, List, arith}
use Rattle.twcc_core.specs.declared.status.PacketStatus.{PacketStatus}
use Rattle.twcc_core.specs.Runs.{left_of}
use Rattle.twcc_core.specs.Chunks.{symbol_at}
use Rattle.twcc_core.proofs.Cursor.{symbol_behind, next_behind}
use Rattle.twcc_core.proofs.chunk.first_vector.Goals as goal

pub returns-clause-value : goal.returns-clause-value
returns-clause-value c =
    let rows : List PacketStatus = left_of c.args.rows in
    let d1 = c.split_symbol-first.ensures.rest in
    let d2 = next_behind 1 rows _ _ d1 c.split_symbol-second.ensures.rest in
    let d3 = next_behind 2 rows _ _ d2 c.split_symbol-third.ensures.rest in
    let d4 = next_behind 3 rows _ _ d3 c.split_symbol-fourth.ensures.rest in
    let d5 = next_behind 4 rows _ _ d4 c.split_symbol-fifth.ensures.rest in
    let d6 = next_behind 5 rows _ _ d5 c.split_symbol-sixth.ensures.rest in
    let first : List PacketStatus → ℕ = λ xs. symbol_at xs 0 in
    let s1 = c.split_symbol-second.ensures.value ∙ ap first d1 ∙ symbol_behind 1 rows in
    let s2 = c.split_symbol-third.ensures.value ∙ ap first d2 ∙ symbol_behind 2 rows in
    let s3 = c.split_symbol-fourth.ensures.value ∙ ap first d3 ∙ symbol_behind 3 rows in
    let s4 = c.split_symbol-fifth.ensures.value ∙ ap first d4 ∙ symbol_behind 4 rows in
    let s5 = c.split_symbol-sixth.ensures.value ∙ ap first d5 ∙ symbol_behind 5 rows in
    let s6 = c.split_symbol-seventh.ensures.value ∙ ap first d6 ∙ symbol_behind 6 rows in
    omega (arith, c.from.ensures, c.from-2.ensures, c.from-3.ensures, c.from-4.ensures, c.from-5.ensures, c.from-6.ensures, c.from-7.ensures, c.split_symbol-first.ensures.value, s1, s2, s3, s4, s5, s6)
