use Rattle.std.proofs.Common.{◌≡◌, ◌<◌, length, List, arith, rules, length-drop, refl, ap}
use Rattle.std.proofs.lemmas.Grind.{common_steps}
use Rattle.twcc_core.specs.declared.status.PacketStatus.{PacketStatus}
use Rattle.twcc_core.specs.Runs.{left_of}
use Rattle.twcc_core.specs.Chunks.{told_by}
use Rattle.twcc_core.proofs.Chunks.{put_starts, put_more, put_fails}
use Rattle.twcc_core.proofs.Cursor.{told_within}
use Rattle.twcc_core.proofs.chunk.write_chunks.Goals as goal

pub loop-rest-init : goal.loop-rest-init
loop-rest-init c = put_starts (left_of c.args.rows) c.args.out.now c.args.at (omega arith)

pub loop-rest-smaller : goal.loop-rest-smaller
loop-rest-smaller c =
    let rest : List PacketStatus = left_of c.loop-rest.rest in
    let some : 0 < length rest = search rules in
    let w = told_within rest some in
    let e = ap length c.first_chunk-chunk.ensures.rest in
    omega (arith, w.0, w.1, e, length-drop (told_by rest) rest)

pub loop-rest-preserved : goal.loop-rest-preserved
loop-rest-preserved c =
    let rest : List PacketStatus = left_of c.loop-rest.rest in
    let some : 0 < length rest = search rules in
    let w = told_within rest some in
    let same : length c.put.new.out ≡ length c.loop-rest.out = grind (arith, common_steps) in
    put_more (left_of c.args.rows) rest (left_of c.first_chunk-chunk.result.1) c.args.out.now c.args.at c.loop-rest.out c.put.new.out c.loop-rest.end c.in-Some.next c.first_chunk-chunk.result.0 (told_by rest) some
    c.first_chunk-chunk.ensures.chunk refl w.0 w.1 c.first_chunk-chunk.ensures.rest same
    (rw c.to_be_bytes.ensures at c.in-Some.ensures.text) c.in-Some.ensures.behind c.loop-rest.invariant

pub returns-in-None-clause-text : goal.returns-in-None-clause-text
returns-in-None-clause-text c =
    let some : 0 < length (left_of c.loop-rest.rest) = search rules in
    put_fails (left_of c.args.rows) (left_of c.loop-rest.rest) c.args.out.now c.args.at c.loop-rest.out c.put.new.out c.loop-rest.end c.first_chunk-chunk.result.0 some
    (rw c.to_be_bytes.ensures at c.in-None.ensures.text) c.loop-rest.invariant
