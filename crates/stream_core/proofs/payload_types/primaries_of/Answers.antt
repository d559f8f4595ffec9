use Rattle.std.proofs.Common.{◌≡◌, ◌<◌, ◌≤◌, ◌+◌, ℕ, None, Some, Option, length, take, sym, ap, subst, ◌∙◌, arith}
use Rattle.std.proofs.lemmas.List.{get_or-replicate, length-replicate, length-set}
use Rattle.std.specs.Prelude.{List}
use Rattle.stream_core.specs.Repairing.{ArePrimaries}
use Rattle.stream_core.proofs.Primaries.{primaries_none, primaries_there, primaries_set, primaries_all}
use Rattle.stream_core.proofs.payload_types.primaries_of.Goals.{in-Some+then-is_none, in-Some+else-is_none, in_default}
use Rattle.stream_core.proofs.payload_types.primaries_of.Goals as goal

pub loop-place-init : goal.loop-place-init
loop-place-init c = record { long = length-replicate {A = Option ℕ} 256 None; so_far = λ pt fits. get_or-replicate 256 pt None None fits }

pub loop-place-preserved : goal.loop-place-preserved
loop-place-preserved c =
    let at = c.index-row.ensures in
    let es = c.args.rows.now.entries in
    let i = c.loop-place.place in
    let ps = c.loop-place.primaries in
    let h = c.loop-place.invariant.so_far in
    let row = c.index-row.result.now in
    record {
      long = elim c.match-row.branch [
        | in-Some+then-is_none w ↦ ap length w.primaries-is ∙ length-set ps w.from-at.result (Some row.pt) ∙ c.loop-place.invariant.long
        | in-Some+else-is_none w ↦ ap length w.primaries-is ∙ c.loop-place.invariant.long
        | in_default w ↦ ap length w.primaries-is ∙ c.loop-place.invariant.long
      ];
      so_far = elim c.match-row.branch [
        | in-Some+then-is_none w ↦
            let within : w.from-at.result < length ps = omega arith in
            subst (λ (qs : List (Option ℕ)). ArePrimaries qs (take (i + 1) es)) (sym w.primaries-is)
            (primaries_set es i row at ps h w.in-Some.rtx w.from-at.result w.in-Some.is (w.from-at.ensures ∙ w.from.ensures) within w.index-primaries-at.result w.is_none.result w.is_none.ensures w.if-is_none.true)
        | in-Some+else-is_none w ↦
            let within : w.from-at.result < length ps = omega arith in
            subst (λ (qs : List (Option ℕ)). ArePrimaries qs (take (i + 1) es)) (sym w.primaries-is)
            (primaries_there es i row at ps h w.in-Some.rtx w.from-at.result w.in-Some.is (w.from-at.ensures ∙ w.from.ensures) within w.index-primaries-at.result w.is_none.result w.is_none.ensures w.if-is_none.false)
        | in_default w ↦
            let none : row.rtx ≡ None = w.in_default.is in
            subst (λ (qs : List (Option ℕ)). ArePrimaries qs (take (i + 1) es)) (sym w.primaries-is) (primaries_none es i row at ps h none)
      ];
    }

pub returns : goal.returns
returns c =
    let long : length c.args.rows.now.entries ≤ c.loop-place.place = omega arith in
    primaries_all c.args.rows.now.entries c.loop-place.place c.loop-place.primaries long c.loop-place.invariant.so_far
