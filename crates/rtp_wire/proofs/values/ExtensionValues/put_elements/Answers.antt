use Rattle.std.proofs.Common.{◌≡◌, ℕ, ◌+◌, ◌≤◌, List, ◌++◌, length, drop, Some, sym, ap, ◌∙◌, arith}
use Rattle.std.specs.List.{flat_map}
use Rattle.rtp_wire.specs.Writing.{value_bytes}
use Rattle.rtp_wire.specs.Extensions.{named_by, element_at, element_bytes}
use Rattle.rtp_wire.proofs.ValueLengths.{data_bound}
use Rattle.rtp_wire.proofs.Elements.{data_at, sofar_first, sofar_none, sofar_room, sofar_some, sofar_all, sofar_length, sofar_next}
use Rattle.rtp_wire.proofs.values.ExtensionValues.put_elements.Goals as goal
use Rattle.rtp_wire.proofs.values.ExtensionValues.put_elements.Goals.{in-Some, in_default}

pub loop-id-init : goal.loop-id-init
loop-id-init c = sofar_first c.args.exts.now c.args.self.now c.args.bytes.now

pub put_element-at-requires-clause-some : goal.put_element-at-requires-clause-some
put_element-at-requires-clause-some c =
    let named : named_by c.args.exts.now c.loop-id.id ≡ Some c.in-Some.extension = sym c.named_by.ensures ∙ c.in-Some.is in
    let room : c.loop-id.at + length (flat_map element_bytes (element_at c.loop-id.id (value_bytes c.in-Some.extension c.loop-id.left))) ≤ 75 = sofar_room c.args.exts.now c.args.self.now c.loop-id.left c.args.bytes.now c.loop-id.bytes c.loop-id.id c.loop-id.at c.in-Some.extension c.loop-id-test.true named c.loop-id.invariant in
    omega (arith, room, c.split_at_mut-rest.ensures.back_len, c.loop-id.auto.bytes, c.requires)

pub put_element-at-requires-clause-room : goal.put_element-at-requires-clause-room
put_element-at-requires-clause-room c =
    let named : named_by c.args.exts.now c.loop-id.id ≡ Some c.in-Some.extension = sym c.named_by.ensures ∙ c.in-Some.is in
    let room : c.loop-id.at + length (flat_map element_bytes (element_at c.loop-id.id (value_bytes c.in-Some.extension c.loop-id.left))) ≤ 75 = sofar_room c.args.exts.now c.args.self.now c.loop-id.left c.args.bytes.now c.loop-id.bytes c.loop-id.id c.loop-id.at c.in-Some.extension c.loop-id-test.true named c.loop-id.invariant in
    omega (arith, room, c.split_at_mut-rest.ensures.back_len, c.loop-id.auto.bytes, c.requires)

pub loop-id-preserved : goal.loop-id-preserved
unfolding data_at
loop-id-preserved c =
    elim c.match-named_by.branch [
      | in-Some w ↦
          sofar_next c.args.exts.now c.args.self.now c.match-named_by.left c.args.bytes.now c.match-named_by.bytes (c.loop-id.id + 1) c.match-named_by.at _ _ _
          (w.bytes-is ∙ ap (λ (l : List ℕ). l ++ w.put_element-at.new.bytes) w.split_at_mut-rest.ensures.front)
          w.left-is w.at-is
          (sofar_some c.args.exts.now c.args.self.now c.loop-id.left w.take_out.new.self c.args.bytes.now c.loop-id.bytes w.put_element-at.new.bytes c.loop-id.id c.loop-id.at w.put_element-at.result (Some w.in-Some.extension) c.loop-id-test.true (sym c.named_by.ensures ∙ w.in-Some.is) w.take_out.ensures w.put_element-at.ensures.len
          (w.put_element-at.ensures.bytes ∙ ap (λ (l : List ℕ). flat_map element_bytes (element_at c.loop-id.id (value_bytes w.in-Some.extension c.loop-id.left)) ++ drop w.put_element-at.result l) w.split_at_mut-rest.ensures.back)
          c.loop-id.invariant)
      | in_default w ↦
          sofar_next c.args.exts.now c.args.self.now c.match-named_by.left c.args.bytes.now c.match-named_by.bytes (c.loop-id.id + 1) c.match-named_by.at _ _ _ w.bytes-is w.left-is w.at-is
          (sofar_none c.args.exts.now c.args.self.now c.loop-id.left c.args.bytes.now c.loop-id.bytes c.loop-id.id c.loop-id.at c.loop-id-test.true (sym c.named_by.ensures ∙ w.in_default.is) c.loop-id.invariant)
    ]

pub returns-clause-bytes : goal.returns-clause-bytes
returns-clause-bytes c = sofar_all c.args.exts.now c.args.self.now c.loop-id.left c.args.bytes.now c.loop-id.bytes c.loop-id.id c.loop-id.at (omega arith) c.loop-id.invariant

pub returns-clause-len : goal.returns-clause-len
returns-clause-len c = sofar_length c.args.exts.now c.args.self.now c.loop-id.left c.args.bytes.now c.loop-id.bytes c.loop-id.id c.loop-id.at (omega arith) c.loop-id.invariant

pub returns-clause-bound : goal.returns-clause-bound
returns-clause-bound c =
    omega (arith, data_bound c.args.exts.now c.args.self.now, sofar_length c.args.exts.now c.args.self.now c.loop-id.left c.args.bytes.now c.loop-id.bytes c.loop-id.id c.loop-id.at (omega arith) c.loop-id.invariant)
