use Rattle.std.proofs.Common.{◌≡◌, ℕ, ◌+◌, ◌/◌, List, take, drop, get_or, ap, ◌∙◌, arith}
use Rattle.rtp_wire.specs.Extensions.{named_by, with_value, with_elements, one_byte_elements}
use Rattle.rtp_wire.specs.declared.values.ExtensionValues.{ExtensionValues}
use Rattle.rtp_wire.proofs.Turns.{one_padding_at, one_stop_at, one_short_at, one_element_at, none_left_at}
use Rattle.rtp_wire.proofs.values.ExtensionValues.read_one_byte.Goals as goal

pub loop-at-preserved-then-head-eq0 : goal.loop-at-preserved-then-head-eq0
loop-at-preserved-then-head-eq0 c = record {
  within = omega arith;
  sofar = one_padding_at c.args.exts.now c.loop-at.self _ c.args.bytes.now c.loop-at.at c.loop-at-test.true c.if-head-eq0.true c.loop-at.invariant.sofar;
}

pub returns-then-id-eq-RESERVED_ID : goal.returns-then-id-eq-RESERVED_ID
returns-then-id-eq-RESERVED_ID c =
    one_stop_at c.args.exts.now c.loop-at.self _ c.args.bytes.now c.loop-at.at c.loop-at-test.true c.if-head-eq0.false c.if-id-eq-RESERVED_ID.true c.loop-at.invariant.sofar

pub returns-then-tail-len : goal.returns-then-tail-len
returns-then-tail-len c =
    one_short_at c.args.exts.now c.loop-at.self _ c.args.bytes.now c.loop-at.at c.loop-at-test.true c.if-head-eq0.false (omega (arith, c.from-len.ensures, c.split_at.ensures.back_len)) c.loop-at.invariant.sofar

pub loop-at-preserved : goal.loop-at-preserved
loop-at-preserved c =
    let bytes : List ℕ = c.args.bytes.now in
    let at : ℕ = c.loop-at.at in
    let id : ℕ = get_or bytes at 0 / 16 in
    let n : ℕ = c.from-len.result + 1 in
    let front : c.split_at-in-loop-at.result.0.now ≡ take n (drop (at + 1) bytes) = c.split_at-in-loop-at.ensures.front ∙ ap (take n) c.split_at.ensures.back in
    let values : c.take_in.new.self ≡ with_value c.loop-at.self (named_by c.args.exts.now id) (take n (drop (at + 1) bytes)) = c.take_in.ensures ∙ ap (λ x. with_value c.loop-at.self x c.split_at-in-loop-at.result.0.now) c.named_by.ensures ∙ ap (with_value c.loop-at.self (named_by c.args.exts.now id)) front in
    record {
      within = omega (arith, c.from-len.ensures, c.split_at.ensures.back_len);
      sofar = ap (λ (v : ExtensionValues). with_elements c.args.exts.now v (one_byte_elements 0 (drop (at + (1 + n)) bytes))) values
          ∙ one_element_at c.args.exts.now c.loop-at.self _ bytes at n c.loop-at-test.true c.if-head-eq0.false c.if-id-eq-RESERVED_ID.false (omega (arith, c.from-len.ensures)) (omega (arith, c.split_at.ensures.back_len)) c.loop-at.invariant.sofar;
    }

pub returns : goal.returns
returns c = none_left_at c.args.exts.now c.loop-at.self _ c.args.bytes.now c.loop-at.at c.loop-at-test.false c.loop-at.invariant.sofar
