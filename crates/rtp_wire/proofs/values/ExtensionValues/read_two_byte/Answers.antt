use Rattle.std.proofs.Common.{◌≡◌, ℕ, ◌+◌, List, take, drop, get_or, ap, ◌∙◌, arith}
use Rattle.rtp_wire.specs.Extensions.{named_by, with_value, with_elements, two_byte_elements}
use Rattle.rtp_wire.specs.declared.values.ExtensionValues.{ExtensionValues}
use Rattle.rtp_wire.proofs.Turns.{two_padding_at, two_short_at, two_element_at, two_none_left_at}
use Rattle.rtp_wire.proofs.values.ExtensionValues.read_two_byte.Goals as goal

pub loop-at-preserved-then-id-eq0 : goal.loop-at-preserved-then-id-eq0
loop-at-preserved-then-id-eq0 c = record {
  within = omega arith;
  sofar = two_padding_at c.args.exts.now c.loop-at.self _ c.args.bytes.now c.loop-at.at c.loop-at-test.true c.if-id-eq0.true c.loop-at.invariant.sofar;
}

pub returns-then-at-bytes : goal.returns-then-at-bytes
returns-then-at-bytes c =
    two_short_at c.args.exts.now c.loop-at.self _ c.args.bytes.now c.loop-at.at c.loop-at-test.true c.if-id-eq0.false (omega arith) c.loop-at.invariant.sofar

pub returns-then-tail-len : goal.returns-then-tail-len
returns-then-tail-len c =
    two_short_at c.args.exts.now c.loop-at.self _ c.args.bytes.now c.loop-at.at c.loop-at-test.true c.if-id-eq0.false (omega (arith, c.from-len.ensures, c.split_at.ensures.back_len)) c.loop-at.invariant.sofar

pub loop-at-preserved : goal.loop-at-preserved
loop-at-preserved c =
    let bytes : List ℕ = c.args.bytes.now in
    let at : ℕ = c.loop-at.at in
    let id : ℕ = get_or bytes at 0 in
    let n : ℕ = c.from-len.result in
    let front : c.split_at-in-loop-at.result.0.now ≡ take n (drop (at + 2) bytes) = c.split_at-in-loop-at.ensures.front ∙ ap (take n) c.split_at.ensures.back in
    let values : c.take_in.new.self ≡ with_value c.loop-at.self (named_by c.args.exts.now id) (take n (drop (at + 2) bytes)) = c.take_in.ensures ∙ ap (λ x. with_value c.loop-at.self x c.split_at-in-loop-at.result.0.now) c.named_by.ensures ∙ ap (with_value c.loop-at.self (named_by c.args.exts.now id)) front in
    record {
      within = omega (arith, c.split_at.ensures.back_len);
      sofar = ap (λ (v : ExtensionValues). with_elements c.args.exts.now v (two_byte_elements 0 (drop (at + (2 + n)) bytes))) values
          ∙ two_element_at c.args.exts.now c.loop-at.self _ bytes at n (omega arith) c.if-id-eq0.false c.from-len.ensures (omega (arith, c.split_at.ensures.back_len)) c.loop-at.invariant.sofar;
    }

pub returns : goal.returns
returns c = two_none_left_at c.args.exts.now c.loop-at.self _ c.args.bytes.now c.loop-at.at c.loop-at-test.false c.loop-at.invariant.sofar
