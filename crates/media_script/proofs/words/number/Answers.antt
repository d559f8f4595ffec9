use Rattle.std.proofs.Common.{◌≡◌, ◌+◌, take, ap, arith, below_more, sym, ◌∙◌}
use Rattle.std.specs.Str.Parse.{digits_value}
use Rattle.std.proofs.lemmas.List.{take_all}
use Rattle.media_script.proofs.Numbers.{stops_at_byte, stops_at_limit, value_more, ends}
use Rattle.media_script.proofs.words.number.Goals as goal

pub returns-then-not-is_ascii_digit-clause-value : goal.returns-then-not-is_ascii_digit-clause-value
returns-then-not-is_ascii_digit-clause-value c = stops_at_byte c.args.word.now c.loop-b.b-index c.loop-b-test.true (sym c.if-not-is_ascii_digit.ensures.value)

pub returns-in-None-checked_add-clause-value : goal.returns-in-None-checked_add-clause-value
returns-in-None-checked_add-clause-value c =
    stops_at_limit c.args.word.now (c.loop-b.b-index + 1)
    (omega (arith, c.in-None-checked_add.ensures, c.in-Some.ensures, value_more c.args.word.now c.loop-b.b-index c.loop-b-test.true (sym c.if-not-is_ascii_digit.ensures.value)))

pub returns-in-None-clause-value : goal.returns-in-None-clause-value
returns-in-None-clause-value c =
    stops_at_limit c.args.word.now (c.loop-b.b-index + 1)
    (omega (arith, c.in-None.ensures, value_more c.args.word.now c.loop-b.b-index c.loop-b-test.true (sym c.if-not-is_ascii_digit.ensures.value)))

pub loop-b-preserved : goal.loop-b-preserved
loop-b-preserved c =
    let digit = sym c.if-not-is_ascii_digit.ensures.value in
    record {
      digits = below_more _ _ c.loop-b.invariant.digits digit;
      small = omega (arith, c.in-Some-checked_add.ensures);
      value = omega (arith, c.in-Some-checked_add.ensures, c.in-Some.ensures, value_more c.args.word.now c.loop-b.b-index c.loop-b-test.true digit);
    }

pub returns-clause-value : goal.returns-clause-value
returns-clause-value c =
    let all : take c.loop-b.b-index c.args.word.now ≡ c.args.word.now = take_all c.loop-b.b-index c.args.word.now c.loop-b-test.false in
    ends c.args.word.now c.loop-b.value (sym c.if-not-has_plain_front.ensures) (λ i lt. c.loop-b.invariant.digits i (omega arith))
    (c.loop-b.invariant.value ∙ ap (digits_value 10) all) c.loop-b.invariant.small
