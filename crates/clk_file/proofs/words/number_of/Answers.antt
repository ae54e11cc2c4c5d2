use Rattle.std.proofs.Common.{◌≡◌, true, sym, ◌∙◌, arith}
use Rattle.std.proofs.lemmas.List.Sums.{fold_more}
use Rattle.clk_file.specs.Words.{is_number, with_digit}
use Rattle.clk_file.proofs.Digits.{number-parts, digit_at, digit-more, nine_digits}
use Rattle.clk_file.proofs.words.number_of.Goals as goal

pub overflow_mul-number : goal.overflow_mul-number
overflow_mul-number c =
    let is : is_number c.args.text.now ≡ true = sym c.is_number.ensures ∙ c.if-not-is_number.false in
    let number = number-parts c.args.text.now is in
    omega (arith, number.short, nine_digits c.loop-digit.digit-index)

pub overflow_sub-digit : goal.overflow_sub-digit
overflow_sub-digit c =
    let is : is_number c.args.text.now ≡ true = sym c.is_number.ensures ∙ c.if-not-is_number.false in
    let number = number-parts c.args.text.now is in
    let digit = digit_at c.args.text.now c.loop-digit.digit-index c.loop-digit-test.true number.digits in
    omega arith

pub overflow_add-number : goal.overflow_add-number
overflow_add-number c =
    let is : is_number c.args.text.now ≡ true = sym c.is_number.ensures ∙ c.if-not-is_number.false in
    let number = number-parts c.args.text.now is in
    let digit = digit_at c.args.text.now c.loop-digit.digit-index c.loop-digit-test.true number.digits in
    omega (arith, number.short, nine_digits c.loop-digit.digit-index)

pub loop-digit-preserved : goal.loop-digit-preserved
loop-digit-preserved c =
    let is : is_number c.args.text.now ≡ true = sym c.is_number.ensures ∙ c.if-not-is_number.false in
    let number = number-parts c.args.text.now is in
    let digit = digit_at c.args.text.now c.loop-digit.digit-index c.loop-digit-test.true number.digits in
    record {
      value = omega (arith, fold_more with_digit 0 c.args.text.now c.loop-digit.digit-index 0 c.loop-digit-test.true);
      small = omega (arith, digit-more c.loop-digit.number c.loop-digit.digit-index _ c.loop-digit.invariant.small digit.1);
    }
