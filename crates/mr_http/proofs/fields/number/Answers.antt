use Rattle.std.proofs.Common.{◌+◌, ◌*◌, arith, ap, ◌∙◌, sym, take}
use Rattle.mr_model.specs.Texts.{number_in}
use Rattle.mr_http.proofs.Digits.{length_parts, digit_at, number_more, number_bound}
use Rattle.mr_http.proofs.fields.number.Goals as goal

pub overflow_sub-digit : goal.overflow_sub-digit
overflow_sub-digit c =
    (digit_at c.args.digits.now c.loop-digit.digit-index c.loop-digit-test.true (length_parts c.args.digits.now c.requires).1).0

pub overflow_mul-number : goal.overflow_mul-number
overflow_mul-number c =
    omega (arith, c.loop-digit.invariant, number_bound c.args.digits.now c.loop-digit.digit-index c.requires)

pub overflow_add-number : goal.overflow_add-number
overflow_add-number c =
    let digit = digit_at c.args.digits.now c.loop-digit.digit-index c.loop-digit-test.true (length_parts c.args.digits.now c.requires).1 in
    omega (arith, c.loop-digit.invariant, number_bound c.args.digits.now c.loop-digit.digit-index c.requires, digit.1, c.from.ensures)

pub loop-digit-preserved : goal.loop-digit-preserved
loop-digit-preserved c =
    let digits = c.args.digits.now in
    let at = c.loop-digit.digit-index in
    ap (λ n. n * 10 + c.from.result) c.loop-digit.invariant
    ∙ ap (λ d. number_in (take at digits) * 10 + d) c.from.ensures
    ∙ sym (number_more digits at c.loop-digit-test.true (length_parts digits c.requires).1)
