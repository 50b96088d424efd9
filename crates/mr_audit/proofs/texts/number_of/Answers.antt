use Rattle.std.proofs.Common.{arith}
use Rattle.std.proofs.lemmas.Int.Digits.{digits_value_more}
use Rattle.mr_audit.proofs.texts.number_of.Goals as goal

pub loop-byte-preserved : goal.loop-byte-preserved
loop-byte-preserved c =
    let more = digits_value_more 10 c.args.text.now c.loop-byte.byte-index (omega arith) in
    omega (arith, more, c.loop-byte.invariant, c.digit_value.ensures, c.saturating_mul.ensures, c.saturating_add-total.ensures)
