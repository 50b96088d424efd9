use Rattle.std.proofs.Common.{refl, sym, arith}
use Rattle.std.proofs.lemmas.Bool.{false_from_ne_true, false≢true}
use Rattle.mr_base.proofs.CalendarDays.{civil-is_date, is_date-civil}
use Rattle.mr_base.proofs.Readers.{only_if_true, only_if_false}
use Rattle.mr_base.proofs.days.Day.of_parts.Goals as goal

pub invariant_of-result : goal.invariant_of-result
invariant_of-result c = is_date-civil c.args.year c.args.month c.args.day (omega arith) (omega arith) (omega arith) (omega arith) (c.in-Ok.ensures.succeeds.0 refl)

pub returns-in-Ok : goal.returns-in-Ok
returns-in-Ok c = sym (only_if_true _ _ (is_date-civil c.args.year c.args.month c.args.day (omega arith) (omega arith) (omega arith) (omega arith) (c.in-Ok.ensures.succeeds.0 refl)))

pub returns-in-Err : goal.returns-in-Err
returns-in-Err c = sym (only_if_false _ _ (false_from_ne_true _ (λ e. false≢true (c.in-Err.ensures.succeeds.1 (civil-is_date c.args.year c.args.month c.args.day e)))))
