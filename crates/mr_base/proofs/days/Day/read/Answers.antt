use Rattle.std.proofs.Common.{◌∙◌, ap}
use Rattle.std.specs.Prelude.{ok_or}
use Rattle.mr_base.specs.declared.refusals.Refusal.TheVariants.{BadDay}
use Rattle.mr_base.proofs.DayTexts.{read_date_is, date_written, date_read}
use Rattle.mr_base.proofs.days.Day.read.Goals as goal

pub returns-clause-value : goal.returns-clause-value
returns-clause-value c = c.ok_or.ensures.value ∙ ap (λ o. ok_or o BadDay) (c.day_of.ensures ∙ read_date_is c.args.text.now)

pub returns-clause-written : goal.returns-clause-written
returns-clause-written c = date_written c.args.text.now BadDay _ (c.ok_or.ensures.value ∙ ap (λ o. ok_or o BadDay) c.day_of.ensures)

pub returns-clause-read : goal.returns-clause-read
returns-clause-read c d is text = date_read c.args.text.now BadDay _ (c.ok_or.ensures.value ∙ ap (λ o. ok_or o BadDay) c.day_of.ensures) d is text
