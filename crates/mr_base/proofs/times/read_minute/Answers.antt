use Rattle.std.proofs.Common.{◌∙◌, ap}
use Rattle.std.specs.Prelude.{ok_or}
use Rattle.mr_base.specs.declared.refusals.Refusal.TheVariants.{BadTime}
use Rattle.mr_base.proofs.TimeTexts.{read_time_is}
use Rattle.mr_base.proofs.times.read_minute.Goals as goal

pub returns-clause-value : goal.returns-clause-value
returns-clause-value c = c.ok_or.ensures.value ∙ ap (λ o. ok_or o BadTime) (c.minute_of.ensures ∙ read_time_is c.args.text.now)
