use Rattle.std.proofs.Common.{◌∙◌, ap, is_none}
use Rattle.std.specs.Prelude.{is_err}
use Rattle.mr_model.specs.Calendar.{read_date}
use Rattle.mr_base.specs.declared.refusals.Refusal.TheVariants.{BadDay}
use Rattle.mr_service.proofs.WordsRead.{err-none}
use Rattle.mr_service.proofs.words.lacks_day.Goals as goal

pub returns : goal.returns
returns c =
    c.is_err.ensures.value ∙ ap is_err c.read.ensures.value ∙ err-none (read_date c.as_str.result.now) BadDay
    ∙ ap (λ t. is_none (read_date t)) c.as_str.ensures.value
