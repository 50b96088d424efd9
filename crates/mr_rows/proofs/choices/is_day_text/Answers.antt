use Rattle.std.proofs.Common.{ap, sym, ◌∙◌}
use Rattle.mr_rows.specs.RowLimits.{is_day_text}
use Rattle.mr_rows.proofs.CellLemmas.{day_passes}
use Rattle.mr_rows.proofs.ChoiceLemmas.{day_of_text}
use Rattle.mr_rows.proofs.choices.is_day_text.Goals as goal

pub returns-in-Ok : goal.returns-in-Ok
returns-in-Ok c = c.is_ok.ensures.value ∙ day_passes c.in-Ok.text.now c.read.result _ c.read.ensures.value ∙ ap is_day_text c.in-Ok.ensures.cases.0

pub returns-in-Err : goal.returns-in-Err
returns-in-Err c = sym (day_of_text c.args.text.now c.in-Err.ensures.cases.0)
