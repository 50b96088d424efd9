use Rattle.std.proofs.Common.{◌∙◌}
use Rattle.sqlite_value.specs.Order.{column}
use Rattle.mr_rows.specs.CellLimits.{is_text}
use Rattle.mr_rows.specs.RowLimits.{is_day_text}
use Rattle.mr_rows.proofs.CellLemmas.{told_by}
use Rattle.mr_rows.proofs.cells.has_day.Goals as goal

pub returns : goal.returns
returns c = c.is_ok.ensures.value ∙ told_by c.read_day.result (is_text is_day_text (column c.args.row.now c.args.at)) c.read_day.ensures.told c.read_day.ensures.refused
