use Rattle.std.proofs.Common.{◌≡◌, Ok, Err, ap, sym, ◌∙◌}
use Rattle.std.specs.Str.{is_utf8}
use Rattle.sqlite_value.specs.declared.value.Value.TheVariants.{Text}
use Rattle.sqlite_value.specs.Order.{column, bytes}
use Rattle.mr_model.specs.Calendar.{date_in}
use Rattle.mr_rows.specs.CellLimits.{is_text}
use Rattle.mr_rows.specs.RowLimits.{is_day_text}
use Rattle.mr_rows.proofs.CellLemmas.{day_passes, day_read, day_spelled, no_text, day_utf8, on_err}
use Rattle.mr_rows.proofs.cells.read_day.Goals as goal

pub returns-in-Ok-clause-day : goal.returns-in-Ok-clause-day
returns-in-Ok-clause-day c =
    let text = c.in_ok-text_in.field-0.now in
    let cell : column c.args.row.now c.args.at ≡ Text text = c.in_ok-text_in.ensures.cell in
    day_read text c.in-Ok.day _ c.in-Ok.ensures.value ∙ ap date_in (sym (ap bytes cell))

pub returns-in-Ok-clause-cell : goal.returns-in-Ok-clause-cell
returns-in-Ok-clause-cell c =
    let text = c.in_ok-text_in.field-0.now in
    let cell : column c.args.row.now c.args.at ≡ Text text = c.in_ok-text_in.ensures.cell in
    cell ∙ ap Text (day_spelled text c.in-Ok.day _ c.in-Ok.ensures.value)

pub returns-in-Ok-clause-told : goal.returns-in-Ok-clause-told
returns-in-Ok-clause-told c = ap (is_text is_day_text) c.in_ok-text_in.ensures.cell ∙ sym (day_passes c.in_ok-text_in.field-0.now (Ok c.in-Ok.day) _ c.in-Ok.ensures.value)

pub returns-in-Err-clause-refused : goal.returns-in-Err-clause-refused
returns-in-Err-clause-refused c = ap (is_text is_day_text) c.in_ok-text_in.ensures.cell ∙ sym (day_passes c.in_ok-text_in.field-0.now (Err _) _ c.in-Err.ensures.value)

pub returns-in_err-text_in-clause-refused : goal.returns-in_err-text_in-clause-refused
returns-in_err-text_in-clause-refused c = on_err c.from_residual.result (λ _. no_text is_utf8 is_day_text day_utf8 (column c.args.row.now c.args.at) c.in_err-text_in.ensures.refused)
