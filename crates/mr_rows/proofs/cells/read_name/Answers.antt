use Rattle.std.specs.Str.{is_utf8}
use Rattle.sqlite_value.specs.Order.{column}
use Rattle.mr_model.specs.Writes.{is_room_name}
use Rattle.mr_rows.proofs.CellLemmas.{no_text, name_utf8, on_err}
use Rattle.mr_rows.proofs.cells.read_name.Goals as goal

pub returns-in_err-text_in-clause-refused : goal.returns-in_err-text_in-clause-refused
returns-in_err-text_in-clause-refused c = on_err c.from_residual.result (λ _ _. no_text is_utf8 is_room_name name_utf8 (column c.args.row.now c.args.at) c.in_err-text_in.ensures.refused)
