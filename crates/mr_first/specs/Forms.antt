-- The tables that the first schema alone has: of `meta` the cells, of `write_log` and `undo` all. The other four are as in the second.
use Rattle.std.specs.Prelude.{ℕ}
use Rattle.mr_model.specs.Writes.{Id}
use Rattle.mr_model.specs.Tables.{MetaRow}
use Rattle.mr_model.specs.First.{WriteRow, FirstUndoRow}
use Rattle.mr_tables.specs.Change.{id_before}
use Rattle.mr_rows.specs.Schema.{write_log_table, undo_table}
use Rattle.mr_rows.specs.Form.{Form, meta_form_of}
use Rattle.mr_first.specs.FirstCells.{write_cells, write_row_from, is_write_row, undo_cells, undo_in, is_undo_row}

abbrev pub write_id : WriteRow → Id
write_id row = record { server = row.server; n = row.n }

abbrev pub undo_id : FirstUndoRow → Id
undo_id row = record { server = row.server; n = row.n }

abbrev pub first_meta_form : Form MetaRow ℕ
first_meta_form = meta_form_of 1

abbrev pub write_form : Form WriteRow Id
write_form = record { table = record write_log_table { tree = 6 }; cells = write_cells; row_in = write_row_from; within = is_write_row; key = write_id; before = id_before }

abbrev pub undo_form : Form FirstUndoRow Id
undo_form = record { table = record undo_table { tree = 8 }; cells = undo_cells; row_in = undo_in; within = is_undo_row; key = undo_id; before = id_before }
