-- What is to be known of a table: how a plain row becomes cells, which limits it has, and by which key it stands.
use Rattle.std.specs.Prelude.{ℕ, Bool, nat_lt}
use Rattle.sqlite_value.specs.Order.{Row}
use Rattle.mr_model.specs.Texts.{Text}
use Rattle.mr_model.specs.Writes.{Id, is_room_name}
use Rattle.mr_model.specs.Replica.{text_before}
use Rattle.mr_model.specs.Tables.{MetaRow, VectorRow, LogRow, BookingRow, ErrorRow, CancelledRow, CancelRow}
use Rattle.mr_model.specs.Queries.{booking_id, error_id, cancelled_id, cancel_id, log_id}
use Rattle.mr_tables.specs.Change.{id_before}
use Rattle.sqlite_schema.specs.declared.schema.Table.{Table}
use Rattle.mr_rows.specs.Schema.{meta_table, room_table, vector_table, booking_table, error_table, log_table, cancelled_table, cancel_table}
use Rattle.mr_rows.specs.RowCells.{meta_cells_of, meta_in, room_cells, room_in, vector_cells, vector_row_from, log_cells, log_in, booking_cells}
use Rattle.mr_rows.specs.RowCells.{booking_row_from, error_cells, error_in, cancelled_cells, cancelled_in, cancel_cells, cancel_row_from}
use Rattle.mr_rows.specs.RowLimits.{is_meta_row, is_vector_row, is_log_row, is_booking_row, is_error_row, is_cancelled_row, is_cancel_row}

-- plain rows R with keys K
pub record Form (R K : Type 0) : Type 0 where
  pub table : Table  -- with the tree where the database keeps the rows
  pub cells : R → Row
  pub row_in : Row → R  -- of a rowid and the cells
  pub within : R → Bool  -- the limits of its type
  pub key : R → K
  pub before : K → K → Bool

-- of `meta` all rows have one key; under the schema of this number
abbrev pub meta_form_of : ℕ → Form MetaRow ℕ
meta_form_of number = record { table = record meta_table { tree = 0 }; cells = meta_cells_of number; row_in = meta_in; within = is_meta_row; key = λ _. 1; before = nat_lt }

abbrev pub meta_form : Form MetaRow ℕ
meta_form = meta_form_of 2

abbrev pub room_form : Form Text Text
room_form = record { table = record room_table { tree = 2 }; cells = room_cells; row_in = room_in; within = is_room_name; key = λ name. name; before = text_before }

abbrev pub vector_form : Form VectorRow ℕ
vector_form = record { table = record vector_table { tree = 4 }; cells = vector_cells; row_in = vector_row_from; within = is_vector_row; key = λ row. row.server; before = nat_lt }

abbrev pub booking_form : Form BookingRow Id
booking_form = record { table = record booking_table { tree = 10 }; cells = booking_cells; row_in = booking_row_from; within = is_booking_row; key = booking_id; before = id_before }

abbrev pub error_form : Form ErrorRow Id
error_form = record { table = record error_table { tree = 12 }; cells = error_cells; row_in = error_in; within = is_error_row; key = error_id; before = id_before }

-- the trees 6 and 8 are those of `write_log` and `undo`
abbrev pub log_form : Form LogRow Id
log_form = record { table = record log_table { tree = 14 }; cells = log_cells; row_in = log_in; within = is_log_row; key = log_id; before = id_before }

abbrev pub cancelled_form : Form CancelledRow Id
cancelled_form = record { table = record cancelled_table { tree = 16 }; cells = cancelled_cells; row_in = cancelled_in; within = is_cancelled_row; key = cancelled_id; before = id_before }

abbrev pub cancel_form : Form CancelRow Id
cancel_form = record { table = record cancel_table { tree = 18 }; cells = cancel_cells; row_in = cancel_row_from; within = is_cancel_row; key = cancel_id; before = id_before }
