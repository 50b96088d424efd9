-- First tables put into a database, part by part.
use Rattle.std.specs.Prelude.{nat_lt, List, []}
use Rattle.mr_model.specs.Texts.{Text}
use Rattle.mr_model.specs.Replica.{text_before}
use Rattle.mr_model.specs.Tables.{MetaRow, VectorRow, BookingRow, ErrorRow}
use Rattle.mr_model.specs.Queries.{booking_id, error_id}
use Rattle.mr_model.specs.First.{WriteRow, FirstUndoRow, FirstTables}
use Rattle.mr_tables.specs.Change.{put_all, id_before}
use Rattle.mr_tables.specs.Rise.{Rise}
use Rattle.mr_rows.specs.Database.{first_meta}
use Rattle.mr_first.specs.Forms.{write_id, undo_id}

abbrev pub put_first_meta : MetaRow → FirstTables → FirstTables
put_first_meta m t = record t { meta = m }

abbrev pub put_first_rooms : List Text → FirstTables → FirstTables
put_first_rooms rows t = record t { room = put_all text_before (λ name. name) rows t.room }

abbrev pub put_first_vector : List VectorRow → FirstTables → FirstTables
put_first_vector rows t = record t { vector = put_all nat_lt (λ row. row.server) rows t.vector }

abbrev pub put_writes : List WriteRow → FirstTables → FirstTables
put_writes rows t = record t { write_log = put_all id_before write_id rows t.write_log }

abbrev pub put_undo : List FirstUndoRow → FirstTables → FirstTables
put_undo rows t = record t { undo = put_all id_before undo_id rows t.undo }

abbrev pub put_first_bookings : List BookingRow → FirstTables → FirstTables
put_first_bookings rows t = record t { booking = put_all id_before booking_id rows t.booking }

abbrev pub put_first_errors : List ErrorRow → FirstTables → FirstTables
put_first_errors rows t = record t { errorlog = put_all id_before error_id rows t.errorlog }

-- ---- all of them

abbrev pub first_heads_put : FirstTables → FirstTables → FirstTables
first_heads_put new t = put_first_vector new.vector (put_first_rooms new.room (put_first_meta new.meta t))

abbrev pub logs_put : FirstTables → FirstTables → FirstTables
logs_put new t = put_undo new.undo (put_writes new.write_log t)

abbrev pub first_board_put : FirstTables → FirstTables → FirstTables
first_board_put new t = put_first_errors new.errorlog (put_first_bookings new.booking t)

abbrev pub tables_put : FirstTables → FirstTables → FirstTables
tables_put new t = first_board_put new (logs_put new (first_heads_put new t))

abbrev pub no_first_tables : FirstTables
no_first_tables = record { meta = first_meta []; room = []; vector = []; write_log = []; undo = []; booking = []; errorlog = [] }

-- the key of each row is before that of the next, so that no key is there twice
pub record AreFirstKeysRising (t : FirstTables) : Type 0 where
  pub room : Rise text_before (λ name. name) t.room
  pub vector : Rise nat_lt (λ row. row.server) t.vector
  pub write_log : Rise id_before write_id t.write_log
  pub undo : Rise id_before undo_id t.undo
  pub booking : Rise id_before booking_id t.booking
  pub errorlog : Rise id_before error_id t.errorlog
