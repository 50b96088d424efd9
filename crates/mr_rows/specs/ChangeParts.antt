-- A change of tables, part by part.
use Rattle.std.specs.Prelude.{nat_lt, List}
use Rattle.mr_model.specs.Texts.{Text}
use Rattle.mr_model.specs.Writes.{Id}
use Rattle.mr_model.specs.Replica.{text_before}
use Rattle.mr_model.specs.Tables.{MetaRow, VectorRow, LogRow, BookingRow, ErrorRow, CancelledRow, CancelRow, Tables}
use Rattle.mr_model.specs.Queries.{booking_id, error_id, cancelled_id, cancel_id, log_id}
use Rattle.mr_tables.specs.Change.{ChangeView, put_all, rows_without, id_before}

-- ---- rows taken away

abbrev pub take_logs : List Id → Tables → Tables
take_logs gone t = record t { log = rows_without log_id gone t.log }

abbrev pub take_bookings : List Id → Tables → Tables
take_bookings gone t = record t { booking = rows_without booking_id gone t.booking }

abbrev pub take_errors : List Id → Tables → Tables
take_errors gone t = record t { errorlog = rows_without error_id gone t.errorlog }

abbrev pub take_cancelled : List Id → Tables → Tables
take_cancelled gone t = record t { cancelled = rows_without cancelled_id gone t.cancelled }

-- ---- rows put

abbrev pub put_meta : MetaRow → Tables → Tables
put_meta m t = record t { meta = m }

abbrev pub put_rooms : List Text → Tables → Tables
put_rooms rows t = record t { room = put_all text_before (λ name. name) rows t.room }

abbrev pub put_vector : List VectorRow → Tables → Tables
put_vector rows t = record t { vector = put_all nat_lt (λ row. row.server) rows t.vector }

abbrev pub put_logs : List LogRow → Tables → Tables
put_logs rows t = record t { log = put_all id_before log_id rows t.log }

abbrev pub put_bookings : List BookingRow → Tables → Tables
put_bookings rows t = record t { booking = put_all id_before booking_id rows t.booking }

abbrev pub put_errors : List ErrorRow → Tables → Tables
put_errors rows t = record t { errorlog = put_all id_before error_id rows t.errorlog }

abbrev pub put_cancelled : List CancelledRow → Tables → Tables
put_cancelled rows t = record t { cancelled = put_all id_before cancelled_id rows t.cancelled }

abbrev pub put_cancels : List CancelRow → Tables → Tables
put_cancels rows t = record t { cancels = put_all id_before cancel_id rows t.cancels }

-- ---- in the order of a change; rows of cancels are never taken away

abbrev pub board_taken : ChangeView → Tables → Tables
board_taken c t = take_errors c.unlogged (take_bookings c.unbooked t)

abbrev pub change_taken : ChangeView → Tables → Tables
change_taken c t = take_cancelled c.uncancelled (board_taken c (take_logs c.dropped t))

abbrev pub heads_put : ChangeView → Tables → Tables
heads_put c t = put_vector c.vector (put_rooms c.room (put_meta c.meta t))

abbrev pub board_put : ChangeView → Tables → Tables
board_put c t = put_errors c.errorlog (put_bookings c.booking t)

abbrev pub cancels_put : ChangeView → Tables → Tables
cancels_put c t = put_cancels c.cancels (put_cancelled c.cancelled t)

abbrev pub change_put : ChangeView → Tables → Tables
change_put c t = cancels_put c (board_put c (put_logs c.log t))

-- all of a change but the heads
abbrev pub rows_made : ChangeView → Tables → Tables
rows_made c t = change_put c (change_taken c t)
