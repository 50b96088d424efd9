-- The tables that a keeper has in memory, and what a change makes of those of writes.
use Rattle.std.specs.Prelude.{◌≡◌, List, [], reverse}
use Rattle.mr_model.specs.Queries.{booking_id, error_id, cancelled_id, cancel_id, log_id}
use Rattle.mr_model.specs.Tables.{MetaRow, VectorRow, LogRow, BookingRow, ErrorRow, CancelledRow, CancelRow, Tables}
use Rattle.mr_model.specs.Texts.{Text}
use Rattle.mr_tables.specs.Change.{ChangeView, id_before, put_all, rows_without}
use Rattle.mr_replica.specs.declared.writes.Journals.{Journals}
use Rattle.mr_replica.specs.declared.writes.Writes.{Writes}
use Rattle.mr_replica.specs.Journal.{is_going, rows_but, AreSteps, IsFresh}
use Rattle.mr_replica.specs.RowKeys.{booking_key, log_key, room_key, IsRowNoted}

pub record WrittenRows : Type 0 where
  pub log : List LogRow
  pub booking : List BookingRow
  pub errorlog : List ErrorRow
  pub cancelled : List CancelledRow
  pub cancels : List CancelRow

abbrev pub rows_of : Writes → WrittenRows
rows_of w = record { log = w.log.rows; booking = w.booking.rows; errorlog = w.errorlog.rows; cancelled = w.cancelled.rows; cancels = w.cancels.rows }

-- with the short ones
abbrev pub tables_with : MetaRow → List Text → List VectorRow → Writes → Tables
tables_with meta room vector w =
    record {
      meta = meta;
      room = room;
      vector = vector;
      log = w.log.rows;
      booking = w.booking.rows;
      errorlog = w.errorlog.rows;
      cancelled = w.cancelled.rows;
      cancels = w.cancels.rows;
    }

abbrev pub AreNone : Writes → Type 0
AreNone w = rows_of w ≡ record { log = []; booking = []; errorlog = []; cancelled = []; cancels = [] }

abbrev pub changed_rows : ChangeView → WrittenRows → WrittenRows
changed_rows c rows =
    record {
      log = put_all id_before log_id c.log (rows_without log_id c.dropped rows.log);
      booking = put_all id_before booking_id c.booking (rows_without booking_id c.unbooked rows.booking);
      errorlog = put_all id_before error_id c.errorlog (rows_without error_id c.unlogged rows.errorlog);
      cancelled = put_all id_before cancelled_id c.cancelled (rows_without cancelled_id c.uncancelled rows.cancelled);
      cancels = put_all id_before cancel_id c.cancels rows.cancels;
    }

-- without the rows that are still to go
abbrev pub rows_settled : Journals → WrittenRows → WrittenRows
rows_settled journals rows =
    record {
      log = rows_but log_id (is_going journals.log.going) rows.log;
      booking = rows_but booking_id (is_going journals.booking.going) rows.booking;
      errorlog = rows_but error_id (is_going journals.errorlog.going) rows.errorlog;
      cancelled = rows_but cancelled_id (is_going journals.cancelled.going) rows.cancelled;
      cancels = rows_but cancel_id (is_going journals.cancels.going) rows.cancels;
    }

pub record AreAllFresh (journals : Journals) : Type 0 where
  pub log : IsFresh journals.log
  pub booking : IsFresh journals.booking
  pub errorlog : IsFresh journals.errorlog
  pub cancelled : IsFresh journals.cancelled
  pub cancels : IsFresh journals.cancels

-- each journal has led from the rows before to those now
pub record AreAllSteps (journals : Journals) (before now : Writes) : Type 0 where
  pub log : AreSteps log_id (IsRowNoted log_key now.log.keys) (reverse journals.log.puts.items) before.log.rows now.log.rows
  pub booking : AreSteps booking_id (IsRowNoted booking_key now.booking.keys) (reverse journals.booking.puts.items) before.booking.rows now.booking.rows
  pub errorlog : AreSteps error_id (IsRowNoted (λ row. room_key row.room (error_id row)) now.errorlog.keys) (reverse journals.errorlog.puts.items) before.errorlog.rows now.errorlog.rows
  pub cancelled : AreSteps cancelled_id (IsRowNoted (λ row. room_key row.room (cancelled_id row)) now.cancelled.keys) (reverse journals.cancelled.puts.items) before.cancelled.rows now.cancelled.rows
  pub cancels : AreSteps cancel_id (IsRowNoted (λ row. room_key row.room (cancel_id row)) now.cancels.keys) (reverse journals.cancels.puts.items) before.cancels.rows now.cancels.rows
