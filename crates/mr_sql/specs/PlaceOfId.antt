-- The place of a write, of the rows that the tables have of its id.
use Rattle.std.specs.Prelude.{bytes_eq, if◌then◌else◌, Option, Some, None}
use Rattle.mr_model.specs.Texts.{Text}
use Rattle.mr_model.specs.Tables.{BookingRow, ErrorRow, CancelledRow, CancelRow}
use Rattle.mr_tables.specs.declared.place_rows.PlaceRow.{PlaceRow}
use Rattle.mr_tables.specs.declared.place_rows.PlaceRow.TheVariants.{Booked, Logged, Cancelled, Cancel}

-- the one that is of the room, by the order of the tables
abbrev pub cancel_row_in : Text → Option CancelRow → Option PlaceRow
cancel_row_in room None = None
cancel_row_in room (Some row) = if bytes_eq row.room room then Some (Cancel row) else None

abbrev pub taken_in : Text → Option CancelledRow → Option CancelRow → Option PlaceRow
taken_in room None cancel = cancel_row_in room cancel
taken_in room (Some row) cancel = if bytes_eq row.room room then Some (Cancelled row) else cancel_row_in room cancel

abbrev pub error_row_in : Text → Option ErrorRow → Option PlaceRow → Option PlaceRow
error_row_in room None other = other
error_row_in room (Some row) other = if bytes_eq row.room room then Some (Logged row) else other

abbrev pub chosen : Text → Option BookingRow → Option ErrorRow → Option PlaceRow → Option PlaceRow
chosen room None error other = error_row_in room error other
chosen room (Some row) error other = if bytes_eq row.room room then Some (Booked row) else error_row_in room error other
