-- Cells of actions and rows of places of the program, as those of the definitions.
use Rattle.std.specs.Prelude.{Bool, true, false}
use Rattle.mr_model.specs.Writes.{Meeting}
use Rattle.mr_model.specs.Tables as tables
use Rattle.mr_tables.specs.declared.log_rows.ActionCells.{ActionCells}
use Rattle.mr_tables.specs.declared.log_rows.ActionCells.TheVariants.{OfMeeting, OfCancel}
use Rattle.mr_tables.specs.declared.place_rows.PlaceRow.{PlaceRow}
use Rattle.mr_tables.specs.declared.place_rows.PlaceRow.TheVariants.{Booked, Logged, Cancelled, Cancel}

abbrev pub action_cells : ActionCells → tables.ActionCells
action_cells (OfMeeting meeting) = tables.OfMeeting meeting
action_cells (OfCancel target) = tables.OfCancel target

-- whether they are those of a cancel
abbrev pub is_cancel_cells : tables.ActionCells → Bool
is_cancel_cells (tables.OfMeeting meeting) = false
is_cancel_cells (tables.OfCancel target) = true

abbrev pub place_row_of : PlaceRow → tables.PlaceRow
place_row_of (Booked row) = tables.Booked row
place_row_of (Logged row) = tables.Erred row
place_row_of (Cancelled row) = tables.Cancelled row
place_row_of (Cancel row) = tables.Cancel row

-- the cells of a meeting
abbrev pub meeting_cells : Meeting → tables.MeetingCells
meeting_cells m = record { length = m.length; choices = tables.choices_text m; title = m.title }
