-- What a row of log tells of a kept row, and that a write is the one that its row tells.
use Rattle.std.specs.Prelude.{◌==◌, Bool, [], false, ◌&&◌, bytes_eq}
use Rattle.mr_model.specs.Writes.{Action, Books, Cancels, Write, same_id}
use Rattle.mr_model.specs.Tables.{ActionCells, OfMeeting, OfCancel, LogRow, log_row_with}
use Rattle.mr_part.specs.declared.kept_rows.KeptRow.{KeptRow}

-- cells without the text of the choices, which other texts may tell too
abbrev pub cells_without_choices : ActionCells → ActionCells
cells_without_choices (OfMeeting cells) = OfMeeting (record { length = cells.length; choices = []; title = cells.title })
cells_without_choices (OfCancel target) = OfCancel target

-- what a row of log tells but for that text, and the same of the row of a kept row
abbrev pub without_choices : LogRow → LogRow
without_choices row = record row { action = cells_without_choices row.action }

abbrev pub kept_without_choices : KeptRow → LogRow
kept_without_choices row = without_choices (log_row_with row.write row.undo.place row.seq)

-- whether the write tells these cells but for that text
abbrev pub is_of_cells : Action → ActionCells → Bool
is_of_cells (Books m) (OfMeeting cells) = m.length == cells.length && bytes_eq m.title cells.title
is_of_cells (Cancels target) (OfCancel other) = same_id target other
is_of_cells _ _ = false

abbrev pub is_of_row : Write → LogRow → Bool
is_of_row w row =
    w.stamp.server == row.server && w.stamp.n == row.n && w.stamp.time == row.time && bytes_eq w.room row.room && is_of_cells w.action row.action
