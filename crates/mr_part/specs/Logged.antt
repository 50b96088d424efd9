-- What undoes kept writes.
use Rattle.mr_model.specs.Writes.{Write}
use Rattle.mr_model.specs.Replay.{Place}
use Rattle.mr_replay.specs.Places.{UndoRow}
use Rattle.mr_replay.specs.Rows.{undo_row_at}

-- what undoes a write that has this place
abbrev pub undo_with : (Write → Place) → Write → UndoRow
undo_with place w = undo_row_at w (place w)
