use Rattle.std.proofs.Common.{◌≡◌, take}
use Rattle.mr_part.specs.KeptRows.{row_undos}
use Rattle.mr_part.proofs.kept_rows.undo_rows.Given as goal

-- those of the rows so far
abbrev pub invariant-loop-row : goal.invariant-loop-row
invariant-loop-row l = l.undo.items ≡ row_undos (take l.row-index l.rows)
