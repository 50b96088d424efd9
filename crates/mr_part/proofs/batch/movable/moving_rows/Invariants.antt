use Rattle.std.proofs.Common.{◌≡◌, ◌++◌, ℕ, List, drop}
use Rattle.std.specs.List.{filter}
use Rattle.mr_model.specs.Texts.{Text}
use Rattle.mr_model.specs.Exchange.{Item}
use Rattle.mr_part.specs.KeptRows.{row_undos}
use Rattle.mr_part.specs.Moves.{IsMoving, moves_row}
use Rattle.mr_part.proofs.batch.movable.moving_rows.Given as goal

-- with those of the writes that are left, the rows are those of all
abbrev pub invariant-loop-row : goal.invariant-loop-row
invariant-loop-row l =
    (touched : List Text) (items : List Item) (commits : ℕ) → IsMoving l.moving touched commits items
    → l.undo.items ++ row_undos (filter (moves_row touched items commits) (drop l.row-index l.kept)) ≡ row_undos (filter (moves_row touched items commits) l.kept)
