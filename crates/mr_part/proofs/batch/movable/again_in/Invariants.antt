use Rattle.std.proofs.Common.{◌≡◌, List, length}
use Rattle.std.specs.List.{filter}
use Rattle.mr_model.specs.Texts.{Text}
use Rattle.mr_model.specs.Exchange.{Item}
use Rattle.mr_part.specs.KeptRows.{row_writes, row_undos}
use Rattle.mr_part.specs.Moves.{IsMoving, is_anew}
use Rattle.mr_part.proofs.batch.movable.again_in.Given as goal

-- those of the rows so far
abbrev pub invariant-loop-row : goal.invariant-loop-row
invariant-loop-row l = record {
  as_many : length l.anew.writes.items ≡ length l.anew.undo.items;
  anew : (touched : List Text) (items : List Item) → IsMoving l.moving touched l.commits items
      → (l.anew.writes.items ≡ row_writes (filter (is_anew touched items l.commits) l.yielded)) × (l.anew.undo.items ≡ row_undos (filter (is_anew touched items l.commits) l.yielded));
}
