-- Executing writes one after the other in a replay.
use Rattle.std.proofs.Common.{◌≡◌, List, [], ◌∷◌, ◌++◌, ◌∙◌, append_assoc}
use Rattle.mr_model.specs.Writes.{Write}
use Rattle.mr_replay.specs.Places.{UndoRow}
use Rattle.mr_replay.specs.Rows.{Rows, executed, undo_row_of, executed_all, undo_rows_of}

-- these writes are executed but for those that are left; the undo rows are those of the others
pub record IsReplayed (start : Rows) (ws left : List Write) (b : Rows) (us : List UndoRow) : Type 0 where
  pub noted : us ++ undo_rows_of b left ≡ undo_rows_of start ws
  pub board : executed_all b left ≡ executed_all start ws

pub IsReplayed-more : (start : Rows) (ws left : List Write) (b : Rows) (us : List UndoRow) (w : Write)
    → IsReplayed start ws (w ∷ left) b us → IsReplayed start ws left (executed b w) (us ++ undo_row_of b w ∷ [])
IsReplayed-more start ws left b us w h = record {
  noted = append_assoc us (undo_row_of b w ∷ []) (undo_rows_of (executed b w) left) ∙ h.noted;
  board = h.board;
}
