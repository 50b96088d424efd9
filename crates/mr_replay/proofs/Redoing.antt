-- Executing writes one after the other, and undoing what is done where one of them fails.
use Rattle.std.proofs.Common.{◌≡◌, ℕ, ◌+◌, ◌<◌, List, [], ◌∷◌, ◌++◌, length, get_or, take, drop, ap, sym, ◌∙◌, append_assoc}
use Rattle.std.proofs.lemmas.List.{at_drop_more, take_more}
use Rattle.mr_model.specs.Writes.{Write}
use Rattle.mr_replay.specs.Places.{UndoRow}
use Rattle.mr_replay.specs.Rows.{Rows, executed, undo_row_of, undone, executed_all, undo_rows_of, undone_all}
use Rattle.mr_replay.specs.Holds.{AreNew}
use Rattle.mr_replay.proofs.Holding.{undone-executed, AreNew-rest}

-- the last of these executions is undone first
pub undone_all-push : (b : Rows) (us : List UndoRow) (u : UndoRow) → undone_all b (us ++ u ∷ []) ≡ undone_all (undone b u) us
undone_all-push b [] u = sym (λ i. undone b u)
undone_all-push b (v ∷ us) u = ap (λ r. undone r v) (undone_all-push b us u)

-- undoing the last of the first executions leaves those in front of it to be undone
pub undo_more : (b : Rows) (us : List UndoRow) (k : ℕ) (d : UndoRow) → k < length us → undone_all (undone b (get_or us k d)) (take k us) ≡ undone_all b (take (k + 1) us)
undo_more b us k d h = sym (ap (undone_all b) (take_more us k d h) ∙ undone_all-push b (take k us) (get_or us k d))

-- these writes are executed but for those that are left
pub record IsRedone (old : Rows) (ws left : List Write) (b : Rows) (us : List UndoRow) : Type 0 where
  pub noted : us ++ undo_rows_of b left ≡ undo_rows_of old ws
  pub board : executed_all b left ≡ executed_all old ws
  pub new : AreNew old ws → AreNew b left
  pub back : AreNew old ws → undone_all b us ≡ old

pub IsRedone-more : (old : Rows) (ws left : List Write) (b : Rows) (us : List UndoRow) (w : Write) → IsRedone old ws (w ∷ left) b us → IsRedone old ws left (executed b w) (us ++ undo_row_of b w ∷ [])
IsRedone-more old ws left b us w h = record {
  noted = append_assoc us (undo_row_of b w ∷ []) (undo_rows_of (executed b w) left) ∙ h.noted;
  board = h.board;
  new = λ fresh. AreNew-rest b w left (h.new fresh);
  back = λ fresh. undone_all-push (executed b w) us (undo_row_of b w) ∙ ap (λ r. undone_all r us) (undone-executed b w (h.new fresh).1.0) ∙ h.back fresh;
}

pub drop_first : (ws : List Write) (i : ℕ) (w : Write) → i < length ws → w ≡ get_or ws i w → drop i ws ≡ w ∷ drop (i + 1) ws
drop_first ws i w small is = at_drop_more (λ l. l) ws i w small ∙ ap (λ x. x ∷ drop (i + 1) ws) (sym is)
