use Rattle.std.proofs.Common.{◌≡◌, [], ◌∷◌, ◌++◌, Some, None, ap, sym, ◌∙◌, subst}
use Rattle.std.specs.Prelude.{option_map}
use Rattle.std.specs.BTreeMap.{insert_entry}
use Rattle.mr_model.specs.Writes.{Action, Books, Cancels, Write, id_of}
use Rattle.mr_model.specs.Replay.{Place, Taken, Logged, Done, Void}
use Rattle.mr_model.proofs.UniqueReplay.{none_some}
use Rattle.mr_base.specs.Ids.{id_cmp}
use Rattle.mr_replay.specs.Places.{UndoRow, place_seen}
use Rattle.mr_replay.specs.declared.rows.Row.{Row}
use Rattle.mr_replay.specs.Rows.{Rows, trace_for, row_of, place_by_rows, target_of, marked_by, with_row, executed_at, undo_row_at}
use Rattle.mr_replay.specs.Holds.{Holds}
use Rattle.mr_replay.proofs.Holding.{Holds-executed}
use Rattle.mr_replay.proofs.board.Board.execute.Goals as goal
use Rattle.mr_replay.proofs.board.Board.execute.Goals.{in-Some+in_ok-put-in-Some, in-None}

-- an execution puts a row, or marks one
executed-row : (b : Rows) (w : Write) (p : Place) (row : Row) → row_of w p None ≡ Some row → executed_at b w p ≡ insert_entry id_cmp b (id_of w) row
executed-row b w p row is = go w.action p is
  where
    go : (a : Action) (p : Place) → option_map (λ k. record { room = w.room; trace = k }) (trace_for w a p None) ≡ Some row
        → with_row (id_of w) (option_map (λ k. record { room = w.room; trace = k }) (trace_for w a p None)) (marked_by (id_of w) p (target_of a) b) ≡ insert_entry id_cmp b (id_of w) row
    go (Books m) (Taken k) e = ap (λ o. with_row (id_of w) o b) e
    go (Books m) Logged e = ap (λ o. with_row (id_of w) o b) e
    go (Books m) Done e = ap (λ o. with_row (id_of w) o b) e
    go (Books m) Void e = ap (λ o. with_row (id_of w) o b) e
    go (Cancels t) (Taken k) e = ap (λ o. with_row (id_of w) o b) e
    go (Cancels t) Logged e = ap (λ o. with_row (id_of w) o b) e
    go (Cancels t) Void e = ap (λ o. with_row (id_of w) o b) e
    go (Cancels t) Done e = absurd (none_some row e)

executed-mark : (b : Rows) (w : Write) (p : Place) → row_of w p None ≡ None → executed_at b w p ≡ marked_by (id_of w) p (target_of w.action) b
executed-mark b w p is = ap (λ o. with_row (id_of w) o (marked_by (id_of w) p (target_of w.action) b)) is

pub returns-clause-board : goal.returns-clause-board
returns-clause-board c =
    let b = c.args.self.now in
    let w = c.args.write.now in
    let view : UndoRow = record { id = c.undo_row.inside.id; place = place_seen c.undo_row.inside.place; target = c.undo_row.inside.target } in
    let undo : view ≡ undo_row_at w (place_by_rows b w) = c.undo_row.view_is ∙ c.of-undo_row.ensures ∙ ap (undo_row_at w) c.merge.ensures in
    let row : c.in_ok-row.field-0 ≡ row_of w (place_by_rows b w) None = c.in_ok-row.ensures.row ∙ ap (λ (u : UndoRow). row_of w u.place None) undo in
    elim c.match-branch-2.branch [
      | in-Some+in_ok-put-in-Some v ↦ v.self-is ∙ v.in_ok-put-in-Some.ensures.ok ∙ ap (λ (u : UndoRow). insert_entry id_cmp b u.id v.in-Some.row) undo
          ∙ sym (executed-row b w (place_by_rows b w) v.in-Some.row (sym row ∙ v.in-Some.is))
      | in-None v ↦ v.self-is ∙ v.mark_target.ensures ∙ ap (λ (u : UndoRow). marked_by u.id u.place u.target b) (sym c.undo_row.view_is ∙ undo)
          ∙ sym (executed-mark b w (place_by_rows b w) (sym row ∙ v.in-None.is))
    ]

pub returns-clause-holds : goal.returns-clause-holds
returns-clause-holds c = λ ws distinct holds.
    subst (λ (b : Rows). Holds (ws ++ c.args.write.now ∷ []) b) (sym (returns-clause-board c)) (Holds-executed ws c.args.self.now c.args.write.now distinct holds)
