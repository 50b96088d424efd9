use Rattle.std.proofs.Common.{◌≡◌, ◌∙◌, None, Some, ap, sym, subst}
use Rattle.std.specs.Map.{remove_entry}
use Rattle.mr_model.specs.Writes.{same_id}
use Rattle.mr_replay.specs.Places.{UndoRow}
use Rattle.mr_replay.specs.Rows.{Rows, without_mark, row_changed, target_if_done, undone_with, undone}
use Rattle.mr_replay.specs.Holds.{Holds}
use Rattle.mr_replay.specs.Index.{IsIndexed}
use Rattle.mr_replay.proofs.Indexed.{IsIndexed-unmarked}
use Rattle.mr_replay.proofs.Holding.{Holds-undone}
use Rattle.mr_replay.proofs.board.Board.undo.Goals as goal

pub invariant_of-self : goal.invariant_of-self
invariant_of-self c = subst (λ (r : Rows). IsIndexed r c.self.inside.index) (sym c.unmark_row.ensures) (IsIndexed-unmarked _ _ c.self.inside.rows.entries c.self.inside.index c.self.invariant)

pub returns-in-Some-clause-board : goal.returns-in-Some-clause-board
returns-in-Some-clause-board c =
    let row = c.args.row in
    let some : target_if_done row.place row.target ≡ Some c.in-Some.target = sym c.taken_back.ensures ∙ c.in-Some.is in
    c.unmark_row.ensures ∙ (λ t. row_changed (without_mark (c.row.view_is t).id) c.in-Some.target (c.self.view_is t)) ∙ ap (λ o. undone_with row.id o c.args.self.now) (sym some)

pub returns-in-None-clause-board : goal.returns-in-None-clause-board
returns-in-None-clause-board c =
    let row = c.args.row in
    let none : target_if_done row.place row.target ≡ None = sym c.taken_back.ensures ∙ c.in-None.is in
    c.remove.ensures ∙ (λ t. remove_entry (same_id (c.row.view_is t).id) c.args.self.now) ∙ ap (λ o. undone_with row.id o c.args.self.now) (sym none)

pub returns-in-Some-clause-holds : goal.returns-in-Some-clause-holds
returns-in-Some-clause-holds c = λ ws w distinct is holds.
    subst (λ (b : Rows). Holds ws b) (sym (returns-in-Some-clause-board c)) (subst (λ (u : UndoRow). Holds ws (undone c.args.self.now u)) (sym is) (Holds-undone ws c.args.self.now w distinct holds))

pub returns-in-None-clause-holds : goal.returns-in-None-clause-holds
returns-in-None-clause-holds c = λ ws w distinct is holds.
    subst (λ (b : Rows). Holds ws b) (sym (returns-in-None-clause-board c)) (subst (λ (u : UndoRow). Holds ws (undone c.args.self.now u)) (sym is) (Holds-undone ws c.args.self.now w distinct holds))
