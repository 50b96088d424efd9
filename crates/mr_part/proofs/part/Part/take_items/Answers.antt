use Rattle.std.proofs.Common.{Err, length, map, ap, ◌∙◌, subst, inr}
use Rattle.std.proofs.lemmas.Result.{err_from_is_err_and}
use Rattle.std.specs.List.{filter}
use Rattle.std.specs.Prelude.{flat_map}
use Rattle.mr_model.specs.Kept.{kept_in_order}
use Rattle.mr_model.specs.Scopes.{OfItems}
use Rattle.mr_model.specs.View.{place_of}
use Rattle.mr_base.specs.Batches.{item_of}
use Rattle.mr_part.specs.KeptRows.{row_writes, row_undos}
use Rattle.mr_part.specs.Logged.{undo_with}
use Rattle.mr_part.specs.Moves.{rooms_named, moves_row, IsMoving}
use Rattle.mr_part.specs.Parts.{PartView, kept_in}
use Rattle.mr_part.specs.Taken.{is_inside}
use Rattle.mr_part.proofs.KeptOrder.{kept_writes}
use Rattle.mr_part.proofs.Moves.{touched_told, undone_picked, undos_moved}
use Rattle.mr_part.proofs.part.Part.take_items.Goals as goal

pub returns-in_err-moving-clause-step : goal.returns-in_err-moving-clause-step
returns-in_err-moving-clause-step c = λ good short a sound part.
    let x = err_from_is_err_and c.from_residual.result c.from_residual.ensures.1 in
    inr (x.1 ∙ ap Err (x.2 ∙ c.in_err-moving.ensures.only))

pub returns-in_err-undone-clause-step : goal.returns-in_err-undone-clause-step
returns-in_err-undone-clause-step c = λ good short a sound part.
    let x = err_from_is_err_and c.from_residual-in_err-undone.result c.from_residual-in_err-undone.ensures.1 in
    inr (x.1 ∙ ap Err (x.2 ∙ c.in_err-undone.ensures.only))

pub returns-clause-step : goal.returns-clause-step
returns-clause-step c = λ good short a sound part.
    let items = map item_of c.args.items.now in
    let e = c.self.view_is ∙ part in
    let commits = ap (λ (v : PartView). v.summary.commits) e in
    let kept = ap (λ (v : PartView). v.kept) e in
    let named = ap row_writes (c.as_slice-kept.ensures ∙ kept) ∙ kept_writes a (kept_in (OfItems items) a) in
    let touched = flat_map (rooms_named (length a.commits) (filter (is_inside a items) (kept_in_order a))) items in
    let moving = subst (λ x. x) (λ t. IsMoving c.in_ok-moving.moving (flat_map (rooms_named (commits t) (named t)) items) (commits t) items) c.in_ok-moving.ensures.moving in
    let right = touched_told a items (is_inside a items) sound (λ w h. h) in
    let rows = c.as_slice-kept.ensures ∙ kept in
    let undone =
    c.deref.ensures.value ∙ c.in_ok-undone.ensures.rows touched items (length a.commits) moving
    ∙ (λ t. row_undos (filter (moves_row touched items (length a.commits)) (rows t)))
    ∙ undos_moved a touched items (length a.commits) (kept_in (OfItems items) a)
    ∙ ap (map (undo_with (place_of a))) (undone_picked a items (is_inside a items) touched sound (λ w h. h) right) in
    c.take_undone.ensures.step good short a sound part (record { touched = touched; moving_is = moving; are_touched = right }) undone
