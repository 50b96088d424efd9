use Rattle.std.proofs.Common.{◌∙◌, ap, refl, sym}
use Rattle.mr_part.specs.declared.kept_rows.KeptRow.{KeptRow}
use Rattle.mr_part.specs.Moves.{moves_row}
use Rattle.mr_part.proofs.Moves.{pick_more, pick_none, pick_end}
use Rattle.mr_part.proofs.batch.movable.moving_rows.Goals as goal
use Rattle.mr_part.proofs.batch.movable.moving_rows.Goals.{then-moves_row+in_ok-push, else-moves_row}

pub loop-row-preserved : goal.loop-row-preserved
loop-row-preserved c = λ touched items commits moving.
    let p = moves_row touched items commits in
    let rows = c.args.kept.now in
    let k = c.loop-row.row-index in
    let x = c.row-item.result in
    let old = c.loop-row.undo.items in
    let was = c.loop-row.invariant touched items commits moving in
    elim c.if-moves_row.branch [
      | then-moves_row+in_ok-push w ↦
          pick_more (λ (y : KeptRow). y.undo) p rows k x old c.if-moves_row.undo.items x.undo c.loop-row-test.true c.row-item.is
          (sym (c.moves_row.ensures touched items commits moving) ∙ w.if-moves_row.true) refl (ap (λ v. v.items) w.undo-is ∙ w.in_ok-push.ensures.items) was
      | else-moves_row w ↦ pick_none (λ (y : KeptRow). y.undo) p rows k x old c.if-moves_row.undo.items c.loop-row-test.true c.row-item.is
          (sym (c.moves_row.ensures touched items commits moving) ∙ w.if-moves_row.false) (ap (λ v. v.items) w.undo-is) was
    ]

pub returns-clause-rows : goal.returns-clause-rows
returns-clause-rows c = λ touched items commits moving.
    pick_end (λ (y : KeptRow). y.undo) (moves_row touched items commits) c.args.kept.now c.loop-row.row-index c.loop-row.undo.items c.loop-row-test.false
    (c.loop-row.invariant touched items commits moving)
