use Rattle.std.proofs.Common.{◌≡◌, ◌∙◌, ap, sym, not, true, false}
use Rattle.std.specs.BTreeMap.{insert_entry}
use Rattle.mr_model.specs.Tables.{CancelRow}
use Rattle.mr_base.specs.Ids.{id_cmp}
use Rattle.mr_tables.specs.Boards.{cancel_entry, is_void}
use Rattle.mr_tables.proofs.BoardEntries.{put_passed, pass_over}
use Rattle.mr_tables.proofs.boards.put_cancels.Goals as goal
use Rattle.mr_tables.proofs.boards.put_cancels.Goals.{then-not-row+in_ok-put_cancel, else-not-row}

pub loop-row-preserved : goal.loop-row-preserved
loop-row-preserved c =
    let row = c.row-item.result in
    let rows = c.args.rows.now in
    let k = c.loop-row.row-index in
    elim c.if-not-row.branch [
      | then-not-row+in_ok-put_cancel w ↦
          (let void : is_void row ≡ true = ap not (sym (ap (λ (r : CancelRow). r.done) c.row.view_is) ∙ w.if-not-row.true) in
          w.board-is ∙ w.in_ok-put_cancel.ensures.put
          ∙ (λ i. insert_entry id_cmp (c.loop-row.invariant i) (cancel_entry row).0 (cancel_entry row).1)
          ∙ put_passed is_void cancel_entry rows k row c.args.board.now c.loop-row-test.true c.row-item.is void)
      | else-not-row w ↦
          (let over : is_void row ≡ false = ap not (sym (ap (λ (r : CancelRow). r.done) c.row.view_is) ∙ w.if-not-row.false) in
          w.board-is ∙ c.loop-row.invariant ∙ pass_over is_void cancel_entry rows k row c.args.board.now c.loop-row-test.true c.row-item.is over)
    ]
