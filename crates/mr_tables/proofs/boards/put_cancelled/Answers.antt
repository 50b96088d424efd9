use Rattle.std.proofs.Common.{◌∙◌}
use Rattle.std.specs.BTreeMap.{insert_entry}
use Rattle.mr_model.specs.Tables.{CancelledRow}
use Rattle.mr_base.specs.Ids.{id_cmp}
use Rattle.mr_tables.specs.Boards.{cancelled_entry, IsRowWithin}
use Rattle.mr_tables.proofs.BoardEntries.{put_more, all_more}
use Rattle.mr_tables.proofs.boards.put_cancelled.Goals as goal

pub loop-row-preserved : goal.loop-row-preserved
loop-row-preserved c =
    let row = c.row-item.result in
    let rows = c.args.rows.now in (
      c.in_ok-put_taken_back.ensures.put
          ∙ (λ i. insert_entry id_cmp (c.loop-row.invariant.0 i) (cancelled_entry row).0 (cancelled_entry row).1)
          ∙ put_more cancelled_entry rows c.loop-row.row-index row c.args.board.now c.loop-row-test.true c.row-item.is,
      all_more (λ (r : CancelledRow). IsRowWithin r.n r.start r.stop) rows c.loop-row.row-index row c.loop-row.invariant.1 c.in_ok-put_taken_back.ensures.within c.loop-row-test.true c.row-item.is,
    )
