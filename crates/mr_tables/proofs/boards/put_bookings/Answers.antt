use Rattle.std.proofs.Common.{◌∙◌}
use Rattle.std.specs.BTreeMap.{insert_entry}
use Rattle.mr_model.specs.Tables.{BookingRow}
use Rattle.mr_base.specs.Ids.{id_cmp}
use Rattle.mr_tables.specs.Boards.{booking_entry, IsRowWithin}
use Rattle.mr_tables.proofs.BoardEntries.{put_more, all_more}
use Rattle.mr_tables.proofs.boards.put_bookings.Goals as goal

pub loop-row-preserved : goal.loop-row-preserved
loop-row-preserved c =
    let row = c.row-item.result in
    let rows = c.args.rows.now in (
      c.in_ok-put_booking.ensures.put
          ∙ (λ i. insert_entry id_cmp (c.loop-row.invariant.0 i) (booking_entry row).0 (booking_entry row).1)
          ∙ put_more booking_entry rows c.loop-row.row-index row c.args.board.now c.loop-row-test.true c.row-item.is,
      all_more (λ (r : BookingRow). IsRowWithin r.n r.start r.stop) rows c.loop-row.row-index row c.loop-row.invariant.1 c.in_ok-put_booking.ensures.within c.loop-row-test.true c.row-item.is,
    )
