use Rattle.std.proofs.Common.{◌≡◌, ◌∙◌, sym, subst, true, false}
use Rattle.std.proofs.lemmas.Result.{err_from_is_err_and}
use Rattle.std.specs.Prelude.{IfErr}
use Rattle.mr_base.specs.declared.refusals.Refusal.TheVariants.{OutOfMemory}
use Rattle.std.specs.BTreeMap.{insert_entry}
use Rattle.mr_model.specs.Tables.{BookingRow}
use Rattle.mr_base.specs.Ids.{id_cmp}
use Rattle.mr_tables.specs.Boards.{booking_entry, IsRowWithin}
use Rattle.mr_tables.proofs.BoardEntries.{put_passed, pass_over}
use Rattle.mr_part.specs.RowTests.{has_booking}
use Rattle.mr_part.proofs.Picking.{of_picked, all_passed, all_over}
use Rattle.mr_part.proofs.scope.board.put_bookings.Goals as goal
use Rattle.mr_part.proofs.scope.board.put_bookings.Goals.{then-has_booking+in_ok-put_booking, else-has_booking}

pub loop-row-preserved : goal.loop-row-preserved
loop-row-preserved c =
    let row = c.row-item.result in
    let rows = c.args.rows.now in
    let k = c.loop-row.row-index in
    let test = has_booking c.args.test.now in
    let limits = λ (r : BookingRow). IsRowWithin r.n r.start r.stop in
    elim c.if-has_booking.branch [
      | then-has_booking+in_ok-put_booking w ↦
          (let passed : test row ≡ true = sym c.has_booking.ensures ∙ w.if-has_booking.true in (
            w.board-is ∙ w.in_ok-put_booking.ensures.put
                ∙ (λ i. insert_entry id_cmp (c.loop-row.invariant.0 i) (booking_entry row).0 (booking_entry row).1)
                ∙ put_passed test booking_entry rows k row c.args.board.now c.loop-row-test.true c.row-item.is passed,
            all_passed limits test rows k row c.loop-row.invariant.1 w.in_ok-put_booking.ensures.within c.loop-row-test.true c.row-item.is passed,
          ))
      | else-has_booking w ↦
          (let over : test row ≡ false = sym c.has_booking.ensures ∙ w.if-has_booking.false in (
            w.board-is ∙ c.loop-row.invariant.0 ∙ pass_over test booking_entry rows k row c.args.board.now c.loop-row-test.true c.row-item.is over,
            all_over limits test rows k row c.loop-row.invariant.1 c.loop-row-test.true c.row-item.is over,
          ))
    ]

pub returns-in_err-put_booking-clause-only : goal.returns-in_err-put_booking-clause-only
returns-in_err-put_booking-clause-only c = λ ok.
    let row = c.row-item.result in
    let rows = c.args.rows.now in
    let test = has_booking c.args.test.now in
    let passed : test row ≡ true = sym c.has_booking.ensures ∙ c.if-has_booking.true in
    let within = of_picked (λ (r : BookingRow). IsRowWithin r.n r.start r.stop) test rows c.loop-row.row-index row ok c.loop-row-test.true c.row-item.is passed in
    let p = err_from_is_err_and c.from_residual.result c.from_residual.ensures.1 in
    subst (λ r. IfErr r (λ e. e ≡ OutOfMemory)) (sym p.1) (p.2 ∙ c.in_err-put_booking.ensures.only within)
