use Rattle.std.proofs.Common.{◌≡◌, ◌∙◌, ap, sym, subst}
use Rattle.std.proofs.lemmas.Result.{err_from_is_err_and}
use Rattle.std.specs.Prelude.{IfErr}
use Rattle.std.specs.Option.{option_copied}
use Rattle.mr_base.specs.declared.refusals.Refusal.TheVariants.{OutOfMemory}
use Rattle.mr_model.specs.Tables.{BookingRow, ErrorRow, CancelledRow}
use Rattle.mr_model.specs.Queries.{booking_id, error_id, cancelled_id}
use Rattle.mr_tables.specs.Boards.{IsRowWithin}
use Rattle.mr_tables.proofs.BoardChanged.{found_keeps}
use Rattle.mr_tables.proofs.board_changes.row_told.Goals as goal

pub returns-in_err-row_of_cancelled-clause-only : goal.returns-in_err-row_of_cancelled-clause-only
returns-in_err-row_of_cancelled-clause-only g c = λ ok.
    let there = sym c.cancelled.ensures ∙ ap option_copied c.in-Some-cancelled.is in
    let within = found_keeps (λ (r : CancelledRow). IsRowWithin r.n r.start r.stop) cancelled_id c.args.id _ c.in-Some-cancelled.row.now ok.cancelled there in
    let p = err_from_is_err_and c.from_residual-in_err-row_of_cancelled.result c.from_residual-in_err-row_of_cancelled.ensures.1 in
    subst (λ r. IfErr r (λ e. e ≡ OutOfMemory)) (sym p.1) (p.2 ∙ c.in_err-row_of_cancelled.ensures.only within.1 within.2)

pub returns-in_err-row_of_error-clause-only : goal.returns-in_err-row_of_error-clause-only
returns-in_err-row_of_error-clause-only g c = λ ok.
    let there = sym c.error.ensures ∙ ap option_copied c.in-Some-error.is in
    let within = found_keeps (λ (r : ErrorRow). IsRowWithin r.n r.start r.stop) error_id c.args.id _ c.in-Some-error.row.now ok.errorlog there in
    let p = err_from_is_err_and c.from_residual-in_err-row_of_error.result c.from_residual-in_err-row_of_error.ensures.1 in
    subst (λ r. IfErr r (λ e. e ≡ OutOfMemory)) (sym p.1) (p.2 ∙ c.in_err-row_of_error.ensures.only within.1 within.2)

pub returns-in_err-row_of_booking-in-Some-booking-clause-only : goal.returns-in_err-row_of_booking-in-Some-booking-clause-only
returns-in_err-row_of_booking-in-Some-booking-clause-only g c = λ ok.
    let there = sym c.booking.ensures ∙ ap option_copied c.in-Some-booking.is in
    let within = found_keeps (λ (r : BookingRow). IsRowWithin r.n r.start r.stop) booking_id c.args.id _ c.in-Some-booking.row.now ok.booking there in
    let p = err_from_is_err_and c.from_residual-in_err-row_of_booking-in-Some-booking.result c.from_residual-in_err-row_of_booking-in-Some-booking.ensures.1 in
    subst (λ r. IfErr r (λ e. e ≡ OutOfMemory)) (sym p.1) (p.2 ∙ c.in_err-row_of_booking-in-Some-booking.ensures.only within.1 within.2)
