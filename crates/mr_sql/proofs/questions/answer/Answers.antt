use Rattle.std.proofs.Common.{List, Ok, subst, sym, ◌∙◌, ap, Err}
use Rattle.std.proofs.lemmas.Result.{err_from_is_err_and}
use Rattle.std.specs.Prelude.{bytes_eq, filter}
use Rattle.std.specs.List.Sorted.{IsPermutation}
use Rattle.sqlite_trees.specs.Tree.{Trees}
use Rattle.sqlite.specs.Held.{state}
use Rattle.mr_model.specs.Texts.{Text}
use Rattle.mr_model.specs.Tables.{ErrorRow, CancelledRow, CancelRow}
use Rattle.mr_store.specs.Answers.{IsAnswerTo}
use Rattle.mr_replica.specs.declared.questions.Answer.TheVariants as told
use Rattle.mr_rows.specs.Database.{IsHeld, in_order, tables_in}
use Rattle.mr_rows.specs.Form.{error_form, cancelled_form, cancel_form}
use Rattle.mr_rows.proofs.QueryLemmas.{reads_made}
use Rattle.mr_rows.proofs.StreamedRows.{kept_looks}
use Rattle.mr_sql.proofs.AnswerLemmas.{errors_are, cancelled_are, cancels_are}
use Rattle.mr_sql.proofs.FailedReads.{alone, same_alone}
use Rattle.mr_rows.proofs.CauseLemmas.{same_reads}
use Rattle.mr_rows.specs.Database.{IsKept}
use Rattle.mr_sql.proofs.questions.answer.Goals as goal

-- what is shown of a room
abbrev ErrorsOf : Text → Trees → List ErrorRow → Type 0
ErrorsOf room trees rows = IsHeld error_form (trees 12) → IsPermutation (filter (λ (row : ErrorRow). bytes_eq row.room room) (in_order error_form (trees 12))) rows

abbrev CancelledOf : Text → Trees → List CancelledRow → Type 0
CancelledOf room trees rows = IsHeld cancelled_form (trees 16) → IsPermutation (filter (λ (row : CancelledRow). bytes_eq row.room room) (in_order cancelled_form (trees 16))) rows

abbrev CancelsOf : Text → Trees → List CancelRow → Type 0
CancelsOf room trees rows = IsHeld cancel_form (trees 18) → IsPermutation (filter (λ (row : CancelRow). bytes_eq row.room room) (in_order cancel_form (trees 18))) rows

pub returns-in_err-rooms_of-in-Rooms-clause-failed : goal.returns-in_err-rooms_of-in-Rooms-clause-failed
returns-in_err-rooms_of-in-Rooms-clause-failed g c =
    let p = err_from_is_err_and c.from_residual.result c.from_residual.ensures.1 in
    same_alone (state g.S.Store c.args.conn.now) (state g.S.Store c.rooms_of.new.conn) c.rooms_of.result c.from_residual.result
    c.in_err-rooms_of-in-Rooms.field-0.0 c.in_err-rooms_of-in-Rooms.was (p.1 ∙ ap Err p.2) c.rooms_of.ensures.failed

pub returns-in_err-bookings_of-in-Bookings-clause-failed : goal.returns-in_err-bookings_of-in-Bookings-clause-failed
returns-in_err-bookings_of-in-Bookings-clause-failed g c =
    let p = err_from_is_err_and c.from_residual-in_err-bookings_of-in-Bookings.result c.from_residual-in_err-bookings_of-in-Bookings.ensures.1 in
    same_alone (state g.S.Store c.args.conn.now) (state g.S.Store c.bookings_of.new.conn) c.bookings_of.result c.from_residual-in_err-bookings_of-in-Bookings.result
    c.in_err-bookings_of-in-Bookings.field-0.0 c.in_err-bookings_of-in-Bookings.was (p.1 ∙ ap Err p.2) c.bookings_of.ensures.failed

pub returns-in_err-place_of-in-PlaceOf-clause-failed : goal.returns-in_err-place_of-in-PlaceOf-clause-failed
returns-in_err-place_of-in-PlaceOf-clause-failed g c =
    let p = err_from_is_err_and c.from_residual-in_err-place_of-in-PlaceOf.result c.from_residual-in_err-place_of-in-PlaceOf.ensures.1 in
    same_alone (state g.S.Store c.args.conn.now) (state g.S.Store c.place_of.new.conn) c.place_of.result c.from_residual-in_err-place_of-in-PlaceOf.result
    c.in_err-place_of-in-PlaceOf.field-0.0 c.in_err-place_of-in-PlaceOf.was (p.1 ∙ ap Err p.2) c.place_of.ensures.failed

pub returns-in_err-rows_in-in-Errors-clause-reads : goal.returns-in_err-rows_in-in-Errors-clause-reads
returns-in_err-rows_in-in-Errors-clause-reads g c =
    let old = state g.S.Store c.args.conn.now in
    let read = kept_looks old (state g.S.Store c.rows_in.new.conn) c.rows_in.result (λ rows. ErrorsOf c.in-Errors.room.now old.now.trees rows.items) c.rows_in.ensures.looks in
    let p = err_from_is_err_and c.from_residual-in_err-rows_in-in-Errors.result c.from_residual-in_err-rows_in-in-Errors.ensures.1 in
    same_reads IsKept (state g.S.Store c.args.conn.now)
    (state g.S.Store c.rows_in.new.conn) c.rows_in.result _ c.from_residual-in_err-rows_in-in-Errors.result _ c.in_err-rows_in-in-Errors.field-0.0 (p.1 ∙ ap Err p.2) read

pub returns-in_err-rows_in-in-Errors-clause-failed : goal.returns-in_err-rows_in-in-Errors-clause-failed
returns-in_err-rows_in-in-Errors-clause-failed g c =
    let p = err_from_is_err_and c.from_residual-in_err-rows_in-in-Errors.result c.from_residual-in_err-rows_in-in-Errors.ensures.1 in
    same_alone (state g.S.Store c.args.conn.now) (state g.S.Store c.rows_in.new.conn) c.rows_in.result
    c.from_residual-in_err-rows_in-in-Errors.result c.in_err-rows_in-in-Errors.field-0.0 c.in_err-rows_in-in-Errors.was (p.1 ∙ ap Err p.2)
    (alone (state g.S.Store c.args.conn.now) (state g.S.Store c.rows_in.new.conn) c.rows_in.result (λ clean here rows. c.rows_in.ensures.cause clean here rows.0.errorlog))

pub returns-in_ok-rows_in-in-Errors-clause-reads : goal.returns-in_ok-rows_in-in-Errors-clause-reads
returns-in_ok-rows_in-in-Errors-clause-reads g c =
    let old = state g.S.Store c.args.conn.now in
    let new = state g.S.Store c.rows_in.new.conn in
    let rows = c.in_ok-rows_in-in-Errors.field-0 in
    reads_made old new rows (λ rows. ErrorsOf c.in-Errors.room.now old.now.trees rows.items) (Ok (told.Errors rows)) (IsAnswerTo c.args.question.now (tables_in old.now.trees))
    (λ kept read. subst (λ q. IsAnswerTo q (tables_in old.now.trees) (told.Errors rows)) (sym c.in-Errors.is) (errors_are c.in-Errors.room.now old.now.trees rows.items (read kept.ours.held.errorlog)))
    (kept_looks old new (Ok rows) (λ rows. ErrorsOf c.in-Errors.room.now old.now.trees rows.items) c.in_ok-rows_in-in-Errors.ensures.looks)

pub returns-in_err-rows_in-in-Cancelled-clause-reads : goal.returns-in_err-rows_in-in-Cancelled-clause-reads
returns-in_err-rows_in-in-Cancelled-clause-reads g c =
    let old = state g.S.Store c.args.conn.now in
    let read = kept_looks old (state g.S.Store c.rows_in-in-Cancelled.new.conn) c.rows_in-in-Cancelled.result
    (λ rows. CancelledOf c.in-Cancelled.room.now old.now.trees rows.items) c.rows_in-in-Cancelled.ensures.looks in
    let p = err_from_is_err_and c.from_residual-in_err-rows_in-in-Cancelled.result c.from_residual-in_err-rows_in-in-Cancelled.ensures.1 in
    same_reads IsKept (state g.S.Store c.args.conn.now) (state g.S.Store c.rows_in-in-Cancelled.new.conn) c.rows_in-in-Cancelled.result
    _ c.from_residual-in_err-rows_in-in-Cancelled.result _ c.in_err-rows_in-in-Cancelled.field-0.0 (p.1 ∙ ap Err p.2) read

pub returns-in_err-rows_in-in-Cancelled-clause-failed : goal.returns-in_err-rows_in-in-Cancelled-clause-failed
returns-in_err-rows_in-in-Cancelled-clause-failed g c =
    let p = err_from_is_err_and c.from_residual-in_err-rows_in-in-Cancelled.result c.from_residual-in_err-rows_in-in-Cancelled.ensures.1 in
    same_alone (state g.S.Store c.args.conn.now) (state g.S.Store c.rows_in-in-Cancelled.new.conn) c.rows_in-in-Cancelled.result c.from_residual-in_err-rows_in-in-Cancelled.result
    c.in_err-rows_in-in-Cancelled.field-0.0 c.in_err-rows_in-in-Cancelled.was (p.1 ∙ ap Err p.2) (alone (state g.S.Store c.args.conn.now)
    (state g.S.Store c.rows_in-in-Cancelled.new.conn) c.rows_in-in-Cancelled.result (λ clean here rows. c.rows_in-in-Cancelled.ensures.cause clean here rows.0.cancelled))

pub returns-in_ok-rows_in-in-Cancelled-clause-reads : goal.returns-in_ok-rows_in-in-Cancelled-clause-reads
returns-in_ok-rows_in-in-Cancelled-clause-reads g c =
    let old = state g.S.Store c.args.conn.now in
    let new = state g.S.Store c.rows_in-in-Cancelled.new.conn in
    let rows = c.in_ok-rows_in-in-Cancelled.field-0 in
    reads_made old new rows (λ rows. CancelledOf c.in-Cancelled.room.now old.now.trees rows.items) (Ok (told.Cancelled rows)) (IsAnswerTo c.args.question.now (tables_in old.now.trees))
    (λ kept read. subst (λ q. IsAnswerTo q (tables_in old.now.trees) (told.Cancelled rows)) (sym c.in-Cancelled.is)
    (cancelled_are c.in-Cancelled.room.now old.now.trees rows.items (read kept.ours.held.cancelled)))
    (kept_looks old new (Ok rows) (λ rows. CancelledOf c.in-Cancelled.room.now old.now.trees rows.items) c.in_ok-rows_in-in-Cancelled.ensures.looks)

pub returns-in_err-rows_in-in-Cancels-clause-reads : goal.returns-in_err-rows_in-in-Cancels-clause-reads
returns-in_err-rows_in-in-Cancels-clause-reads g c =
    let old = state g.S.Store c.args.conn.now in
    let read = kept_looks old (state g.S.Store c.rows_in-in-Cancels.new.conn) c.rows_in-in-Cancels.result
    (λ rows. CancelsOf c.in-Cancels.room.now old.now.trees rows.items) c.rows_in-in-Cancels.ensures.looks in
    let p = err_from_is_err_and c.from_residual-in_err-rows_in-in-Cancels.result c.from_residual-in_err-rows_in-in-Cancels.ensures.1 in
    same_reads IsKept (state g.S.Store c.args.conn.now) (state g.S.Store c.rows_in-in-Cancels.new.conn) c.rows_in-in-Cancels.result
    _ c.from_residual-in_err-rows_in-in-Cancels.result _ c.in_err-rows_in-in-Cancels.field-0.0 (p.1 ∙ ap Err p.2) read

pub returns-in_err-rows_in-in-Cancels-clause-failed : goal.returns-in_err-rows_in-in-Cancels-clause-failed
returns-in_err-rows_in-in-Cancels-clause-failed g c =
    let p = err_from_is_err_and c.from_residual-in_err-rows_in-in-Cancels.result c.from_residual-in_err-rows_in-in-Cancels.ensures.1 in
    same_alone (state g.S.Store c.args.conn.now) (state g.S.Store c.rows_in-in-Cancels.new.conn) c.rows_in-in-Cancels.result c.from_residual-in_err-rows_in-in-Cancels.result
    c.in_err-rows_in-in-Cancels.field-0.0 c.in_err-rows_in-in-Cancels.was (p.1 ∙ ap Err p.2) (alone (state g.S.Store c.args.conn.now)
    (state g.S.Store c.rows_in-in-Cancels.new.conn) c.rows_in-in-Cancels.result (λ clean here rows. c.rows_in-in-Cancels.ensures.cause clean here rows.0.cancels))

pub returns-in_ok-rows_in-in-Cancels-clause-reads : goal.returns-in_ok-rows_in-in-Cancels-clause-reads
returns-in_ok-rows_in-in-Cancels-clause-reads g c =
    let old = state g.S.Store c.args.conn.now in
    let new = state g.S.Store c.rows_in-in-Cancels.new.conn in
    let rows = c.in_ok-rows_in-in-Cancels.field-0 in
    reads_made old new rows (λ rows. CancelsOf c.in-Cancels.room.now old.now.trees rows.items) (Ok (told.Cancels rows)) (IsAnswerTo c.args.question.now (tables_in old.now.trees))
    (λ kept read. subst (λ q. IsAnswerTo q (tables_in old.now.trees) (told.Cancels rows)) (sym c.in-Cancels.is)
    (cancels_are c.in-Cancels.room.now old.now.trees rows.items (read kept.ours.held.cancels)))
    (kept_looks old new (Ok rows) (λ rows. CancelsOf c.in-Cancels.room.now old.now.trees rows.items) c.in_ok-rows_in-in-Cancels.ensures.looks)
