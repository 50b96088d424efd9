use Rattle.std.proofs.Common.{◌≡◌, ◌∙◌, Ok, Option, ap, sym, subst, Err}
use Rattle.std.proofs.lemmas.Result.{err_from_is_err_and}
use Rattle.std.specs.Prelude.{find}
use Rattle.sqlite_trees.specs.Tree.{Trees}
use Rattle.sqlite.specs.Held.{state}
use Rattle.mr_model.specs.Writes.{Id, same_id}
use Rattle.mr_model.specs.Queries.{booking_id, error_id, cancelled_id, cancel_id}
use Rattle.mr_model.specs.Tables.{BookingRow, ErrorRow, CancelledRow, CancelRow}
use Rattle.mr_store.specs.Picked.{IsPlaceOf}
use Rattle.mr_rows.specs.Form.{booking_form, error_form, cancelled_form, cancel_form}
use Rattle.mr_rows.specs.Database.{IsHeld, in_order, tables_in}
use Rattle.mr_rows.proofs.QueryLemmas.{reads_then}
use Rattle.mr_rows.proofs.StreamedRows.{kept_looks}
use Rattle.mr_sql.specs.PlaceOfId.{taken_in, chosen}
use Rattle.mr_sql.proofs.AnswerLemmas.{chosen_is}
use Rattle.mr_sql.proofs.FailedReads.{alone, alone_then, same_alone}
use Rattle.mr_rows.proofs.CauseLemmas.{same_reads}
use Rattle.mr_rows.specs.Database.{IsKept}
use Rattle.mr_sql.proofs.answers.place_of.Goals as goal

-- what the tables of bookings have of an id
abbrev Found : Id → Trees → Option BookingRow → Option ErrorRow → Type 0
Found id trees booking error =
    (IsHeld booking_form (trees 10) → booking ≡ find (λ r. same_id (booking_id r) id) (in_order booking_form (trees 10)))
    × (IsHeld error_form (trees 12) → error ≡ find (λ r. same_id (error_id r) id) (in_order error_form (trees 12)))

-- and those that cancels fill
abbrev Taken : Id → Trees → Option CancelledRow → Option CancelRow → Type 0
Taken id trees cancelled cancel =
    (IsHeld cancelled_form (trees 16) → cancelled ≡ find (λ r. same_id (cancelled_id r) id) (in_order cancelled_form (trees 16)))
    × (IsHeld cancel_form (trees 18) → cancel ≡ find (λ r. same_id (cancel_id r) id) (in_order cancel_form (trees 18)))

pub returns-in_err-rows-clause-reads : goal.returns-in_err-rows-clause-reads
returns-in_err-rows-clause-reads g c =
    let a = state g.S.Store c.args.conn.now in
    let read = kept_looks a (state g.S.Store c.rows_of.new.conn) c.rows_of.result (λ rows. Found c.args.id a.now.trees rows.0 rows.1) c.rows_of.ensures.looks in
    let p = err_from_is_err_and c.from_residual.result c.from_residual.ensures.1 in
    same_reads IsKept (state g.S.Store c.args.conn.now) (state g.S.Store c.rows_of.new.conn) c.rows_of.result _ c.from_residual.result _ c.in_err-rows.field-0.0 (p.1 ∙ ap Err p.2) read

pub returns-in_err-others-clause-reads : goal.returns-in_err-others-clause-reads
returns-in_err-others-clause-reads g c =
    let a = state g.S.Store c.args.conn.now in
    let b = state g.S.Store c.rows_of.new.conn in
    let d = state g.S.Store c.rows_of-2.new.conn in
    let id = c.args.id in
    let read =
    reads_then a b d c.in_ok-rows.rows (λ rows. Found id a.now.trees rows.0 rows.1) c.rows_of-2.result (λ db rows. Taken id db.trees rows.0 rows.1) (λ _. Unit {0}) (λ _ _ _ _. tt)
    (kept_looks a b (Ok c.in_ok-rows.rows) (λ rows. Found id a.now.trees rows.0 rows.1) c.in_ok-rows.ensures.looks)
    (kept_looks b d c.rows_of-2.result (λ rows. Taken id b.now.trees rows.0 rows.1) c.rows_of-2.ensures.looks) in
    let p = err_from_is_err_and c.from_residual-in_err-others.result c.from_residual-in_err-others.ensures.1 in
    same_reads IsKept (state g.S.Store c.args.conn.now)
    (state g.S.Store c.rows_of-2.new.conn) c.rows_of-2.result _ c.from_residual-in_err-others.result _ c.in_err-others.field-0.0 (p.1 ∙ ap Err p.2) read

pub returns-clause-reads : goal.returns-clause-reads
returns-clause-reads g c =
    let a = state g.S.Store c.args.conn.now in
    let b = state g.S.Store c.rows_of.new.conn in
    let d = state g.S.Store c.rows_of-2.new.conn in
    let trees = a.now.trees in
    let room = c.args.room.now in
    let id = c.args.id in
    let rows = c.in_ok-rows.rows in
    let others = c.in_ok-others.others in
    let read =
    reads_then a b d rows (λ rows. Found id trees rows.0 rows.1) (Ok others) (λ db rows. Taken id db.trees rows.0 rows.1)
    (λ others. IsPlaceOf room id (tables_in trees) (chosen room rows.0 rows.1 (taken_in room others.0 others.1)))
    (λ kept others x y. chosen_is room id trees rows.0 rows.1 others.0 others.1 (x.0 kept.ours.held.booking) (x.1 kept.ours.held.errorlog) (y.0 kept.ours.held.cancelled) (y.1 kept.ours.held.cancels))
    (kept_looks a b (Ok rows) (λ rows. Found id trees rows.0 rows.1) c.in_ok-rows.ensures.looks)
    (kept_looks b d (Ok others) (λ rows. Taken id b.now.trees rows.0 rows.1) c.in_ok-others.ensures.looks) in
    let same = c.choose.ensures ∙ ap (chosen room rows.0 rows.1) c.choose_taken-other.ensures in
    (read.0, read.1, λ clean kept. let told = read.2 clean kept in (told.0, subst (IsPlaceOf room id (tables_in trees)) (sym same) told.1))

pub returns-in_err-rows-clause-failed : goal.returns-in_err-rows-clause-failed
returns-in_err-rows-clause-failed g c =
    let p = err_from_is_err_and c.from_residual.result c.from_residual.ensures.1 in
    same_alone (state g.S.Store c.args.conn.now) (state g.S.Store c.rows_of.new.conn) c.rows_of.result c.from_residual.result c.in_err-rows.field-0.0 c.in_err-rows.was (p.1 ∙ ap Err p.2)
    (alone (state g.S.Store c.args.conn.now) (state g.S.Store c.rows_of.new.conn) c.rows_of.result (λ clean here rows. c.rows_of.ensures.cause clean here (rows.0.booking, rows.0.errorlog)))

pub returns-in_err-others-clause-failed : goal.returns-in_err-others-clause-failed
returns-in_err-others-clause-failed g c =
    let a = state g.S.Store c.args.conn.now in
    let b = state g.S.Store c.rows_of.new.conn in
    let d = state g.S.Store c.rows_of-2.new.conn in
    let p = err_from_is_err_and c.from_residual-in_err-others.result c.from_residual-in_err-others.ensures.1 in
    same_alone (state g.S.Store c.args.conn.now) (state g.S.Store c.rows_of-2.new.conn) c.rows_of-2.result c.from_residual-in_err-others.result c.in_err-others.field-0.0 c.in_err-others.was
    (p.1 ∙ ap Err p.2) (alone_then a b d c.in_ok-rows.rows (λ rows. Found c.args.id a.now.trees rows.0 rows.1) c.rows_of-2.result
    (kept_looks a b (Ok c.in_ok-rows.rows) (λ rows. Found c.args.id a.now.trees rows.0 rows.1) c.in_ok-rows.ensures.looks) c.rows_of-2.ensures.looks.0
    (alone b d c.rows_of-2.result (λ clean here rows. c.rows_of-2.ensures.cause clean here (rows.0.cancelled, rows.0.cancels))))
