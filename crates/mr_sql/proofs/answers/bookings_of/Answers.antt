use Rattle.std.proofs.Common.{List, Ok, ◌∙◌, ap, Err}
use Rattle.std.proofs.lemmas.Result.{err_from_is_err_and}
use Rattle.std.specs.Prelude.{bytes_eq, filter}
use Rattle.std.specs.List.Sorted.{IsPermutation}
use Rattle.sqlite_trees.specs.Tree.{Trees}
use Rattle.sqlite.specs.Held.{state}
use Rattle.mr_model.specs.Texts.{Text}
use Rattle.mr_model.specs.Tables.{BookingRow}
use Rattle.mr_rows.specs.Database.{IsHeld, in_order}
use Rattle.mr_rows.specs.Form.{booking_form}
use Rattle.mr_rows.proofs.QueryLemmas.{reads_made, told_two}
use Rattle.mr_rows.proofs.StreamedRows.{kept_looks}
use Rattle.mr_sql.proofs.AnswerLemmas.{calendar_is}
use Rattle.mr_sql.proofs.FailedReads.{alone, alone_made, memory_alone, same_alone}
use Rattle.mr_rows.proofs.CauseLemmas.{same_reads}
use Rattle.mr_rows.specs.Database.{IsKept}
use Rattle.mr_sql.proofs.answers.bookings_of.Goals as goal

-- what is shown of a room
abbrev ShownOf : Text → Trees → List BookingRow → Type 0
ShownOf room trees rows = IsHeld booking_form (trees 10) → IsPermutation (filter (λ (row : BookingRow). bytes_eq row.room room) (in_order booking_form (trees 10))) rows

pub returns-in_err-rows-clause-reads : goal.returns-in_err-rows-clause-reads
returns-in_err-rows-clause-reads g c =
    let old = state g.S.Store c.args.conn.now in
    let read = kept_looks old (state g.S.Store c.rows_in.new.conn) c.rows_in.result (λ rows. ShownOf c.args.room.now old.now.trees rows.items) c.rows_in.ensures.looks in
    let p = err_from_is_err_and c.from_residual.result c.from_residual.ensures.1 in
    same_reads IsKept (state g.S.Store c.args.conn.now) (state g.S.Store c.rows_in.new.conn) c.rows_in.result _ c.from_residual.result _ c.in_err-rows.field-0.0 (p.1 ∙ ap Err p.2) read

pub returns-clause-reads : goal.returns-clause-reads
returns-clause-reads g c =
    let old = state g.S.Store c.args.conn.now in
    let new = state g.S.Store c.rows_in.new.conn in
    reads_made old new c.in_ok-rows.rows (λ rows. ShownOf c.args.room.now old.now.trees rows.items) c.calendar.result _
    (λ kept read. told_two c.calendar.result _ _ _ (λ out same sorted. calendar_is c.args.room.now c.args.day old.now.trees c.in_ok-rows.rows.items out.items
    (read kept.ours.held.booking) same sorted) c.calendar.ensures.same c.calendar.ensures.sorted)
    (kept_looks old new (Ok c.in_ok-rows.rows) (λ rows. ShownOf c.args.room.now old.now.trees rows.items) c.in_ok-rows.ensures.looks)

pub returns-in_err-rows-clause-failed : goal.returns-in_err-rows-clause-failed
returns-in_err-rows-clause-failed g c =
    let p = err_from_is_err_and c.from_residual.result c.from_residual.ensures.1 in
    same_alone (state g.S.Store c.args.conn.now) (state g.S.Store c.rows_in.new.conn) c.rows_in.result c.from_residual.result c.in_err-rows.field-0.0 c.in_err-rows.was (p.1 ∙ ap Err p.2)
    (alone (state g.S.Store c.args.conn.now) (state g.S.Store c.rows_in.new.conn) c.rows_in.result (λ clean here rows. c.rows_in.ensures.cause clean here rows.0.booking))

pub returns-clause-failed : goal.returns-clause-failed
returns-clause-failed g c =
    let old = state g.S.Store c.args.conn.now in
    let new = state g.S.Store c.rows_in.new.conn in
    alone_made old new c.in_ok-rows.rows (λ rows. ShownOf c.args.room.now old.now.trees rows.items) c.calendar.result
    (kept_looks old new (Ok c.in_ok-rows.rows) (λ rows. ShownOf c.args.room.now old.now.trees rows.items) c.in_ok-rows.ensures.looks)
    (λ r stands read. memory_alone c.calendar.result c.calendar.ensures.memory)
