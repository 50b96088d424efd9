use Rattle.std.proofs.Common.{◌≡◌, Ok, ◌∙◌, ap, Err}
use Rattle.std.proofs.lemmas.Result.{err_from_is_err_and}
use Rattle.std.specs.Prelude.{find}
use Rattle.sqlite.specs.Held.{state}
use Rattle.mr_model.specs.Writes.{same_id}
use Rattle.mr_rows.specs.Database.{IsHeld, in_order}
use Rattle.mr_rows.specs.Shown.{AreStoredAs}
use Rattle.mr_rows.proofs.QueryLemmas.{looks_then}
use Rattle.mr_rows.proofs.CauseLemmas.{looks_fail}
use Rattle.mr_rows.specs.Reads.{IsPlacedIn}
use Rattle.mr_rows.specs.Schema.{our_schema}
use Rattle.mr_rows.proofs.CauseLemmas.{same_reads, same_error}
use Rattle.mr_rows.proofs.asked_rows.rows_of.Goals as goal

pub returns-in_err-first-clause-looks : goal.returns-in_err-first-clause-looks
returns-in_err-first-clause-looks g c =
    let p = err_from_is_err_and c.from_residual.result c.from_residual.ensures.1 in
    same_reads (IsPlacedIn our_schema) (state g.S.Store c.args.conn.now)
    (state g.S.Store c.row_of.new.conn) c.row_of.result _ c.from_residual.result _ c.in_err-first.field-0.0 (p.1 ∙ ap Err p.2) c.row_of.ensures.looks

pub returns-in_err-second-clause-looks : goal.returns-in_err-second-clause-looks
returns-in_err-second-clause-looks g c =
    let a = state g.S.Store c.args.conn.now in
    let id = c.args.id in
    let read = looks_then a (state g.S.Store c.row_of.new.conn) (state g.S.Store c.row_of-2.new.conn) c.in_ok-first.first (λ row. IsHeld g.A.StoredRow.form (a.now.trees g.A.StoredRow.form.table.tree)
    → row ≡ find (λ r. same_id (g.A.AskedRow.id_of r) id) (in_order g.A.StoredRow.form (a.now.trees g.A.StoredRow.form.table.tree))) c.row_of-2.result
    (λ db row. IsHeld g.B.StoredRow.form (db.trees g.B.StoredRow.form.table.tree)
    → row ≡ find (λ r. same_id (g.B.AskedRow.id_of r) id) (in_order g.B.StoredRow.form (db.trees g.B.StoredRow.form.table.tree)))
    (λ _. Unit {0}) (λ here y p q. tt) c.in_ok-first.ensures.looks c.row_of-2.ensures.looks in
    let p = err_from_is_err_and c.from_residual-in_err-second.result c.from_residual-in_err-second.ensures.1 in
    same_reads (IsPlacedIn our_schema) (state g.S.Store c.args.conn.now)
    (state g.S.Store c.row_of-2.new.conn) c.row_of-2.result _ c.from_residual-in_err-second.result _ c.in_err-second.field-0.0 (p.1 ∙ ap Err p.2) read

pub returns-clause-looks : goal.returns-clause-looks
returns-clause-looks g c =
    let a = state g.S.Store c.args.conn.now in
    let id = c.args.id in
    looks_then a (state g.S.Store c.row_of.new.conn) (state g.S.Store c.row_of-2.new.conn) c.in_ok-first.first (λ row. IsHeld g.A.StoredRow.form (a.now.trees g.A.StoredRow.form.table.tree)
    → row ≡ find (λ r. same_id (g.A.AskedRow.id_of r) id) (in_order g.A.StoredRow.form (a.now.trees g.A.StoredRow.form.table.tree)))
    (Ok c.in_ok-second.second) (λ db row. IsHeld g.B.StoredRow.form (db.trees g.B.StoredRow.form.table.tree)
    → row ≡ find (λ r. same_id (g.B.AskedRow.id_of r) id) (in_order g.B.StoredRow.form (db.trees g.B.StoredRow.form.table.tree)))
    (λ y. (IsHeld g.A.StoredRow.form (a.now.trees g.A.StoredRow.form.table.tree)
    → c.in_ok-first.first ≡ find (λ r. same_id (g.A.AskedRow.id_of r) id) (in_order g.A.StoredRow.form (a.now.trees g.A.StoredRow.form.table.tree)))
    × (IsHeld g.B.StoredRow.form (a.now.trees g.B.StoredRow.form.table.tree) → y ≡ find (λ r. same_id (g.B.AskedRow.id_of r) id)
    (in_order g.B.StoredRow.form (a.now.trees g.B.StoredRow.form.table.tree)))) (λ here y p q. (p, q)) c.in_ok-first.ensures.looks c.in_ok-second.ensures.looks

pub returns-in_err-first-clause-cause : goal.returns-in_err-first-clause-cause
returns-in_err-first-clause-cause g c = λ clean here rows.
    let p = err_from_is_err_and c.from_residual.result c.from_residual.ensures.1 in
    same_error c.row_of.result c.from_residual.result c.in_err-first.field-0.0 _ c.in_err-first.was (p.1 ∙ ap Err p.2) (c.row_of.ensures.cause clean here rows.0)

pub returns-in_err-second-clause-cause : goal.returns-in_err-second-clause-cause
returns-in_err-second-clause-cause g c = λ clean here rows.
    let a = state g.S.Store c.args.conn.now in
    let b = state g.S.Store c.row_of.new.conn in
    let id = c.args.id in
    let p = err_from_is_err_and c.from_residual-in_err-second.result c.from_residual-in_err-second.ensures.1 in
    same_error c.row_of-2.result c.from_residual-in_err-second.result c.in_err-second.field-0.0 _ c.in_err-second.was (p.1 ∙ ap Err p.2)
    (looks_fail a b (state g.S.Store c.row_of-2.new.conn) c.in_ok-first.first (λ row. IsHeld g.A.StoredRow.form (a.now.trees g.A.StoredRow.form.table.tree)
    → row ≡ find (λ r. same_id (g.A.AskedRow.id_of r) id) (in_order g.A.StoredRow.form (a.now.trees g.A.StoredRow.form.table.tree))) c.row_of-2.result
    (λ row. IsHeld g.B.StoredRow.form (b.now.trees g.B.StoredRow.form.table.tree)
    → row ≡ find (λ r. same_id (g.B.AskedRow.id_of r) id) (in_order g.B.StoredRow.form (b.now.trees g.B.StoredRow.form.table.tree)))
    (λ t. AreStoredAs g.A.StoredRow.form t × AreStoredAs g.B.StoredRow.form t)
    (AreStoredAs g.B.StoredRow.form) c.in_ok-first.ensures.looks c.row_of-2.ensures.looks (λ t both. both.1) c.row_of-2.ensures.cause clean here rows)
