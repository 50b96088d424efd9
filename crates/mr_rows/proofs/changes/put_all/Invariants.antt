use Rattle.std.proofs.Common.{◌≡◌, drop}
use Rattle.sqlite.specs.State.{Survives}
use Rattle.sqlite.specs.Held.{state}
use Rattle.mr_rows.specs.Database.{tables_in, IsChangeUnderWay}
use Rattle.mr_rows.specs.TableSteps.{rows_put}
use Rattle.mr_rows.proofs.changes.put_all.Given as goal

abbrev pub invariant-rows : goal.invariant-rows
invariant-rows g l =
    let first = state g.S.Store l.fn.tx.conn.now in
    let now = state g.S.Store l.tx.conn.now in
    (l.tx.conn.ghost_name ≡ l.fn.tx.conn.ghost_name) × Survives first now (λ _. ⊥)
    × IsChangeUnderWay first now (rows_put g.R.StoredRow.form g.R.OurRow.rows_of g.R.OurRow.with_rows (drop l.row-index l.rows) (tables_in now.now.trees))
    (rows_put g.R.StoredRow.form g.R.OurRow.rows_of g.R.OurRow.with_rows l.rows (tables_in first.now.trees))
