use Rattle.std.proofs.Common.{◌≡◌, drop}
use Rattle.sqlite.specs.State.{Survives}
use Rattle.sqlite.specs.Held.{state}
use Rattle.mr_rows.specs.Database.{tables_in, IsChangeUnderWay}
use Rattle.mr_rows.specs.TableSteps.{rows_taken}
use Rattle.mr_rows.proofs.changes.take_all.Given as goal

abbrev pub invariant-gone : goal.invariant-gone
invariant-gone g l =
    let first = state g.S.Store l.fn.tx.conn.now in
    let now = state g.S.Store l.tx.conn.now in
    (l.tx.conn.ghost_name ≡ l.fn.tx.conn.ghost_name) × Survives first now (λ _. ⊥)
    × IsChangeUnderWay first now (rows_taken g.R.RequestRow.id_of g.R.OurRow.rows_of g.R.OurRow.with_rows (drop l.id-index l.gone) (tables_in now.now.trees))
    (rows_taken g.R.RequestRow.id_of g.R.OurRow.rows_of g.R.OurRow.with_rows l.gone (tables_in first.now.trees))
