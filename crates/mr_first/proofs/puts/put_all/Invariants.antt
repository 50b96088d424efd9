use Rattle.std.proofs.Common.{◌≡◌, drop}
use Rattle.sqlite.specs.State.{Survives}
use Rattle.sqlite.specs.Held.{state}
use Rattle.mr_first.specs.FirstDatabase.{first_in, IsFirstUnderWay}
use Rattle.mr_rows.specs.TableSteps.{rows_put}
use Rattle.mr_first.proofs.puts.put_all.Given as goal

abbrev pub invariant-rows : goal.invariant-rows
invariant-rows g l =
    let first = state g.S.Store l.fn.tx.conn.now in
    let now = state g.S.Store l.tx.conn.now in
    (l.tx.conn.ghost_name ≡ l.fn.tx.conn.ghost_name) × Survives first now (λ _. ⊥)
    × IsFirstUnderWay first now (rows_put g.R.StoredRow.form g.R.FirstRow.rows_of g.R.FirstRow.with_rows (drop l.row-index l.rows) (first_in now.now.trees))
    (rows_put g.R.StoredRow.form g.R.FirstRow.rows_of g.R.FirstRow.with_rows l.rows (first_in first.now.trees))
