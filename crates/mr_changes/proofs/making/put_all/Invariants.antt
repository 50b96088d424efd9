use Rattle.std.proofs.Common.{drop}
use Rattle.sqlite_trees.specs.View.{IsClean}
use Rattle.mr_rows.specs.Database.{tables_in}
use Rattle.mr_rows.specs.TableSteps.{rows_put}
use Rattle.mr_changes.specs.Steps.{IsStoreStep}
use Rattle.mr_changes.proofs.StepLemmas.{IsUnderWay}
use Rattle.mr_changes.proofs.making.put_all.Given as goal

abbrev pub invariant-rows : goal.invariant-rows
invariant-rows g l =
    let first = g.S.Store.view l.fn.store in
    let now = g.S.Store.view l.store in
    IsStoreStep g.S.Store l.fn.store l.store
    × (IsClean now → IsUnderWay first now (rows_put g.R.StoredRow.form g.R.OurRow.rows_of g.R.OurRow.with_rows (drop l.row-index l.rows) (tables_in now.trees))
    (rows_put g.R.StoredRow.form g.R.OurRow.rows_of g.R.OurRow.with_rows l.rows (tables_in first.trees)))
