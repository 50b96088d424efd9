use Rattle.std.proofs.Common.{drop}
use Rattle.sqlite_trees.specs.View.{IsClean}
use Rattle.mr_rows.specs.Database.{tables_in}
use Rattle.mr_rows.specs.TableSteps.{rows_taken}
use Rattle.mr_changes.specs.Steps.{IsStoreStep}
use Rattle.mr_changes.proofs.StepLemmas.{IsUnderWay}
use Rattle.mr_changes.proofs.making.take_all.Given as goal

abbrev pub invariant-gone : goal.invariant-gone
invariant-gone g l =
    let first = g.S.Store.view l.fn.store in
    let now = g.S.Store.view l.store in
    IsStoreStep g.S.Store l.fn.store l.store
    × (IsClean now → IsUnderWay first now (rows_taken g.R.IdRow.id_of g.R.OurRow.rows_of g.R.OurRow.with_rows (drop l.id-index l.gone) (tables_in now.trees))
    (rows_taken g.R.IdRow.id_of g.R.OurRow.rows_of g.R.OurRow.with_rows l.gone (tables_in first.trees)))
