use Rattle.std.proofs.Common.{ap, sym, ◌∙◌}
use Rattle.sqlite_value.specs.Order.{Row}
use Rattle.mr_rows.specs.Shown.{columns_from}
use Rattle.mr_trees.proofs.ScanLemmas.{made_stored}
use Rattle.mr_trees.proofs.testing.test_stored.Goals as goal

pub returns-then-has : goal.returns-then-has
returns-then-has g c =
    let columns = g.R.Parts.Cells.columns in
    let same = ap (λ (r : Row). columns.are (columns_from 1 columns.width r)) c.in-Ok.ensures in
    (made_stored g.R.StoredRow.form columns g.R.StoredRow.of g.met.R.StoredRow.made g.met.R.Parts.Cells.shown c.args.row.now).0 (sym same ∙ sym c.has.ensures ∙ c.if-has.true)
