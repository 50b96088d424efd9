use Rattle.std.proofs.Common.{leb-true, arith}
use Rattle.mr_rows.proofs.ShownRows.{made_shown, shown_so, refused_so}
use Rattle.mr_rows.proofs.stored_rows.test_row.Goals as goal

pub has-requires : goal.has-requires
has-requires g c = let few = leb-true _ 100 g.met.R.StoredRow.made.few in omega (arith, few)

pub returns-clause-passes : goal.returns-clause-passes
returns-clause-passes g c =
    shown_so c.has.result _ c.passes.result
    (made_shown g.R.StoredRow.form g.R.Parts.Cells.columns g.R.StoredRow.of g.met.R.StoredRow.made g.met.R.Parts.Cells.shown c.args.row.now) c.has.ensures c.passes.ensures.ok

pub returns-clause-refused : goal.returns-clause-refused
returns-clause-refused g c =
    refused_so c.has.result _ c.passes.result
    (made_shown g.R.StoredRow.form g.R.Parts.Cells.columns g.R.StoredRow.of g.met.R.StoredRow.made g.met.R.Parts.Cells.shown c.args.row.now) c.has.ensures c.passes.ensures.refused
