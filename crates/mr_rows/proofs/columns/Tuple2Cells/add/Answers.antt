use Rattle.std.proofs.Common.{rules}
use Rattle.mr_rows.proofs.ColumnLemmas.{again_both}
use Rattle.mr_rows.proofs.columns.Tuple2Cells.add.Goals as goal

pub returns-clause-again : goal.returns-clause-again
returns-clause-again g c =
    let again = again_both g.A.Cells.columns g.B.Cells.columns g.met.A.Cells.spelled c.args.self.now.0 c.args.self.now.1 c.in_ok-add.ensures.again in
    let second = c.add-2.ensures.again in
    search rules
