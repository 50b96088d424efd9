use Rattle.mr_rows.proofs.FirstLemmas.{of_first}
use Rattle.mr_rows.specs.CellLimits.{are_meta_cells}
use Rattle.std.proofs.Common.{◌≡◌, false}
use Rattle.mr_rows.proofs.meta_row.first_meta.Goals as goal

pub returns-in-Some-clause-refused : goal.returns-in-Some-clause-refused
returns-in-Some-clause-refused c =
    of_first c.args.rows.now c.in-Some.row.now c.read_meta_of.result (λ row. are_meta_cells c.args.schema row ≡ false) c.in-Some.ensures.value c.read_meta_of.ensures.refused
