use Rattle.mr_rows.proofs.HeldRows.{rows_held}
use Rattle.mr_rows.proofs.rows_law.Goals as goal

pub returns : goal.returns
returns c = rows_held
