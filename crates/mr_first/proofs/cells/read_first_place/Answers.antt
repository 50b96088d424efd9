use Rattle.std.proofs.Common.{false}
use Rattle.sqlite_value.specs.Order.{column}
use Rattle.mr_first.proofs.FirstShownRows.{no_place, in_any_error}
use Rattle.mr_first.proofs.cells.read_first_place.Goals as goal

pub returns-in_err-place-clause-refused : goal.returns-in_err-place-clause-refused
returns-in_err-place-clause-refused c = in_any_error c.from_residual.result (no_place (column c.args.row.now c.args.at) (c.in_err-place.ensures.refused false))
