use Rattle.mr_model.proofs.RowsTell.{one_row, row_is_in, row_in_is, none_in_room}
use Rattle.mr_model.proofs.CalendarsTell.{calendar_told}
use Rattle.mr_model.proofs.CommittedTell.{committed_told}
use Rattle.mr_model.proofs.ErrorsTell.{errors_told}
use Rattle.mr_model.proofs.tables.query_law.Goals as goal

pub returns-clause-one_row : goal.returns-clause-one_row
returns-clause-one_row c = one_row

pub returns-clause-rows : goal.returns-clause-rows
returns-clause-rows c r p h = (row_in_is r p, λ (w, a, e). row_is_in r p h w a e)

pub returns-clause-calendar : goal.returns-clause-calendar
returns-clause-calendar c = calendar_told

pub returns-clause-committed : goal.returns-clause-committed
returns-clause-committed c = committed_told

pub returns-clause-errors : goal.returns-clause-errors
returns-clause-errors c = errors_told

pub returns-clause-absent : goal.returns-clause-absent
returns-clause-absent c = none_in_room
