use Rattle.std.proofs.Common.{◌≡◌, true, take, ◌⊎◌}
use Rattle.mr_model.specs.Dropped.{Has}
use Rattle.mr_model.specs.Queries.{log_id}
use Rattle.mr_model.specs.Tables.{LogRow}
use Rattle.mr_part.specs.Sets.{has_id}
use Rattle.mr_tables.specs.Change.{id_before, put_all}
use Rattle.mr_replica.specs.SharedLog.{IsSharedLog}
use Rattle.mr_replica.proofs.shared_log.put_each.Given as goal

-- the rows so far are put, and their ids are known
abbrev pub invariant-loop-log : goal.invariant-loop-log
invariant-loop-log l =
    (IsSharedLog l.table.rows l.fn.rows.items → IsSharedLog (put_all id_before log_id (take l.log-index l.news) l.table.rows) l.rows.items)
    × ((row : LogRow) → Has row (put_all id_before log_id (take l.log-index l.news) l.table.rows) → Has row l.table.rows ⊎ (has_id l.put (log_id row) ≡ true))
