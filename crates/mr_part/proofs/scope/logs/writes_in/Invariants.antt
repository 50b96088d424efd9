use Rattle.std.proofs.Common.{◌≡◌, List, drop, map}
use Rattle.std.specs.List.{filter}
use Rattle.mr_part.specs.declared.kept_rows.KeptRow.{KeptRow}
use Rattle.mr_part.specs.RowTests.{log_row_of, AreWritesWithin, passes_log_test}
use Rattle.mr_part.proofs.Picking.{IsDone}
use Rattle.mr_part.proofs.scope.logs.writes_in.Given as goal

-- the rows so far are read
abbrev pub invariant-loop-row : goal.invariant-loop-row
invariant-loop-row l =
    (xs : List KeptRow) → AreWritesWithin xs → filter (passes_log_test l.test) l.rows ≡ map log_row_of xs
    → IsDone log_row_of xs l.writes.items (filter (passes_log_test l.test) (drop l.row-index l.rows))
