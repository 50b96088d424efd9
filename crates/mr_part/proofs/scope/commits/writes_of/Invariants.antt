use Rattle.std.proofs.Common.{◌≡◌, List, drop, map}
use Rattle.mr_part.specs.declared.kept_rows.KeptRow.{KeptRow}
use Rattle.mr_part.specs.RowTests.{log_row_of, AreWritesWithin}
use Rattle.mr_part.proofs.Picking.{IsDone}
use Rattle.mr_part.proofs.scope.commits.writes_of.Given as goal

-- the rows so far are read
abbrev pub invariant-loop-row : goal.invariant-loop-row
invariant-loop-row l = (xs : List KeptRow) → AreWritesWithin xs → map (λ row. row.now) l.rows ≡ map log_row_of xs → IsDone log_row_of xs l.writes.items (map (λ row. row.now) (drop l.row-index l.rows))
