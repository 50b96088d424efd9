use Rattle.std.proofs.Common.{◌≡◌, take, map}
use Rattle.std.specs.List.{AllByRecursion, filter}
use Rattle.mr_tables.specs.Boards.{error_entry, put_entries, IsRowWithin}
use Rattle.mr_part.specs.RowTests.{has_error}
use Rattle.mr_part.proofs.scope.board.put_logged.Given as goal

-- those of the rows so far that pass are put, and are within the limits
abbrev pub invariant-loop-row : goal.invariant-loop-row
invariant-loop-row l =
    (l.board ≡ put_entries (map error_entry (filter (has_error l.test) (take l.row-index l.rows))) l.fn.board)
    × AllByRecursion (λ r. IsRowWithin r.n r.start r.stop) (filter (has_error l.test) (take l.row-index l.rows))
