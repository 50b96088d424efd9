use Rattle.std.proofs.Common.{◌≡◌, take, map}
use Rattle.std.specs.List.{AllByRecursion}
use Rattle.mr_tables.specs.Boards.{cancelled_entry, put_entries, IsRowWithin}
use Rattle.mr_tables.proofs.boards.put_cancelled.Given as goal

-- the rows so far are put, and are within the limits
abbrev pub invariant-loop-row : goal.invariant-loop-row
invariant-loop-row l =
    (l.board ≡ put_entries (map cancelled_entry (take l.row-index l.rows)) l.fn.board)
    × AllByRecursion (λ r. IsRowWithin r.n r.start r.stop) (take l.row-index l.rows)
