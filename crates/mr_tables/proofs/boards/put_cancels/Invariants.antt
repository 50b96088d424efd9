use Rattle.std.proofs.Common.{◌≡◌, take, map}
use Rattle.std.specs.List.{filter}
use Rattle.mr_tables.specs.Boards.{cancel_entry, is_void, put_entries}
use Rattle.mr_tables.proofs.boards.put_cancels.Given as goal

-- those of the rows so far that are void are put
abbrev pub invariant-loop-row : goal.invariant-loop-row
invariant-loop-row l = l.board ≡ put_entries (map cancel_entry (filter is_void (take l.row-index l.rows))) l.fn.board
