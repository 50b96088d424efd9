use Rattle.std.proofs.Common.{◌≡◌, take}
use Rattle.mr_tables.proofs.table_row.copies_of.Given as goal

abbrev pub invariant-loop-row : goal.invariant-loop-row
invariant-loop-row g l = l.copies.items ≡ take l.row-index l.rows
