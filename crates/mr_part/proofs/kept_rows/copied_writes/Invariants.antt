use Rattle.std.proofs.Common.{◌≡◌, take}
use Rattle.mr_part.specs.KeptRows.{row_writes}
use Rattle.mr_part.proofs.kept_rows.copied_writes.Given as goal

-- those of the rows so far
abbrev pub invariant-loop-row : goal.invariant-loop-row
invariant-loop-row l = l.writes.items ≡ row_writes (take l.row-index l.rows)
