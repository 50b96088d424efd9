use Rattle.std.proofs.Common.{◌≡◌, map, take}
use Rattle.mr_model.specs.Writes.{id_of}
use Rattle.mr_part.specs.KeptRows.{row_writes}
use Rattle.mr_part.proofs.kept_rows.row_ids.Given as goal

-- those of the rows so far
abbrev pub invariant-loop-row : goal.invariant-loop-row
invariant-loop-row l = l.ids.items ≡ map id_of (row_writes (take l.row-index l.rows))
