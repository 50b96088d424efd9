use Rattle.std.proofs.Common.{◌≡◌, drop}
use Rattle.mr_model.specs.Replica.{is_among}
use Rattle.mr_tables.proofs.table_row.is_of_any.Given as goal

-- whether the row is of any is what the writes that are left say
abbrev pub invariant-loop-write : goal.invariant-loop-write
invariant-loop-write g l = is_among (g.R.IdRow.id l.row) l.writes ≡ is_among (g.R.IdRow.id l.row) (drop l.write-index l.writes)
