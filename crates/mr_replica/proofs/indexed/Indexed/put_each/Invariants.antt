use Rattle.std.proofs.Common.{◌≡◌}
use Rattle.mr_tables.specs.Change.{id_before, put_all}
use Rattle.mr_replica.proofs.indexed.Indexed.put_each.Given as goal

-- with the rows that are left it comes to what all of them make
abbrev pub invariant-loop-row : goal.invariant-loop-row
invariant-loop-row g l = put_all id_before g.R.IdRow.id l.row-iterator.rest.items l.self.rows ≡ put_all id_before g.R.IdRow.id l.fn.rows.items l.fn.self.rows
