use Rattle.std.proofs.Common.{◌≡◌, ◌++◌}
use Rattle.mr_replica.proofs.indexed.Indexed.copies.Given as goal

abbrev pub invariant-loop-row : goal.invariant-loop-row
invariant-loop-row g l = l.rows.items ++ l.row-iterator ≡ l.self.rows
