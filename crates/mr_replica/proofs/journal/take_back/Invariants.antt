use Rattle.std.proofs.Common.{◌≡◌}
use Rattle.mr_replica.proofs.journal.take_back.Given as goal

abbrev pub invariant-loop-row : goal.invariant-loop-row
invariant-loop-row g l = l.table.rows ≡ l.initial.table.rows
