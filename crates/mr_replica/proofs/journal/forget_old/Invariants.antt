use Rattle.std.proofs.Common.{◌≡◌, length}
use Rattle.mr_replica.proofs.journal.forget_old.Given as goal

abbrev pub invariant-loop-old : goal.invariant-loop-old
invariant-loop-old g l = l.table.rows ≡ l.fn.table.rows

abbrev pub decreases-loop-old : goal.decreases-loop-old
decreases-loop-old g l = length l.left.items
