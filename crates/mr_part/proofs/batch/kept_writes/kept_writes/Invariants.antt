use Rattle.std.specs.Vec.{vec_len}
use Rattle.mr_part.proofs.KeptWrites.{IsFilled}
use Rattle.mr_part.proofs.batch.kept_writes.kept_writes.Given as goal

-- behind the rows that are left stand those whose writes are there
abbrev pub invariant-loop-row : goal.invariant-loop-row
invariant-loop-row l = IsFilled l.fn.rows.items l.left.items l.kept

abbrev pub decreases-loop-row : goal.decreases-loop-row
decreases-loop-row l = vec_len l.left
