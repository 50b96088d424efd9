use Rattle.std.proofs.Common.{take}
use Rattle.mr_replica.specs.SharedLog.{AreTold}
use Rattle.mr_replica.proofs.shared_log.told_rows.Given as goal

-- those of the rows so far
abbrev pub invariant-loop-log : goal.invariant-loop-log
invariant-loop-log l = AreTold (take l.log-index l.logs) l.rows.items
