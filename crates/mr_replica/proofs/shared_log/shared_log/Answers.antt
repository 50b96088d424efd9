use Rattle.std.proofs.Common.{sym, subst}
use Rattle.mr_replica.specs.SharedLog.{IsSharedLog}
use Rattle.mr_replica.proofs.SharedLogs.{if_some}
use Rattle.mr_replica.proofs.shared_log.shared_log.Goals as goal

pub returns-in-Ok : goal.returns-in-Ok
returns-in-Ok c = if_some c.shared.result (λ log is. subst (IsSharedLog c.args.table.now.rows) (sym is) c.in-Ok.ensures) c.shared.ensures
