use Rattle.std.proofs.Common.{sym, subst}
use Rattle.mr_model.specs.Queries.{log_id}
use Rattle.mr_tables.specs.Change.{id_before, put_all}
use Rattle.mr_replica.specs.SharedLog.{IsSharedLog}
use Rattle.mr_replica.proofs.SharedLogs.{if_some}
use Rattle.mr_replica.proofs.shared_log.shared_with.Goals as goal

pub returns-in-Ok : goal.returns-in-Ok
returns-in-Ok c = λ old.
    if_some c.shared.result (λ log is. subst (IsSharedLog (put_all id_before log_id c.args.news.now c.args.table.now.rows)) (sym is) (c.in-Ok.ensures old)) c.shared.ensures
