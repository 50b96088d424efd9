use Rattle.sqlite.proofs.Callers.{memory_is_clean}
use Rattle.mr_sql.proofs.first_keeper.first_memory_is_honest.Goals as goal

pub returns-clause-clean : goal.returns-clause-clean
returns-clause-clean c = memory_is_clean c.args.keeper.now
