use Rattle.std.proofs.Common.{sym}
use Rattle.mr_tasks.proofs.databases.on_keeper.Goals as goal

pub returns : goal.returns
returns g c = rw (sym c.new-service.ensures, c.into_keeper.ensures) c.perform-status.ensures
