use Rattle.std.proofs.Common.{refl}
use Rattle.mr_tasks.proofs.DatabaseLaws.{as_task}
use Rattle.mr_tasks.proofs.tasks.command_for.Goals as goal

pub returns-in-Local : goal.returns-in-Local
returns-in-Local g c = as_task _ _ _ c.in-Local.is (refl, refl)
