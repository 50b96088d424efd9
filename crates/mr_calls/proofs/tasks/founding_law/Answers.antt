use Rattle.mr_calls.proofs.TaskChains.{inits_found}
use Rattle.mr_calls.proofs.tasks.founding_law.Goals as goal

pub returns : goal.returns
returns g c = inits_found g.K.Keeper
