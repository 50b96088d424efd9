use Rattle.mr_calls.proofs.TaskChains.{questions_calls}
use Rattle.mr_calls.proofs.tasks.questions_law.Goals as goal

pub returns : goal.returns
returns g c = questions_calls g.K.Keeper g.C.Keeper
