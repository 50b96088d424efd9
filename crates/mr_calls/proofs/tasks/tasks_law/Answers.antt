use Rattle.mr_calls.proofs.TaskChains.{exports_given, openings_reopen, tasks_asked, tasks_calls, tasks_happen}
use Rattle.mr_calls.proofs.tasks.tasks_law.Goals as goal

pub returns-clause-calls : goal.returns-clause-calls
returns-clause-calls g c = tasks_calls g.K.Keeper

pub returns-clause-opens : goal.returns-clause-opens
returns-clause-opens g c = openings_reopen g.K.Keeper

pub returns-clause-happen : goal.returns-clause-happen
returns-clause-happen g c = tasks_happen g.K.Keeper

pub returns-clause-asked : goal.returns-clause-asked
returns-clause-asked g c = tasks_asked

pub returns-clause-given : goal.returns-clause-given
returns-clause-given g c = exports_given g.K.Keeper
