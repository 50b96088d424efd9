use Rattle.mr_model.proofs.ServedTables.{takes_nothing, takes_run_grows, takes_run_serves, failure_step, reaches_all, reaches_step, step_of_all}
use Rattle.mr_model.proofs.replicas.serving_law.Goals as goal

pub returns-clause-nothing : goal.returns-clause-nothing
returns-clause-nothing c = takes_nothing

pub returns-clause-grow : goal.returns-clause-grow
returns-clause-grow c = takes_run_grows

pub returns-clause-serve : goal.returns-clause-serve
returns-clause-serve c = takes_run_serves

pub returns-clause-one_step : goal.returns-clause-one_step
returns-clause-one_step c = step_of_all

pub returns-clause-one_after : goal.returns-clause-one_after
returns-clause-one_after c = reaches_all

pub returns-clause-reaching : goal.returns-clause-reaching
returns-clause-reaching c = reaches_step

pub returns-clause-failures : goal.returns-clause-failures
returns-clause-failures c = failure_step
