use Rattle.mr_branches.specs.Sights.{sight_of}
use Rattle.mr_calls.proofs.CallChains.{calls_happen}
use Rattle.mr_calls.proofs.WayCalls.{exchange_calls, serving_calls}
use Rattle.mr_calls.proofs.laws.commands_law.Goals as goal

pub returns-clause-exchanges : goal.returns-clause-exchanges
returns-clause-exchanges g c = exchange_calls g.K.Keeper

pub returns-clause-serves : goal.returns-clause-serves
returns-clause-serves g c = serving_calls g.K.Keeper

pub returns-clause-happen : goal.returns-clause-happen
returns-clause-happen g c = calls_happen (sight_of g.K.Keeper)
