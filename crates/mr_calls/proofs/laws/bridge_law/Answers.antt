use Rattle.mr_calls.proofs.WayCalls.{client_calls, server_calls}
use Rattle.mr_calls.proofs.laws.bridge_law.Goals as goal

pub returns-clause-clients : goal.returns-clause-clients
returns-clause-clients g c = client_calls g.C.Keeper g.S.Keeper

pub returns-clause-servers : goal.returns-clause-servers
returns-clause-servers g c = server_calls g.C.Keeper g.S.Keeper
