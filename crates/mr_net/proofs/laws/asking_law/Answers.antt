use Rattle.mr_net.proofs.WayAsks.{bridge_asks, exchange_asks}
use Rattle.mr_net.proofs.laws.asking_law.Goals as goal

pub returns-clause-exchanges : goal.returns-clause-exchanges
returns-clause-exchanges g c = exchange_asks g.C.Keeper

pub returns-clause-bridges : goal.returns-clause-bridges
returns-clause-bridges g c = bridge_asks g.C.Keeper g.S.Keeper
