use Rattle.mr_net.proofs.BridgeLaws.{one_served}
use Rattle.mr_net.proofs.bridging.Neighbour.serve.Goals as goal

pub returns-clause-server : goal.returns-clause-server
returns-clause-server g c = one_served g.S.Keeper c.args.self.now.server c.serve.new.service c.serve.result c.serve.ensures
