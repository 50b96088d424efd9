use Rattle.mr_net.proofs.ExchangeLaws.{bridged_as}
use Rattle.mr_net.proofs.bridging.bridge_keepers.Goals as goal

pub returns-clause-runs : goal.returns-clause-runs
returns-clause-runs g c =
    bridged_as _ _ c.remembered-client.result c.bridge_between-client.result.0 c.args.client c.released.result
    c.remembered-server.result c.bridge_between-client.result.1 c.args.server c.released-2.result (g.W.Write.contents c.args.out.now)
    (g.W.Write.contents c.bridge_between-client.new.out) c.bridge_between-client.result.2 c.remembered-client.ensures c.remembered-server.ensures
    c.released.ensures c.released-2.ensures c.bridge_between-client.ensures.runs
