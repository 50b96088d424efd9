use Rattle.mr_net.proofs.ExchangeLaws.{exchanged_as}
use Rattle.mr_net.proofs.exchanging.exchange_keeper.Goals as goal

pub returns-clause-runs : goal.returns-clause-runs
returns-clause-runs g c =
    exchanged_as _ c.remembered-service.result c.exchange_as-service.result.0 c.args.keeper c.released.result (g.W.Write.contents c.args.out.now)
    (g.W.Write.contents c.exchange_as-service.new.out) c.exchange_as-service.result.1 c.remembered-service.ensures c.released.ensures c.exchange_as-service.ensures.runs
