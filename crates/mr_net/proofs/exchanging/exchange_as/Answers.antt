use Rattle.mr_net.specs.ExchangeRounds.{RunsRound}
use Rattle.mr_net.proofs.ExchangeLaws.{both_seen, exchanged}
use Rattle.mr_net.proofs.exchanging.exchange_as.Goals as goal

pub returns-clause-runs : goal.returns-clause-runs
returns-clause-runs g c =
    both_seen (λ p. p.service) _ (RunsRound g.K.Keeper) (λ way p r q ran. ran) _ c.exchange_with-status.new.peer (g.W.Write.contents c.args.out.now)
    (g.W.Write.contents c.exchange_with-status.new.out) c.exchange_with-status.result c.exchange_with-status.ensures

pub returns-clause-ends : goal.returns-clause-ends
returns-clause-ends g c =
    exchanged (RunsRound g.K.Keeper) c.args.service c.exchange_with-status.new.peer.service (g.W.Write.contents c.args.out.now)
    (g.W.Write.contents c.exchange_with-status.new.out) c.exchange_with-status.result (returns-clause-runs g c)
