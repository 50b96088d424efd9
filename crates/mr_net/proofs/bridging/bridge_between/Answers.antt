use Rattle.std.proofs.Common.{inl, inr, refl}
use Rattle.mr_net.specs.ExchangeRounds.{RunsBridged}
use Rattle.mr_net.proofs.ExchangeLaws.{both_seen, bridged}
use Rattle.mr_net.proofs.bridging.bridge_between.Goals as goal

pub returns-in-Err-clause-ends : goal.returns-in-Err-clause-ends
returns-in-Err-clause-ends g c =
    bridged g.C.Keeper g.S.Keeper (c.args.client, c.args.server) (c.args.client, c.args.server) (g.W.Write.contents c.args.out.now)
    (g.W.Write.contents c.say_unmet-status.new.out) c.say_unmet-status.result (inr (refl, c.say_unmet-status.ensures))

pub returns-clause-runs : goal.returns-clause-runs
returns-clause-runs g c =
    inl (both_seen (λ p. (p.client, p.server)) _ (RunsBridged g.C.Keeper g.S.Keeper) (λ way p r q ran. ran) _ c.exchange_with-status.new.peer (g.W.Write.contents c.args.out.now)
    (g.W.Write.contents c.exchange_with-status.new.out) c.exchange_with-status.result c.exchange_with-status.ensures)

pub returns-clause-ends : goal.returns-clause-ends
returns-clause-ends g c =
    bridged g.C.Keeper g.S.Keeper (c.args.client, c.args.server) (c.exchange_with-status.new.peer.client, c.exchange_with-status.new.peer.server)
    (g.W.Write.contents c.args.out.now) (g.W.Write.contents c.exchange_with-status.new.out) c.exchange_with-status.result (returns-clause-runs g c)
