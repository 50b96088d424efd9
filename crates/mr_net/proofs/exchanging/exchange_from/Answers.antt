use Rattle.mr_base.specs.RefusalViews.{refusal_of}
use Rattle.mr_net.proofs.ExchangeLaws.{refused_exchange}
use Rattle.mr_net.proofs.exchanging.exchange_from.Goals as goal

pub returns-in-Err : goal.returns-in-Err
returns-in-Err g c =
    refused_exchange (refusal_of c.in-Err.refusal) (g.W.Write.contents c.args.out.now) (g.W.Write.contents c.say_refusal.new.out) c.say_refusal.result
    c.say_refusal.ensures.status c.say_refusal.ensures.told
