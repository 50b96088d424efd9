use Rattle.mr_base.specs.RefusalViews.{refusal_of}
use Rattle.mr_net.proofs.ExchangeLaws.{refused_exchange}
use Rattle.mr_net.proofs.bridging.bridge_to.Goals as goal

pub returns-in-Err : goal.returns-in-Err
returns-in-Err g c =
    refused_exchange (refusal_of c.in-Err.refusal) (g.W.Write.contents c.args.out.now) (g.W.Write.contents c.say_refusal-status.new.out) c.say_refusal-status.result
    c.say_refusal-status.ensures.status c.say_refusal-status.ensures.told
