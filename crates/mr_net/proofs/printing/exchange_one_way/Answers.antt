use Rattle.std.proofs.Common.{inr, Err}
use Rattle.mr_net.proofs.ExchangeLaws.{way_told}
use Rattle.mr_net.proofs.printing.exchange_one_way.Goals as goal

pub returns-in-Ok : goal.returns-in-Ok
returns-in-Ok g c =
    way_told g.P.Peer.runs c.args.way c.args.peer.now c.all_rounds.new.peer (g.W.Write.contents c.args.out.now) (g.W.Write.contents c.say_taken.new.out) c.say_taken.result
    c.in-Ok.taken c.in-Ok.ensures c.say_taken.ensures

pub returns-in-Err : goal.returns-in-Err
returns-in-Err g c = inr (Err c.in-Err.fault, c.in-Err.ensures, c.say_fault.ensures)
