use Rattle.std.specs.String.{string_bytes}
use Rattle.mr_net.specs.Printed.{peer_line}
use Rattle.mr_net.proofs.PrintedLines.{line_stops}
use Rattle.mr_net.proofs.printing.say_answered.Goals as goal

pub returns : goal.returns
returns g c =
    line_stops string_bytes c.peer_text.result (peer_line c.args.status) (g.W.Write.contents c.args.out.now) (g.W.Write.contents c.say_made.new.out) c.say_made.result
    c.peer_text.ensures c.say_made.ensures.made c.say_made.ensures.memory
