use Rattle.std.specs.String.{string_bytes}
use Rattle.mr_net.specs.Printed.{way_line}
use Rattle.mr_net.proofs.PrintedLines.{line_told}
use Rattle.mr_net.proofs.printing.say_taken.Goals as goal

pub returns : goal.returns
returns g c =
    line_told string_bytes c.way_text.result (way_line c.args.way c.args.taken) (g.W.Write.contents c.args.out.now) (g.W.Write.contents c.say_made.new.out) c.say_made.result
    c.way_text.ensures c.say_made.ensures.made c.say_made.ensures.memory
