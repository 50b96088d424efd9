use Rattle.std.specs.String.{string_bytes}
use Rattle.mr_net.specs.Printed.{serving_line}
use Rattle.mr_net.proofs.PrintedLines.{line_told}
use Rattle.mr_net.proofs.serving.say_serving.Goals as goal

pub returns : goal.returns
returns g c =
    line_told string_bytes c.serving_text.result (serving_line c.args.port) (g.W.Write.contents c.args.out.now) (g.W.Write.contents c.say_made.new.out) c.say_made.result
    c.serving_text.ensures c.say_made.ensures.made c.say_made.ensures.memory
