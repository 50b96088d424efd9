use Rattle.std.proofs.Common.{◌≡◌}
use Rattle.mr_words.specs.CommandOutput.{no_memory_line}
use Rattle.mr_net.specs.Printed.{serving_line}
use Rattle.mr_net.proofs.PrintedLines.{was_told}
use Rattle.mr_net.proofs.ServingLaws.{served_behind}
use Rattle.mr_net.proofs.serving.serve_at.Goals as goal

pub returns : goal.returns
returns g c =
    served_behind g.K.Keeper c.args.service.now c.serve_all.new.service c.args.port c.args.connections (g.W.Write.contents c.args.out.now) (g.W.Write.contents c.say_serving-status.new.out)
    (g.W.Write.contents c.serve_all.new.out) c.serve_all.result
    (was_told (λ text. text ≡ no_memory_line) (serving_line c.args.port) (g.W.Write.contents c.args.out.now) (g.W.Write.contents c.say_serving-status.new.out)
    c.say_serving-status.result c.if-status-ne-DONE.false c.say_serving-status.ensures)
    c.serve_all.ensures
