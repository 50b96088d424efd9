use Rattle.std.proofs.Common.{◌≡◌}
use Rattle.mr_model.specs.Texts.{line}
use Rattle.mr_words.specs.CommandOutput.{no_memory_line}
use Rattle.mr_net.specs.Printed.{connection_text}
use Rattle.mr_net.proofs.PrintedLines.{was_told}
use Rattle.mr_net.proofs.ServingLaws.{not_taken, one_more, stopped}
use Rattle.mr_net.proofs.serving.serve_all.Goals as goal

pub returns-in_default : goal.returns-in_default
returns-in_default g c =
    not_taken g.K.Keeper c.args.service.now c.loop.service c.serve_next.new.service c.args.connections c.loop.counter (g.W.Write.contents c.args.out.now)
    (g.W.Write.contents c.loop.out) (g.W.Write.contents c.say_no_network.new.out) c.say_no_network.result c.loop.invariant c.loop-test.true c.in_default.ensures.unasked
    c.say_no_network.ensures

pub returns-then-status-ne-DONE : goal.returns-then-status-ne-DONE
returns-then-status-ne-DONE g c =
    stopped g.K.Keeper c.args.service.now c.loop.service c.serve_next.new.service c.args.connections c.loop.counter c.in-Ok.served (g.W.Write.contents c.args.out.now)
    (g.W.Write.contents c.loop.out) (g.W.Write.contents c.say_served-status.new.out) c.say_served-status.result c.loop.invariant c.loop-test.true c.in-Ok.ensures.came
    c.if-status-ne-DONE.true c.say_served-status.ensures

pub loop-preserved : goal.loop-preserved
loop-preserved g c =
    one_more g.K.Keeper c.args.service.now c.loop.service c.serve_next.new.service c.loop.counter c.in-Ok.served (g.W.Write.contents c.args.out.now)
    (g.W.Write.contents c.loop.out) (g.W.Write.contents c.say_served-status.new.out) c.loop.invariant c.in-Ok.ensures.came
    (was_told (λ text. text ≡ no_memory_line) (line (connection_text c.in-Ok.served)) (g.W.Write.contents c.loop.out) (g.W.Write.contents c.say_served-status.new.out)
    c.say_served-status.result c.if-status-ne-DONE.false c.say_served-status.ensures)
