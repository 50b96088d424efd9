use Rattle.mr_net.proofs.ServingLaws.{SoMany}
use Rattle.mr_net.proofs.serving.serve_all.Given as goal

-- a line for each connection so far is printed
abbrev pub invariant-loop : goal.invariant-loop
invariant-loop g l = SoMany g.K.Keeper l.initial.service l.service l.counter (g.W.Write.contents l.initial.out) (g.W.Write.contents l.out)
