use Rattle.mr_net.proofs.WayLaws.{SoFar}
use Rattle.mr_net.proofs.ways.all_rounds.Given as goal

-- the rounds so far all asked for more
abbrev pub invariant-loop : goal.invariant-loop
invariant-loop g l = SoFar (g.P.Peer.runs l.way) l.initial.peer l.counter l.taken l.peer
