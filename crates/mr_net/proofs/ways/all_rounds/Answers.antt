use Rattle.std.proofs.Common.{subst, sym, ◌∙◌, ◌+◌, Ok}
use Rattle.mr_net.specs.declared.ways.Taken.{Taken}
use Rattle.mr_net.specs.Ways.{IsWay}
use Rattle.mr_net.proofs.WayLaws.{SoFar, last_round, one_more}
use Rattle.mr_net.proofs.ways.all_rounds.Goals as goal

pub returns-then-not-asks_for_more : goal.returns-then-not-asks_for_more
returns-then-not-asks_for_more g c =
    let P : Taken → Type 0 = λ t. IsWay (g.P.Peer.runs c.args.way) c.args.peer.now (Ok t) c.round.new.self in
    subst P (sym c.and-taken.ensures)
    (last_round (g.P.Peer.runs c.args.way) c.args.peer.now c.loop.peer c.round.new.self c.loop.counter c.loop.taken c.in_ok-round.round c.loop.invariant
    c.loop-test.true c.in_ok-round.ensures (sym c.asks_for_more.ensures ∙ c.if-not-asks_for_more.true))

pub loop-preserved : goal.loop-preserved
loop-preserved g c =
    let P : Taken → Type 0 = λ t. SoFar (g.P.Peer.runs c.args.way) c.args.peer.now (c.loop.counter + 1) t c.round.new.self in
    subst P (sym c.and-taken.ensures)
    (one_more (g.P.Peer.runs c.args.way) c.args.peer.now c.loop.peer c.round.new.self c.loop.counter c.loop.taken c.in_ok-round.round c.loop.invariant
    c.in_ok-round.ensures (sym c.asks_for_more.ensures ∙ c.if-not-asks_for_more.false))
