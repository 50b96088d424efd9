use Rattle.mr_base.specs.PositionCounts.{counts_of_pairs}
use Rattle.mr_wire.proofs.LoopLaws.{no_more_there, more_there}
use Rattle.mr_wire.proofs.positions.if_last.Goals as goal

pub returns-in-None : goal.returns-in-None
returns-in-None c = no_more_there (counts_of_pairs c.args.counts.items) c.args.behind.now c.in-None.ensures.value

pub returns-in-Some : goal.returns-in-Some
returns-in-Some c = more_there (counts_of_pairs c.args.counts.items) c.args.behind.now _ c.in-Some.ensures.value
