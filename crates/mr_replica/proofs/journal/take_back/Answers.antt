use Rattle.std.proofs.Common.{◌∙◌}
use Rattle.mr_replica.proofs.journal.take_back.Goals as goal

pub returns : goal.returns
returns g c = λ before h. c.loop-row.invariant ∙ c.go_back.ensures before h
