use Rattle.std.proofs.Common.{◌≡◌, drop}
use Rattle.mr_model.specs.Positions.{count_among}
use Rattle.mr_base.specs.PositionCounts.{counts_of_pairs}
use Rattle.mr_part.proofs.calls.outgoing.count_in.Given as goal

-- it is among the counts that are left
abbrev pub invariant-loop-count : goal.invariant-loop-count
invariant-loop-count l = count_among (counts_of_pairs l.counts) l.server ≡ count_among (counts_of_pairs (drop l.count-index l.counts)) l.server
