use Rattle.std.proofs.Common.{◌≡◌}
use Rattle.mr_model.specs.Texts.{numbers_on}
use Rattle.mr_base.specs.PositionCounts.{counts_of_pairs}
use Rattle.mr_tables.specs.Summary.{counts_in}
use Rattle.mr_tables.proofs.summary.Summary.counts.Given as goal

-- the counts of the first servers
abbrev pub invariant-loop-k : goal.invariant-loop-k
invariant-loop-k l = counts_of_pairs l.counts.items ≡ counts_in l.self.tallies (numbers_on 1 l.k)
