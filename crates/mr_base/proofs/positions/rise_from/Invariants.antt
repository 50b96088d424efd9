use Rattle.std.proofs.Common.{◌≡◌, drop}
use Rattle.mr_base.specs.PositionCounts.{counts_of_pairs, are_rising_above}
use Rattle.mr_base.proofs.positions.rise_from.Given as goal

abbrev pub invariant-loop-server : goal.invariant-loop-server
invariant-loop-server l = are_rising_above l.fn.first (counts_of_pairs l.counts) ≡ are_rising_above l.last (counts_of_pairs (drop l.server-index l.counts))
