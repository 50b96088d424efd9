use Rattle.std.proofs.Common.{◌≡◌, ◌&&◌, drop}
use Rattle.std.specs.List.{list_all}
use Rattle.mr_model.specs.Writes.{is_server, is_count}
use Rattle.mr_base.specs.PositionCounts.{counts_of_pairs}
use Rattle.mr_base.proofs.positions.counts_are_within_limits.Given as goal

abbrev pub invariant-loop-server : goal.invariant-loop-server
invariant-loop-server l =
    list_all (λ c. is_server c.server && is_count c.count) (counts_of_pairs l.counts)
    ≡ list_all (λ c. is_server c.server && is_count c.count) (counts_of_pairs (drop l.server-index l.counts))
