use Rattle.std.proofs.Common.{◌≡◌, max, drop, map}
use Rattle.mr_model.specs.Replica.{greatest}
use Rattle.mr_model.specs.Tables.{VectorRow}
use Rattle.mr_tables.proofs.numbers.latest_time.Given as goal

-- with the times that are left it is the greatest of all
abbrev pub invariant-loop-row : goal.invariant-loop-row
invariant-loop-row l = max l.latest (greatest (map (λ (r : VectorRow). r.last_time) (drop l.row-index l.rows))) ≡ greatest (map (λ (r : VectorRow). r.last_time) l.rows)
