use Rattle.std.proofs.Common.{◌≡◌, ◌||◌, drop, map}
use Rattle.mr_model.specs.Writes.{Id}
use Rattle.mr_model.specs.Queries.{log_id}
use Rattle.mr_model.specs.Replica.{is_among}
use Rattle.mr_part.specs.Sets.{has_id}
use Rattle.mr_part.proofs.scope.commits.ids_of.Given as goal

-- with those of the rows that are left, the ids are those of all
abbrev pub invariant-loop-row : goal.invariant-loop-row
invariant-loop-row l =
    (id : Id) → (has_id l.ids id || is_among id (map log_id (map (λ r. r.now) (drop l.row-index l.rows)))) ≡ is_among id (map log_id (map (λ r. r.now) l.rows))
