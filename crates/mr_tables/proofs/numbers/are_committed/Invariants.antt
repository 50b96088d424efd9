use Rattle.std.proofs.Common.{◌≡◌, ◌+◌, take}
use Rattle.std.specs.List.{sum_by}
use Rattle.mr_model.specs.Tables.{VectorRow}
use Rattle.mr_tables.proofs.numbers.are_committed.Given as goal

-- what is left, with the committed writes of the rows so far
abbrev pub invariant-loop-row : goal.invariant-loop-row
invariant-loop-row l = l.left + sum_by (λ (r : VectorRow). r.committed) (take l.row-index l.rows) ≡ l.commits
