use Rattle.std.proofs.Common.{◌≡◌, ◌≤◌, ◌*◌, take}
use Rattle.std.specs.List.{sum_by}
use Rattle.mr_model.specs.Tables.{VectorRow}
use Rattle.mr_audit.proofs.known.write_count.Given as goal

-- the total of the rows so far
abbrev pub invariant-loop-row : goal.invariant-loop-row
invariant-loop-row l = (l.total ≡ sum_by (λ (r : VectorRow). r.count) (take l.row-index l.rows)) × (l.total ≤ 4_294_967_296 * l.row-index)
