use Rattle.std.proofs.Common.{◌≡◌, take, map}
use Rattle.mr_audit.proofs.apart_rows.references.Given as goal

-- those of the rows so far
abbrev pub invariant-loop-row : goal.invariant-loop-row
invariant-loop-row l = map (λ row. row.now) l.all.items ≡ take l.row-index l.rows
