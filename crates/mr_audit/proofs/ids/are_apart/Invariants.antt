use Rattle.std.proofs.Common.{◌≡◌, drop, map}
use Rattle.mr_audit.specs.SideBySide.{are_apart}
use Rattle.mr_audit.proofs.ids.are_apart.Given as goal

-- all are apart where the rows that are left are
abbrev pub invariant-loop-row : goal.invariant-loop-row
invariant-loop-row g l = are_apart (map g.R.IdRow.id l.rows) (map g.S.IdRow.id l.others) ≡ are_apart (map g.R.IdRow.id (drop l.row-index l.rows)) (map g.S.IdRow.id l.others)
