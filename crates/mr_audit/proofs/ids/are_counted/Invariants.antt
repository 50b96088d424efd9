use Rattle.std.proofs.Common.{◌≡◌, drop, map}
use Rattle.std.specs.List.{list_all}
use Rattle.mr_agree.specs.Agreeing.{is_counted}
use Rattle.mr_audit.proofs.ids.are_counted.Given as goal

-- all are counted where the rows that are left are
abbrev pub invariant-loop-row : goal.invariant-loop-row
invariant-loop-row g l = list_all (is_counted l.tables) (map g.R.IdRow.id l.rows) ≡ list_all (is_counted l.tables) (map g.R.IdRow.id (drop l.row-index l.rows))
