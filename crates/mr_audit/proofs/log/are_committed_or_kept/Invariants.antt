use Rattle.std.proofs.Common.{◌≡◌, ◌||◌, drop, map}
use Rattle.std.specs.List.{list_all}
use Rattle.mr_agree.specs.Agreeing.{is_first, is_in_log}
use Rattle.mr_audit.proofs.log.are_committed_or_kept.Given as goal

-- all pass where the rows that are left do
abbrev pub invariant-loop-row : goal.invariant-loop-row
invariant-loop-row g l = list_all (λ id. is_first l.tables id || is_in_log l.tables id) (map g.R.IdRow.id l.rows)
    ≡ list_all (λ id. is_first l.tables id || is_in_log l.tables id) (map g.R.IdRow.id (drop l.row-index l.rows))
