use Rattle.std.proofs.Common.{◌≡◌, drop, map}
use Rattle.std.specs.List.{list_all}
use Rattle.mr_model.specs.Queries.{log_id}
use Rattle.mr_audit.specs.SideBySide.{is_placed}
use Rattle.mr_audit.proofs.log.are_placed.Given as goal

-- all pass where the rows that are left do
abbrev pub invariant-loop-row : goal.invariant-loop-row
invariant-loop-row l = list_all (λ id. is_placed id l.tables) (map log_id l.rows) ≡ list_all (λ id. is_placed id l.tables) (map log_id (drop l.row-index l.rows))
