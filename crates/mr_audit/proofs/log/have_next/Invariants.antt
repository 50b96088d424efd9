use Rattle.std.proofs.Common.{◌≡◌, ◌||◌, drop, map}
use Rattle.std.specs.List.{list_all}
use Rattle.mr_model.specs.Queries.{log_id}
use Rattle.mr_agree.specs.Agreeing.{is_last, next_id, is_in_log}
use Rattle.mr_audit.proofs.log.have_next.Given as goal

-- all pass where the rows that are left do
abbrev pub invariant-loop-row : goal.invariant-loop-row
invariant-loop-row l = list_all (λ id. is_last l.tables id || is_in_log l.tables (next_id id)) (map log_id l.rows)
    ≡ list_all (λ id. is_last l.tables id || is_in_log l.tables (next_id id)) (map log_id (drop l.row-index l.rows))
