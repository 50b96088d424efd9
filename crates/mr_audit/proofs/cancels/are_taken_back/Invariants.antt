use Rattle.std.proofs.Common.{◌≡◌, drop}
use Rattle.std.specs.List.{list_all, list_any}
use Rattle.mr_model.specs.Tables.{CancelledRow}
use Rattle.mr_agree.specs.Agreeing.{is_taken_by}
use Rattle.mr_audit.proofs.cancels.are_taken_back.Given as goal

-- all are where the rows that are left are
abbrev pub invariant-loop-row : goal.invariant-loop-row
invariant-loop-row l = list_all (λ (row : CancelledRow). list_any (λ c. is_taken_by c row) l.tables.cancels) l.rows
    ≡ list_all (λ (row : CancelledRow). list_any (λ c. is_taken_by c row) l.tables.cancels) (drop l.row-index l.rows)
