use Rattle.std.proofs.Common.{◌≡◌, ◌||◌, not, drop}
use Rattle.std.specs.List.{list_all, list_any}
use Rattle.mr_model.specs.Tables.{CancelRow}
use Rattle.mr_agree.specs.Agreeing.{is_taken_by}
use Rattle.mr_audit.proofs.cancels.are_done.Given as goal

-- all are where the rows that are left are
abbrev pub invariant-loop-row : goal.invariant-loop-row
invariant-loop-row l = list_all (λ (c : CancelRow). not c.done || list_any (is_taken_by c) l.tables.cancelled) l.rows
    ≡ list_all (λ (c : CancelRow). not c.done || list_any (is_taken_by c) l.tables.cancelled) (drop l.row-index l.rows)
