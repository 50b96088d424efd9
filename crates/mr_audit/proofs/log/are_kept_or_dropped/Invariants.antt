use Rattle.std.proofs.Common.{◌≡◌, not, drop}
use Rattle.std.specs.List.{list_all}
use Rattle.mr_model.specs.Texts.{within}
use Rattle.mr_agree.specs.Agreeing.{same_mark, is_in_log}
use Rattle.mr_audit.proofs.log.are_kept_or_dropped.Given as goal

-- all pass where the rows that are left do
abbrev pub invariant-loop-row : goal.invariant-loop-row
invariant-loop-row g l = list_all (λ row. same_mark (is_in_log l.tables (g.R.IdRow.id row)) (not (within 1 l.tables.meta.dropped (g.R.NoteRow.note row).seq))) l.rows
    ≡ list_all (λ row. same_mark (is_in_log l.tables (g.R.IdRow.id row)) (not (within 1 l.tables.meta.dropped (g.R.NoteRow.note row).seq))) (drop l.row-index l.rows)
