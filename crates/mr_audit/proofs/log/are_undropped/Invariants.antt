use Rattle.std.proofs.Common.{◌≡◌, not, drop}
use Rattle.std.specs.List.{list_all}
use Rattle.mr_model.specs.Texts.{within}
use Rattle.mr_model.specs.Tables.{LogRow}
use Rattle.mr_audit.proofs.log.are_undropped.Given as goal

-- all pass where the rows that are left do
abbrev pub invariant-loop-row : goal.invariant-loop-row
invariant-loop-row l = list_all (λ (row : LogRow). not (within 1 l.tables.meta.dropped row.seq)) l.rows
    ≡ list_all (λ (row : LogRow). not (within 1 l.tables.meta.dropped row.seq)) (drop l.row-index l.rows)
