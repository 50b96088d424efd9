use Rattle.std.proofs.Common.{◌≡◌, drop}
use Rattle.std.specs.List.{list_all}
use Rattle.mr_model.specs.Tables.{LogRow}
use Rattle.mr_agree.specs.Agreeing.{is_at_place}
use Rattle.mr_audit.proofs.places.are_at_places.Given as goal

-- all are at their places where the rows that are left are
abbrev pub invariant-loop-row : goal.invariant-loop-row
invariant-loop-row l =
    list_all (λ (row : LogRow). is_at_place l.tables row row.action row.place) l.rows
    ≡ list_all (λ (row : LogRow). is_at_place l.tables row row.action row.place) (drop l.row-index l.rows)
