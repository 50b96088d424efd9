use Rattle.std.proofs.Common.{ap, sym, ◌∙◌}
use Rattle.mr_model.specs.Tables.{LogRow}
use Rattle.mr_part.specs.KeptRows.{kept_row_with}
use Rattle.mr_part.specs.WithoutChoices.{kept_without_choices}
use Rattle.mr_part.proofs.KeptReading.{told_row}
use Rattle.mr_part.proofs.kept_rows.kept_of.Goals as goal

-- what was compared is told
pub returns-clause-told : goal.returns-clause-told
returns-clause-told c =
    let same = ap (λ (row : LogRow). kept_row_with c.args.write row.seq row.place) c.log.view_is in
    ap kept_without_choices (c.kept_with.ensures ∙ same) ∙ told_row c.args.write c.args.log.now (sym c.is_of_row.ensures ∙ c.if-not-is_of_row.false)
