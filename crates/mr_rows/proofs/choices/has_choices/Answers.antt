use Rattle.std.proofs.Common.{◌∙◌}
use Rattle.sqlite_value.specs.Order.{column}
use Rattle.mr_rows.proofs.ChoiceLemmas.{choices_told}
use Rattle.mr_rows.proofs.choices.has_choices.Goals as goal

pub returns-in-Ok : goal.returns-in-Ok
returns-in-Ok c = c.are_choices.ensures
    ∙ choices_told c.args.length c.in-Ok.text.now c.as_bytes.result.now (column c.args.row.now c.args.at) c.in-Ok.ensures.cell c.as_bytes.ensures.value c.in-Ok.ensures.utf8
