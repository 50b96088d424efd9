use Rattle.sqlite_value.specs.Order.{column}
use Rattle.mr_rows.proofs.ChoiceLemmas.{choices_unread}
use Rattle.mr_rows.proofs.choices.read_choices.Goals as goal

pub returns-clause-refused : goal.returns-clause-refused
returns-clause-refused c = choices_unread _ c.args.length (column c.args.row.now c.args.at) c.read_text.result c.read_text.ensures.refused
