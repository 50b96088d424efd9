use Rattle.mr_rows.proofs.CellLemmas.{the_one}
use Rattle.std.proofs.Common.{◌∙◌, sym}
use Rattle.mr_rows.proofs.actions.read_cancel.Goals as goal

pub returns-clause-kind : goal.returns-clause-kind
returns-clause-kind c = sym c.in_ok-read_number.ensures.number ∙ the_one _ c.in_ok-read_number.ensures.within
