use Rattle.std.proofs.Common.{sym}
use Rattle.mr_rows.proofs.ChoiceLemmas.{start_of_text}
use Rattle.mr_rows.proofs.choices.is_start_text.Goals as goal

pub returns-in-Err : goal.returns-in-Err
returns-in-Err c = sym (start_of_text c.args.length c.args.text.now c.in-Err.ensures.cases.0)
