use Rattle.mr_rows.proofs.SureTexts.{asks_meta}
use Rattle.mr_rows.proofs.queries.select_all_meta.Goals as goal

pub returns-clause-looks : goal.returns-clause-looks
returns-clause-looks g c under two = c.ask_all.ensures.looks under 0 7 (asks_meta under two)

pub returns-clause-cause : goal.returns-clause-cause
returns-clause-cause g c under two = c.ask_all.ensures.cause under 0 7 (asks_meta under two)
