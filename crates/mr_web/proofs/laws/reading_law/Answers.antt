use Rattle.mr_web.proofs.OneReading.{one_head, one_thing}
use Rattle.mr_web.proofs.laws.reading_law.Goals as goal

pub returns-clause-head : goal.returns-clause-head
returns-clause-head c = one_head

pub returns-clause-asked : goal.returns-clause-asked
returns-clause-asked c = one_thing
