use Rattle.std.specs.Fmt.{digits}
use Rattle.mr_sql.proofs.schemas.has_ours.Goals as goal

pub returns-clause-same : goal.returns-clause-same
unfolding digits
returns-clause-same c = c.has_only.ensures.same

pub returns-clause-other : goal.returns-clause-other
unfolding digits
returns-clause-other c = c.has_only.ensures.other
