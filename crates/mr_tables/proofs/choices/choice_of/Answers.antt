use Rattle.mr_tables.proofs.Fitting.{numbered_fits}
use Rattle.mr_tables.proofs.choices.choice_of.Goals as goal

pub returns-clause-fits : goal.returns-clause-fits
returns-clause-fits c = numbered_fits c.args.meeting.now c.args.number c.choice_numbered.result c.is_within_limits.ensures c.choice_numbered.ensures
