use Rattle.std.proofs.Common.{rules}
use Rattle.mr_rows.proofs.changes.make_rows.Goals as goal

pub returns-clause-made : goal.returns-clause-made
returns-clause-made g c = search rules
