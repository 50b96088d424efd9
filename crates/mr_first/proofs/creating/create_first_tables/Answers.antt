use Rattle.mr_rows.specs.Schema.{no_schema, first_schema}
use Rattle.mr_first.proofs.MakeLemmas.{first_made}
use Rattle.mr_first.proofs.creating.create_first_tables.Goals as goal

pub returns-clause-extended : goal.returns-clause-extended
returns-clause-extended g c = c.create_tables.ensures.extended no_schema first_schema first_made
