use Rattle.mr_rows.specs.Schema.{first_schema, our_schema}
use Rattle.mr_first.proofs.MakeLemmas.{second_made}
use Rattle.mr_first.proofs.creating.create_second_rows.Goals as goal

pub returns-clause-widened : goal.returns-clause-widened
returns-clause-widened g c = c.create_tables.ensures.extended first_schema our_schema second_made
