use Rattle.mr_model.proofs.ReadRows.{read_rows}
use Rattle.mr_model.proofs.scopes.reading_law.Goals as goal

pub returns : goal.returns
returns c = record { read = read_rows }
