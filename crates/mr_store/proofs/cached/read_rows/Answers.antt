use Rattle.mr_store.proofs.Remembered.{recall_failed}
use Rattle.mr_store.proofs.cached.read_rows.Goals as goal

pub returns-in-Err-clause-recall : goal.returns-in-Err-clause-recall
returns-in-Err-clause-recall g c = recall_failed g.K.Keeper c.args.keeper.now c.read.new.self c.in-Err.fault c.in-Err.ensures.quiet
