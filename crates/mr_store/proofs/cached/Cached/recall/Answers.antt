use Rattle.std.proofs.Common.{Err, subst}
use Rattle.mr_store.specs.Cached.{IsRecall}
use Rattle.mr_store.proofs.Remembered.{both, recall_refused}
use Rattle.mr_store.proofs.cached.Cached.recall.Goals as goal

pub returns-in-None-clause-recall : goal.returns-in-None-clause-recall
returns-in-None-clause-recall g c =
    subst (λ old. IsRecall g.K.Keeper old c.read_rows.new.keeper c.read_rows.result) c.self.view_is
    (both g.K.Keeper c.self.inside.keeper c.confirm.new.keeper c.read_rows.new.keeper tt c.read_rows.result c.in-Ok.ensures.recall c.read_rows.ensures.recall)

pub returns-in-Err-clause-recall : goal.returns-in-Err-clause-recall
returns-in-Err-clause-recall g c =
    subst (λ old. IsRecall g.K.Keeper old c.confirm.new.keeper (Err c.in-Err.fault)) c.self.view_is
    (recall_refused g.K.Keeper c.self.inside.keeper c.confirm.new.keeper c.in-Err.fault c.in-Err.ensures.recall)
