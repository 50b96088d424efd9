use Rattle.mr_store.proofs.Remembered.{followed}
use Rattle.mr_store.proofs.cached.CachedKeeper.query.Goals as goal

pub returns-in_default-clause-quiet : goal.returns-in_default-clause-quiet
returns-in_default-clause-quiet g c =
    followed g.K.Keeper c.args.self.now c.recall.new.self c.self.inside.keeper c.query.new.self c.in_ok-memory.field-0 c.query.result c.in_ok-memory.ensures.recall c.self.view_is c.query.ensures.quiet
