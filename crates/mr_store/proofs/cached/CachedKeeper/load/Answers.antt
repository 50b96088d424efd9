use Rattle.std.specs.Prelude.{IfOk}
use Rattle.mr_model.specs.Replica.{Replica}
use Rattle.mr_model.specs.Tables.{Stands}
use Rattle.mr_replica.specs.Desk.{StandsFor, IsWithinLimits}
use Rattle.mr_store.proofs.Remembered.{by_memory, followed, of_keeper, of_memory}
use Rattle.mr_store.proofs.Told.{passed_on}
use Rattle.mr_store.proofs.cached.CachedKeeper.load.Goals as goal

pub returns-in_default-clause-quiet : goal.returns-in_default-clause-quiet
returns-in_default-clause-quiet g c =
    followed g.K.Keeper c.args.self.now c.recall.new.self c.self.inside.keeper c.load.new.self c.in_ok-memory.field-0 c.load.result c.in_ok-memory.ensures.recall c.self.view_is c.load.ensures.quiet

pub returns-in_default-clause-loaded : goal.returns-in_default-clause-loaded
returns-in_default-clause-loaded g c =
    of_keeper g.K.Keeper (λ t. (a : Replica) → Stands t a → IfOk c.load.result (λ desk. StandsFor desk a)) c.args.self.now c.recall.new.self c.self.inside.keeper
    c.load.new.self c.in_ok-memory.field-0 c.load.result c.in_ok-memory.ensures.recall c.self.view_is c.load.ensures.quiet c.load.ensures.loaded

pub returns-then-is_failure-clause-quiet : goal.returns-then-is_failure-clause-quiet
returns-then-is_failure-clause-quiet g c =
    followed g.K.Keeper c.args.self.now c.recall.new.self c.self.inside.keeper c.load-then-is_failure.new.self c.in_ok-memory.field-0
    c.load-then-is_failure.result c.in_ok-memory.ensures.recall c.self.view_is c.load-then-is_failure.ensures.quiet

pub returns-then-is_failure-clause-loaded : goal.returns-then-is_failure-clause-loaded
returns-then-is_failure-clause-loaded g c =
    of_keeper g.K.Keeper (λ t. (a : Replica) → Stands t a → IfOk c.load-then-is_failure.result (λ desk. StandsFor desk a)) c.args.self.now
    c.recall.new.self c.self.inside.keeper c.load-then-is_failure.new.self c.in_ok-memory.field-0 c.load-then-is_failure.result
    c.in_ok-memory.ensures.recall c.self.view_is c.load-then-is_failure.ensures.quiet c.load-then-is_failure.ensures.loaded

pub returns-clause-loaded : goal.returns-clause-loaded
returns-clause-loaded g c =
    of_memory g.K.Keeper (λ t. (a : Replica) → Stands t a → IfOk c.told-answer.result (λ desk. StandsFor desk a)) c.args.self.now c.recall.new.self
    c.self.inside.keeper c.in_ok-memory.field-0 c.in-Some.memory c.in_ok-memory.ensures.recall c.self.view_is c.in_ok-memory.ensures.rows c.in-Some.is
    (λ a h. passed_on (λ desk. StandsFor desk a) c.load-loaded.result c.told-answer.result c.told-answer.ensures.ok c.told-answer.ensures.err (c.load-loaded.ensures.loaded a h))

pub returns-clause-within : goal.returns-clause-within
returns-clause-within g c = passed_on IsWithinLimits c.load-loaded.result c.told-answer.result c.told-answer.ensures.ok c.told-answer.ensures.err c.load-loaded.ensures.within

pub returns-clause-quiet : goal.returns-clause-quiet
returns-clause-quiet g c =
    by_memory g.K.Keeper c.args.self.now c.recall.new.self c.self.inside.keeper c.in_ok-memory.field-0 c.in-Some.memory
    c.told-answer.result c.in_ok-memory.ensures.recall c.self.view_is c.in-Some.is c.in_ok-memory.ensures.open
    (c.is_failure.ensures c.if-is_failure.false)
