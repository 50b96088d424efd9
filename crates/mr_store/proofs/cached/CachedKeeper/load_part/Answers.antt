use Rattle.std.proofs.Common.{sym, subst}
use Rattle.std.specs.Prelude.{◌≡◌, false, IfOk}
use Rattle.mr_model.specs.Replica.{Replica}
use Rattle.mr_model.specs.Tables.{Stands}
use Rattle.mr_part.specs.NextId.{id_given}
use Rattle.mr_part.specs.Parts.{IsPartOf}
use Rattle.mr_part.specs.ScopeOf.{scope_of}
use Rattle.mr_tables.specs.Summary.{IsWithin}
use Rattle.mr_replica.specs.Taken.{is_id_taken}
use Rattle.mr_store.proofs.Remembered.{by_memory, followed, of_keeper, of_memory}
use Rattle.mr_store.proofs.Told.{passed_on}
use Rattle.mr_store.proofs.cached.CachedKeeper.load_part.Goals as goal

pub returns-in_default-clause-quiet : goal.returns-in_default-clause-quiet
returns-in_default-clause-quiet g c =
    followed g.K.Keeper c.args.self.now c.recall.new.self c.self.inside.keeper c.load_part.new.self
    c.in_ok-memory.field-0 c.load_part.result c.in_ok-memory.ensures.recall c.self.view_is c.load_part.ensures.quiet

pub returns-in_default-clause-loaded : goal.returns-in_default-clause-loaded
returns-in_default-clause-loaded g c =
    of_keeper g.K.Keeper (λ t. (a : Replica) → Stands t a → IfOk c.load_part.result (λ part. IsPartOf part (scope_of c.args.scope.now) a)) c.args.self.now c.recall.new.self
    c.self.inside.keeper c.load_part.new.self c.in_ok-memory.field-0 c.load_part.result c.in_ok-memory.ensures.recall c.self.view_is c.load_part.ensures.quiet c.load_part.ensures.loaded

pub returns-then-is_failure-clause-quiet : goal.returns-then-is_failure-clause-quiet
returns-then-is_failure-clause-quiet g c =
    followed g.K.Keeper c.args.self.now c.recall.new.self c.self.inside.keeper c.load_part-then-is_failure.new.self c.in_ok-memory.field-0
    c.load_part-then-is_failure.result c.in_ok-memory.ensures.recall c.self.view_is c.load_part-then-is_failure.ensures.quiet

pub returns-then-is_failure-clause-loaded : goal.returns-then-is_failure-clause-loaded
returns-then-is_failure-clause-loaded g c =
    of_keeper g.K.Keeper (λ t. (a : Replica) → Stands t a → IfOk c.load_part-then-is_failure.result (λ part. IsPartOf part (scope_of c.args.scope.now) a))
    c.args.self.now c.recall.new.self c.self.inside.keeper c.load_part-then-is_failure.new.self c.in_ok-memory.field-0 c.load_part-then-is_failure.result
    c.in_ok-memory.ensures.recall c.self.view_is c.load_part-then-is_failure.ensures.quiet c.load_part-then-is_failure.ensures.loaded

pub returns-clause-loaded : goal.returns-clause-loaded
returns-clause-loaded g c =
    of_memory g.K.Keeper (λ t. (a : Replica) → Stands t a → IfOk c.told-answer.result (λ part. IsPartOf part (scope_of c.args.scope.now) a)) c.args.self.now
    c.recall.new.self c.self.inside.keeper c.in_ok-memory.field-0 c.in-Some.memory c.in_ok-memory.ensures.recall c.self.view_is c.in_ok-memory.ensures.rows c.in-Some.is
    (λ a h. passed_on (λ part. IsPartOf part (scope_of c.args.scope.now) a) c.load_part-loaded.result c.told-answer.result c.told-answer.ensures.ok c.told-answer.ensures.err
    (c.load_part-loaded.ensures.loaded a (subst (λ t. Stands t a) (sym c.want_board.ensures) h)))

pub returns-in_default-clause-free : goal.returns-in_default-clause-free
returns-in_default-clause-free g c =
    of_keeper g.K.Keeper (λ t. IfOk c.load_part.result (λ part. is_id_taken (id_given (scope_of c.args.scope.now) part.summary) t ≡ false)) c.args.self.now c.recall.new.self
    c.self.inside.keeper c.load_part.new.self c.in_ok-memory.field-0 c.load_part.result c.in_ok-memory.ensures.recall c.self.view_is c.load_part.ensures.quiet c.load_part.ensures.free

pub returns-then-is_failure-clause-free : goal.returns-then-is_failure-clause-free
returns-then-is_failure-clause-free g c =
    of_keeper g.K.Keeper (λ t. IfOk c.load_part-then-is_failure.result (λ part. is_id_taken (id_given (scope_of c.args.scope.now) part.summary) t ≡ false))
    c.args.self.now c.recall.new.self c.self.inside.keeper c.load_part-then-is_failure.new.self c.in_ok-memory.field-0 c.load_part-then-is_failure.result
    c.in_ok-memory.ensures.recall c.self.view_is c.load_part-then-is_failure.ensures.quiet c.load_part-then-is_failure.ensures.free

pub returns-clause-free : goal.returns-clause-free
returns-clause-free g c =
    of_memory g.K.Keeper (λ t. IfOk c.told-answer.result (λ part. is_id_taken (id_given (scope_of c.args.scope.now) part.summary) t ≡ false)) c.args.self.now
    c.recall.new.self c.self.inside.keeper c.in_ok-memory.field-0 c.in-Some.memory c.in_ok-memory.ensures.recall c.self.view_is c.in_ok-memory.ensures.rows c.in-Some.is
    (subst (λ t. IfOk c.told-answer.result (λ part. is_id_taken (id_given (scope_of c.args.scope.now) part.summary) t ≡ false)) c.want_board.ensures
    (passed_on (λ part. is_id_taken (id_given (scope_of c.args.scope.now) part.summary) c.want_board.new.self ≡ false)
    c.load_part-loaded.result c.told-answer.result c.told-answer.ensures.ok c.told-answer.ensures.err c.load_part-loaded.ensures.free))

pub returns-clause-quiet : goal.returns-clause-quiet
returns-clause-quiet g c =
    by_memory g.K.Keeper c.args.self.now c.recall.new.self c.self.inside.keeper c.in_ok-memory.field-0 c.in-Some.memory
    c.told-answer.result c.in_ok-memory.ensures.recall c.self.view_is c.in-Some.is c.in_ok-memory.ensures.open
    (c.is_failure.ensures c.if-is_failure.false)

pub returns-clause-within : goal.returns-clause-within
returns-clause-within g c =
    passed_on (λ part. IsWithin part.summary) c.load_part-loaded.result c.told-answer.result c.told-answer.ensures.ok c.told-answer.ensures.err c.load_part-loaded.ensures.within
