use Rattle.std.proofs.Common.{◌≡◌, subst, IfOk, false}
use Rattle.mr_model.specs.Replica.{Replica}
use Rattle.mr_model.specs.Tables.{Stands}
use Rattle.mr_part.specs.NextId.{id_given}
use Rattle.mr_part.specs.Parts.{IsPartOf}
use Rattle.mr_part.specs.ScopeOf.{scope_of}
use Rattle.mr_replica.specs.Taken.{is_id_taken}
use Rattle.mr_store.proofs.tripped.TrippedKeeper.load_part.Goals as goal

pub returns-clause-loaded : goal.returns-clause-loaded
returns-clause-loaded g c = λ clean.
    subst
    (λ k. g.K.Keeper.is_open k → (a : Replica) → Stands (g.K.Keeper.tables k) a → IfOk c.load_part.result (λ part. IsPartOf part (scope_of c.args.scope.now) a))
    c.trips.ensures.same.0
    (c.load_part.ensures.loaded clean)

pub returns-clause-free : goal.returns-clause-free
returns-clause-free g c = λ clean.
    subst
    (λ k. g.K.Keeper.is_open k → IfOk c.load_part.result (λ part. is_id_taken (id_given (scope_of c.args.scope.now) part.summary) (g.K.Keeper.tables k) ≡ false))
    c.trips.ensures.same.0
    (c.load_part.ensures.free clean)
