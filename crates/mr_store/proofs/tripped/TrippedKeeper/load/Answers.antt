use Rattle.std.proofs.Common.{subst, IfOk}
use Rattle.mr_model.specs.Replica.{Replica}
use Rattle.mr_model.specs.Tables.{Stands}
use Rattle.mr_replica.specs.Desk.{StandsFor}
use Rattle.mr_store.proofs.tripped.TrippedKeeper.load.Goals as goal

pub returns-clause-loaded : goal.returns-clause-loaded
returns-clause-loaded g c = λ clean.
    subst (λ k. g.K.Keeper.is_open k → (a : Replica) → Stands (g.K.Keeper.tables k) a → IfOk c.load.result (λ desk. StandsFor desk a)) c.trips.ensures.same.0 (c.load.ensures.loaded clean)
