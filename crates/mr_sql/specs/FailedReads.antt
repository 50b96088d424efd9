-- When what only reads a keeper's database answers that its store failed.
use Rattle.std.specs.Prelude.{◌≢◌, Result, IfErr}
use Rattle.sqlite.specs.State.{State, HasCleanDisk}
use Rattle.sqlite.specs.declared.error.Error.{Error}
use Rattle.sqlite.specs.declared.error.Error.TheVariants.{SqliteFailure}
use Rattle.sqlite.specs.declared.error.ErrorCode.TheVariants as code
use Rattle.mr_model.specs.Replica.{Replica}
use Rattle.mr_model.specs.Tables.{Stands}
use Rattle.mr_rows.specs.Database.{IsKept, tables_in}
use Rattle.mr_sql.specs.Failed.{StoreFailed}

-- where the tables stand for a replica, only if the store failed
abbrev pub FailsByStoreAlone : {X : Type 0} → State → State → Result X Error → Type 0
FailsByStoreAlone old new result =
    HasCleanDisk new → IsKept old → (a : Replica) → Stands (tables_in old.now.trees) a → IfErr result (λ e. e ≢ SqliteFailure code.OutOfMemory → StoreFailed old new)
