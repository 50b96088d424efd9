-- Why a call that only reads answers an error.
use Rattle.std.specs.Prelude.{◌≡◌, ◌≢◌, ◌⊎◌, ◌≤◌, ℕ, false, List, [], length, Option, Result, Ok, Err, Vec, IsSome, IfOk, IfErr}
use Rattle.std.specs.List.{All, AllByRecursion}
use Rattle.std.specs.declared.alloc.Global.{Global}
use Rattle.sqlite_value.specs.Order.{Row}
use Rattle.sqlite_trees.specs.Tree.{Trees}
use Rattle.sqlite_trees.specs.declared.error.StoreError.{StoreError}
use Rattle.sqlite_schema.specs.declared.schema.Schema.{Schema}
use Rattle.sqlite_resolve.specs.declared.compiled.Compiled.{Compiled}
use Rattle.sqlite_resolve.specs.declared.error.CompileError.{CompileError}
use Rattle.sqlite.specs.declared.error.ErrorCode.TheVariants as code
use Rattle.sqlite.specs.declared.error.Error.{Error}
use Rattle.sqlite.specs.declared.error.Error.TheVariants.{SqliteFailure}
use Rattle.sqlite.specs.Effect.{Database, RefusesToRead}
use Rattle.sqlite.specs.Command.TheVariants.{Select}
use Rattle.sqlite.specs.Given.{IsPlain}
use Rattle.sqlite.specs.Listing.{understood, reads_listing}
use Rattle.sqlite.specs.State.{State, HasCleanDisk, HasCause, Begins, store_error}
use Rattle.sqlite.proofs.Callers.{command_of}
use Rattle.sqlite_sql.specs.Program.{overlay}
use Rattle.mr_rows.specs.Meaning.{query_of, columns_at}
use Rattle.mr_rows.specs.Schema.{our_schema}
use Rattle.mr_rows.specs.Form.{Form}
use Rattle.mr_rows.specs.Reads.{IsPlacedIn, IsPlaced}
use Rattle.mr_rows.specs.Shown.{IsShownAs, AreStoredAs}

-- a query took more steps than the connection's limit, if it has one
abbrev pub IsStopped : Option ℕ → Error → Type 0
IsStopped limit e = (e ≡ SqliteFailure code.OperationInterrupted) × IsSome limit

-- The store failed: its disk did, which counts its faults, or the connection was shut before. Or it stopped the query.
abbrev pub IsOfStore : State → State → Error → Type 0
IsOfStore old new e = ((cause : StoreError) × (e ≡ store_error cause) × HasCause old new ⊥ cause) ⊎ IsStopped old.step_limit e

-- Where this is known of the database, and this is so of the rows of its tables, an error that isn't out of memory is the store's.
abbrev pub FailsByStoreWhere : {X : Type 0} → (State → Type 0) → (Trees → Type 0) → State → State → Result X Error → Type 0
FailsByStoreWhere Known Rows old new result = HasCleanDisk new → Known old → Rows old.now.trees → IfErr result (λ e. e ≢ SqliteFailure code.OutOfMemory → IsOfStore old new e)

-- where the tables of a schema are there
abbrev pub FailsByStoreIn : {X : Type 0} → Schema → (Trees → Type 0) → State → State → Result X Error → Type 0
FailsByStoreIn under Rows old new result = FailsByStoreWhere (IsPlacedIn under) Rows old new result

-- where ours are
abbrev pub FailsByStore : {X : Type 0} → (Trees → Type 0) → State → State → Result X Error → Type 0
FailsByStore Rows old new result = FailsByStoreIn our_schema Rows old new result

-- ---- texts that ask

abbrev pub IsSureUnder : Schema → List ℕ → Row → Result Compiled CompileError → Type 0
IsSureUnder under sql params (Ok c) =
    (length sql ≤ c.tail) × (length params ≡ length c.names)
    × ((limit : Option ℕ) (db : Database) (e : Error) → db.schema ≡ under → RefusesToRead limit c.command db params e → IsStopped limit e)
IsSureUnder under sql params (Err e) = ⊥

-- the text is one statement and no more, these are its parameters, and no rows of the tables of this schema make it fail
abbrev pub IsSureIn : Schema → List ℕ → Row → Type 0
IsSureIn under sql params = (reads_listing under sql ≡ false) × IsSureUnder under sql params (understood under sql)

abbrev pub IsSure : List ℕ → Row → Type 0
IsSure sql params = IsSureIn our_schema sql params

-- each row that the text shows is such a one
abbrev pub ShowsOnly : (Row → Type 0) → List ℕ → Row → State → Type 0
ShowsOnly P sql params s = (rows : List Row) → Begins sql params s rows → AllByRecursion P rows

-- where the rows of a table are its own, so are those that are shown of it
abbrev pub ShowsRows : {R K : Type 0} → Form R K → State → State → Result (Vec Row Global) Error → Type 0
ShowsRows f old new result = HasCleanDisk new → IsPlaced old → AreStoredAs f old.now.trees → IfOk result (λ rows. All (IsShownAs f) rows.items)

-- Under this schema the text asks for all rows of the table in this tree, so many columns of each, and only the store makes it fail.
pub record AsksAll (under : Schema) (tree n : ℕ) (sql : List ℕ) : Type 0 where
  pub names : List (List ℕ)
  pub means : command_of (understood under sql) ≡ Select (record { lets = []; body = query_of tree [] (columns_at 1 n) }) names
  pub plain : IsPlain (understood under sql)
  pub sure : IsSureIn under sql []
  -- nothing is computed in place of its rows
  pub alone : (trees : Trees) → overlay trees [] tree ≡ trees tree
