-- The steps of moving up within its transaction: rows taken away, tables made, and what is then there.
use Rattle.std.specs.Prelude.{◌≡◌, ◌≢◌, ℕ, List, [], ◌++◌, IsTrue, Result, OnOk}
use Rattle.std.specs.List.{AllByRecursion}
use Rattle.sqlite_schema.specs.declared.schema.Schema.{Schema}
use Rattle.sqlite_schema.specs.declared.schema.Table.{Table}
use Rattle.sqlite_rules.specs.Edit.{IsNoIndex}
use Rattle.sqlite_catalog.specs.Change.{KeepsRows}
use Rattle.sqlite.specs.State.{State, HasCleanDisk}
use Rattle.sqlite.specs.declared.error.Error.{Error}
use Rattle.mr_model.specs.Tables.{MetaRow, LogRow, Tables}
use Rattle.mr_model.specs.First.{FirstTables}
use Rattle.mr_rows.specs.Schema.{first_schema}
use Rattle.mr_rows.specs.Shelf.{IsShelf}
use Rattle.mr_rows.specs.Database.{first_meta, IsTablesStep}
use Rattle.mr_rows.specs.ChangeParts.{put_meta, put_logs}
use Rattle.mr_first.specs.FirstDatabase.{IsFirst}

-- ---- all rows of a table taken away

pub record IsCleared (tree : ℕ) (old new : State) : Type 0 where
  pub schema : new.now.schema ≡ first_schema
  pub empty : new.now.trees tree ≡ []
  pub others : (t : ℕ) → t ≢ tree → IsNoIndex first_schema t → new.now.trees t ≡ old.now.trees t
  pub committed : new.committed ≡ old.committed
  pub within : IsTrue new.in_transaction

abbrev pub Clears : {X : Type 0} → ℕ → State → State → Result X Error → Type 0
Clears tree old new result = HasCleanDisk new → IsTrue old.in_transaction → old.now.schema ≡ first_schema → IsShelf (old.now.trees tree)
    → OnOk result (IsCleared tree old new)

-- of those tables that the second schema has other rows for
pub record IsEmptied (old new : State) : Type 0 where
  pub schema : new.now.schema ≡ first_schema
  pub meta : new.now.trees 0 ≡ []
  pub room : new.now.trees 2 ≡ old.now.trees 2
  pub vector : new.now.trees 4 ≡ old.now.trees 4
  pub write_log : new.now.trees 6 ≡ []
  pub undo : new.now.trees 8 ≡ []
  pub booking : new.now.trees 10 ≡ old.now.trees 10
  pub errorlog : new.now.trees 12 ≡ old.now.trees 12
  pub committed : new.committed ≡ old.committed
  pub within : IsTrue new.in_transaction

-- ---- tables made beside others, which keep their rows

-- one schema became another, whose further tables have no rows
pub record IsExtended (before after : Schema) (old new : State) : Type 0 where
  pub schema : new.now.schema ≡ after
  pub further : List Table
  pub beside : after.tables ≡ before.tables ++ further
  pub rows : KeepsRows before.tables old.now.trees new.now.trees
  pub empty : AllByRecursion (λ t. new.now.trees t.tree ≡ []) further
  pub committed : new.committed ≡ old.committed
  pub within : IsTrue new.in_transaction

abbrev pub Extends : {X : Type 0} → Schema → Schema → State → State → Result X Error → Type 0
Extends before after old new result = HasCleanDisk new → IsTrue old.in_transaction → old.now.schema ≡ before → OnOk result (IsExtended before after old new)

-- ---- the tables of the second schema before the log and the row of `meta` are put

abbrev pub laid_out : FirstTables → Tables
laid_out t = record {
  meta = first_meta [];
  room = t.room;
  vector = t.vector;
  log = [];
  booking = t.booking;
  errorlog = t.errorlog;
  cancelled = [];
  cancels = [];
}

-- and with them
abbrev pub filled : MetaRow → List LogRow → FirstTables → Tables
filled m log t = put_meta m (put_logs log (laid_out t))

-- a step from first tables to second ones
abbrev pub Rewrites : {X : Type 0} → State → State → Tables → Result X Error → Type 0
Rewrites old new t result = HasCleanDisk new → IsTrue old.in_transaction → IsFirst old.now → OnOk result (IsTablesStep old new t)
