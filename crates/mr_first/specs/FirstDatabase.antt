-- What a database of the first schema is, and what a step makes of it. The words are those of the second schema's (specs/Database of `mr_rows`).
use Rattle.std.specs.Prelude.{◌≡◌, IsTrue, Result, OnOk}
use Rattle.sqlite_trees.specs.Tree.{Trees}
use Rattle.sqlite.specs.Effect.{Database}
use Rattle.sqlite.specs.State.{State, HasCleanDisk, KeepsCommit}
use Rattle.sqlite.specs.declared.error.Error.{Error}
use Rattle.mr_model.specs.First.{FirstTables}
use Rattle.mr_rows.specs.Schema.{first_schema}
use Rattle.mr_rows.specs.Form.{room_form, vector_form, booking_form, error_form}
use Rattle.mr_rows.specs.Database.{IsHeld, in_order, first_meta}
use Rattle.mr_rows.specs.Reads.{IsPlacedIn, ReadsWhere}
use Rattle.mr_first.specs.Forms.{first_meta_form, write_form, undo_form}

-- ---- all tables

pub record AreHeldFirst (trees : Trees) : Type 0 where
  pub meta : IsHeld first_meta_form (trees 0)
  pub room : IsHeld room_form (trees 2)
  pub vector : IsHeld vector_form (trees 4)
  pub write_log : IsHeld write_form (trees 6)
  pub undo : IsHeld undo_form (trees 8)
  pub booking : IsHeld booking_form (trees 10)
  pub errorlog : IsHeld error_form (trees 12)

pub record IsFirst (db : Database) : Type 0 where
  pub schema : db.schema ≡ first_schema
  pub held : AreHeldFirst db.trees

-- the first tables that the database keeps
unfoldable pub first_in : Trees → FirstTables
first_in trees = record {
  meta = first_meta (in_order first_meta_form (trees 0));
  room = in_order room_form (trees 2);
  vector = in_order vector_form (trees 4);
  write_log = in_order write_form (trees 6);
  undo = in_order undo_form (trees 8);
  booking = in_order booking_form (trees 10);
  errorlog = in_order error_form (trees 12);
}

-- ---- between transactions

-- what is committed has the first tables, and nothing else is there
pub record IsKeptFirst (s : State) : Type 0 where
  pub ours : IsFirst s.now
  pub settled : s.now ≡ s.committed

-- what is read of such a database
abbrev pub ReadsFirst : {X : Type 0} → State → State → Result X Error → (X → Type 0) → Type 0
ReadsFirst old new result P = ReadsWhere IsKeptFirst old new result P

-- what is read of a database of the first schema whose rows may be any
abbrev pub LooksFirst : {X : Type 0} → State → State → Result X Error → (X → Type 0) → Type 0
LooksFirst old new result P = ReadsWhere (IsPlacedIn first_schema) old new result P

-- ---- within a transaction

-- from one state to another with these first tables
pub record IsFirstStep (old new : State) (t : FirstTables) : Type 0 where
  pub ours : IsFirst new.now
  pub tables_are : first_in new.now.trees ≡ t
  pub committed : new.committed ≡ old.committed
  pub within : IsTrue new.in_transaction

-- the disk is honest, and the transaction is one of the first schema
abbrev pub IsAskedFirst : State → State → Type 0
IsAskedFirst old new = HasCleanDisk new × IsTrue old.in_transaction × IsFirst old.now

-- what a call inside a transaction makes of the first tables
abbrev pub MakesFirst : {X : Type 0} → State → State → FirstTables → Result X Error → Type 0
MakesFirst old new t result = (IsAskedFirst old new → OnOk result (IsFirstStep old new t)) × (HasCleanDisk new → KeepsCommit old new)

-- the steps so far led here, and the rest of them leads to these tables
abbrev pub IsFirstUnderWay : State → State → FirstTables → FirstTables → Type 0
IsFirstUnderWay old new rest t = (IsAskedFirst old new → IsFirstStep old new (first_in new.now.trees) × (rest ≡ t)) × (HasCleanDisk new → KeepsCommit old new)
