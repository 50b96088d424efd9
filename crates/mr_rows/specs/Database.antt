-- What the database of a keeper is, and what a step makes of it.
use Rattle.std.specs.Prelude.{◌≡◌, List, [], ◌∷◌, map, IsTrue, Result, OnOk, OnErr}
use Rattle.std.specs.List.{AllByRecursion}
use Rattle.sqlite_value.specs.declared.value.Value.TheVariants.{Int}
use Rattle.sqlite_value.specs.Order.{Row}
use Rattle.sqlite_trees.specs.Tree.{Trees, rowid, IsAscending}
use Rattle.sqlite_rules.specs.Edit.{id_in}
use Rattle.sqlite.specs.Effect.{Database}
use Rattle.sqlite.specs.State.{State, HasCleanDisk, KeepsCommit}
use Rattle.sqlite.specs.declared.error.Error.{Error}
use Rattle.mr_model.specs.Tables.{MetaRow, Tables}
use Rattle.mr_tables.specs.Change.{put_all}
use Rattle.mr_rows.specs.Schema.{our_schema}
use Rattle.mr_rows.specs.Shelf.{IsShelf}
use Rattle.mr_rows.specs.Form.{Form, meta_form, room_form, vector_form, log_form, booking_form, error_form, cancelled_form, cancel_form}

-- ---- one table

-- a rowid and the cells of a plain row, and nothing else
abbrev pub IsRowOf : {R K : Type 0} → Form R K → Row → Type 0
IsRowOf f r = r ≡ Int (id_in (rowid r)) ∷ f.cells (f.row_in r)

-- the plain rows in the order of their keys
abbrev pub in_order : {R K : Type 0} → Form R K → List Row → List R
in_order f rows = put_all f.before f.key (map f.row_in rows) []

-- such rows, no two of them with one key
pub record IsHeld {R K : Type 0} (f : Form R K) (rows : List Row) : Type 0 where
  pub shelf : IsShelf rows
  pub whole : AllByRecursion (IsRowOf f) rows
  pub apart : IsAscending (λ r s. f.key (f.row_in r) ≡ f.key (f.row_in s) → ⊥) rows

-- ---- all tables

pub record AreHeld (trees : Trees) : Type 0 where
  pub meta : IsHeld meta_form (trees 0)
  pub room : IsHeld room_form (trees 2)
  pub vector : IsHeld vector_form (trees 4)
  pub log : IsHeld log_form (trees 14)
  pub booking : IsHeld booking_form (trees 10)
  pub errorlog : IsHeld error_form (trees 12)
  pub cancelled : IsHeld cancelled_form (trees 16)
  pub cancels : IsHeld cancel_form (trees 18)
  -- of the first schema's logs nothing is left
  pub no_write_log : trees 6 ≡ []
  pub no_undo : trees 8 ≡ []

pub record IsOurs (db : Database) : Type 0 where
  pub schema : db.schema ≡ our_schema
  pub held : AreHeld db.trees

-- the one row of `meta`, of which there is none before the tables are filled
abbrev pub first_meta : List MetaRow → MetaRow
first_meta [] = record { server = 0; primary = 0; commits = 0; dropped = 0; clock = 0 }
first_meta (m ∷ ms) = m

-- the tables that the database keeps
unfoldable pub tables_in : Trees → Tables
tables_in trees = record {
  meta = first_meta (in_order meta_form (trees 0));
  room = in_order room_form (trees 2);
  vector = in_order vector_form (trees 4);
  log = in_order log_form (trees 14);
  booking = in_order booking_form (trees 10);
  errorlog = in_order error_form (trees 12);
  cancelled = in_order cancelled_form (trees 16);
  cancels = in_order cancel_form (trees 18);
}

-- ---- within a transaction

-- from one state to another with these tables
pub record IsTablesStep (old new : State) (t : Tables) : Type 0 where
  pub ours : IsOurs new.now
  pub tables_are : tables_in new.now.trees ≡ t
  pub committed : new.committed ≡ old.committed
  pub within : IsTrue new.in_transaction

-- the disk is honest, and the transaction is one of ours
abbrev pub IsAskedOfOurs : State → State → Type 0
IsAskedOfOurs old new = HasCleanDisk new × IsTrue old.in_transaction × IsOurs old.now

-- what a call inside a transaction makes of the tables
abbrev pub MakesTables : {X : Type 0} → State → State → Tables → Result X Error → Type 0
MakesTables old new t result = (IsAskedOfOurs old new → OnOk result (IsTablesStep old new t)) × (HasCleanDisk new → KeepsCommit old new)

-- the steps so far led here, and the rest of them leads to these tables
abbrev pub IsChangeUnderWay : State → State → Tables → Tables → Type 0
IsChangeUnderWay old new rest t = (IsAskedOfOurs old new → IsTablesStep old new (tables_in new.now.trees) × (rest ≡ t))
    × (HasCleanDisk new → KeepsCommit old new)

-- ---- between transactions

-- what is committed is ours, and nothing else is there
pub record IsKept (s : State) : Type 0 where
  pub ours : IsOurs s.now
  pub settled : s.now ≡ s.committed

-- the tables became these
pub record IsApplied (old new : State) (t : Tables) : Type 0 where
  pub kept : IsKept new
  pub tables_are : tables_in new.now.trees ≡ t

-- The change is made, or the database is as it was. It is asked of an honest disk, and of a connection that no failure of the disk has shut.
abbrev pub Applies : State → State → Tables → Result (Unit {0}) Error → Type 0
Applies old new t result =
    HasCleanDisk new → IsTrue new.is_open → IsTrue old.is_open
    × (IsKept old → OnOk result (IsApplied old new t) × OnErr result ((new.now ≡ old.now) × (new.committed ≡ old.committed)))

-- what a crash may leave beside what it could leave before: the whole change
abbrev pub IsReached : State → Tables → Trees → Type 0
IsReached old t trees = IsKept old → tables_in trees ≡ t
