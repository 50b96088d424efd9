-- What is found in a database that its keeper didn't make.
use Rattle.std.specs.Prelude.{◌≡◌, ℕ, ◌⊎◌, Option, Some, None, IsTrue}
use Rattle.sqlite_trees.specs.Tree.{Trees}
use Rattle.sqlite_catalog.specs.Listing.{IsSound}
use Rattle.sqlite.specs.Effect.{IsDatabase}
use Rattle.sqlite.specs.State.{State}
use Rattle.mr_model.specs.Replica.{Replica, opening}
use Rattle.mr_model.specs.Tables.{MetaRow, Tables, Stands}
use Rattle.mr_model.specs.First.{StandsFirst, moved}
use Rattle.mr_store.specs.KeeperCalls.{IsSettled}
use Rattle.mr_rows.specs.Schema.{no_schema, first_schema, our_schema}
use Rattle.mr_rows.specs.Shelf.{HasShelves}
use Rattle.mr_rows.specs.Database.{tables_in}
use Rattle.mr_first.specs.FirstDatabase.{first_in}

-- a database that was opened anew: nothing is uncommitted, each table is in order, and a query may take any number of steps
pub record IsTaken (s : State) : Type 0 where
  pub is_open : IsTrue s.is_open
  pub settled : s.now ≡ s.committed
  pub sound : IsDatabase s.now
  pub shelves : HasShelves s.now
  pub unlimited : s.step_limit ≡ None

-- the database has these trees, and nothing uncommitted
abbrev pub StaysAs : Trees → State → Type 0
StaysAs trees s = (s.now.trees ≡ trees) × (s.now ≡ s.committed)

-- tables of the first schema moved up: the new ones stand for each replica that the old ones stood for
pub record IsRaised (before after : Trees) : Type 0 where
  pub tables_are : tables_in after ≡ moved (first_in before)
  pub stands : (a : Replica) → StandsFirst (first_in before) a → Stands (tables_in after) a

-- the tables of a keeper stay as they are, and those of the first schema are moved up
abbrev pub IsResumed : Trees → Trees → Type 0
IsResumed before after = (IsSound our_schema before × (after ≡ before)) ⊎ (IsSound first_schema before × IsRaised before after)

abbrev pub Names : ℕ → ℕ → MetaRow → Type 0
Names server primary m = (m.server ≡ server) × (m.primary ≡ primary)

-- where these trees are no tables yet, or the tables of this server and primary, they become the tables of a keeper
abbrev pub IsAdopted : ℕ → ℕ → Trees → Trees → Type 0
IsAdopted server primary before after =
    (IsSound no_schema before × Stands (tables_in after) (opening server primary))
    ⊎ (IsResumed before after × Names server primary (tables_in after).meta)

-- a crash would leave the tables and nothing else
abbrev pub LeavesTables : State → Type 0
LeavesTables s = IsSettled (λ t. (trees : Trees) × s.may_leave trees × (t ≡ tables_in trees)) (tables_in s.now.trees)

-- a crash would leave the rows that are there, and nothing else
abbrev pub LeavesRows : State → Type 0
LeavesRows s = (trees : Trees) → s.may_leave trees → trees ≡ s.now.trees

-- the rows that a keeper read when it opened its database, where it still has them, are those that are there
abbrev pub AreFresh : Option Tables → State → Type 0
AreFresh None s = Unit {0}
AreFresh (Some rows) s = rows ≡ tables_in s.now.trees
