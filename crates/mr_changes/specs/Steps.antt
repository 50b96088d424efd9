-- What a call makes of a store within a transaction, and what a change makes of it.
use Rattle.std.specs.Prelude.{◌≡◌, IsTrue}
use Rattle.sqlite_trees.specs.Tree.{Trees}
use Rattle.sqlite_trees.specs.View.{View, IsClean, OnlyWrites}
use Rattle.sqlite_trees.specs.declared.store.Store.{Ghosts}
use Rattle.mr_model.specs.Tables.{Tables}
use Rattle.mr_rows.specs.Database.{tables_in}
use Rattle.mr_changes.specs.Fit.{IsFit, IsViewKept}

-- while the store is open, the last commit stands
pub record KeepsLast (old new : View) : Type 0 where
  pub was_open : IsTrue new.is_open → IsTrue old.is_open
  pub committed : IsTrue new.is_open → new.committed ≡ old.committed
  pub shape : old.shape ≡ old.committed_shape → new.shape ≡ old.shape
  pub last_shape : new.committed_shape ≡ old.committed_shape

-- a call within a transaction, whatever it answers: nothing is committed
pub record IsStoreStep {S : Type 0} (g : Ghosts S) (old new : S) : Type 0 where
  pub clean : IsClean (g.view new) → IsClean (g.view old)
  pub kept : IsClean (g.view new) → KeepsLast (g.view old) (g.view new)
  pub outcomes : (db : Trees) → g.recovers new db → g.recovers old db

-- the tables became these, within the transaction
pub record Makes (old new : View) (t : Tables) : Type 0 where
  pub fit : IsFit new
  pub tables_are : tables_in new.trees ≡ t
  pub only : OnlyWrites old new

-- the tables became these, and are committed
pub record SettlesOn (new : View) (t : Tables) : Type 0 where
  pub kept : IsViewKept new
  pub tables_are : tables_in new.trees ≡ t

-- the tables are those that they were
pub record StaysAsKept (old new : View) : Type 0 where
  pub kept : IsViewKept new
  pub trees : new.trees ≡ old.trees
