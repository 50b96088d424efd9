-- What a statement on one table makes of it, and what that makes of all tables.
use Rattle.std.specs.Prelude.{◌≡◌, ◌==◌, if◌then◌else◌, ℕ, List, [], ◌∷◌, Result, OnOk, IsTrue}
use Rattle.sqlite_value.specs.Order.{Row}
use Rattle.sqlite_trees.specs.Tree.{Trees}
use Rattle.sqlite_rules.specs.Edit.{IsNoIndex}
use Rattle.sqlite_schema.specs.declared.schema.Schema.{Schema}
use Rattle.sqlite.specs.State.{State, HasCleanDisk, KeepsCommit}
use Rattle.sqlite.specs.declared.error.Error.{Error}
use Rattle.mr_model.specs.Writes.{Id}
use Rattle.mr_tables.specs.Change.{put, put_all, rows_without}
use Rattle.mr_rows.specs.Form.{Form}
use Rattle.mr_rows.specs.Database.{IsHeld, in_order}

-- ---- one table

-- the trees with other rows in one of them
abbrev pub trees_with : Trees → ℕ → List Row → Trees
trees_with db tree rows t = if t == tree then rows else db t

-- within a transaction, one table has these rows from now on
pub record Turns (under : Schema) {R K : Type 0} (f : Form R K) (old new : State) (xs : List R) : Type 0 where
  pub rows : List Row
  pub schema : new.now.schema ≡ under
  pub trees : (t : ℕ) → IsNoIndex under t → new.now.trees t ≡ trees_with old.now.trees f.table.tree rows t
  pub held : IsHeld f rows
  pub rows_are : in_order f rows ≡ xs
  pub committed : new.committed ≡ old.committed
  pub within : IsTrue new.in_transaction

-- what a call inside a transaction makes of the table, under a schema that has it
abbrev pub TurnsInto : {R K X : Type 0} → Schema → Form R K → (List R → List R) → State → State → Result X Error → Type 0
TurnsInto under f turn old new result =
    HasCleanDisk new → IsTrue old.in_transaction → old.now.schema ≡ under → IsHeld f (old.now.trees f.table.tree) → OnOk result (Turns under f old new (turn (in_order f (old.now.trees f.table.tree))))

-- a row is put in place of the one with its key, if there is one; nothing is committed
abbrev pub PutsRow : {R K X : Type 0} → (Schema → Type 0) → Form R K → R → State → State → Result X Error → Type 0
PutsRow Stands f x old new result = ((under : Schema) → Stands under → TurnsInto under f (put f.before f.key x) old new result) × (HasCleanDisk new → KeepsCommit old new)

-- the row with this id is taken away, if there is one
abbrev pub TakesRow : {R K X : Type 0} → Schema → Form R K → (R → Id) → Id → State → State → Result X Error → Type 0
TakesRow under f id_of id old new result = TurnsInto under f (rows_without id_of (id ∷ [])) old new result × (HasCleanDisk new → KeepsCommit old new)

-- ---- all tables

-- This is one of the tables that a database has: these are its rows, and so it gets other ones.
pub record IsTableOf {T R K : Type 0} (Held : Trees → Type 0) (seen : Trees → T) (f : Form R K) (rows_of : T → List R) (with_rows : List R → T → T) : Type 0 where
  pub was : (t : Trees) → Held t → IsHeld f (t f.table.tree)
  pub held : (t : Trees) (rows : List Row) → Held t → IsHeld f rows → Held (trees_with t f.table.tree rows)
  pub read : (t : Trees) → rows_of (seen t) ≡ in_order f (t f.table.tree)
  pub made : (t : Trees) (rows : List Row) → seen (trees_with t f.table.tree rows) ≡ with_rows (in_order f rows) (seen t)
  pub same : (t : T) → with_rows (rows_of t) t ≡ t
  pub back : (xs : List R) (t : T) → rows_of (with_rows xs t) ≡ xs
  pub again : (xs ys : List R) (t : T) → with_rows ys (with_rows xs t) ≡ with_rows ys t

abbrev pub table_is : {T R K : Type 0} {Held : Trees → Type 0} {seen : Trees → T} (f : Form R K) (rows_of : T → List R) (with_rows : List R → T → T)
    → ((t : Trees) → Held t → IsHeld f (t f.table.tree))
    → ((t : Trees) (rows : List Row) → Held t → IsHeld f rows → Held (trees_with t f.table.tree rows)) → ((t : Trees) → rows_of (seen t) ≡ in_order f (t f.table.tree))
    → ((t : Trees) (rows : List Row) → seen (trees_with t f.table.tree rows) ≡ with_rows (in_order f rows) (seen t))
    → ((t : T) → with_rows (rows_of t) t ≡ t) → ((xs : List R) (t : T) → rows_of (with_rows xs t) ≡ xs)
    → ((xs ys : List R) (t : T) → with_rows ys (with_rows xs t) ≡ with_rows ys t) → IsTableOf Held seen f rows_of with_rows
table_is f rows_of with_rows was held read made same back again = record { was = was; held = held; read = read; made = made; same = same; back = back; again = again }

-- the tables with these rows put, one after the other
abbrev pub rows_put : {T R K : Type 0} → Form R K → (T → List R) → (List R → T → T) → List R → T → T
rows_put f rows_of with_rows xs t = with_rows (put_all f.before f.key xs (rows_of t)) t

-- the tables without the rows of these ids
abbrev pub rows_taken : {T R : Type 0} → (R → Id) → (T → List R) → (List R → T → T) → List Id → T → T
rows_taken id_of rows_of with_rows gone t = with_rows (rows_without id_of gone (rows_of t)) t
