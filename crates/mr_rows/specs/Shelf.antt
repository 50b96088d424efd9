-- The rows of a table, as the store keeps them.
use Rattle.std.specs.Prelude.{List, IsTrue}
use Rattle.std.specs.List.{AllByRecursion}
use Rattle.sqlite_value.specs.Order.{Row}
use Rattle.sqlite_trees.specs.Tree.{rowid, IsTable}
use Rattle.sqlite_trees.specs.View.{is_int}
use Rattle.sqlite_schema.specs.declared.schema.Table.{Table}
use Rattle.sqlite_rules.specs.Lists.{Has}
use Rattle.sqlite.specs.Effect.{Database}

-- the rowids are integers, and rise
pub record IsShelf (rows : List Row) : Type 0 where
  pub rise : IsTable rows
  pub keyed : AllByRecursion (λ r. IsTrue (is_int (rowid r))) rows

-- the rowids of each table rise
abbrev pub HasShelves : Database → Type 0
HasShelves db = (table : Table) → Has db.schema.tables table → IsShelf (db.trees table.tree)
