-- A keeper of trees as it is opened.
use Rattle.std.specs.Prelude.{◌≡◌, ℕ, List, IsTrue}
use Rattle.sqlite_pages.specs.PageMap.{PageMap}
use Rattle.sqlite_wal.specs.Recovery.{Image}
use Rattle.sqlite_pool.specs.Stored.{Recovers}
use Rattle.sqlite_trees.specs.Tree.{Trees}
use Rattle.sqlite_trees.specs.View.{IsClean}
use Rattle.sqlite_trees.specs.declared.schema.Object.{Object}
use Rattle.sqlite_trees.specs.declared.store.Store.{Ghosts}
use Rattle.sqlite_store.specs.Catalog.{Describes}
use Rattle.sqlite_store.specs.Listing.{file_trees}
use Rattle.sqlite_store.specs.declared.catalog.Wanted.{Wanted}
use Rattle.mr_store.specs.KeeperCalls.{IsSettled}
use Rattle.mr_trees.specs.TreeTables.{tables_shown}

-- No call of it has failed. It is open, and a crash would leave its tables and nothing else.
pub record IsNewTree {S : Type 0} (g : Ghosts S) (k : S × ℕ) : Type 0 where
  pub uncounted : k.1 ≡ 0
  pub opens : IsClean (g.view k.0) → IsTrue (g.view k.0).is_open
  pub settled : IsClean (g.view k.0) → IsSettled (λ t. (trees : Trees) × g.recovers k.0 trees × (t ≡ tables_shown trees)) (tables_shown (g.view k.0).trees)

-- the trees of pages of 4,096 bytes to which files of these bytes recover, read by a schema of these objects
abbrev pub AreReadFrom : List Object → Image → Trees → Type 0
AreReadFrom objects image trees = (pages : PageMap) × (wanted : List Wanted) × Describes wanted objects × Recovers 4096 image pages × (trees ≡ file_trees 4096 wanted pages)
