-- Which databases are refused, and what files held.
use Rattle.std.specs.Prelude.{◌≡◌, ◌≢◌, ℕ, pos, ◌⊎◌, [], ◌∷◌, None}
use Rattle.sqlite_value.specs.declared.value.Value.TheVariants.{Int}
use Rattle.sqlite_value.specs.Order.{Row, column}
use Rattle.sqlite_trees.specs.Tree.{Trees}
use Rattle.sqlite_catalog.specs.Listing.{IsSound}
use Rattle.sqlite.specs.Files.{HoldsDatabase, AreFoundIn}
use Rattle.sqlite.specs.Recovery.{Image}
use Rattle.mr_rows.specs.Schema.{no_schema, first_schema, our_schema}
use Rattle.mr_rows.specs.Database.{tables_in}
use Rattle.mr_rows.specs.Shown.{IsMeta}
use Rattle.mr_first.specs.FirstDatabase.{first_in}
use Rattle.mr_sql.specs.Found.{Names}

-- the one row of `meta` has another number of the schema than this; the number stands behind the rowid and `one`
abbrev pub HasOtherNumber : ℕ → Trees → Type 0
HasOtherNumber number trees = (r : Row) × (trees 0 ≡ r ∷ []) × (column r 2 ≢ Int (pos number))

-- `meta` has no row, or one of another schema
abbrev pub HasNoMeta : ℕ → Trees → Type 0
HasNoMeta number trees = IsMeta trees None ⊎ HasOtherNumber number trees

-- these trees are the tables of another keeper, or of none: there are some, and where they are those of a schema, `meta` has no row of
-- it or names others
abbrev pub IsAnothers : ℕ → ℕ → Trees → Type 0
IsAnothers server primary trees =
    (¬ IsSound no_schema trees)
    × (IsSound our_schema trees → HasNoMeta 2 trees ⊎ (Names server primary (tables_in trees).meta → ⊥))
    × (IsSound first_schema trees → HasNoMeta 1 trees ⊎ (Names server primary (first_in trees).meta → ⊥))

-- these trees are the tables of no keeper: they are those of neither schema, or `meta` has no row of it
abbrev pub IsNobodys : Trees → Type 0
IsNobodys trees = (IsSound our_schema trees → HasNoMeta 2 trees) × (IsSound first_schema trees → HasNoMeta 1 trees)

-- these trees are the tables of a keeper, of one schema or the other
abbrev pub AreSomebodys : Trees → Type 0
AreSomebodys trees = IsSound our_schema trees ⊎ IsSound first_schema trees

-- what files of these bytes hold; where that is no database, nothing
abbrev pub IsFoundIn : Image → Trees → Type 0
IsFoundIn image trees = ((db : Trees) → HoldsDatabase image db → trees ≡ db) × AreFoundIn image trees
