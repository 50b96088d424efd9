-- What the constants of `our_tables` tell of a schema.
use Rattle.std.specs.Prelude.{◌≡◌, ℕ, suc, true, false, if◌then◌else◌, List, [], None, map, bytes_eq}
use Rattle.std.specs.Borrow.{Bor}
use Rattle.std.specs.List.{slice_split, list_any}
use Rattle.sqlite.specs.Kind.{Kind}
use Rattle.sqlite.specs.Kind.TheVariants.{Integer, Text}
use Rattle.sqlite_value.specs.Keys.{plain}
use Rattle.sqlite_schema.specs.declared.schema.Column.{Column}
use Rattle.sqlite_schema.specs.declared.schema.Table.{Table}
use Rattle.sqlite_schema.specs.declared.schema.Index.{Index}
use Rattle.sqlite_schema.specs.declared.schema.Schema.{Schema}
use Rattle.mr_model.specs.Texts.{is_space}
use Rattle.mr_rows.specs.Schema.{column_of, table_of}
use Rattle.mr_sql.specs.declared.our_tables.Wanted.{Wanted}

-- no rowid alias, no check, no reference, no default that is computed, no counter
pub record IsPlainTable (t : Table) : Type 0 where
  pub key : t.key ≡ None
  pub checks : t.checks ≡ []
  pub references : t.references ≡ []
  pub computed : t.computed ≡ []
  pub stamps : t.stamps ≡ record { places = []; terms = []; formats = [] }
  pub uncounted : t.is_counted ≡ false

abbrev pub kind_told : List (Bor (List ℕ)) → List ℕ → Kind
kind_told texts name = if list_any (λ t. bytes_eq t.now name) texts then Text else Integer

abbrev pub column_told : List (Bor (List ℕ)) → List ℕ → Column
column_told texts name = column_of name (kind_told texts name)

-- the columns of these names, with a space between each two
abbrev pub columns_told : List (Bor (List ℕ)) → List ℕ → List Column
columns_told texts names = map (column_told texts) (slice_split is_space names)

-- the key's places, if it is the primary one
abbrev pub primary_told : Wanted → List ℕ
primary_told w = if w.is_primary then w.key.now else []

abbrev pub table_told : Wanted → Table
table_told w = record (table_of w.name.now (columns_told w.texts.now w.columns.now) (primary_told w) w.key.now) { tree = w.tree }

-- the index of the table's key, whose tree comes next
abbrev pub index_told : Wanted → Index
index_told w = record { name = w.index.now; tree = suc w.tree; table = w.tree; columns = w.key.now; order = plain; is_unique = true }

abbrev pub schema_told : List Wanted → Schema
schema_told ws = record { tables = map table_told ws; indexes = map index_told ws; views = [] }
