-- What is computed of a table under a schema, and what a text that puts rows into it means.
use Rattle.std.proofs.Common.{◌≡◌, ℕ, ℤ, pos, ◌&&◌, List, [], ◌∷◌, Bool, true, false, None, Some, Less}
use Rattle.std.specs.Prelude.{length, slice_get, ◌/◌}
use Rattle.sqlite_value.specs.declared.value.Value.{Value}
use Rattle.sqlite_value.specs.declared.value.Value.TheVariants.{Null, Int, Text}
use Rattle.sqlite_value.specs.Order.{Row, value_cmp}
use Rattle.sqlite_trees.specs.Tree.{Trees, rowid}
use Rattle.sqlite_sql.specs.Term.{Term, col}
use Rattle.sqlite_sql.specs.Program.{overlay}
use Rattle.sqlite_schema.specs.declared.schema.Column.{Column}
use Rattle.sqlite_schema.specs.declared.schema.Keys.TheVariants.{Enforced}
use Rattle.sqlite_schema.specs.declared.schema.Schema.{Schema}
use Rattle.sqlite_schema.specs.declared.command.Conflict.TheVariants.{Replace}
use Rattle.sqlite_rules.specs.Action.{works}
use Rattle.sqlite_rules.specs.Keys.{conflicts}
use Rattle.sqlite.specs.Kind.{Kind}
use Rattle.sqlite.specs.Kind.TheVariants.{Integer}
use Rattle.sqlite.specs.Kind.TheVariants as kind
use Rattle.sqlite.specs.Command.TheVariants.{InsertOr, Delete}
use Rattle.sqlite.specs.Source.TheVariants.{Values}
use Rattle.sqlite.specs.Effect.{value_rows}
use Rattle.sqlite.specs.Rows.{stamped}
use Rattle.mr_model.specs.Writes.{Id}
use Rattle.mr_model.specs.Replica.{is_among}
use Rattle.mr_tables.specs.TableOrders.{IsOrder}
use Rattle.mr_rows.specs.Meaning.{passes}
use Rattle.mr_rows.specs.Schema.{our_schema}
use Rattle.mr_rows.specs.Form.{Form}
use Rattle.mr_rows.specs.Database.{IsRowOf}
use Rattle.mr_rows.specs.StatementMeaning.{MeansIn, program_of, values_of, width_of}

-- rows whose cells are of the kinds of their columns
abbrev pub is_plain : Kind → Value → Bool
is_plain Integer (Int n) = true
is_plain kind.Text (Text t) = true
is_plain _ _ = false

abbrev pub are_plain : List Column → Row → Bool
are_plain (c ∷ cs) (v ∷ vs) = is_plain c.kind v && are_plain cs vs
are_plain _ _ = true

-- What is computed of a table under a schema: how a statement finds the rows of a key, and how it makes a row of parameters.
pub record Facts (under : Schema) {R K : Type 0} (f : Form R K) : Type 0 where
  pub order : IsOrder K f.before
  -- its place in the schema
  pub place : ℕ
  pub stands : slice_get under.tables place ≡ Some f.table
  -- a key as parameters, the tests that find its rows, and what they say of plain rows
  pub key_cells : K → Row
  pub key_tests : List Term
  pub has_key : K → R → Bool
  pub finds : (k : K) (r : Row) → IsRowOf f r → passes key_tests (key_cells k) r ≡ has_key k (f.row_in r)
  pub same_key : (k : K) (x : R) → has_key k x ≡ true → f.key x ≡ k
  pub own_key : (x y : R) → f.key y ≡ f.key x → has_key (f.key x) y ≡ true
  -- the values of a new row
  pub given : (x : R) → value_rows (stamped f.table (f.cells x)) (width_of f.table) (length (values_of f.table) / width_of f.table) (values_of f.table) ≡ (Null ∷ f.cells x) ∷ []
  pub plain : (x : R) → are_plain f.table.columns (f.cells x) ≡ true
  pub clashes : (x : R) (id : ℤ) (r : Row) → value_cmp (rowid r) (Int id) ≡ Less → conflicts None under.indexes f.table (Int id ∷ f.cells x) r ≡ passes key_tests (key_cells (f.key x)) r
  pub alone : (db : Trees) → overlay db [] f.table.tree ≡ db f.table.tree
  pub uncounted : f.table.is_counted ≡ false
  pub free : (taken news : List Row) → works under Enforced 0 f.table.tree taken news ≡ []

-- under this schema the text puts rows of parameters into the table
pub record Puts (under : Schema) {R K : Type 0} (f : Form R K) (text : List ℕ) : Type 0 where
  pub facts : Facts under f
  pub means : MeansIn under text (InsertOr facts.place Replace (Values (values_of f.table) (width_of f.table)) [])

-- under our schema the text takes away the row with an id, given its server and its count
pub record Takes {R K : Type 0} (f : Form R K) (id_of : R → Id) (text : List ℕ) : Type 0 where
  pub facts : Facts our_schema f
  pub key_of : Id → K
  pub means : MeansIn our_schema text (Delete facts.place (program_of f.table.tree facts.key_tests (col 1 0 ∷ [])))
  pub cells : (id : Id) → facts.key_cells (key_of id) ≡ Int (pos id.server) ∷ Int (pos id.n) ∷ []
  pub finds : (id : Id) (x : R) → facts.has_key (key_of id) x ≡ is_among (id_of x) (id ∷ [])
