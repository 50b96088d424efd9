-- What the statements mean, first of all under our schema.
use Rattle.std.proofs.Common.{◌≡◌, ℕ, zero, suc, ◌+◌, List, [], ◌∷◌, length, map, false}
use Rattle.sqlite_value.specs.declared.value.Value.TheVariants.{Null}
use Rattle.sqlite_sql.specs.Term.{Term, lit, col, op2}
use Rattle.sqlite_sql.specs.declared.ops.BinaryOp.TheVariants.{Compare}
use Rattle.sqlite_sql.specs.declared.ops.CompareOp.TheVariants.{Eq}
use Rattle.sqlite_schema.specs.declared.command.Command.{Command}
use Rattle.sqlite_schema.specs.declared.program.Program.{Program}
use Rattle.sqlite_schema.specs.declared.schema.Column.{Column}
use Rattle.sqlite_schema.specs.declared.schema.Schema.{Schema}
use Rattle.sqlite_schema.specs.declared.schema.Table.{Table}
use Rattle.sqlite.specs.Collation.TheVariants.{Binary}
use Rattle.sqlite.specs.Listing.{understood, reads_listing}
use Rattle.sqlite.specs.Command.TheVariants.{Select}
use Rattle.sqlite.proofs.Callers.{IsPlain, command_of}
use Rattle.mr_rows.specs.Meaning.{query_of, columns_at}
use Rattle.mr_rows.specs.Schema.{our_schema}

-- under this schema the text means the command, and shows no rows of its own
abbrev pub MeansIn : Schema → List ℕ → Command → Type 0
MeansIn under text command = (command_of (understood under text) ≡ command) × IsPlain (understood under text)

-- it is a query, which reads no catalog
abbrev pub MeansQueryIn : Schema → List ℕ → Command → Type 0
MeansQueryIn under text command = MeansIn under text command × (reads_listing under text ≡ false)

-- ---- under our schema

abbrev pub Means : List ℕ → Command → Type 0
Means text command = MeansIn our_schema text command

abbrev pub MeansQuery : List ℕ → Command → Type 0
MeansQuery text command = MeansQueryIn our_schema text command

abbrev pub program_of : ℕ → List Term → List Term → Program
program_of tree tests project = record { lets = []; body = query_of tree tests project }

abbrev pub names_of : Table → List (List ℕ)
names_of t = map (λ (c : Column). c.name) t.columns

-- the rows of a table that pass the tests are shown, with all columns
abbrev pub asks : Table → List Term → Command
asks t tests = Select (program_of t.tree tests (columns_at 1 (length t.columns))) (names_of t)

abbrev pub same : Term → Term → Term
same a b = op2 (Compare Eq Binary) a b

-- a column is the first parameter; two are the first and the second
abbrev pub one_test : ℕ → List Term
one_test at = same (col 1 at) (col 0 0) ∷ []

abbrev pub id_tests : ℕ → ℕ → List Term
id_tests at bt = same (col 1 at) (col 0 0) ∷ same (col 1 bt) (col 0 1) ∷ []

-- the values of a new row: a rowid that is chosen, and as many parameters as the table has columns
abbrev parameters : ℕ → ℕ → List Term
parameters at zero = []
parameters at (suc n) = col 0 at ∷ parameters (at + 1) n

abbrev pub values : ℕ → List Term
values n = lit Null ∷ parameters 0 n

abbrev pub values_of : Table → List Term
values_of t = values (length t.columns)

abbrev pub width_of : Table → ℕ
width_of t = length t.columns + 1
