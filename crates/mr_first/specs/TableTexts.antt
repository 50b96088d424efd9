-- Texts that make the tables of a schema.
use Rattle.std.specs.Prelude.{◌≡◌, ℕ, false, List, [], ◌∷◌, Ok}
use Rattle.sqlite_schema.specs.declared.schema.Schema.{Schema}
use Rattle.sqlite_schema.specs.declared.schema.Table.{Table}
use Rattle.sqlite.specs.Change.{created}
use Rattle.sqlite.specs.Command.TheVariants.{CreateTable}
use Rattle.sqlite.specs.Compile.{table_defined_by}
use Rattle.sqlite.specs.Does.{lacks_sequence}
use Rattle.sqlite.specs.Given.{IsPlain}
use Rattle.sqlite.specs.Listing.{understood}
use Rattle.sqlite.proofs.Callers.{command_of, statement_of}

-- a text that makes a table under a schema
abbrev pub MakesTable : Schema → List ℕ → Table → Type 0
MakesTable schema text table =
    (command_of (understood schema text) ≡ CreateTable) × IsPlain (understood schema text) × (statement_of text (understood schema text) ≡ text) × (table_defined_by text ≡ Ok table)
    × (lacks_sequence (created schema table) ≡ false)

-- texts that make one schema of another, a table each
abbrev pub MakesSchema : Schema → List (List ℕ) → Schema → Type 0
MakesSchema before [] after = before ≡ after
MakesSchema before (text ∷ texts) after = (table : Table) × MakesTable before text table × MakesSchema (created before table) texts after
