-- How the words of a command line are read: what the values of the code are in the table, and what `clap` makes of the words.
use Rattle.std.specs.Prelude.{◌≡◌, List, ◌∷◌, [], codes, Some, unwrap_or}
use Rattle.std.specs.String.{string_bytes}
use Rattle.clap.specs.Words.{Row, all_of, subcommand_rows_of}
use Rattle.clap.specs.declared.parser.ArgMatches.{ArgMatches}
use Rattle.mr_model.specs.Texts.{Text}
use Rattle.mr_service.specs.Asked.{local_of}
use Rattle.mr_words.specs.declared.invocations.Invocation.{Invocation}
use Rattle.mr_words.specs.declared.invocations.Invocation.TheVariants as invocation
use Rattle.mr_words.specs.declared.invocations.Task.TheVariants as task
use Rattle.mr_words.specs.CommandTable.{Invoked, Init, Ask, Export, Import, Rehearse, Serve, Exchange, Bridge}

-- what an invocation asks for
abbrev pub asked_of : Invocation → Invoked
asked_of (invocation.Init database server primary) = Init (string_bytes database) server primary
asked_of (invocation.Ask database (task.Local local)) = Ask (string_bytes database) (local_of local)
asked_of (invocation.Ask database (task.Export position out lines)) = Export (string_bytes database) (string_bytes position) (string_bytes out) lines
asked_of (invocation.Ask database (task.Import batch)) = Import (string_bytes database) (string_bytes batch)
asked_of (invocation.Serve database port count) = Serve (string_bytes database) port count
asked_of (invocation.Exchange database url) = Exchange (string_bytes database) (string_bytes url)
asked_of (invocation.Bridge database other) = Bridge (string_bytes database) (string_bytes other)
asked_of (invocation.Rehearse script) = Rehearse (string_bytes script)

-- ---- what clap found

-- the words of a row
abbrev pub words_in : List Row → List Text
words_in rows = unwrap_or (all_of (codes "words") rows) []

-- the first word names the row that clap found, and the other words are those of the row
abbrev pub NamesRow : List Text → ArgMatches → Type 0
NamesRow words m =
    (name : Text) × (rows : List Row) × (words ≡ name ∷ words_in rows) × (subcommand_rows_of m ≡ Some (name, rows))
