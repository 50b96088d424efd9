-- The command line as clap sees it: a subcommand for each row of the table, with one positional for all its words.
use Rattle.std.specs.Prelude.{◌∷◌, [], List, map, codes, Some, true, fold}
use Rattle.mr_model.specs.Texts.{Text}
use Rattle.mr_words.specs.CommandTable.{table}
use Rattle.clap.specs.Lexer.{usize_max}
use Rattle.clap.specs.Walk.{Rule}
use Rattle.clap.specs.Simple.{App, Shape, new_rule, new_shape, with_subcommand}

-- the positional: any number of words
abbrev pub words_rule : Rule
words_rule = record (new_rule (codes "words")) { range = Some (record { start_inclusive = 0; end_inclusive = usize_max }) }

-- the subcommand of a row
abbrev pub row_shape : Text → Shape
row_shape name = record (new_shape name) { rules = words_rule ∷ [] }

-- the program, before it has rows: one level of subcommands, of which one has to be named, and no help
abbrev pub bare_program : App
bare_program = record {
  top = record (new_shape (codes "rooms")) {
    no_binary_name = true;
    disable_help_flag = true;
    disable_help_subcommand = true;
    subcommand_required = true;
  };
  subs = [];
}

-- the program with rows of these names
abbrev pub program : List Text → App
program names = fold (λ app name. with_subcommand app (row_shape name)) bare_program names

abbrev pub row_names : List Text
row_names = map (λ row. row.0) table
