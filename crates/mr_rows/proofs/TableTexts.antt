-- The texts that ask for all rows of a table and that put a row, under our schema and under both.
use Rattle.std.proofs.Common.{◌≡◌, ℕ, List, [], true, length}
use Rattle.sqlite_typing.specs.Types.{accepts_program}
use Rattle.sqlite_schema.specs.declared.schema.Schema.{Schema}
use Rattle.sqlite_schema.specs.declared.command.Conflict.TheVariants.{Replace}
use Rattle.sqlite.specs.Command.TheVariants.{InsertOr}
use Rattle.sqlite.specs.Source.TheVariants.{Values}
use Rattle.sqlite.specs.Listing.{understood}
use Rattle.mr_rows.specs.Meaning.{query_of, columns_at}
use Rattle.mr_rows.specs.Schema.{our_schema, first_schema, IsOfTwo}
use Rattle.mr_rows.specs.StatementMeaning.{MeansIn, MeansQueryIn, asks, values_of, width_of}
use Rattle.mr_rows.specs.Form.{Form}
use Rattle.mr_rows.specs.Facts.{Facts, Puts}
use Rattle.mr_rows.specs.Causes.{AsksAll}
use Rattle.mr_rows.proofs.SureTexts.{is_whole, asks_all}
use Rattle.mr_rows.proofs.StatementLemmas.{under_ours, under_first, under_two}

-- one text asks for all rows of the table, and the other puts a row
abbrev pub Say : {R K : Type 0} → (Schema → Type 0) → Form R K → List ℕ → List ℕ → Type 0
Say Stands f all put = ((under : Schema) → Stands under → AsksAll under f.table.tree (length f.table.columns) all) × ((under : Schema) → Stands under → Puts under f put)

abbrev Asks : {R K : Type 0} → Schema → Form R K → List ℕ → Type 0
Asks under f all = MeansQueryIn under all (asks f.table [])

abbrev Whole : Schema → List ℕ → Type 0
Whole under all = is_whole all 0 (understood under all) ≡ true

abbrev Accepts : {R K : Type 0} → Schema → Form R K → Type 0
Accepts under f = accepts_program under [] (query_of f.table.tree [] (columns_at 1 (length f.table.columns))) [] ≡ true

abbrev Inserts : {R K : Type 0} {under : Schema} {f : Form R K} → Facts under f → List ℕ → Type 0
Inserts {under = under} {f = f} facts put = MeansIn under put (InsertOr facts.place Replace (Values (values_of f.table) (width_of f.table)) [])

pub our_told : {R K : Type 0} {f : Form R K} {all put : List ℕ} (facts : Facts our_schema f) → Asks our_schema f all
    → Whole our_schema all → Accepts our_schema f → Inserts facts put → Say (λ under. under ≡ our_schema) f all put
our_told {f = f} {all} {put} facts means whole accepts inserts = (
  under_ours (λ s. AsksAll s f.table.tree (length f.table.columns) all) (asks_all _ _ facts.alone all _ means whole accepts),
  under_ours (λ s. Puts s f put) (record { facts = facts; means = inserts }),
)

pub first_told : {R K : Type 0} {f : Form R K} {all put : List ℕ} (facts : Facts first_schema f) → Asks first_schema f all
    → Whole first_schema all → Accepts first_schema f → Inserts facts put → Say (λ under. under ≡ first_schema) f all put
first_told {f = f} {all} {put} facts means whole accepts inserts = (
  under_first (λ s. AsksAll s f.table.tree (length f.table.columns) all) (asks_all _ _ facts.alone all _ means whole accepts),
  under_first (λ s. Puts s f put) (record { facts = facts; means = inserts }),
)

pub two_told : {R K : Type 0} {f : Form R K} {all put : List ℕ} (ours : Facts our_schema f) → Asks our_schema f all → Whole our_schema all → Accepts our_schema f → Inserts ours put
    → (first : Facts first_schema f) → Asks first_schema f all → Whole first_schema all → Accepts first_schema f → Inserts first put → Say IsOfTwo f all put
two_told {f = f} {all} {put} ours means whole accepts inserts first means_first whole_first accepts_first inserts_first = (
  under_two (λ s. AsksAll s f.table.tree (length f.table.columns) all) (asks_all _ _ ours.alone all _ means whole accepts) (asks_all _ _ first.alone all _ means_first whole_first accepts_first),
  under_two (λ s. Puts s f put) (record { facts = ours; means = inserts }) (record { facts = first; means = inserts_first }),
)
