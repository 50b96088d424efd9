-- The texts that ask for some rows of a table can only fail by the store, and show rows of the table alone.
use Rattle.std.proofs.Common.{◌≡◌, ℕ, pos, Bool, true, ◌&&◌, List, [], ◌∷◌, length, map, filter, ap, ◌∙◌}
use Rattle.std.specs.Prelude.{bytes_eq}
use Rattle.std.specs.List.{All, AllByRecursion}
use Rattle.std.specs.List.Sorted.{IsPermutation}
use Rattle.std.proofs.lemmas.List.Elements.{All-from_recursion}
use Rattle.std.proofs.lemmas.List.Sorted.{IsPermutation-sym}
use Rattle.sqlite_value.specs.declared.value.Value.TheVariants.{Null, Int, Text}
use Rattle.sqlite_value.specs.Order.{Row, column}
use Rattle.sqlite_value.specs.declared.value.Value.{Value}
use Rattle.sqlite_rules.specs.Edit.{id_in}
use Rattle.sqlite_trees.specs.Tree.{rowid}
use Rattle.sqlite_schema.specs.Rules.{equal}
use Rattle.sqlite.specs.Collation.TheVariants.{Binary}
use Rattle.sqlite_trees.proofs.ListLemmas.{all-filter}
use Rattle.sqlite_sql.specs.Term.{Term, eval_all}
use Rattle.sqlite_typing.specs.Types.{accepts_program}
use Rattle.sqlite_rules.proofs.ListLemmas.{all_has, all_from}
use Rattle.sqlite.specs.Command.TheVariants.{Select}
use Rattle.sqlite.specs.Listing.{understood}
use Rattle.sqlite.specs.State.{State, Shown}
use Rattle.sqlite.proofs.Callers.{reads_as}
use Rattle.mr_model.specs.Texts as texts
use Rattle.mr_model.specs.Writes.{Id}
use Rattle.mr_model.specs.Replica.{is_among}
use Rattle.mr_rows.specs.Meaning.{passes, query_of, columns_at}
use Rattle.mr_rows.specs.Schema.{our_schema}
use Rattle.mr_rows.specs.Form.{Form}
use Rattle.mr_rows.specs.Database.{IsRowOf}
use Rattle.mr_rows.specs.Shown.{IsShownAs, IsStoredAs, AreStoredAs}
use Rattle.mr_rows.specs.RowsAsked.{AreChosen, AsksFor}
use Rattle.mr_rows.specs.StatementMeaning.{MeansQuery, asks, one_test, id_tests, program_of, names_of}
use Rattle.mr_rows.proofs.ValueLemmas.{equal_text, and_true, id_test}
use Rattle.mr_rows.proofs.FormLemmas.{shows, has_moved}
use Rattle.mr_rows.proofs.CauseLemmas.{all_mapped}
use Rattle.mr_rows.proofs.SureTexts.{is_whole, sure_text}
use Rattle.mr_rows.proofs.TableLemmas.{finds_rows}
use Rattle.mr_rows.specs.Facts.{Facts}

-- ---- what such a text shows

module _ {R K : Type 0} (f : Form R K) (text : List ℕ) (params : Row) (chosen : R → Bool) (asks : AsksFor f text params chosen) where
  abbrev project : List Term
  project = columns_at 1 (length f.table.columns)

  -- of rows that are the table's own
  moved_own : (stored rows : List Row) → IsPermutation (map (λ r. eval_all project (params ∷ r ∷ [])) (filter (passes asks.tests params) stored)) rows
      → AllByRecursion (IsStoredAs f) stored → AllByRecursion (IsShownAs f) rows
  moved_own stored rows same all =
      let show = λ (r : Row). eval_all project (params ∷ r ∷ []) in
      let found = filter (passes asks.tests params) stored in
      let mapped = all_mapped (IsShownAs f) (IsStoredAs f) show found asks.own (all-filter (IsStoredAs f) (passes asks.tests params) stored all) in
      all_from (IsShownAs f) rows (λ r here. all_has (IsShownAs f) (map show found) r mapped (has_moved rows (map show found) (IsPermutation-sym _ _ same) r here))

  shows_own : (old new : State) (rows : List Row) → old.now.schema ≡ our_schema → AreStoredAs f old.now.trees → Shown text params old new rows → All (IsShownAs f) rows
  shows_own old new rows schema stored shown =
      let answer = reads_as text params old new our_schema schema (Select (program_of f.table.tree asks.tests project) asks.names) asks.means asks.plain asks.sure.0 rows shown in
      All-from_recursion (IsShownAs f) rows
      (moved_own (old.now.trees f.table.tree) rows (shows f.table.tree asks.tests project old.now.trees params rows (asks.alone old.now.trees) (answer.answer Null)) stored)

  pub shows_chosen : (old new : State) (rows : List Row) → old.now.schema ≡ our_schema → Shown text params old new rows → AreChosen f chosen old.now.trees rows
  shows_chosen old new rows schema shown = (
    λ held. finds_rows f asks.order asks.alone text asks.tests project asks.names params old new chosen rows ((asks.means, asks.plain), asks.sure.0) asks.picks asks.same schema held shown,
    λ stored. shows_own old new rows schema stored shown,
  )

-- ---- texts

asks_for : {R K : Type 0} (f : Form R K) (facts : Facts our_schema f) (text : List ℕ) (tests : List Term) (params : Row) (chosen : R → Bool)
    → MeansQuery text (asks f.table tests) → ((r : Row) → IsRowOf f r → passes tests params r ≡ chosen (f.row_in r))
    → ((r : Row) → IsRowOf f r → f.row_in (Null ∷ eval_all (columns_at 1 (length f.table.columns)) (params ∷ r ∷ [])) ≡ f.row_in r)
    → ((r : Row) → IsStoredAs f r → IsShownAs f (eval_all (columns_at 1 (length f.table.columns)) (params ∷ r ∷ [])))
    → is_whole text (length params) (understood our_schema text) ≡ true
    → accepts_program our_schema [] (query_of f.table.tree tests (columns_at 1 (length f.table.columns))) params ≡ true → AsksFor f text params chosen
asks_for f facts text tests params chosen means picks same own whole accepts = record {
  tests = tests;
  names = names_of f.table;
  means = means.0.0;
  plain = means.0.1;
  sure = sure_text text params f.table.tree tests (columns_at 1 (length f.table.columns)) (names_of f.table) means whole accepts;
  order = facts.order;
  alone = facts.alone;
  picks = picks;
  same = same;
  own = own;
}

-- for the rows of a room, whose name is in this column
pub room_asks : {R K : Type 0} {f : Form R K} (facts : Facts our_schema f) (text : List ℕ) (at : ℕ) (room_of : R → texts.Text)
    → MeansQuery text (asks f.table (one_test at)) → ((x : R) (v : Value) → column (v ∷ f.cells x) at ≡ Text (room_of x))
    → ((room : texts.Text) (r : Row) → IsRowOf f r → f.row_in (Null ∷ eval_all (columns_at 1 (length f.table.columns)) ((Text room ∷ []) ∷ r ∷ [])) ≡ f.row_in r)
    → ((room : texts.Text) (r : Row) → IsStoredAs f r → IsShownAs f (eval_all (columns_at 1 (length f.table.columns)) ((Text room ∷ []) ∷ r ∷ [])))
    → is_whole text 1 (understood our_schema text) ≡ true
    → ((room : texts.Text) → accepts_program our_schema [] (query_of f.table.tree (one_test at) (columns_at 1 (length f.table.columns))) (Text room ∷ []) ≡ true)
    → (room : texts.Text) → AsksFor f text (Text room ∷ []) (λ row. bytes_eq (room_of row) room)
room_asks {f = f} facts text at room_of means cell same own whole accepts room =
    asks_for f facts text (one_test at) (Text room ∷ []) (λ row. bytes_eq (room_of row) room) means
    (λ r is. ap (λ v. equal Binary v (Text room) && true) (ap (λ y. column y at) is ∙ cell (f.row_in r) (Int (id_in (rowid r))))
    ∙ and_true _ ∙ equal_text (room_of (f.row_in r)) room) (same room) (own room) whole (accepts room)

-- for the row with an id, which is in these columns
pub id_asks : {R : Type 0} {f : Form R Id} (facts : Facts our_schema f) (text : List ℕ) (at bt : ℕ) → MeansQuery text (asks f.table (id_tests at bt))
    → ((x : R) (v : Value) → column (v ∷ f.cells x) at ≡ Int (pos (f.key x).server)) → ((x : R) (v : Value) → column (v ∷ f.cells x) bt ≡ Int (pos (f.key x).n))
    → ((id : Id) (r : Row) → IsRowOf f r → f.row_in (Null ∷ eval_all (columns_at 1 (length f.table.columns)) ((Int (pos id.server) ∷ Int (pos id.n) ∷ []) ∷ r ∷ [])) ≡ f.row_in r)
    → ((id : Id) (r : Row) → IsStoredAs f r → IsShownAs f (eval_all (columns_at 1 (length f.table.columns)) ((Int (pos id.server) ∷ Int (pos id.n) ∷ []) ∷ r ∷ [])))
    → is_whole text 2 (understood our_schema text) ≡ true
    → ((id : Id) → accepts_program our_schema [] (query_of f.table.tree (id_tests at bt) (columns_at 1 (length f.table.columns))) (Int (pos id.server) ∷ Int (pos id.n) ∷ []) ≡ true)
    → (id : Id) → AsksFor f text (Int (pos id.server) ∷ Int (pos id.n) ∷ []) (λ row. is_among (f.key row) (id ∷ []))
id_asks {f = f} facts text at bt means server n same own whole accepts id =
    asks_for f facts text (id_tests at bt) (Int (pos id.server) ∷ Int (pos id.n) ∷ []) (λ row. is_among (f.key row) (id ∷ [])) means
    (λ r is.
    let x = f.row_in r in
    let s = ap (λ y. column y at) is ∙ server x (Int (id_in (rowid r))) in
    let c = ap (λ y. column y bt) is ∙ n x (Int (id_in (rowid r))) in
    (λ i. equal Binary (s i) (Int (pos id.server)) && (equal Binary (c i) (Int (pos id.n)) && true)) ∙ id_test (f.key x).server (f.key x).n id) (same id) (own id) whole (accepts id)
