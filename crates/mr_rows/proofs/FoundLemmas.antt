-- Rows that were found in the tables of a sound database, and read, are held.
use Rattle.std.proofs.Common.{◌≡◌, inl, inr, ℕ, pos, ◌+◌, zero, suc, List, [], ◌∷◌, map, length, drop, true, not, ◌&&◌, ◌||◌, IsTrue}
use Rattle.std.proofs.Common.{None, Some, Option, Ok, Err, Result, IfOk, OnOk, refl, sym, ap, subst, ◌∙◌, Less, arith, add-one, eq-eqb}
use Rattle.std.specs.List.{All, AllByRecursion, list_all}
use Rattle.std.proofs.lemmas.List.Elements.{recursion_from_All}
use Rattle.std.specs.List.Sorted.{IsPermutation}
use Rattle.std.proofs.lemmas.List.Sorted.{IsPermutation-map, IsPermutation-sym}
use Rattle.std.proofs.lemmas.Bool.{and_parts, and_from}
use Rattle.std.specs.Prelude.{nat_lt, ⊤}
use Rattle.std.proofs.lemmas.Slice.Eq.{bytes_eq-Decides}
use Rattle.sqlite_value.specs.declared.value.Value.{Value}
use Rattle.sqlite_value.specs.declared.value.Value.TheVariants.{Null, Int, Real, Text, Blob}
use Rattle.sqlite_value.specs.Order.{Row, column, value_cmp}
use Rattle.sqlite_value.specs.Keys.{first_key}
use Rattle.sqlite_trees.specs.Tree.{Trees, rowid, IsTable, IsAscending}
use Rattle.sqlite_trees.specs.View.{is_int}
use Rattle.sqlite_sql.specs.declared.ops.CompareOp.TheVariants.{Ne}
use Rattle.sqlite_sql.specs.Ops.{binary, is_true, is_null, from_truth, test}
use Rattle.sqlite_schema.specs.declared.schema.Column.{Column}
use Rattle.sqlite_schema.specs.declared.schema.Constraint.{Constraint}
use Rattle.sqlite_schema.specs.declared.schema.Constraint.TheVariants.{Datatype, NotNull, Unique}
use Rattle.sqlite_schema.specs.declared.schema.Index.{Index}
use Rattle.sqlite_schema.specs.declared.schema.Schema.{Schema}
use Rattle.sqlite_schema.specs.declared.schema.Table.{Table}
use Rattle.sqlite.specs.declared.error.Error.{Error}
use Rattle.sqlite.specs.Effect.{Database, IsDatabase}
use Rattle.sqlite_schema.specs.Rules.{equal, differ, agree, guards, clashes, suits, are_typed, are_present, has_computed, passes}
use Rattle.sqlite_rules.specs.Lists.{Has}
use Rattle.sqlite_rules.specs.Edit.{id_in}
use Rattle.sqlite_rules.proofs.ListLemmas.{all_has, all_from, test_has, some_from}
use Rattle.sqlite_rules.proofs.TableLemmas.{int_is}
use Rattle.sqlite_catalog.specs.Listing.{IsSound}
use Rattle.sqlite.specs.Collation.TheVariants.{Binary}
use Rattle.mr_model.specs.Texts as texts
use Rattle.mr_model.specs.Writes.{Id}
use Rattle.mr_model.specs.Tables.{MetaRow, VectorRow, LogRow, BookingRow, ErrorRow, CancelledRow, CancelRow, Tables}
use Rattle.mr_tables.specs.Change.{put, put_all}
use Rattle.mr_rows.specs.RowCells.{meta_in}
use Rattle.mr_rows.specs.Schema.{our_schema}
use Rattle.mr_rows.specs.Shelf.{IsShelf}
use Rattle.mr_rows.specs.Form.{Form, meta_form_of, meta_form, room_form, vector_form, log_form, booking_form, error_form, cancelled_form, cancel_form}
use Rattle.mr_rows.specs.Database.{IsRowOf, IsHeld, AreHeld, first_meta, in_order, tables_in}
use Rattle.mr_rows.specs.Shown.{columns_from, IsShownAs, IsStoredAs, AreStoredAs, AreOurRows, IsMeta, listed}
use Rattle.mr_rows.specs.Shelf.{HasShelves}
use Rattle.mr_rows.specs.Kept.{AreRowsOf}
use Rattle.mr_rows.proofs.FormLemmas.{has_map, has_moved}
use Rattle.mr_rows.proofs.ValueLemmas.{equal_nat, equal_text}
use Rattle.mr_rows.proofs.StepLemmas.{first_put}

-- ---- what is said of shown rows holds of the stored ones

pub stored_so : (P Q : Row → Type 0) (show : Row → Row) (stored shown : List Row) → ((r : Row) → P (show r) → Q r)
    → IsPermutation (map show stored) shown → AllByRecursion P shown → AllByRecursion Q stored
stored_so P Q show stored shown way same all = all_from Q stored (λ r here. way r (all_has P shown (show r) all (has_moved _ shown same (show r) (has_map show stored r here))))

pub meta_found : (number : ℕ) (trees : Trees) (shown : List Row) (r : Result (Option MetaRow) Error)
    → IsPermutation (map (columns_from 1 7) (trees 0)) shown → OnOk r (All (IsShownAs (meta_form_of number)) shown)
    → IfOk r (λ m. map (λ row. meta_in (Null ∷ row)) shown ≡ listed m) → IfOk r (λ m. AreStoredAs (meta_form_of number) trees × IsMeta trees m)
meta_found number trees shown (Ok m) same all is = (
  stored_so (IsShownAs (meta_form_of number)) (IsStoredAs (meta_form_of number)) (columns_from 1 7) (trees 0) shown (λ r h. h) same (recursion_from_All _ shown all),
  subst (λ xs. IsPermutation xs (listed m)) (twice (trees 0))
      (subst (IsPermutation (map (λ row. meta_in (Null ∷ row)) (map (columns_from 1 7) (trees 0)))) is (IsPermutation-map (λ row. meta_in (Null ∷ row)) _ shown same)),
)
  where
    twice : (rows : List Row) → map (λ row. meta_in (Null ∷ row)) (map (columns_from 1 7) rows) ≡ map meta_in rows
    twice [] = refl
    twice (r ∷ rows) = ap (λ more. meta_in r ∷ more) (twice rows)
meta_found number trees shown (Err e) same all is = tt

-- a table of which no row is shown has none
pub none_there : (show : Row → Row) (stored : List Row) → IsPermutation (map show stored) [] → stored ≡ []
none_there show [] same = refl
none_there show (r ∷ stored) same = absurd (has_moved _ [] same (show r) (inl refl))

pub none_found : {X : Type 0} (show : Row → Row) (stored shown : List Row) (r : Result X Error) → IsPermutation (map show stored) shown → OnOk r (shown ≡ []) → IfOk r (λ _. stored ≡ [])
none_found show stored shown (Ok x) same none = none_there show stored (subst (IsPermutation (map show stored)) none same)
none_found show stored shown (Err e) same none = tt

-- the row of `meta` that was found is the tables' own
pub meta_is_found : (trees : Trees) (m : MetaRow) → IsMeta trees (Some m) → (tables_in trees).meta ≡ m
unfolding tables_in
meta_is_found trees m same = go (map meta_in (trees 0)) same (λ x h. one (has_moved _ (m ∷ []) same x h))
  where
    one : {x : MetaRow} → Has (m ∷ []) x → x ≡ m
    one (inl e) = e
    one (inr h) = absurd h

    last : (xs rows : List MetaRow) → ((x : MetaRow) → Has xs x → x ≡ m) → first_meta rows ≡ m → first_meta (put_all nat_lt (λ _. 1) xs rows) ≡ m
    last [] rows all is = is
    last (x ∷ xs) rows all is = last xs (put nat_lt (λ _. 1) x rows) (λ y h. all y (inr h)) (first_put x rows ∙ all x (inl refl))

    go : (xs : List MetaRow) → IsPermutation xs (m ∷ []) → ((x : MetaRow) → Has xs x → x ≡ m) → first_meta (put_all nat_lt (λ _. 1) xs []) ≡ m
    go [] same all = absurd (has_moved (m ∷ []) [] (IsPermutation-sym _ _ same) m (inl refl))
    go (x ∷ xs) same all = last xs (x ∷ []) (λ y h. all y (inr h)) (all x (inl refl))

-- these are the rows of all tables beside `meta`
abbrev pub AreAll : Trees → List texts.Text → List VectorRow → List LogRow → List BookingRow → List ErrorRow → List CancelledRow → List CancelRow → Type 0
AreAll t room vector log booking errorlog cancelled cancels =
    ((AreRowsOf room_form t room × AreRowsOf vector_form t vector) × AreRowsOf log_form t log)
    × ((AreRowsOf booking_form t booking × AreRowsOf error_form t errorlog) × ((AreRowsOf cancelled_form t cancelled × AreRowsOf cancel_form t cancels) × ⊤))

pub whole_of : (trees : Trees) (t : Tables) → AreHeld trees → IsMeta trees (Some t.meta) → AreAll trees t.room t.vector t.log t.booking t.errorlog t.cancelled t.cancels → t ≡ tables_in trees
unfolding tables_in
whole_of trees t held is all =
    let meta = sym (meta_is_found trees t.meta is) in λ i. record {
      meta = meta i;
      room = all.0.0.0 held.room i;
      vector = all.0.0.1 held.vector i;
      log = all.0.1 held.log i;
      booking = all.1.0.0 held.booking i;
      errorlog = all.1.0.1 held.errorlog i;
      cancelled = all.1.1.0.0 held.cancelled i;
      cancels = all.1.1.0.1 held.cancels i;
    }

pub meta_in_tables : (trees : Trees) (m : MetaRow) → m ≡ first_meta (in_order meta_form (trees 0)) → m ≡ (tables_in trees).meta
unfolding tables_in
meta_in_tables trees m is = is

pub rooms_of : (trees : Trees) (rooms : List texts.Text) → IsHeld room_form (trees 2) → AreRowsOf room_form trees rooms → rooms ≡ (tables_in trees).room
unfolding tables_in
rooms_of trees rooms held all = all held

pub vector_of : (trees : Trees) (rows : List VectorRow) → IsHeld vector_form (trees 4) → AreRowsOf vector_form trees rows → rows ≡ (tables_in trees).vector
unfolding tables_in
vector_of trees rows held all = all held

-- ---- a row that obeys the rules of its table has a cell for each column

shifted : (n at : ℕ) (x : Value) (r : Row) → columns_from (at + 1) n (x ∷ r) ≡ columns_from at n r
shifted zero at x r = refl
shifted (suc n) at x r =
    let first : column (x ∷ r) (at + 1) ≡ column r at = ap (column (x ∷ r)) (add-one at) in
    let more = shifted n (at + 1) x r in
    λ i. first i ∷ more i

pub spelled : (r : Row) → r ≡ columns_from 0 (length r) r
spelled [] = refl
spelled (x ∷ r) = ap (λ more. x ∷ more) (spelled r ∙ sym (shifted (length r) 0 x r))

-- as many cells as columns that may not be null
counted : (columns : List Column) (at : ℕ) (r vs : Row) → ((k : ℕ) → column vs k ≡ column r (at + 1 + k)) → list_all (λ (c : Column). c.not_null) columns ≡ true → are_typed None at columns vs ≡ true
    → are_present None at columns r ≡ true → length vs ≡ length columns
counted [] at r [] same none typed present = refl
counted [] at r (v ∷ vs) same none typed present = absurd (cc)
counted (c ∷ columns) at r [] same none typed present =
    let required = (and_parts c.not_null _ none).0 in
    let there : (not c.not_null || not (is_null (column r (at + 1)))) ≡ true = (and_parts (not c.not_null || not (is_null (column r (at + 1)))) (are_present None (at + 1) columns r) present).0 in
    let index : at + 1 + 0 ≡ at + 1 = omega arith in
    let gone : column r (at + 1) ≡ Null = sym (same 0 ∙ ap (column r) index) in
    absurd (let e = rw (required, gone) at there in cc)
counted (c ∷ columns) at r (v ∷ vs) same none typed present =
    let more = counted columns (at + 1) r vs (λ k. next k) (and_parts c.not_null _ none).1 (and_parts (suits c v) (are_typed None (at + 1) columns vs) typed).1
    (and_parts (not c.not_null || not (is_null (column r (at + 1)))) (are_present None (at + 1) columns r) present).1 in
    ap suc more
  where
    next : (k : ℕ) → column vs k ≡ column r (at + 1 + 1 + k)
    next k =
        let index : at + 1 + (k + 1) ≡ at + 1 + 1 + k = omega arith in
        sym (ap (column (v ∷ vs)) (add-one k)) ∙ same (k + 1) ∙ ap (column r) index

-- ---- two rows of different rowids aren't of one key

pub equal_numbers : (v w : Value) (a b : ℕ) → v ≡ Int (pos a) → w ≡ Int (pos b) → a ≡ b → equal Binary v w ≡ true
equal_numbers v w a b p q same = (λ i. equal Binary (p i) (q i)) ∙ equal_nat a b ∙ eq-eqb a b same

pub equal_texts : (v w : Value) (a b : texts.Text) → v ≡ Text a → w ≡ Text b → a ≡ b → equal Binary v w ≡ true
equal_texts v w a b p q same = (λ i. equal Binary (p i) (q i)) ∙ equal_text a b ∙ (bytes_eq-Decides a b).1 same

other_rowids : (a b : Value) → IsTrue (is_int a) → IsTrue (is_int b) → value_cmp a b ≡ Less → differ a b ≡ true
unfolding binary
other_rowids (Int m) (Int n) h k low = ap (λ o. is_true (from_truth (Some (test Ne o)))) low
other_rowids (Int m) Null h k low = absurd (let never = k in cc)
other_rowids (Int m) (Real x) h k low = absurd (let never = k in cc)
other_rowids (Int m) (Text t) h k low = absurd (let never = k in cc)
other_rowids (Int m) (Blob b) h k low = absurd (let never = k in cc)
other_rowids Null b h k low = absurd (let never = h in cc)
other_rowids (Real x) b h k low = absurd (let never = h in cc)
other_rowids (Text t) b h k low = absurd (let never = h in cc)
other_rowids (Blob t) b h k low = absurd (let never = h in cc)

-- What is computed of a table under a schema: its columns and the index of its key.
pub record Ruled (under : Schema) {R K : Type 0} (f : Form R K) : Type 1 where
  pub listed : Has under.tables f.table
  pub keyless : f.table.key ≡ None
  pub required : list_all (λ (c : Column). c.not_null) f.table.columns ≡ true
  pub index : Index
  pub indexed : Has under.indexes index
  pub guarding : guards index f.table ≡ true
  pub agrees : (r s : Row) → IsRowOf f r → IsRowOf f s → f.key (f.row_in r) ≡ f.key (f.row_in s) → agree index.order index.columns r index.columns s ≡ true

module _ {under : Schema} {R K : Type 0} (f : Form R K) (ruled : Ruled under f) (db : Trees) (sound : IsSound under db) (shelf : IsShelf (db f.table.tree)) (read : AreStoredAs f db) where
  abbrev rows : List Row
  rows = db f.table.tree

  -- each row keeps each rule
  ruled_by : (rule : Constraint) (r : Row) → Has rows r → passes rule under db f.table r ≡ true
  ruled_by rule r here =
      all_has (λ row. passes rule under db f.table row ≡ true) rows r
      (all_has (λ (t : Table). AllByRecursion (λ row. passes rule under db t row ≡ true) (db t.tree)) under.tables f.table (sound.obeys.rules rule) ruled.listed) here

  keyed_by : (r : Row) → Has rows r → IsTrue (is_int (rowid r))
  keyed_by r here = all_has (λ row. IsTrue (is_int (rowid row))) rows r shelf.keyed here

  spelled_out : (r : Row) → IsTrue (is_int (rowid r)) → are_typed None 0 f.table.columns (drop 1 r) ≡ true → are_present None 0 f.table.columns r ≡ true → IsStoredAs f r → IsRowOf f r
  spelled_out [] keyed typed present is = absurd (let never = keyed in cc)
  spelled_out (x ∷ vs) keyed typed present is =
      let many = counted f.table.columns 0 (x ∷ vs) vs (λ k. let index : 0 + 1 + k ≡ suc k = omega arith in sym (ap (column (x ∷ vs)) index)) ruled.required typed present in
      let spelling : vs ≡ columns_from 1 (length f.table.columns) (x ∷ vs) = spelled vs ∙ sym (shifted (length vs) 0 x vs) ∙ ap (λ n. columns_from 1 n (x ∷ vs)) many in
      let cells : vs ≡ f.cells (f.row_in (x ∷ vs)) = spelling ∙ sym is.0 in
      let key : x ≡ Int (id_in x) = int_is x keyed in
      λ i. key i ∷ cells i

  row_of : (r : Row) → Has rows r → IsRowOf f r
  row_of r here =
      let kinds = (and_parts (are_typed f.table.key 0 f.table.columns (drop 1 r)) (has_computed f.table r) (ruled_by Datatype r here)).0 in
      let typed = subst (λ key. are_typed key 0 f.table.columns (drop 1 r) ≡ true) ruled.keyless kinds in
      let present = subst (λ key. are_present key 0 f.table.columns r ≡ true) ruled.keyless (ruled_by NotNull r here) in
      spelled_out r (keyed_by r here) typed present (all_has (IsStoredAs f) rows r read here)

  apart_from : (r s : Row) → Has rows r → Has rows s → value_cmp (rowid r) (rowid s) ≡ Less → f.key (f.row_in r) ≡ f.key (f.row_in s) → ⊥
  apart_from r s at_r at_s low same =
      let order = ruled.index.order in
      let places = ruled.index.columns in
      let rule : (not (guards ruled.index f.table && clashes order places rows s)) ≡ true =
      test_has (λ i. not (guards i f.table && clashes i.order i.columns rows s)) under.indexes ruled.index (ruled_by Unique s at_s) ruled.indexed in
      let clash : clashes order places rows s ≡ true =
      some_from (λ other. agree order places other places s && differ (rowid other) (rowid s)) rows r at_r
      (and_from (agree order places r places s) (differ (rowid r) (rowid s)) (ruled.agrees r s (row_of r at_r) (row_of s at_s) same)
      (other_rowids (rowid r) (rowid s) (keyed_by r at_r) (keyed_by s at_s) low)) in
      absurd (let e = rw (ruled.guarding, clash) at rule in cc)

  all_apart : (xs : List Row) → ((r : Row) → Has xs r → Has rows r) → IsTable xs → IsAscending (λ r s. f.key (f.row_in r) ≡ f.key (f.row_in s) → ⊥) xs
  all_apart [] inside up = tt
  all_apart (r ∷ xs) inside up = (
    all_from (λ s. f.key (f.row_in r) ≡ f.key (f.row_in s) → ⊥) xs (λ s h. apart_from r s (inside r (inl refl)) (inside s (inr h)) (all_has (λ s. value_cmp (rowid r) (rowid s) ≡ Less) xs s up.0 h)),
    all_apart xs (λ s h. inside s (inr h)) up.1,
  )

  pub held : IsHeld f rows
  held = record { shelf = shelf; whole = all_from (IsRowOf f) rows row_of; apart = all_apart rows (λ r h. h) shelf.rise }

-- ---- each table

meta_ruled : Ruled our_schema meta_form
unfolding first_key
meta_ruled = record {
  listed = inl refl;
  keyless = refl;
  required = refl;
  index = _;
  indexed = inl refl;
  guarding = refl;
  agrees = λ r s a b same. and_from _ _ (equal_numbers (column r 1) (column s 1) 1 1 (ap (λ x. column x 1) a) (ap (λ x. column x 1) b) refl) refl;
}

room_ruled : Ruled our_schema room_form
unfolding first_key
room_ruled = record {
  listed = inr (inl refl);
  keyless = refl;
  required = refl;
  index = _;
  indexed = inr (inl refl);
  guarding = refl;
  agrees = λ r s a b same. and_from _ _ (equal_texts (column r 1) (column s 1) _ _ (ap (λ x. column x 1) a) (ap (λ x. column x 1) b) same) refl;
}

vector_ruled : Ruled our_schema vector_form
unfolding first_key
vector_ruled = record {
  listed = inr (inr (inl refl));
  keyless = refl;
  required = refl;
  index = _;
  indexed = inr (inr (inl refl));
  guarding = refl;
  agrees = λ r s a b same. and_from _ _ (equal_numbers (column r 1) (column s 1) _ _ (ap (λ x. column x 1) a) (ap (λ x. column x 1) b) same) refl;
}

-- a key of two numbers
ids_agree : (at bt : ℕ) (r s : Row) (x y : Id) → column r at ≡ Int (pos x.server) → column s at ≡ Int (pos y.server) → column r bt ≡ Int (pos x.n) → column s bt ≡ Int (pos y.n) → x ≡ y
    → (equal Binary (column r at) (column s at) && (equal Binary (column r bt) (column s bt) && true)) ≡ true
ids_agree at bt r s x y a b c d same =
    and_from _ _ (equal_numbers (column r at) (column s at) x.server y.server a b (ap (λ (i : Id). i.server) same))
    (and_from _ _ (equal_numbers (column r bt) (column s bt) x.n y.n c d (ap (λ (i : Id). i.n) same)) refl)

pub ruled_by_ids : {under : Schema} {R : Type 0} (f : Form R Id) (index : Index) (at bt : ℕ) → Has under.tables f.table
    → Has under.indexes index → f.table.key ≡ None → list_all (λ (c : Column). c.not_null) f.table.columns ≡ true → guards index f.table ≡ true
    → ((r s : Row) → agree index.order index.columns r index.columns s ≡ (equal Binary (column r at) (column s at) && (equal Binary (column r bt) (column s bt) && true)))
    → ((x : R) (v : Value) → column (v ∷ f.cells x) at ≡ Int (pos (f.key x).server)) → ((x : R) (v : Value) → column (v ∷ f.cells x) bt ≡ Int (pos (f.key x).n)) → Ruled under f
ruled_by_ids f index at bt listed indexed keyless required guarding agrees server n = record {
  listed = listed;
  keyless = keyless;
  required = required;
  index = index;
  indexed = indexed;
  guarding = guarding;
  agrees = λ r s a b same.
      let rid = Int (id_in (rowid r)) in
      let sid = Int (id_in (rowid s)) in
      agrees r s
      ∙ ids_agree at bt r s (f.key (f.row_in r)) (f.key (f.row_in s)) (ap (λ x. column x at) a ∙ server (f.row_in r) rid)
      (ap (λ x. column x at) b ∙ server (f.row_in s) sid) (ap (λ x. column x bt) a ∙ n (f.row_in r) rid) (ap (λ x. column x bt) b ∙ n (f.row_in s) sid) same;
}

booking_ruled : Ruled our_schema booking_form
unfolding first_key
booking_ruled = ruled_by_ids booking_form _ 5 6 (inr (inr (inr (inr (inr (inl refl)))))) (inr (inr (inr (inr (inr (inl refl)))))) refl refl refl (λ r s. refl) (λ x v. refl) (λ x v. refl)

error_ruled : Ruled our_schema error_form
unfolding first_key
error_ruled = ruled_by_ids error_form _ 5 6 (inr (inr (inr (inr (inr (inr (inl refl))))))) (inr (inr (inr (inr (inr (inr (inl refl))))))) refl refl refl (λ r s. refl) (λ x v. refl) (λ x v. refl)

log_ruled : Ruled our_schema log_form
unfolding first_key
log_ruled = ruled_by_ids log_form _ 1 2 (inr (inr (inr (inr (inr (inr (inr (inl refl))))))))
    (inr (inr (inr (inr (inr (inr (inr (inl refl)))))))) refl refl refl (λ r s. refl) (λ x v. refl) (λ x v. refl)

cancelled_ruled : Ruled our_schema cancelled_form
unfolding first_key
cancelled_ruled = ruled_by_ids cancelled_form _ 5 6 (inr (inr (inr (inr (inr (inr (inr (inr (inl refl)))))))))
    (inr (inr (inr (inr (inr (inr (inr (inr (inl refl))))))))) refl refl refl (λ r s. refl) (λ x v. refl) (λ x v. refl)

cancel_ruled : Ruled our_schema cancel_form
unfolding first_key
cancel_ruled = ruled_by_ids cancel_form _ 1 2 (inr (inr (inr (inr (inr (inr (inr (inr (inr (inl refl))))))))))
    (inr (inr (inr (inr (inr (inr (inr (inr (inr (inl refl)))))))))) refl refl refl (λ r s. refl) (λ x v. refl) (λ x v. refl)

-- ---- all of them

pub all_held : (db : Database) → db.schema ≡ our_schema → IsDatabase db → HasShelves db → AreOurRows db.trees → AreHeld db.trees
all_held db ours sound shelves rows =
    let whole = subst (λ schema. IsSound schema db.trees) ours sound in
    let shelf = λ (table : Table) (here : Has our_schema.tables table). shelves table (subst (λ schema. Has schema.tables table) (sym ours) here) in
    record {
      meta = held meta_form meta_ruled db.trees whole (shelf _ meta_ruled.listed) rows.meta;
      room = held room_form room_ruled db.trees whole (shelf _ room_ruled.listed) rows.room;
      vector = held vector_form vector_ruled db.trees whole (shelf _ vector_ruled.listed) rows.vector;
      log = held log_form log_ruled db.trees whole (shelf _ log_ruled.listed) rows.log;
      booking = held booking_form booking_ruled db.trees whole (shelf _ booking_ruled.listed) rows.booking;
      errorlog = held error_form error_ruled db.trees whole (shelf _ error_ruled.listed) rows.errorlog;
      cancelled = held cancelled_form cancelled_ruled db.trees whole (shelf _ cancelled_ruled.listed) rows.cancelled;
      cancels = held cancel_form cancel_ruled db.trees whole (shelf _ cancel_ruled.listed) rows.cancels;
      no_write_log = rows.no_write_log;
      no_undo = rows.no_undo;
    }
