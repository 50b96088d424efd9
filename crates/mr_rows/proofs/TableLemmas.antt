-- What the statements on one table make of its rows, whichever table it is.
use Rattle.std.proofs.Common.{◌≡◌, ℕ, ℤ, pos, ◌&&◌, ◌||◌, List, [], ◌∷◌, ◌++◌, map, filter, Bool, true, false, not, ◌==◌}
use Rattle.std.proofs.Common.{cond, None, Some, Ok, Err, Result, Option, OnOk, refl, sym, ap, subst, ◌∙◌, eqb-true, arith}
use Rattle.std.specs.Prelude.{length, slice_get, ◌/◌}
use Rattle.std.specs.List.{AllByRecursion}
use Rattle.std.specs.List.Sorted.{IsPermutation}
use Rattle.std.proofs.lemmas.List.Sorted.{IsPermutation-map, IsPermutation-sym, IsPermutation-trans}
use Rattle.sqlite_value.specs.declared.value.Value.{Value}
use Rattle.sqlite_value.specs.declared.value.Value.TheVariants.{Null, Int}
use Rattle.sqlite_value.specs.Order.{Row, column}
use Rattle.sqlite_trees.specs.Tree.{Trees, rowid, IsAscending}
use Rattle.sqlite_trees.proofs.ListLemmas.{all-filter, ascending-filter, IsPermutation-filter}
use Rattle.sqlite_sql.specs.Term.{Term, col, eval_all}
use Rattle.sqlite_sql.specs.Program.{overlay}
use Rattle.sqlite_schema.specs.declared.schema.Keys.TheVariants.{Enforced}
use Rattle.sqlite_schema.specs.declared.program.Program.{Program}
use Rattle.sqlite_schema.specs.declared.schema.Schema.{Schema}
use Rattle.sqlite_schema.specs.declared.schema.Table.{Table}
use Rattle.sqlite_schema.specs.declared.command.Conflict.TheVariants.{Replace}
use Rattle.sqlite_rules.specs.Lists.{Has}
use Rattle.sqlite_rules.proofs.ListLemmas.{all_has, all_from, has_filtered}
use Rattle.sqlite_rules.specs.Action.{works}
use Rattle.sqlite_rules.specs.Cast.{cast, cast_row}
use Rattle.sqlite_rules.specs.Keys.{conflicts}
use Rattle.sqlite_rules.specs.Edit.{id_in, next_rowid, IsNoIndex}
use Rattle.sqlite_schema.specs.Rules.{equal}
use Rattle.sqlite.specs.Collation.TheVariants.{Binary}
use Rattle.mr_model.specs.Writes.{Id}
use Rattle.mr_model.specs.Replica.{is_among}
use Rattle.sqlite.specs.Command.TheVariants.{InsertOr, Delete, Select}
use Rattle.sqlite.specs.Source.TheVariants.{Values}
use Rattle.sqlite.specs.declared.error.Error.{Error}
use Rattle.sqlite.specs.declared.run.Mode.{Mode}
use Rattle.sqlite.specs.Effect.{Database, value_rows}
use Rattle.sqlite.specs.Listing.{understood}
use Rattle.sqlite.specs.Rows.{Task, Part, stamped}
use Rattle.sqlite.specs.Does.{Does, OnRows, OnTable, AtPlace, Tally}
use Rattle.sqlite.specs.Kind.TheVariants.{Integer}
use Rattle.sqlite.specs.State.{State, mode_of, ExecutesInside, Shown}
use Rattle.sqlite.proofs.Callers.{statement_of, runs_as, reads_as}
use Rattle.mr_tables.specs.Change.{put, put_all}
use Rattle.mr_tables.specs.TableOrders.{IsOrder}
use Rattle.mr_rows.specs.Meaning.{passes}
use Rattle.mr_rows.specs.Form.{Form}
use Rattle.mr_rows.specs.Database.{IsRowOf, IsHeld, in_order}
use Rattle.mr_rows.specs.TableSteps.{trees_with, Turns}
use Rattle.mr_rows.specs.StatementMeaning.{MeansIn, MeansQueryIn, program_of, one_test, id_tests, values_of, width_of}
use Rattle.mr_rows.proofs.ValueLemmas.{equal_apart, and_true, id_test, among_one, one_among, clash_one, clash_two, cast_null, cast_int, casts_plain, mends_plain}
use Rattle.mr_rows.proofs.RowLemmas.{shelf_filter, shelf_push, next_above, ascending_push}
use Rattle.mr_rows.proofs.FormLemmas.{deletes, upserts, shows, Leaves}
use Rattle.mr_rows.proofs.SortedByKey.{Apart, ordered-filter, ordered-put, ordered_same}
use Rattle.mr_rows.specs.Facts.{Facts, are_plain}

-- ---- keys

-- of one column, whose cell tells the key
abbrev pub facts_by_one : {under : Schema} {R K : Type 0} (f : Form R K) (order : IsOrder K f.before) (place : ℕ) (cell : K → Value) (same : K → K → Bool)
    → ((a b : K) → equal Binary (cell a) (cell b) ≡ same a b)
    → ((a b : K) → same a b ≡ true → a ≡ b) → ((a b : K) → a ≡ b → same a b ≡ true) → slice_get under.tables place ≡ Some f.table → ((x : R) (v : Value) → column (v ∷ f.cells x) 1 ≡ cell (f.key x))
    → ((x : R) → value_rows (stamped f.table (f.cells x)) (width_of f.table) (length (values_of f.table) / width_of f.table) (values_of f.table) ≡ (Null ∷ f.cells x) ∷ [])
    → ((x : R) → are_plain f.table.columns (f.cells x) ≡ true)
    → ((x : R) (id : ℤ) (r : Row) → conflicts None under.indexes f.table (Int id ∷ f.cells x) r
    ≡ ((equal Binary (rowid r) (Int id) && true) || ((equal Binary (column r 1) (cell (f.key x)) && true) || false)))
    → ((db : Trees) → overlay db [] f.table.tree ≡ db f.table.tree) → f.table.is_counted ≡ false → ((taken news : List Row) → works under Enforced 0 f.table.tree taken news ≡ []) → Facts under f
facts_by_one f order place cell same equals sound complete stands first given plain clashes alone uncounted free = record {
  order = order;
  place = place;
  stands = stands;
  key_cells = λ k. cell k ∷ [];
  key_tests = one_test 1;
  has_key = λ k x. same (f.key x) k;
  finds = λ k r is.
      let key = ap (λ y. column y 1) is ∙ first (f.row_in r) (Int (id_in (rowid r))) in
      ap (λ v. equal Binary v (cell k) && true) key ∙ and_true _ ∙ equals (f.key (f.row_in r)) k;
  same_key = λ k x h. sound (f.key x) k h;
  own_key = λ x y same. complete (f.key y) (f.key x) same;
  given = given;
  plain = plain;
  clashes = λ x id r low. clashes x id r ∙ clash_one (equal Binary (rowid r) (Int id)) (equal Binary (column r 1) (cell (f.key x))) (equal_apart (rowid r) (Int id) low);
  alone = alone;
  uncounted = uncounted;
  free = free;
}

-- of two columns, which are those of an id
abbrev pub facts_by_id : {under : Schema} {R : Type 0} (f : Form R Id) (order : IsOrder Id f.before) (place at bt : ℕ) → slice_get under.tables place ≡ Some f.table
    → ((x : R) (v : Value) → column (v ∷ f.cells x) at ≡ Int (pos (f.key x).server)) → ((x : R) (v : Value) → column (v ∷ f.cells x) bt ≡ Int (pos (f.key x).n))
    → ((x : R) → value_rows (stamped f.table (f.cells x)) (width_of f.table) (length (values_of f.table) / width_of f.table) (values_of f.table) ≡ (Null ∷ f.cells x) ∷ [])
    → ((x : R) → are_plain f.table.columns (f.cells x) ≡ true)
    → ((x : R) (id : ℤ) (r : Row) → conflicts None under.indexes f.table (Int id ∷ f.cells x) r
    ≡ ((equal Binary (rowid r) (Int id) && true) || ((equal Binary (column r at) (Int (pos (f.key x).server)) && (equal Binary (column r bt) (Int (pos (f.key x).n)) && true)) || false)))
    → ((db : Trees) → overlay db [] f.table.tree ≡ db f.table.tree) → f.table.is_counted ≡ false → ((taken news : List Row) → works under Enforced 0 f.table.tree taken news ≡ []) → Facts under f
facts_by_id f order place at bt stands server n given plain clashes alone uncounted free = record {
  order = order;
  place = place;
  stands = stands;
  key_cells = λ id. Int (pos id.server) ∷ Int (pos id.n) ∷ [];
  key_tests = id_tests at bt;
  has_key = λ id x. is_among (f.key x) (id ∷ []);
  finds = λ id r is.
      let x = f.row_in r in
      let s = ap (λ y. column y at) is ∙ server x (Int (id_in (rowid r))) in
      let c = ap (λ y. column y bt) is ∙ n x (Int (id_in (rowid r))) in
      (λ i. equal Binary (s i) (Int (pos id.server)) && (equal Binary (c i) (Int (pos id.n)) && true)) ∙ id_test (f.key x).server (f.key x).n id;
  same_key = λ id x h. among_one (f.key x) id h;
  own_key = λ x y same. one_among (f.key y) (f.key x) same;
  given = given;
  plain = plain;
  clashes = λ x id r low.
      clashes x id r
      ∙ clash_two (equal Binary (rowid r) (Int id)) (equal Binary (column r at) (Int (pos (f.key x).server))) (equal Binary (column r bt) (Int (pos (f.key x).n))) (equal_apart (rowid r) (Int id) low);
  alone = alone;
  uncounted = uncounted;
  free = free;
}

-- a row is written as it is
cast_new : {R K : Type 0} (f : Form R K) (v : Value) (x : R) → cast Integer v ≡ v → are_plain f.table.columns (f.cells x) ≡ true → cast_row f.table (v ∷ f.cells x) ≡ v ∷ f.cells x
cast_new f v x same plain = let cells = casts_plain f.table.columns (f.cells x) plain in λ i. same i ∷ cells i

-- a statement on the table at this place is one on this table
pub on_table : {under : Schema} (table : Table) (place : ℕ) (limit : Option ℕ) (mode : Mode) (params : Row) (db : Trees) (P : Task → Part (Tally × Database)) (out : _)
    → slice_get under.tables place ≡ Some table
    → OnTable limit mode params (record { schema = under; trees = db }) place P out → P (record { limit = limit; keys = mode.keys; schema = under; table = table; params = params }) out
on_table {under} table place limit mode params db P out stands =
    subst (λ t. AtPlace (λ (table : Table). P (record { limit = limit; keys = mode.keys; schema = under; table = table; params = params })) t out) stands

turned : {under : Schema} (task : Task) (db : Trees) (after : Database) (rows : List Row) → task.schema ≡ under
    → Leaves task db after rows → (t : ℕ) → IsNoIndex under t → after.trees t ≡ trees_with db task.table.tree rows t
turned task db after rows ours left t none = go (t == task.table.tree) refl
  where
    go : (b : Bool) → (t == task.table.tree) ≡ b → after.trees t ≡ cond b rows (db t)
    go true e = subst (λ u. after.trees u ≡ rows) (sym (eqb-true t task.table.tree e)) left.table
    go false e = left.others t (λ same. let own : (t == task.table.tree) ≡ true = subst (λ u. (t == u) ≡ true) same (itself t) in
        absurd (let never = sym own ∙ e in cc)) (subst (λ s. IsNoIndex s t) (sym ours) none)
      where
        itself : (n : ℕ) → (n == n) ≡ true
        itself n = grind (arith)

-- no two rows of a table that is held have one key
pub keys_apart : {R K : Type 0} (f : Form R K) (rows : List Row) → IsHeld f rows → Apart f.before f.key (map f.row_in rows)
keys_apart {R} f rows held = go rows held.apart
  where
    all : (x : R) (rows : List Row) → AllByRecursion (λ s. f.key x ≡ f.key (f.row_in s) → ⊥) rows → AllByRecursion (λ y. f.key x ≡ f.key y → ⊥) (map f.row_in rows)
    all x [] h = tt
    all x (r ∷ rows) h = (h.0, all x rows h.1)

    go : (rows : List Row) → IsAscending (λ r s. f.key (f.row_in r) ≡ f.key (f.row_in s) → ⊥) rows → Apart f.before f.key (map f.row_in rows)
    go [] h = tt
    go (r ∷ rows) h = (all (f.row_in r) rows h.0, go rows h.1)

module _ {R K : Type 0} (f : Form R K) where
  -- a test of stored rows that is one of plain rows
  pub kept_through : (test : Row → Bool) (plain : R → Bool) (rows : List Row) → AllByRecursion (IsRowOf f) rows → ((r : Row) → IsRowOf f r → test r ≡ plain (f.row_in r))
      → map f.row_in (filter test rows) ≡ filter plain (map f.row_in rows)
  kept_through test plain [] all same = refl
  kept_through test plain (r ∷ rows) all same =
      rw (same r all.0)
      (elim (plain (f.row_in r)) as (λ b. map f.row_in (cond b (r ∷ filter test rows) (filter test rows))
      ≡ cond b (f.row_in r ∷ filter plain (map f.row_in rows)) (filter plain (map f.row_in rows)))
      [ true ↦ ap (λ xs. f.row_in r ∷ xs) (kept_through test plain rows all.1 same) | false ↦ kept_through test plain rows all.1 same ])

module _ {under : Schema} {R K : Type 0} (f : Form R K) (facts : Facts under f) where
  pub plain_apart : (rows : List Row) → IsHeld f rows → Apart f.before f.key (map f.row_in rows)
  plain_apart = keys_apart f

  held-filter : (test : Row → Bool) (rows : List Row) → IsHeld f rows → IsHeld f (filter test rows)
  held-filter test rows held = record {
    shelf = shelf_filter test rows held.shelf;
    whole = all-filter _ test rows held.whole;
    apart = ascending-filter _ test rows held.apart;
  }

  -- the rows of a key are taken away
  pub takes : (text : List ℕ) (old new : State) (k : K) (r : Result ℕ Error) → MeansIn under text (Delete facts.place (program_of f.table.tree facts.key_tests (col 1 0 ∷ [])))
      → old.now.schema ≡ under → IsHeld f (old.now.trees f.table.tree) → ExecutesInside 0 text (facts.key_cells k) old new r
      → OnOk r (Turns under f old new (filter (λ x. not (facts.has_key k x)) (in_order f (old.now.trees f.table.tree))))
  takes text old new k (Err e) means schema held h = tt
  takes text old new k (Ok count) means schema held h =
      let params = facts.key_cells k in
      let program : Program = program_of f.table.tree facts.key_tests (col 1 0 ∷ []) in
      let command = Delete facts.place program in
      let w = runs_as text params old new under schema command means.0 means.1 count h.0 in
      let whole = statement_of text (understood under text) in
      let done = subst (λ s. Does old.step_limit (mode_of old) params (record old.now { schema = s }) whole None command (Ok (w.tally, new.now))) schema w.changed in
      let task : Task = record { limit = old.step_limit; keys = Enforced; schema = under; table = f.table; params = params } in
      let on = on_table f.table facts.place old.step_limit (mode_of old) params old.now.trees
      (λ task. OnRows task (mode_of old) None command old.now.trees) (Ok (w.tally, new.now)) facts.stands done in
      let left = deletes task (mode_of old) facts.free facts.place facts.key_tests program old.now.trees w.tally new.now refl (facts.alone old.now.trees) held.shelf on in
      let stored = old.now.trees f.table.tree in
      let test = λ (r : Row). not (passes facts.key_tests params r) in
      let plain = λ (x : R). not (facts.has_key k x) in
      let shown = kept_through f test plain stored held.whole (λ r is. ap not (facts.finds k r is)) in
      record {
        rows = filter test stored;
        schema = left.schema;
        trees = turned task old.now.trees new.now (filter test stored) refl left;
        held = held-filter test stored held;
        rows_are = ap (λ xs. put_all f.before f.key xs []) shown ∙ ordered-filter f.before f.key facts.order plain (map f.row_in stored) (plain_apart stored held);
        committed = h.1.committed_is;
        within = h.1.mode;
      }

  -- a row is put in the stead of the one that has its key
  pub puts : (text : List ℕ) (old new : State) (x : R) (r : Result ℕ Error) → MeansIn under text (InsertOr facts.place Replace (Values (values_of f.table) (width_of f.table)) [])
      → ((id : ℤ) → f.row_in (Int id ∷ f.cells x) ≡ x) → old.now.schema ≡ under → IsHeld f (old.now.trees f.table.tree) → ExecutesInside 0 text (f.cells x) old new r
      → OnOk r (Turns under f old new (put f.before f.key x (in_order f (old.now.trees f.table.tree))))
  puts text old new x (Err e) means back schema held h = tt
  puts text old new x (Ok count) means back schema held h =
      let params = f.cells x in
      let key = facts.key_cells (f.key x) in
      let command = InsertOr facts.place Replace (Values (values_of f.table) (width_of f.table)) [] in
      let w = runs_as text params old new under schema command means.0 means.1 count h.0 in
      let whole = statement_of text (understood under text) in
      let done = subst (λ s. Does old.step_limit (mode_of old) params (record old.now { schema = s }) whole None command (Ok (w.tally, new.now))) schema w.changed in
      let task : Task = record { limit = old.step_limit; keys = Enforced; schema = under; table = f.table; params = params } in
      let on = on_table f.table facts.place old.step_limit (mode_of old) params old.now.trees
      (λ task. OnRows task (mode_of old) None command old.now.trees) (Ok (w.tally, new.now)) facts.stands done in
      let stored = old.now.trees f.table.tree in
      let test = λ (r : Row). not (passes facts.key_tests key r) in
      let plain = λ (y : R). facts.has_key (f.key x) y in
      let left = upserts task (mode_of old) facts.free facts.place (values_of f.table) (width_of f.table)
      (f.cells x) (passes facts.key_tests key) old.now.trees w.tally new.now facts.uncounted (facts.given x)
      (ap (cast_row f.table) (ap (λ vs. Null ∷ vs) (mends_plain f.table.key 0 f.table.columns (f.cells x) (facts.plain x))) ∙ cast_new f Null x cast_null (facts.plain x))
      (λ id. cast_new f (Int id) x (cast_int id) (facts.plain x)) (facts.clashes x) held.shelf on in
      let others = filter test stored in
      let id = next_rowid stored in
      let less = held-filter test stored held in
      let shown = kept_through f test (λ y. not (plain y)) stored held.whole (λ r is. ap not (facts.finds (f.key x) r is)) in
      let shelf = shelf_push others id (f.cells x) less.shelf (all_from _ others (λ r here. next_above stored held.shelf r (has_filtered test stored r here).0)) in
      record {
        rows = others ++ (Int id ∷ f.cells x) ∷ [];
        schema = left.schema;
        trees = turned task old.now.trees new.now (others ++ (Int id ∷ f.cells x) ∷ []) refl left;
        held = record {
          shelf = shelf;
          whole = whole_push others id less.whole;
          apart = ascending_push _ others (Int id ∷ f.cells x) less.apart (all_from _ others (λ r here same. new_key r (has_filtered test stored r here) (same ∙ ap f.key (back id))));
        };
        rows_are =
            ap (λ xs. put_all f.before f.key xs []) (shown_push others id ∙ ap (λ xs. xs ++ x ∷ []) shown)
            ∙ ordered-put f.before f.key facts.order plain x (map f.row_in stored) (λ y. facts.same_key (f.key x) y) (plain_apart stored held);
        committed = h.1.committed_is;
        within = h.1.mode;
      }
    where
      whole_push : (rows : List Row) (id : ℤ) → AllByRecursion (IsRowOf f) rows → AllByRecursion (IsRowOf f) (rows ++ (Int id ∷ f.cells x) ∷ [])
      whole_push [] id all = (ap (λ y. Int id ∷ f.cells y) (sym (back id)), tt)
      whole_push (r ∷ rows) id all = (all.0, whole_push rows id all.1)

      shown_push : (rows : List Row) (id : ℤ) → map f.row_in (rows ++ (Int id ∷ f.cells x) ∷ []) ≡ map f.row_in rows ++ x ∷ []
      shown_push [] id = ap (λ y. y ∷ []) (back id)
      shown_push (r ∷ rows) id = ap (λ ys. f.row_in r ∷ ys) (shown_push rows id)

      -- a row that stays has another key
      new_key : (r : Row) → Has (old.now.trees f.table.tree) r × (not (passes facts.key_tests (facts.key_cells (f.key x)) r) ≡ true) → f.key (f.row_in r) ≡ f.key x → ⊥
      new_key r here same =
          let finds = facts.finds (f.key x) r (all_has _ _ r held.whole here.0) ∙ facts.own_key x (f.row_in r) same in
          absurd (let never = sym (ap not finds) ∙ here.1 in cc)

-- ---- what a query finds

module _ {under : Schema} {R K : Type 0} (f : Form R K) (order : IsOrder K f.before) (alone : (db : Trees) → overlay db [] f.table.tree ≡ db f.table.tree) where
  -- What a query finds, where what it shows of a row is read as something that is told of the plain row.
  pub finds_as : {X : Type 0} (read : Row → X) (told : R → X) (text : List ℕ) (tests project : List Term) (names : List (List ℕ)) (params : Row) (old new : State) (plain : R → Bool) (rows : List Row)
      → MeansQueryIn under text (Select (program_of f.table.tree tests project) names) → ((r : Row) → IsRowOf f r → passes tests params r ≡ plain (f.row_in r))
      → ((r : Row) → IsRowOf f r → read (eval_all project (params ∷ r ∷ [])) ≡ told (f.row_in r))
      → old.now.schema ≡ under → IsHeld f (old.now.trees f.table.tree) → Shown text params old new rows
      → IsPermutation (map told (filter plain (in_order f (old.now.trees f.table.tree)))) (map read rows)
  finds_as {X} read told text tests project names params old new plain rows means same shown schema held h =
      let program : Program = program_of f.table.tree tests project in
      let answer = reads_as text params old new under schema (Select program names) means.0.0 means.0.1 means.1 rows h in
      let stored = old.now.trees f.table.tree in
      let moved = shows f.table.tree tests project old.now.trees params rows (alone old.now.trees) (answer.answer Null) in
      let found = filter (passes tests params) stored in
      let through = IsPermutation-map read _ rows moved in
      let plain_rows = map f.row_in stored in
      let there = subst (λ xs. IsPermutation xs (map read rows))
      (back found (all-filter _ _ stored held.whole) ∙ ap (map told) (kept_through f (passes tests params) plain stored held.whole same)) through in
      IsPermutation-trans _ _ _ (IsPermutation-map told _ _ (IsPermutation-sym _ _ (IsPermutation-filter plain _ _ (ordered_same f.before f.key order plain_rows (keys_apart f stored held))))) there
    where
      back : (found : List Row) → AllByRecursion (IsRowOf f) found → map read (map (λ r. eval_all project (params ∷ r ∷ [])) found) ≡ map told (map f.row_in found)
      back [] all = refl
      back (r ∷ found) all = let one = shown r all.0 in let more = back found all.1 in λ i. one i ∷ more i

  -- the rows that a query finds, as plain rows
  pub finds_rows : (text : List ℕ) (tests project : List Term) (names : List (List ℕ)) (params : Row) (old new : State) (plain : R → Bool) (rows : List Row)
      → MeansQueryIn under text (Select (program_of f.table.tree tests project) names) → ((r : Row) → IsRowOf f r → passes tests params r ≡ plain (f.row_in r))
      → ((r : Row) → IsRowOf f r → f.row_in (Null ∷ eval_all project (params ∷ r ∷ [])) ≡ f.row_in r)
      → old.now.schema ≡ under → IsHeld f (old.now.trees f.table.tree) → Shown text params old new rows
      → IsPermutation (filter plain (in_order f (old.now.trees f.table.tree))) (map (λ r. f.row_in (Null ∷ r)) rows)
  finds_rows text tests project names params old new plain rows means same shown schema held h =
      subst (λ xs. IsPermutation xs (map (λ r. f.row_in (Null ∷ r)) rows)) (map_same _)
      (finds_as (λ r. f.row_in (Null ∷ r)) (λ x. x) text tests project names params old new plain rows means same shown schema held h)
    where
      map_same : (xs : List R) → map (λ (x : R). x) xs ≡ xs
      map_same [] = refl
      map_same (x ∷ xs) = ap (λ ys. x ∷ ys) (map_same xs)
