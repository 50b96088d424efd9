-- What each form of statement makes of the rows of its table.
use Rattle.std.proofs.Common.{◌≡◌, ◌≢◌, ◌⊎◌, inl, inr, ℕ, ℤ, List, [], ◌∷◌, ◌++◌, map, filter, flat_map, Bool, true, false}
use Rattle.std.proofs.Common.{not, if◌then◌else◌, Some, None, Option, Ok, Err, Result, Less, refl, sym, ap, subst, ◌∙◌}
use Rattle.std.specs.List.{list_all}
use Rattle.std.specs.List.Sorted.{IsPermutation}
use Rattle.std.specs.Ordering.{is_lt, int_cmp}
use Rattle.std.specs.Prelude.{length, ◌/◌, MatchBool}
use Rattle.std.proofs.lemmas.List.Sorted.{Contains-permutation, IsPermutation-map, IsPermutation-sym}
use Rattle.sqlite_value.specs.declared.value.Value.TheVariants.{Null, Int}
use Rattle.sqlite_value.specs.Order.{Row, value_cmp}
use Rattle.sqlite_trees.specs.Tree.{Trees, rowid, put_row}
use Rattle.sqlite_trees.proofs.ListLemmas.{map-map}
use Rattle.sqlite_sql.specs.Term.{Term, col, holds, eval_all}
use Rattle.sqlite_sql.specs.Query.{Query, IsAnswer, output, Output}
use Rattle.sqlite_sql.specs.Program.{overlay, IsProgramAnswer}
use Rattle.sqlite_schema.specs.Program.{lets_of}
use Rattle.sqlite_schema.specs.declared.command.Command.TheVariants.{Delete, InsertOr}
use Rattle.sqlite_schema.specs.declared.command.Conflict.TheVariants.{Replace}
use Rattle.sqlite_schema.specs.declared.command.Source.TheVariants.{Values}
use Rattle.sqlite_schema.specs.declared.program.Program.{Program}
use Rattle.sqlite_rules.specs.declared.error.Rowids.TheVariants.{Given, Chosen, Above}
use Rattle.sqlite_rules.specs.Action.{works}
use Rattle.sqlite_rules.specs.Calls.{ids_of}
use Rattle.sqlite_rules.specs.Cast.{cast_row}
use Rattle.sqlite_rules.specs.Edit.{edit_of, id_in, IsNoIndex, without_all, next_rowid, taken_by, with_rowid}
use Rattle.sqlite_rules.specs.Keys.{AreConflicts, conflicts}
use Rattle.sqlite_rules.specs.Lists.{Has}
use Rattle.sqlite_rules.proofs.ListLemmas.{all_from, has_filtered, has_kept, has_contained, contains_had}
use Rattle.sqlite_rules.proofs.ProbeLemmas.{has_mapped}
use Rattle.sqlite.specs.declared.run.Mode.{Mode}
use Rattle.sqlite.specs.Does.{Tally, OnRows}
use Rattle.sqlite.specs.Effect.{Database, value_rows}
use Rattle.sqlite.specs.Rows.{Task, Written, Puts, Clears, Tries, TriesEach, Counts, CountsIn, Gives, stamped, mended, rowids_for, nothing, count_of, sequence}
use Rattle.sqlite.proofs.Callers.{one_step}
use Rattle.mr_rows.specs.Meaning.{query_of, passes}
use Rattle.mr_rows.specs.Shelf.{IsShelf}
use Rattle.mr_rows.proofs.RowLemmas.{removed, put_last, next_above}
pub use Rattle.sqlite_rules.proofs.ProbeLemmas.{mapped_has as has_map}

-- what does not stop goes on
pub went : {B E R : Type 0} {b : B} {Stops : E → Type 0} → ((stop : E) × Stops stop × (Ok b ≡ Err stop)) ⊎ R → R
went (inl stopped) = absurd (let e = stopped.2 in cc)
went (inr on) = on

staged : {A : Type 0} (f : List Row → A) (tests : List Term) (params : Row) (rows : List Row)
    → map f (flat_map (λ r. if list_all (holds (params ∷ r ∷ [])) tests then (params ∷ r ∷ []) ∷ [] else []) rows) ≡ map (λ r. f (params ∷ r ∷ [])) (filter (passes tests params) rows)
staged f tests params [] = refl
staged f tests params (r ∷ rows) =
    elim (list_all (holds (params ∷ r ∷ [])) tests)
    as (λ b. map f ((if b then (params ∷ r ∷ []) ∷ [] else []) ++ flat_map (λ x. if list_all (holds (params ∷ x ∷ [])) tests then (params ∷ x ∷ []) ∷ [] else []) rows)
    ≡ map (λ x. f (params ∷ x ∷ [])) (if b then r ∷ filter (passes tests params) rows else filter (passes tests params) rows))
    [ true ↦ ap (λ xs. f (params ∷ r ∷ []) ∷ xs) (staged f tests params rows) | false ↦ staged f tests params rows ]

-- a query on one table shows the rows that pass, in some order
pub shows : (tree : ℕ) (tests project : List Term) (db : Trees) (params : Row) (rows : List Row) → overlay db [] tree ≡ db tree → IsAnswer (query_of tree tests project) (overlay db []) params rows
    → IsPermutation (map (λ r. eval_all project (params ∷ r ∷ [])) (filter (passes tests params) (db tree))) rows
shows tree tests project db params rows own a =
    let q = query_of tree tests project in
    let show = λ (p : Output). p.1 in
    let found : a.kept ≡ map (λ r. output q (params ∷ r ∷ [])) (filter (passes tests params) (db tree)) =
    a.distinct ∙ ap (map (output q)) a.grouped ∙ staged (output q) tests params (overlay db [] tree) ∙ ap (λ rs. map (λ r. output q (params ∷ r ∷ [])) (filter (passes tests params) rs)) own in
    let moved = IsPermutation-map show _ _ (subst (λ k. IsPermutation k a.ordered) found a.same) in
    subst (IsPermutation _) (sym a.shown) (subst (λ xs. IsPermutation xs (map show a.ordered)) (map-map show _ _) moved)

pub same_value : {B E : Type 0} {a b : B} → ◌≡◌ {A = Result B E} (Ok a) (Ok b) → a ≡ b
same_value e = cc

pub has_moved : {X : Type 0} (xs ys : List X) → IsPermutation xs ys → (x : X) → Has xs x → Has ys x
has_moved xs ys moved x h = has_contained ys x (Contains-permutation xs ys x moved (contains_had xs x h))

-- the table afterwards; each other tree but the table's indexes is as it was
pub record Leaves (task : Task) (db : Trees) (after : Database) (rows : List Row) : Type 0 where
  pub schema : after.schema ≡ task.schema
  pub table : after.trees task.table.tree ≡ rows
  pub others : (t : ℕ) → t ≢ task.table.tree → IsNoIndex task.schema t → after.trees t ≡ db t

-- of a program with no tables of its own
sure : (db : Trees) (params : Row) (rows : List Row) (q : Program) {body : Query} → q ≡ record { lets = []; body = body }
    → IsProgramAnswer (lets_of q) q.body db params rows → IsAnswer q.body (overlay db []) params rows
sure db params rows q is h = (subst (λ (p : Program). IsProgramAnswer (lets_of p) q.body db params rows) is h) Null

module _ (task : Task) (mode : Mode) (free : (taken news : List Row) → works task.schema task.keys 0 task.table.tree taken news ≡ []) where
  -- what trees that a statement made leave
  leaves : (db next : Trees) (after : Database) (rows : List Row) → after ≡ record { schema = task.schema; trees = next } → next task.table.tree ≡ rows
      → ((t : ℕ) → t ≢ task.table.tree → IsNoIndex task.schema t → next t ≡ db t) → Leaves task db after rows
  leaves db next after rows is table others = subst (λ d. Leaves task db d rows) (sym is) (record { schema = refl; table = table; others = others })

  -- a row taken away by key, as any rows that pass tests
  pub deletes : (at : ℕ) (tests : List Term) (q : Program) (db : Trees) (tally : Tally) (after : Database)
      → q ≡ record { lets = []; body = query_of task.table.tree tests (col 1 0 ∷ []) } → overlay db [] task.table.tree ≡ db task.table.tree → IsShelf (db task.table.tree)
      → OnRows task mode None (Delete at q) db (Ok (tally, after)) → Leaves task db after (filter (λ r. not (passes tests task.params r)) (db task.table.tree))
  deletes at tests q db tally after is own shelf h =
      let tree = task.table.tree in
      let all = went h in
      let queried = went all.1 in
      let wrote = went queried.2 in
      let rows = queried.0 in
      let edit = edit_of db task.table (ids_of rows) Given 0 [] in
      let next = wrote.0 in
      let step = one_step task.schema task.keys db next edit (free (taken_by db edit) edit.news) wrote.1 in
      let ends = went (went all.2).2 in
      let now : after ≡ record { schema = task.schema; trees = next } =
      ap (λ (p : Tally × Database). p.1) (same_value ends.2) ∙ ap (λ (w : Written). record { schema = task.schema; trees = w.trees }) (same_value wrote.2) in
      let params = task.params in
      let test = passes tests params in
      let show = λ (r : Row). eval_all (col 1 0 ∷ []) (params ∷ r ∷ []) in
      let kept = db tree in
      let answer : IsAnswer (query_of tree tests (col 1 0 ∷ [])) (overlay db []) params rows =
      subst (λ (p : Program). IsAnswer p.body (overlay db []) params rows) is (sure db params rows q is queried.1.answer) in
      let moved = shows tree tests (col 1 0 ∷ []) db params rows own answer in
      let sound : (x : Row) → Has rows x → (r : Row) × Has kept r × (test r ≡ true) × (id_in (rowid x) ≡ id_in (rowid r)) = λ x h.
      let y = has_mapped show (filter test kept) x (has_moved rows _ (IsPermutation-sym _ _ moved) x h) in
      let z = has_filtered test kept y.0 y.1 in
      (y.0, z.0, z.1, ap (λ r. id_in (rowid r)) y.2) in
      let complete : (r : Row) → Has kept r → test r ≡ true → (x : Row) × Has rows x × (id_in (rowid x) ≡ id_in (rowid r)) = λ r here does.
      (show r, has_moved _ rows moved (show r) (has_map show (filter test kept) r (has_kept test kept r here does)), refl) in
      leaves db next after _ now (step.rows ∙ removed kept rows test shelf sound complete) step.others

  -- one row put at a rowid above all others
  puts_alone : (new : Row) (db : Trees) (one : Written) → cast_row task.table new ≡ new → Puts task new db (Ok one)
      → (one.trees task.table.tree ≡ put_row new (db task.table.tree)) × ((t : ℕ) → t ≢ task.table.tree → IsNoIndex task.schema t → one.trees t ≡ db t)
  puts_alone new db one whole h =
      let wrote = went h in
      let edit = edit_of db task.table [] Given 0 (new ∷ []) in
      let next = wrote.0 in
      let step = one_step task.schema task.keys db next edit (free (taken_by db edit) edit.news) wrote.1 in
      let trees : one.trees ≡ next = ap (λ (w : Written). w.trees) (same_value wrote.2) in
      (ap (λ (t : Trees). t task.table.tree) trees ∙ step.rows ∙ ap (λ r. put_row r (db task.table.tree)) whole, λ t other none. ap (λ (all : Trees). all t) trees ∙ step.others t other none)

  -- the rows that conflict go, and then the new one is put
  clears : (new : Row) (db : Trees) (found : List Row) (one : Written) → cast_row task.table new ≡ new → Clears task Replace new db found (Ok one)
      → (one.trees task.table.tree ≡ put_row new (without_all (db task.table.tree) (ids_of found))) × ((t : ℕ) → t ≢ task.table.tree → IsNoIndex task.schema t → one.trees t ≡ db t)
  clears new db [] one whole h = puts_alone new db one whole h
  clears new db (x ∷ more) one whole h =
      let cleared = went h in
      let edit = edit_of db task.table (ids_of (x ∷ more)) Given 0 [] in
      let mid = cleared.0 in
      let step = one_step task.schema task.keys db mid edit (free (taken_by db edit) edit.news) cleared.1 in
      let put = puts_alone new mid one whole cleared.2 in
      (put.0 ∙ ap (put_row new) step.rows, λ t other none. put.1 t other none ∙ step.others t other none)

  tried : (new : Row) (db : Trees) (one : Written) → Tries task Replace [] new db (Ok one)
      → (found : List Row) × AreConflicts None task.schema.indexes task.table (db task.table.tree) new found × Clears task Replace new db found (Ok one)
  tried new db one (inl refused) = absurd (let e = refused.1 in cc)
  tried new db one (inr (None, judged, h)) = h
  tried new db one (inr (Some why, judged, h)) = absurd (let e = h in cc)

  uncounts : (db : Trees) (counter : Option Row) (top : ℤ) (next : Trees) → task.table.is_counted ≡ false → Counts task db counter top (Ok next) → next ≡ db
  uncounts db counter top next uncounted h =
      same_value (subst (λ b. MatchBool (if b then is_lt (int_cmp (count_of counter) top) else false) (CountsIn task db counter top (sequence task.schema) (Ok next)) (Gives db (Ok next))) uncounted h)

  -- an upsert of one row: the rows with its key go, and it stands at the end
  pub upserts : (at : ℕ) (terms : List Term) (width : ℕ) (cells : Row) (same_key : Row → Bool) (db : Trees) (tally : Tally) (after : Database)
      → task.table.is_counted ≡ false → value_rows (stamped task.table task.params) width (length terms / width) terms ≡ (Null ∷ cells) ∷ []
      → cast_row task.table (mended Replace task.table (Null ∷ cells)) ≡ Null ∷ cells → ((id : ℤ) → cast_row task.table (Int id ∷ cells) ≡ Int id ∷ cells)
      → ((id : ℤ) (r : Row) → value_cmp (rowid r) (Int id) ≡ Less → conflicts None task.schema.indexes task.table (Int id ∷ cells) r ≡ same_key r)
      → IsShelf (db task.table.tree)
      → OnRows task mode None (InsertOr at Replace (Values terms width) []) db (Ok (tally, after))
      → Leaves task db after (filter (λ r. not (same_key r)) (db task.table.tree) ++ (Int (next_rowid (db task.table.tree)) ∷ cells) ∷ [])
  upserts at terms width cells same_key db tally after uncounted given fits keyed agrees shelf h =
      let tree = task.table.tree in
      let all = went h in
      let sourced = went all.1 in
      let counted = went sourced.2 in
      let each = went counted.2 in
      let source : sourced.0 ≡ (Null ∷ cells) ∷ [] = sourced.1.1 ∙ given in
      let top = count_of counted.0 in
      let rows = db tree in
      let one = went (subst (λ rs. TriesEach task Replace [] rs top (nothing db) (Ok each.0)) source each.1) in
      let new : Row = with_rowid (rowids_for task.table top) rows (cast_row task.table (mended Replace task.table (Null ∷ cells))) in
      let id = next_rowid rows in
      let new_is : new ≡ Int id ∷ cells =
      ap (λ r. with_rowid (rowids_for task.table top) rows r) fits ∙ ap (λ (b : Bool). with_rowid (if b then Above top else Chosen) rows (Null ∷ cells)) uncounted in
      let was = tried (Int id ∷ cells) db one.0 (subst (λ r. Tries task Replace [] r db (Ok one.0)) new_is one.1) in
      let found = was.0 in
      let done = clears (Int id ∷ cells) db found one.0 (keyed id) was.2 in
      let ended = went each.2 in
      let written : all.0.trees ≡ one.0.trees =
      ap (λ (w : Written). w.trees) (same_value ended.2) ∙ uncounts each.0.0.trees counted.0 each.0.1 ended.0 uncounted ended.1 ∙ ap (λ (p : Written × ℤ). p.0.trees) (same_value one.2) in
      let ends = went (went all.2).2 in
      let now : after ≡ record { schema = task.schema; trees = one.0.trees } =
      ap (λ (p : Tally × Database). p.1) (same_value ends.2) ∙ ap (λ (t : Trees). record { schema = task.schema; trees = t }) written in
      let below = next_above rows shelf in
      let sound : (x : Row) → Has found x → (r : Row) × Has rows r × (same_key r ≡ true) × (id_in (rowid x) ≡ id_in (rowid r)) = λ x h.
      let y = was.1.sound x h in
      (y.0, y.1, sym (agrees id y.0 (below y.0 y.1)) ∙ y.2, ap (λ v. id_in (rowid v)) y.3) in
      let complete : (r : Row) → Has rows r → same_key r ≡ true → (x : Row) × Has found x × (id_in (rowid x) ≡ id_in (rowid r)) = λ r here does.
      (rowid r ∷ [], was.1.complete r here (agrees id r (below r here) ∙ does), refl) in
      let left = removed rows found same_key shelf sound complete in
      let others = filter (λ r. not (same_key r)) rows in
      let last = put_last (Int id ∷ cells) others (all_from _ others (λ r h. below r (has_filtered (λ r. not (same_key r)) rows r h).0)) in
      leaves db one.0.trees after _ now (done.0 ∙ ap (put_row (Int id ∷ cells)) left ∙ last) done.1
