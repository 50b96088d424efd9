-- The first row that a query shows is the one that the tables have.
use Rattle.std.proofs.Common.{◌≡◌, ℕ, Bool, true, false, List, [], ◌∷◌, map, filter, inl, inr, Some, Result, Ok, Err, IfErr, refl, sym, subst, ◌∙◌}
use Rattle.std.specs.Prelude.{find, nat_lt}
use Rattle.std.specs.List.{slice_get}
use Rattle.std.specs.List.Sorted.{IsPermutation}
use Rattle.std.proofs.lemmas.List.Sorted.{IsPermutation-sym, Contains-permutation}
use Rattle.sqlite_value.specs.Order.{Row}
use Rattle.sqlite.specs.declared.error.Error.{Error}
use Rattle.sqlite_rules.specs.Lists as rules
use Rattle.sqlite_rules.proofs.ListLemmas.{has_contained, contains_had}
use Rattle.mr_model.specs.Writes.{Id, same_id}
use Rattle.mr_model.specs.Replica.{is_among}
use Rattle.mr_model.specs.Tables.{MetaRow}
use Rattle.mr_model.specs.Dropped.{Has}
use Rattle.mr_model.proofs.UniqueReplay.{some_inj}
use Rattle.mr_model.proofs.Members.{has_filter, filter_has, find_none, find_one}
use Rattle.mr_tables.specs.Change.{id_before, put_all}
use Rattle.mr_tables.specs.TableOrders.{id_order, number_order}
use Rattle.mr_tables.proofs.Putting.{OneAKey, one_a_key}
use Rattle.mr_rows.specs.Form.{Form}
use Rattle.mr_rows.specs.Database.{first_meta, in_order}
use Rattle.mr_rows.specs.RowCells.{meta_in}
use Rattle.mr_rows.specs.Reads.{first_of}
use Rattle.mr_rows.proofs.SortedByKey.{ordered_in_order}
use Rattle.mr_rows.proofs.ValueLemmas.{among_one, or_false}

-- ---- the row of an id

has_of : {X : Type 0} (xs : List X) (x : X) → rules.Has xs x → Has x xs
has_of [] x h = absurd h
has_of (y ∷ xs) x (inl e) = inl e
has_of (y ∷ xs) x (inr h) = inr (has_of xs x h)

of_has : {X : Type 0} (xs : List X) (x : X) → Has x xs → rules.Has xs x
of_has [] x h = absurd h
of_has (y ∷ xs) x (inl e) = inl e
of_has (y ∷ xs) x (inr h) = inr (of_has xs x h)

pub has_moved : {X : Type 0} (xs ys : List X) (x : X) → IsPermutation xs ys → Has x xs → Has x ys
has_moved xs ys x same h = has_of ys x (has_contained ys x (Contains-permutation xs ys x same (contains_had xs x (of_has xs x h))))

-- the first of the rows that a query shows of an id is the one that the table has
found : {R : Type 0} (key : R → Id) (id : Id) (table shown : List R) → OneAKey key table
    → IsPermutation (filter (λ r. is_among (key r) (id ∷ [])) table) shown → first_of shown ≡ find (λ r. same_id (key r) id) table
found {R} key id table [] one same = sym (find_none (λ r. same_id (key r) id) table (λ x h. fails x h (same_id (key x) id) refl))
  where
    fails : (x : R) → Has x table → (b : Bool) → same_id (key x) id ≡ b → same_id (key x) id ≡ false
    fails x h false e = e
    fails x h true e = absurd (has_moved _ [] x same (has_filter (λ r. is_among (key r) (id ∷ [])) x table (or_false (same_id (key x) id) ∙ e) h))
found {R} key id table (r ∷ more) one same =
    let there = filter_has (λ r. is_among (key r) (id ∷ [])) r table (has_moved _ _ r (IsPermutation-sym _ _ same) (inl refl)) in
    let is = among_one (key r) id there.1 in
    sym (find_one (λ r. same_id (key r) id) r table there.0 (sym (or_false (same_id (key r) id)) ∙ there.1)
    (λ y h e. one y r h there.0 (among_one (key y) id (or_false (same_id (key y) id) ∙ e) ∙ sym is)))

-- rows that stand by their ids have each once
pub ids_apart : {R : Type 0} (key : R → Id) (row_in : Row → R) (stored : List Row) → OneAKey key (put_all id_before key (map row_in stored) [])
ids_apart key row_in stored = one_a_key id_before key id_order _ (ordered_in_order id_before key id_order (map row_in stored))

pub first_found : {R : Type 0} (key : R → Id) (row_in : Row → R) (id : Id) (stored : List Row) (shown : List R)
    → IsPermutation (filter (λ r. is_among (key r) (id ∷ [])) (put_all id_before key (map row_in stored) [])) shown
    → first_of shown ≡ find (λ r. same_id (key r) id) (put_all id_before key (map row_in stored) [])
first_found key row_in id stored shown = found key id _ shown (ids_apart key row_in stored)

pub the_row : {R K : Type 0} (f : Form R K) (id_of : R → Id)
    → ((stored : List Row) → in_order f stored ≡ put_all id_before id_of (map f.row_in stored) []) → (id : Id) (stored : List Row) (shown : List R)
    → IsPermutation (filter (λ r. is_among (id_of r) (id ∷ [])) (in_order f stored)) shown → first_of shown ≡ find (λ r. same_id (id_of r) id) (in_order f stored)
the_row {R} f id_of by_id id stored shown =
    subst (λ (rows : List R). IsPermutation (filter (λ r. is_among (id_of r) (id ∷ [])) rows) shown → first_of shown ≡ find (λ r. same_id (id_of r) id) rows)
    (sym (by_id stored)) (first_found id_of f.row_in id stored shown)

-- ---- the row of `meta`

pub meta_is : (rows : List Row) (shown : List MetaRow) (m : MetaRow) → IsPermutation (put_all nat_lt (λ _. 1) (map meta_in rows) []) shown
    → first_of shown ≡ Some m → m ≡ first_meta (put_all nat_lt (λ _. 1) (map meta_in rows) [])
meta_is rows shown m same first = go _ (has_moved shown _ m (IsPermutation-sym _ _ same) (has_first shown first))
    (one_a_key nat_lt (λ _. 1) number_order _ (ordered_in_order nat_lt (λ _. 1) number_order (map meta_in rows)))
  where
    has_first : (xs : List MetaRow) → first_of xs ≡ Some m → Has m xs
    has_first [] e = absurd (cc)
    has_first (x ∷ xs) e = inl (let same : x ≡ m = cc in sym same)

    go : (xs : List MetaRow) → Has m xs → OneAKey {K = ℕ} (λ _. 1) xs → m ≡ first_meta xs
    go [] h one = absurd h
    go (x ∷ xs) h one = one m x h (inl refl) refl

-- ---- the first row alone

first_is : {A : Type 0} (xs : List A) → first_of xs ≡ slice_get xs 0
first_is [] = refl
first_is (x ∷ xs) = refl

-- what refuses the first row is so of it
pub of_first : {X : Type 0} (rows : List Row) (one : Row) (r : Result X Error) (P : Row → Type 0)
    → Some one ≡ slice_get rows 0 → IfErr r (λ _. P one) → IfErr r (λ _. (row : Row) → first_of rows ≡ Some row → P row)
of_first rows one (Ok x) P is h = tt
of_first rows one (Err e) P is h = λ row here. subst P (some_inj one row (is ∙ sym (first_is rows) ∙ here)) h
