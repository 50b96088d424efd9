-- The place of a key, by its index.
use Rattle.std.proofs.Common.{◌≡◌, inl, inr, ℕ, ℤ, ◌-◌, true, false, not, Bool, ◌||◌, List, [], ◌∷◌, ◌++◌, length, map}
use Rattle.std.proofs.Common.{filter, refl, sym, ap, subst, ◌∙◌, Ordering, Less, Equal, Greater, is_lt, true≢false, arith}
use Rattle.std.specs.Cmp.{Equal-is}
use Rattle.std.specs.Ordering.{is_gt}
use Rattle.std.proofs.lemmas.Cmp.{tied_itself}
use Rattle.std.proofs.lemmas.List.{length-append}
use Rattle.std.proofs.lemmas.List.Sorted.{IsPermutation-sym}
use Rattle.sqlite_value.specs.declared.value.Value.{Value}
use Rattle.sqlite_value.specs.declared.value.Value.TheVariants.{Int}
use Rattle.sqlite_value.specs.Order.{Row, column, value_cmp}
use Rattle.sqlite_value.specs.Keys.{plain, prefix_cmp}
use Rattle.sqlite_value.proofs.OrderLemmas.{value_cmp_total}
use Rattle.sqlite_trees.specs.Tree.{rowid, has_rowid, IsAscending, IsIndex, IsTable, from_key}
use Rattle.sqlite_trees.proofs.ListLemmas.{ascending-filter}
use Rattle.sqlite_trees.proofs.TreeLemmas.{AtMost, sorted_index, from_key-filter, prefix_cmp_follows}
use Rattle.sqlite_sql.specs.Catalog.{entry_of, IsIndexOf}
use Rattle.sqlite_rules.specs.Lists.{Has}
use Rattle.sqlite_rules.proofs.ListLemmas.{all_has, has_filtered, has_kept, has_contained}
use Rattle.sqlite_rules.proofs.ProbeLemmas.{has_mapped, mapped_has}
use Rattle.sqlite_rules.proofs.PlaceLemmas.{tied_same}
use Rattle.sqlite_exec.proofs.CheckLemmas.{head_is_there}
use Rattle.mr_model.specs.Writes.{Id, same_id}
use Rattle.mr_model.specs.Replica.{is_among}
use Rattle.mr_model.specs.Dropped.{Has as In}
use Rattle.mr_model.proofs.Members.{same_id-true, same_id_refl, map_has}
use Rattle.mr_tables.specs.Change.{rows_without}
use Rattle.mr_tables.specs.TableOrders.{IsOrder}
use Rattle.mr_rows.specs.Form.{Form}
use Rattle.mr_rows.specs.Database.{IsRowOf, IsHeld, in_order}
use Rattle.mr_rows.proofs.FormLemmas.{has_moved}
use Rattle.mr_rows.proofs.SortedByKey.{ordered_has}
use Rattle.mr_changes.specs.Found.{id_key, HasKey, IsAlone, IsPlace, IsPlaceFor, LacksKey}
use Rattle.mr_changes.specs.KeyLaws.{id_alike, id_same}
use Rattle.mr_changes.proofs.PutLemmas.{one_alike, has_in}

-- ---- entries of an index

behind : (xs : Row) (v : Value) → column (xs ++ v ∷ []) (length xs) ≡ v
behind [] v = refl
behind (x ∷ xs) v = behind xs v

last_of : (xs : Row) (v : Value) → column (xs ++ v ∷ []) (length (xs ++ v ∷ []) - 1) ≡ v
last_of xs v = ap (column (xs ++ v ∷ [])) short ∙ behind xs v
  where
    short : length (xs ++ v ∷ []) - 1 ≡ length xs
    short = omega (arith, length-append xs (v ∷ []))

module _ (cs : List ℕ) (rows entries : List Row) (key : Row) (up : IsTable rows) (indexed : IsIndexOf cs rows entries) (alone : IsAlone (HasKey cs key) rows) where
  -- the rowid behind the key of the first entry that has it
  pub found : (id : ℤ) (e : Row) (rest : List Row) → from_key plain key entries ≡ e ∷ rest → prefix_cmp plain e key ≡ Equal → column e (length e - 1) ≡ Int id → IsPlace (HasKey cs key) rows id
  found id e rest first same last r here =
      let inside = has_contained entries e (head_is_there plain key entries rest e first) in
      let from = has_mapped (entry_of cs) rows e (has_moved entries (map (entry_of cs) rows) (IsPermutation-sym _ _ indexed) e inside) in
      let z = from.0 in
      let has : HasKey cs key z = subst (λ x. prefix_cmp plain x key ≡ Equal) from.2 same in
      let own : rowid z ≡ Int id = sym (ap (λ x. column x (length x - 1)) from.2 ∙ last_of (map (column z) cs) (rowid z)) ∙ last in (
        λ tie. let one : r ≡ z = tied_same rows r z up here from.1 (subst (λ v. value_cmp (rowid r) v ≡ Equal) (sym own) tie) in subst (HasKey cs key) (sym one) has,
        λ alike. let one : r ≡ z = alone r z here from.1 alike has in
            subst (λ x. value_cmp (rowid x) (Int id) ≡ Equal) (sym one) (subst (λ v. value_cmp v (Int id) ≡ Equal) (sym own) (tied_itself value_cmp_total (Int id))),
      )

-- no row has the key where the first entry behind it doesn't
pub missing : (cs : List ℕ) (rows entries : List Row) (key : Row) → IsIndexOf cs rows entries → IsIndex plain entries
    → LacksKey key (from_key plain key entries) → (r : Row) → Has rows r → HasKey cs key r → ⊥
missing cs rows entries key indexed up lacks r here equal =
    let e = entry_of cs r in
    let is = from_key-filter plain key entries (sorted_index plain entries up) in
    let inside = has_moved (map (entry_of cs) rows) entries indexed e (mapped_has (entry_of cs) rows r here) in
    let kept = has_kept (λ x. not (is_lt (prefix_cmp plain x key))) entries e inside (ap (λ o. not (is_lt o)) equal) in
    go (filter (λ x. not (is_lt (prefix_cmp plain x key))) entries) e equal (subst (LacksKey key) is lacks)
    (λ x h. (has_filtered _ entries x h).1) (ascending-filter _ _ entries (sorted_index plain entries up)) kept
  where
    go : (es : List Row) (e : Row) → prefix_cmp plain e key ≡ Equal → LacksKey key es → ((x : Row) → Has es x → not (is_lt (prefix_cmp plain x key)) ≡ true)
        → IsAscending (AtMost plain) es → Has es e → ⊥
    go [] e equal lacks passes up h = h
    go (x ∷ es) e equal lacks passes up (inl is) = lacks (subst (λ y. prefix_cmp plain y key ≡ Equal) is equal)
    go (x ∷ es) e equal lacks passes up (inr h) = cases (prefix_cmp plain x key) refl
      where
        cases : (o : Ordering) → prefix_cmp plain x key ≡ o → ⊥
        cases Less is = true≢false (sym (passes x (inl refl)) ∙ ap (λ o. not (is_lt o)) is)
        cases Equal is = lacks is
        cases Greater is = true≢false (sym ((prefix_cmp_follows plain key x e (all_has (AtMost plain x) es e up.0 h)).1 (ap is_gt is)) ∙ ap is_gt equal)

-- ---- a rowid above all others

-- it is that of a key that no row has
pub fresh : {HasIt : Row → Type 0} (rows : List Row) (id : ℤ) → ((r : Row) → Has rows r → value_cmp (rowid r) (Int id) ≡ Less) → ((r : Row) → Has rows r → HasIt r → ⊥) → IsPlace HasIt rows id
fresh rows id above lacks r here = (λ tie. absurd (let e : Less ≡ Equal = sym (above r here) ∙ tie in cc), λ has. absurd (lacks r here has))

-- the one behind the last is above all
pub behind_last : (front : List Row) (last : Row) (m : ℤ) (n : ℤ) → IsTable (front ++ last ∷ []) → rowid last ≡ Int m
    → value_cmp (Int m) (Int n) ≡ Less → (r : Row) → Has (front ++ last ∷ []) r → value_cmp (rowid r) (Int n) ≡ Less
behind_last [] last m n up is more r (inl e) = subst (λ v. value_cmp v (Int n) ≡ Less) (sym is ∙ ap rowid (sym e)) more
behind_last [] last m n up is more r (inr h) = absurd h
behind_last (x ∷ front) last m n up is more r (inl e) =
    let low = all_has (λ y. value_cmp (rowid x) (rowid y) ≡ Less) (front ++ last ∷ []) last up.0 (ends front) in
    subst (λ y. value_cmp (rowid y) (Int n) ≡ Less) (sym e) (value_cmp_total.trans (rowid x) (rowid last) (Int n) low (subst (λ v. value_cmp v (Int n) ≡ Less) (sym is) more))
  where
    ends : (xs : List Row) → Has (xs ++ last ∷ []) last
    ends [] = inl refl
    ends (y ∷ xs) = inr (ends xs)
behind_last (x ∷ front) last m n up is more r (inr h) = behind_last front last m n up.1 is more r h

pub none_has : {P : Type 0} (rows : List Row) (r : Row) → rows ≡ [] → Has rows r → P
none_has {P} rows r none here = absurd (subst (λ (xs : List Row). Has xs r) none here)

-- ---- a table's key

module _ {R K : Type 0} (f : Form R K) (key_of : R → Row) (key_at : List ℕ) (keyed : (r : Row) → IsRowOf f r → map (column r) key_at ≡ key_of (f.row_in r))
    (alike : (a b : R) (rest : Row) → prefix_cmp plain (key_of a ++ rest) (key_of b) ≡ Equal → f.key a ≡ f.key b)
    (same : (a b : R) (rest : Row) → f.key a ≡ f.key b → prefix_cmp plain (key_of a ++ rest) (key_of b) ≡ Equal)
    (rows : List Row) (held : IsHeld f rows) (x : R) where
  row_of : (r : Row) → Has rows r → IsRowOf f r
  row_of r here = all_has (IsRowOf f) rows r held.whole here

  -- a row has the key of this one in its columns just if it has its key
  to_key : (r : Row) → Has rows r → HasKey key_at (key_of x) r → f.key (f.row_in r) ≡ f.key x
  to_key r here has = alike (f.row_in r) x (rowid r ∷ []) (subst (λ k. prefix_cmp plain (k ++ rowid r ∷ []) (key_of x) ≡ Equal) (keyed r (row_of r here)) has)

  from_own : (r : Row) → Has rows r → f.key (f.row_in r) ≡ f.key x → HasKey key_at (key_of x) r
  from_own r here is = subst (λ k. prefix_cmp plain (k ++ rowid r ∷ []) (key_of x) ≡ Equal) (sym (keyed r (row_of r here))) (same (f.row_in r) x (rowid r ∷ []) is)

  pub one_has : IsAlone (HasKey key_at (key_of x)) rows
  one_has r s at_r at_s p q = one_alike (λ r. f.key (f.row_in r)) rows held.apart r s at_r at_s (to_key r at_r p ∙ sym (to_key s at_s q))

  pub own_place : (id : ℤ) → IsPlace (HasKey key_at (key_of x)) rows id → IsPlaceFor f (f.key x) rows id
  own_place id place r here = (λ tie. to_key r here ((place r here).0 tie), λ is. (place r here).1 (from_own r here is))

  pub none_of_own : ((r : Row) → Has rows r → HasKey key_at (key_of x) r → ⊥) → (r : Row) → Has rows r → f.key (f.row_in r) ≡ f.key x → ⊥
  none_of_own lacks r here is = lacks r here (from_own r here is)

-- ---- rows taken by the id of their write

same_tests : (a b : Bool) → (a ≡ true → b ≡ true) → (b ≡ true → a ≡ true) → a ≡ b
same_tests true b p q = sym (p refl)
same_tests false true p q = q refl
same_tests false false p q = refl

among_one : (k id : Id) → k ≡ id → is_among k (id ∷ []) ≡ true
among_one k id is = subst (λ i. is_among k (i ∷ []) ≡ true) is (ap (λ b. b || false) (same_id_refl k))

one_among : (k id : Id) → is_among k (id ∷ []) ≡ true → k ≡ id
one_among k id e = same_id-true k id (go (same_id k id) e)
  where
    go : (b : Bool) → (b || false) ≡ true → b ≡ true
    go true e = refl
    go false e = e

filter_all : {X : Type 0} (p : X → Bool) (xs : List X) → ((x : X) → In x xs → p x ≡ true) → filter p xs ≡ xs
filter_all p [] all = refl
filter_all p (x ∷ xs) all = rw (all x (inl refl)) (ap (λ ys. x ∷ ys) (filter_all p xs (λ y h. all y (inr h))))

module _ {R K : Type 0} (f : Form R K) (key_of : R → Row) (key_at : List ℕ) (keyed : (r : Row) → IsRowOf f r → map (column r) key_at ≡ key_of (f.row_in r))
    (alike : (a b : R) (rest : Row) → prefix_cmp plain (key_of a ++ rest) (key_of b) ≡ Equal → f.key a ≡ f.key b)
    (id_of : R → Id) (by_id : (x : R) → key_of x ≡ id_key (id_of x)) (rows : List Row) (held : IsHeld f rows) (id : Id) where
  id_columns : (r : Row) → Has rows r → map (column r) key_at ≡ id_key (id_of (f.row_in r))
  id_columns r here = keyed r (all_has (IsRowOf f) rows r held.whole here) ∙ by_id (f.row_in r)

  to_id : (r : Row) → Has rows r → HasKey key_at (id_key id) r → id_of (f.row_in r) ≡ id
  to_id r here has = id_alike (id_of (f.row_in r)) id (rowid r ∷ []) (subst (λ k. prefix_cmp plain (k ++ rowid r ∷ []) (id_key id) ≡ Equal) (id_columns r here) has)

  from_id : (r : Row) → Has rows r → id_of (f.row_in r) ≡ id → HasKey key_at (id_key id) r
  from_id r here is = subst (λ k. prefix_cmp plain (k ++ rowid r ∷ []) (id_key id) ≡ Equal) (sym (id_columns r here ∙ ap id_key is)) (id_same id (rowid r ∷ []))

  pub one_id : IsAlone (HasKey key_at (id_key id)) rows
  one_id r s at_r at_s p q =
      let other : id_key id ≡ key_of (f.row_in s) = sym (by_id (f.row_in s) ∙ ap id_key (to_id s at_s q)) in
      let own = keyed r (all_has (IsRowOf f) rows r held.whole at_r) in
      let tie = subst (λ k. prefix_cmp plain (k ++ rowid r ∷ []) (key_of (f.row_in s)) ≡ Equal) own (subst (λ k. prefix_cmp plain (entry_of key_at r) k ≡ Equal) other p) in
      one_alike (λ r. f.key (f.row_in r)) rows held.apart r s at_r at_s (alike (f.row_in r) (f.row_in s) (rowid r ∷ []) tie)

  -- the row at the place is the one with the id
  pub gone_at : (at : ℤ) → IsPlace (HasKey key_at (id_key id)) rows at → (r : Row) → Has rows r → has_rowid at r ≡ is_among (id_of (f.row_in r)) (id ∷ [])
  gone_at at place r here =
      let tied = Equal-is (value_cmp (rowid r) (Int at)) in
      same_tests (has_rowid at r) (is_among (id_of (f.row_in r)) (id ∷ [])) (λ e. among_one _ id (to_id r here ((place r here).0 (tied.0 e))))
      (λ e. tied.1 ((place r here).1 (from_id r here (one_among _ id e))))

  -- no row has the id, so none is taken
  pub none_gone : ((r : Row) → Has rows r → HasKey key_at (id_key id) r → ⊥) → (o : IsOrder K f.before) → rows_without id_of (id ∷ []) (in_order f rows) ≡ in_order f rows
  none_gone lacks o = filter_all (λ row. not (is_among (id_of row) (id ∷ []))) (in_order f rows) stays
    where
      stays : (x : R) → In x (in_order f rows) → not (is_among (id_of x) (id ∷ [])) ≡ true
      stays x h = go (is_among (id_of x) (id ∷ [])) refl
        where
          found : (r : Row) × In r rows × (x ≡ f.row_in r)
          found = map_has f.row_in x rows (ordered_has f.before f.key o (map f.row_in rows) x h)

          go : (b : Bool) → is_among (id_of x) (id ∷ []) ≡ b → not b ≡ true
          go false e = refl
          go true e = let here = has_in rows found.0 found.1 in absurd (lacks found.0 here (from_id found.0 here (ap id_of (sym found.2) ∙ one_among _ id e)))

-- `meta` has one row, so the last is it
pub last_place : {R K : Type 0} (f : Form R K) (k : K) (rows front : List Row) (last : Row) (id : ℤ) → IsHeld f rows
    → ((r : Row) → f.key (f.row_in r) ≡ k) → rows ≡ front ++ last ∷ [] → rowid last ≡ Int id → IsPlaceFor f k rows id
last_place f k rows front last id held one is own r here = (
  λ tie. one r,
  λ same. subst (λ x. value_cmp (rowid x) (Int id) ≡ Equal) (sym alone) (subst (λ v. value_cmp v (Int id) ≡ Equal) (sym own) (tied_itself value_cmp_total (Int id))),
)
  where
    ends : (xs : List Row) → Has (xs ++ last ∷ []) last
    ends [] = inl refl
    ends (y ∷ xs) = inr (ends xs)

    alone : r ≡ last
    alone = one_alike (λ x. f.key (f.row_in x)) rows held.apart r last here (subst (λ (xs : List Row). Has xs last) (sym is) (ends front)) (one r ∙ sym (one last))
