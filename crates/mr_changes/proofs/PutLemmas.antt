-- What putting a row at its rowid and taking one away make of a table that is held.
use Rattle.std.proofs.Common.{◌≡◌, ◌⊎◌, inl, inr, ℤ, Bool, true, false, not, cond, List, [], ◌∷◌, map, filter, refl, sym, ap, subst, ◌∙◌, Ordering, Less, Equal, Greater}
use Rattle.std.specs.List.{AllByRecursion}
use Rattle.std.proofs.lemmas.Cmp.{tied_itself}
use Rattle.sqlite_value.specs.declared.value.Value.TheVariants.{Int}
use Rattle.sqlite_value.specs.Order.{Row, value_cmp}
use Rattle.sqlite_value.proofs.OrderLemmas.{value_cmp_total}
use Rattle.sqlite_trees.specs.Tree.{rowid, IsAscending, has_rowid, put_row, without_rowid}
use Rattle.sqlite_trees.proofs.TreeLemmas.{all-put_row, IsTable-put_row}
use Rattle.sqlite_trees.proofs.ListLemmas.{all-filter, ascending-filter}
use Rattle.sqlite_rules.specs.Lists.{Has}
use Rattle.sqlite_rules.proofs.ListLemmas.{all_has, all_from}
use Rattle.sqlite_rules.proofs.TableLemmas.{has_put, put_has}
use Rattle.mr_model.specs.Dropped.{Has as In}
use Rattle.mr_model.proofs.Members.{has_map, map_has}
use Rattle.mr_tables.specs.Change.{put, put_all}
use Rattle.mr_tables.specs.TableOrders.{IsOrder}
use Rattle.mr_tables.proofs.Putting.{puts_make, Lacks}
use Rattle.mr_rows.specs.Form.{Form}
use Rattle.mr_rows.specs.Database.{IsRowOf, IsHeld, in_order}
use Rattle.mr_rows.proofs.RowLemmas.{shelf_filter}
use Rattle.mr_rows.proofs.TableLemmas.{keys_apart}
use Rattle.mr_rows.proofs.SortedByKey.{ordered-filter, ordered_has, has_ordered, ordered_in_order}
use Rattle.mr_changes.specs.Found.{IsPlaceFor}

-- ---- lists

in_has : {X : Type 0} (xs : List X) (x : X) → Has xs x → In x xs
in_has [] x h = h
in_has (y ∷ ys) x (inl e) = inl e
in_has (y ∷ ys) x (inr h) = inr (in_has ys x h)

pub has_in : {X : Type 0} (xs : List X) (x : X) → In x xs → Has xs x
has_in [] x h = h
has_in (y ∷ ys) x (inl e) = inl e
has_in (y ∷ ys) x (inr h) = inr (has_in ys x h)

-- what holds of each two of which one is below the other
ascending_so : {X : Type 0} (P Q : X → X → Type 0) (xs : List X) → IsAscending P xs → ((a b : X) → Has xs a → Has xs b → P a b → Q a b) → IsAscending Q xs
ascending_so P Q [] up so = tt
ascending_so P Q (x ∷ xs) up so = (all_from (Q x) xs (λ y h. so x y (inl refl) (inr h) (all_has (P x) xs y up.0 h)), ascending_so P Q xs up.1 (λ a b h k. so a b (inr h) (inr k)))

-- of rows that are apart, two that are alike are one
pub one_alike : {X K : Type 0} (key : X → K) (xs : List X) → IsAscending (λ a b. key a ≡ key b → ⊥) xs → (a b : X) → Has xs a → Has xs b → key a ≡ key b → a ≡ b
one_alike key [] up a b h k same = absurd h
one_alike key (x ∷ xs) up a b (inl p) (inl q) same = p ∙ sym q
one_alike key (x ∷ xs) up a b (inl p) (inr k) same = absurd (all_has (λ y. key x ≡ key y → ⊥) xs b up.0 k (ap key (sym p) ∙ same))
one_alike key (x ∷ xs) up a b (inr h) (inl q) same = absurd (all_has (λ y. key x ≡ key y → ⊥) xs a up.0 h (ap key (sym q) ∙ sym same))
one_alike key (x ∷ xs) up a b (inr h) (inr k) same = one_alike key xs up.1 a b h k same

-- a row with another rowid stays
put_spares : (new : Row) (rows : List Row) (x : Row) → Has rows x → (value_cmp (rowid x) (rowid new) ≡ Equal → ⊥) → Has (put_row new rows) x
put_spares new [] x h other = absurd h
put_spares new (r ∷ rows) x h other = go (value_cmp (rowid r) (rowid new)) refl (put_spares new rows x)
  where
    go : (o : Ordering) → value_cmp (rowid r) (rowid new) ≡ o → (Has rows x → (value_cmp (rowid x) (rowid new) ≡ Equal → ⊥) → Has (put_row new rows) x) → Has (put_row new (r ∷ rows)) x
    go Less e later = rw e (elim h [ inl same ↦ inl same | inr more ↦ inr (later more other) ])
    go Equal e later = rw e (elim h [ inl same ↦ absurd (other (rw same e)) | inr more ↦ inr more ])
    go Greater e later = rw e (inr h)

never_below : (a : Row) → value_cmp (rowid a) (rowid a) ≡ Less → ⊥
never_below a low = let tie = tied_itself value_cmp_total (rowid a) in absurd (let e : Less ≡ Equal = sym low ∙ tie in cc)

module _ {R K : Type 0} (f : Form R K) (o : IsOrder K f.before) where
  -- ---- a row put at the rowid of its key

  module _ (x : R) (id : ℤ) (rows : List Row) (back : f.row_in (Int id ∷ f.cells x) ≡ x) (held : IsHeld f rows) (place : IsPlaceFor f (f.key x) rows id) where
    abbrev new : Row
    new = Int id ∷ f.cells x

    key_new : f.key (f.row_in new) ≡ f.key x
    key_new = ap f.key back

    apart : (a b : Row) → Has (put_row new rows) a → Has (put_row new rows) b → value_cmp (rowid a) (rowid b) ≡ Less → f.key (f.row_in a) ≡ f.key (f.row_in b) → ⊥
    apart a b at_a at_b low same = go (put_has new rows a at_a) (put_has new rows b at_b)
      where
        go : (a ≡ new) ⊎ Has rows a → (b ≡ new) ⊎ Has rows b → ⊥
        go (inl p) (inl q) = never_below a (subst (λ r. value_cmp (rowid a) (rowid r) ≡ Less) (q ∙ sym p) low)
        go (inl p) (inr k) =
            let tie = (place b k).1 (sym same ∙ ap (λ r. f.key (f.row_in r)) p ∙ key_new) in
            let lower : value_cmp (Int id) (rowid b) ≡ Less = subst (λ r. value_cmp (rowid r) (rowid b) ≡ Less) p low in
            let back_tie : value_cmp (Int id) (rowid b) ≡ Equal = flipped (rowid b) tie in
            absurd (let e : Less ≡ Equal = sym lower ∙ back_tie in cc)
          where
            flipped : (v : _) → value_cmp v (Int id) ≡ Equal → value_cmp (Int id) v ≡ Equal
            flipped v e = value_cmp_total.antisymm (Int id) v ∙ ap Rattle.std.specs.Ordering.ordering_reverse e
        go (inr h) (inl q) =
            let tie = (place a h).1 (same ∙ ap (λ r. f.key (f.row_in r)) q ∙ key_new) in
            let lower : value_cmp (rowid a) (Int id) ≡ Less = subst (λ r. value_cmp (rowid a) (rowid r) ≡ Less) q low in
            absurd (let e : Less ≡ Equal = sym lower ∙ tie in cc)
        go (inr h) (inr k) = never_below a (subst (λ r. value_cmp (rowid a) (rowid r) ≡ Less) (sym (one_alike (λ r. f.key (f.row_in r)) rows held.apart a b h k same)) low)

    pub put_held : IsHeld f (put_row new rows)
    put_held = record {
      shelf = record { rise = IsTable-put_row new rows held.shelf.rise; keyed = all-put_row _ new rows refl held.shelf.keyed };
      whole = all-put_row (IsRowOf f) new rows (ap (λ y. Int id ∷ f.cells y) (sym back)) held.whole;
      apart = ascending_so _ _ (put_row new rows) (IsTable-put_row new rows held.shelf.rise) apart;
    }

    pub put_is : in_order f (put_row new rows) ≡ put f.before f.key x (in_order f rows)
    put_is = sym (puts_make f.before f.key o (x ∷ []) (in_order f rows) (in_order f (put_row new rows))
        (ordered_in_order f.before f.key o (map f.row_in rows)) (ordered_in_order f.before f.key o (map f.row_in (put_row new rows))) news olds others)
      where
        there : (r : Row) → Has (put_row new rows) r → In (f.row_in r) (in_order f (put_row new rows))
        there r h = has_ordered f.before f.key o (map f.row_in (put_row new rows)) (keys_apart f (put_row new rows) put_held)
            (f.row_in r) (has_map f.row_in r (put_row new rows) (in_has (put_row new rows) r h))

        news : (row : R) → In row (x ∷ []) → In row (in_order f (put_row new rows))
        news row (inl e) = subst (λ y. In y (in_order f (put_row new rows))) (back ∙ sym e) (there new (has_put new rows))
        news row (inr h) = absurd h

        olds : (row : R) → In row (in_order f rows) → Lacks f.key (f.key row) (x ∷ []) → In row (in_order f (put_row new rows))
        olds row h lacks =
            let found = map_has f.row_in row rows (ordered_has f.before f.key o (map f.row_in rows) row h) in
            let r = found.0 in
            let here = has_in rows r found.1 in
            subst (λ y. In y (in_order f (put_row new rows))) (sym found.2)
            (there r (put_spares new rows r here (λ tie. lacks x (inl refl) (sym (ap f.key found.2 ∙ (place r here).0 tie)))))

        others : (row : R) → In row (in_order f (put_row new rows)) → In row (x ∷ []) ⊎ In row (in_order f rows)
        others row h =
            let found = map_has f.row_in row (put_row new rows) (ordered_has f.before f.key o (map f.row_in (put_row new rows)) row h) in
            let r = found.0 in
            go r found.2 (put_has new rows r (has_in (put_row new rows) r found.1))
          where
            go : (r : Row) → row ≡ f.row_in r → (r ≡ new) ⊎ Has rows r → In row (x ∷ []) ⊎ In row (in_order f rows)
            go r is (inl e) = inl (inl (is ∙ ap f.row_in e ∙ back))
            go r is (inr k) =
                inr (subst (λ y. In y (in_order f rows)) (sym is) (has_ordered f.before f.key o (map f.row_in rows) (keys_apart f rows held) (f.row_in r) (has_map f.row_in r rows (in_has rows r k))))

  -- ---- a row taken away

  pub taken_held : (test : Row → Bool) (rows : List Row) → IsHeld f rows → IsHeld f (filter test rows)
  taken_held test rows held = record {
    shelf = shelf_filter test rows held.shelf;
    whole = all-filter _ test rows held.whole;
    apart = ascending-filter _ test rows held.apart;
  }

  kept_in : (test : Row → Bool) (plain : R → Bool) (rows : List Row) → ((r : Row) → Has rows r → test r ≡ plain (f.row_in r)) → map f.row_in (filter test rows) ≡ filter plain (map f.row_in rows)
  kept_in test plain [] same = refl
  kept_in test plain (r ∷ rows) same =
      rw (same r (inl refl))
      (elim (plain (f.row_in r)) as (λ b. map f.row_in (cond b (r ∷ filter test rows) (filter test rows)) ≡ cond b (f.row_in r ∷ filter plain (map f.row_in rows)) (filter plain (map f.row_in rows)))
      [ true ↦ ap (λ xs. f.row_in r ∷ xs) (kept_in test plain rows (λ s h. same s (inr h))) | false ↦ kept_in test plain rows (λ s h. same s (inr h)) ])

  pub taken_is : (id : ℤ) (gone : R → Bool) (rows : List Row) → IsHeld f rows → ((r : Row) → Has rows r → has_rowid id r ≡ gone (f.row_in r))
      → in_order f (without_rowid id rows) ≡ filter (λ x. not (gone x)) (in_order f rows)
  taken_is id gone rows held same =
      ap (λ xs. put_all f.before f.key xs []) (kept_in (λ r. not (has_rowid id r)) (λ x. not (gone x)) rows (λ r h. ap not (same r h)))
      ∙ ordered-filter f.before f.key o (λ x. not (gone x)) (map f.row_in rows) (keys_apart f rows held)
