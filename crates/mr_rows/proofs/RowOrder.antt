-- Rows that were found of a table, sorted by their keys, are the table in order.
use Rattle.std.proofs.Common.{◌≡◌, ℕ, zero, suc, ◌+◌, Bool, true, false, if◌then◌else◌, List, [], ◌∷◌, length, map, IsTrue, refl, sym, ap, subst, ◌∙◌, Ordering, Less, Equal, Greater}
use Rattle.std.specs.List.{AllByRecursion}
use Rattle.std.specs.List.Sorted.{IsPermutation, IsSorted}
use Rattle.std.specs.Cmp.{IsTotalOrder}
use Rattle.std.specs.Ordering.{ordering_reverse}
use Rattle.std.proofs.lemmas.List.Sorted.{IsPermutation-map, IsPermutation-sym, IsPermutation-trans}
use Rattle.sqlite_value.specs.declared.value.Value.TheVariants.{Null}
use Rattle.sqlite_value.specs.Order.{Row}
use Rattle.sqlite_trees.specs.Tree.{Trees, IsAscending}
use Rattle.mr_tables.specs.TableOrders.{IsOrder, InOrder}
use Rattle.mr_rows.specs.Form.{Form}
use Rattle.mr_rows.specs.Database.{IsHeld, in_order}
use Rattle.mr_rows.specs.Shown.{columns_from, IsShownAs, IsStoredAs, AreStoredAs}
use Rattle.mr_rows.specs.Kept.{order_by, AreTested, AreRowsOf}
use Rattle.sqlite_keyed.proofs.SortLemmas.{sorted_unique}
use Rattle.mr_rows.proofs.SortedByKey.{ordered_same, ordered_in_order}
use Rattle.mr_rows.proofs.TableLemmas.{keys_apart}
use Rattle.mr_rows.proofs.FoundLemmas.{stored_so, spelled}

-- ---- the comparison of keys

module _ {R K : Type 0} (before : K → K → Bool) (key : R → K) (o : IsOrder K before) where
  abbrev less : R → R → Bool
  less a b = before (key a) (key b)

  abbrev picks : Bool → Bool → Ordering
  picks p q = if p then Less else if q then Greater else Equal

  less_is : (a b : R) → order_by less a b ≡ Less → less a b ≡ true
  less_is a b = go (less a b) (less b a)
    where
      go : (p q : Bool) → picks p q ≡ Less → p ≡ true
      go true q h = refl
      go false true h = absurd (cc)
      go false false h = absurd (cc)

  equal_is : (a b : R) → order_by less a b ≡ Equal → key a ≡ key b
  equal_is a b h = let both = go (less a b) (less b a) h in o.total (key a) (key b) both.0 both.1
    where
      go : (p q : Bool) → picks p q ≡ Equal → (p ≡ false) × (q ≡ false)
      go true q h = absurd (cc)
      go false true h = absurd (cc)
      go false false h = (refl, refl)

  pub less_from : (a b : R) → less a b ≡ true → order_by less a b ≡ Less
  less_from a b h = ap (λ p. picks p (less b a)) h

  pub rows_total : IsTotalOrder (order_by less)
  rows_total = record {
    antisymm = λ a b. go (less a b) (less b a) (λ h g. o.irreflexive (key a) (o.transitive (key a) (key b) (key a) h g));
    trans = λ a b c h g. less_from a c (o.transitive (key a) (key b) (key c) (less_is a b h) (less_is b c g));
    congr = λ a b c h. ap (λ k. picks (before k (key c)) (before (key c) k)) (equal_is a b h);
  }
    where
      go : (p q : Bool) → (p ≡ true → q ≡ true → ⊥) → picks p q ≡ ordering_reverse (picks q p)
      go true true never = absurd (never refl refl)
      go true false never = refl
      go false true never = refl
      go false false never = refl

  pub rises : (xs : List R) → InOrder before key xs → IsAscending (λ a b. order_by less a b ≡ Less) xs
  rises [] up = tt
  rises (x ∷ xs) up = (all xs up.0, rises xs up.1)
    where
      all : (ys : List R) → AllByRecursion (λ y. less x y ≡ true) ys → AllByRecursion (λ y. order_by less x y ≡ Less) ys
      all [] h = tt
      all (y ∷ ys) h = (less_from x y h.0, all ys h.1)

-- ---- what holds of the columns that a query shows holds of the stored row, and the other way round

module _ {R K : Type 0} (f : Form R K) (show_as : (r : Row) → f.row_in (Null ∷ columns_from 1 (length f.table.columns) r) ≡ f.row_in r) where
  many : (n at : ℕ) (r : Row) → length (columns_from at n r) ≡ n
  many zero at r = refl
  many (suc n) at r = ap suc (many n (at + 1) r)

  again : (r : Row) → columns_from 0 (length f.table.columns) (columns_from 1 (length f.table.columns) r) ≡ columns_from 1 (length f.table.columns) r
  again r = let shown = columns_from 1 (length f.table.columns) r in sym (spelled shown ∙ ap (λ n. columns_from 0 n shown) (many (length f.table.columns) 1 r))

  pub stored_is : (r : Row) → IsShownAs f (columns_from 1 (length f.table.columns) r) → IsStoredAs f r
  stored_is r is = (ap f.cells (sym (show_as r)) ∙ is.0 ∙ again r, subst (λ x. IsTrue (f.within x)) (show_as r) is.1)

  pub shown_is : (r : Row) → IsStoredAs f r → IsShownAs f (columns_from 1 (length f.table.columns) r)
  shown_is r is = (ap f.cells (show_as r) ∙ is.0 ∙ sym (again r), subst (λ x. IsTrue (f.within x)) (sym (show_as r)) is.1)

-- ---- rows

module _ {R K : Type 0} (f : Form R K) (o : IsOrder K f.before) where
  -- a table that is held, as a query shows it
  pub shown_rows : (show : Row → Row) (stored shown : List Row) → ((r : Row) → f.row_in (Null ∷ show r) ≡ f.row_in r) → IsHeld f stored
      → IsPermutation (map show stored) shown → IsPermutation (in_order f stored) (map (λ row. f.row_in (Null ∷ row)) shown)
  shown_rows show stored shown same held moved =
      IsPermutation-trans _ _ _ (IsPermutation-sym _ _ (ordered_same f.before f.key o (map f.row_in stored) (keys_apart f stored held)))
      (subst (λ xs. IsPermutation xs (map (λ row. f.row_in (Null ∷ row)) shown)) (twice stored) (IsPermutation-map (λ row. f.row_in (Null ∷ row)) _ shown moved))
    where
      twice : (rows : List Row) → map (λ row. f.row_in (Null ∷ row)) (map show rows) ≡ map f.row_in rows
      twice [] = refl
      twice (r ∷ rows) = let one = same r in let more = twice rows in λ i. one i ∷ more i

  -- rows that were tested, and sorted if they were kept
  pub found : (keep : Bool) (trees : Trees) (rows out : List R) → ((r : Row) → f.row_in (Null ∷ columns_from 1 (length f.table.columns) r) ≡ f.row_in r)
      → AreTested f keep trees rows → IsPermutation rows out → IsSorted (order_by (λ a b. f.before (f.key a) (f.key b))) out → AreStoredAs f trees × (IsTrue keep → AreRowsOf f trees out)
  found keep trees rows out show_as tested same sorted =
      let show = columns_from 1 (length f.table.columns) in
      let stored = trees f.table.tree in (
        stored_so (IsShownAs f) (IsStoredAs f) show stored tested.0 (stored_is f show_as) tested.1 tested.2.0,
        λ kept held.
            sorted_unique _ (rows_total f.before f.key o) (in_order f stored) out (rises f.before f.key o _ (ordered_in_order f.before f.key o (map f.row_in stored)))
            (IsPermutation-trans _ _ _ (shown_rows show stored tested.0 show_as held tested.1) (subst (λ xs. IsPermutation xs out) (tested.2.1 kept) same)) sorted,
      )
