-- What removing by rowid and putting at a fresh rowid make of the rows of a table.
use Rattle.std.proofs.Common.{◌≡◌, ℤ, pos, List, [], ◌∷◌, ◌++◌, filter, fold, Bool, true, false, not, ◌&&◌, if◌then◌else◌, IsTrue, refl, sym, ap, subst, ◌∙◌, arith, Less, Equal}
use Rattle.std.proofs.lemmas.Int.{ints}
use Rattle.std.specs.Prelude.{◌||◌, ◌<ℤ◌, ◌+ℤ◌}
use Rattle.std.specs.List.{AllByRecursion, list_any}
use Rattle.std.specs.Ordering.{is_eq}
use Rattle.std.proofs.lemmas.Cmp.{tied_itself}
use Rattle.sqlite_value.specs.declared.value.Value.TheVariants.{Int}
use Rattle.sqlite_value.specs.Order.{Row, value_cmp}
use Rattle.sqlite_value.proofs.OrderLemmas.{value_cmp_total, value_cmp-Int}
use Rattle.sqlite_trees.specs.Tree.{rowid, IsTable, IsAscending, has_rowid, put_row, without_rowid}
use Rattle.sqlite_trees.specs.View.{is_int}
use Rattle.sqlite_keyed.proofs.KeyedLemmas.{Less-from_lt, lt_from_Less}
use Rattle.sqlite_trees.proofs.ListLemmas.{all_of, all_weaker, all-append, all-filter, ascending-append, ascending-filter, filter_all, filter_same}
use Rattle.sqlite_rules.specs.Lists.{Has}
use Rattle.sqlite_rules.specs.Edit.{id_in, next_rowid, without_all}
use Rattle.sqlite_rules.proofs.ListLemmas.{all_has, all_from, some_has, some_from}
use Rattle.sqlite_rules.specs.Calls.{ids_of}
use Rattle.sqlite_rules.proofs.ProbeLemmas.{has_mapped, mapped_has}
use Rattle.sqlite_rules.proofs.TableLemmas.{int_is}
use Rattle.sqlite_rules.proofs.PlaceLemmas.{Tied, tied_same}
use Rattle.mr_model.proofs.MembersAlike.{bool_same}
use Rattle.mr_rows.specs.Shelf.{IsShelf}
use Rattle.mr_replay.proofs.IdKeys.{is_eq-Equal}

-- a test that all pass
pub filter_all_true : {X : Type 0} (xs : List X) → filter (λ _. true) xs ≡ xs
filter_all_true xs = filter_all (λ _. true) xs (all_of (λ _. true ≡ true) (λ _. refl) xs)

-- what passes two tests, one after the other
filter_both : {X : Type 0} (p q : X → Bool) (xs : List X) → filter p (filter q xs) ≡ filter (λ x. q x && p x) xs
filter_both p q [] = refl
filter_both p q (x ∷ xs) =
    elim (q x) as (λ b. filter p (if b then x ∷ filter q xs else filter q xs) ≡ (if (b && p x) then x ∷ filter (λ y. q y && p y) xs else filter (λ y. q y && p y) xs))
    [ true ↦ rw (filter_both p q xs) | false ↦ filter_both p q xs ]

-- rows that go one after the other go together
without_is : (rows : List Row) (gone : List ℤ) → without_all rows gone ≡ filter (λ r. not (list_any (λ id. has_rowid id r) gone)) rows
without_is rows [] = sym (filter_all_true rows)
without_is rows (id ∷ gone) =
    without_is (without_rowid id rows) gone
    ∙ filter_both (λ r. not (list_any (λ i. has_rowid i r) gone)) (λ r. not (has_rowid id r)) rows
    ∙ filter_same _ _ rows
    (all_of _ (λ r. elim (has_rowid id r) as (λ b. (not b && not (list_any (λ i. has_rowid i r) gone)) ≡ not (b || list_any (λ i. has_rowid i r) gone)) [ true ↦ refl | false ↦ refl ]) rows)

-- Of the rows of a table those go whose rowids are those of rows that were found: just the ones that pass the test.
pub removed : (rows found : List Row) (test : Row → Bool) → IsShelf rows
    → ((x : Row) → Has found x → (r : Row) × Has rows r × (test r ≡ true) × (id_in (rowid x) ≡ id_in (rowid r)))
    → ((r : Row) → Has rows r → test r ≡ true → (x : Row) × Has found x × (id_in (rowid x) ≡ id_in (rowid r)))
    → without_all rows (ids_of found) ≡ filter (λ r. not (test r)) rows
removed rows found test shelf sound complete = without_is rows (ids_of found) ∙ filter_same _ _ rows (all_from _ rows (λ r here. ap not (bool_same _ _ (out r here) (back r here))))
  where
    whole : (r : Row) → Has rows r → rowid r ≡ Int (id_in (rowid r))
    whole r here = int_is (rowid r) (all_has _ rows r shelf.keyed here)

    out : (r : Row) → Has rows r → list_any (λ id. has_rowid id r) (ids_of found) ≡ true → test r ≡ true
    out r here some =
        let it = some_has (λ id. has_rowid id r) (ids_of found) some in
        let x = has_mapped (λ y. id_in (rowid y)) found it.0 it.1 in
        let other = sound x.0 x.1 in
        let is : rowid other.0 ≡ Int it.0 = whole other.0 other.1 ∙ ap Int (sym (x.2 ∙ other.3)) in
        let tie : Tied r other.0 = subst (λ v. value_cmp (rowid r) v ≡ Equal) (sym is) (is_eq-Equal _ it.2) in
        subst (λ x. test x ≡ true) (sym (tied_same rows r other.0 shelf.rise here other.1 tie)) other.2

    back : (r : Row) → Has rows r → test r ≡ true → list_any (λ id. has_rowid id r) (ids_of found) ≡ true
    back r here does =
        let x = complete r here does in
        some_from (λ id. has_rowid id r) (ids_of found) (id_in (rowid r)) (subst (Has (ids_of found)) x.2 (mapped_has (λ y. id_in (rowid y)) found x.0 x.1))
        (ap is_eq (subst (λ v. value_cmp (rowid r) v ≡ Equal) (whole r here) (tied_itself value_cmp_total (rowid r))))

-- a row above all others goes to the end
pub put_last : (new : Row) (rows : List Row) → AllByRecursion (λ r. value_cmp (rowid r) (rowid new) ≡ Less) rows → put_row new rows ≡ rows ++ new ∷ []
put_last new [] all = refl
put_last new (r ∷ rows) all = rw (all.0, put_last new rows all.1)

abbrev step_rowid : ℤ → Row → ℤ
step_rowid n r = id_in (rowid r) +ℤ pos 1

below_next : (x : Row) (rows : List Row) → IsTable (x ∷ rows) → AllByRecursion (λ r. IsTrue (is_int (rowid r))) (x ∷ rows)
    → AllByRecursion (λ r. id_in (rowid r) <ℤ fold step_rowid (step_rowid (pos 1) x) rows) (x ∷ rows)
below_next x [] up keyed = (omega (arith, ints), tt)
below_next x (y ∷ rows) up keyed =
    let later = below_next y rows up.1 keyed.1 in
    let lower = rw (int_is (rowid x) keyed.0, int_is (rowid y) keyed.1.0, value_cmp-Int (id_in (rowid x)) (id_in (rowid y))) at up.0.0 in
    let first = later.0 in
    (omega (arith, ints, lt_from_Less (id_in (rowid x)) (id_in (rowid y)) lower, first), later)

-- the next rowid is above each
pub next_above : (rows : List Row) → IsShelf rows → (r : Row) → Has rows r → value_cmp (rowid r) (Int (next_rowid rows)) ≡ Less
next_above [] shelf r here = absurd here
next_above (x ∷ rows) shelf r here =
    let low = all_has _ (x ∷ rows) r (below_next x rows shelf.rise shelf.keyed) here in
    let is : rowid r ≡ Int (id_in (rowid r)) = int_is (rowid r) (all_has _ (x ∷ rows) r shelf.keyed here) in
    subst (λ v. value_cmp v (Int (next_rowid (x ∷ rows))) ≡ Less) (sym is) (value_cmp-Int _ _ ∙ Less-from_lt _ _ low)

pub shelf_filter : (test : Row → Bool) (rows : List Row) → IsShelf rows → IsShelf (filter test rows)
shelf_filter test rows shelf = record { rise = ascending-filter _ test rows shelf.rise; keyed = all-filter _ test rows shelf.keyed }

pub ascending_push : (R : Row → Row → Type 0) (xs : List Row) (x : Row) → IsAscending R xs → AllByRecursion (λ y. R y x) xs → IsAscending R (xs ++ x ∷ [])
ascending_push R xs x up low = ascending-append R xs (x ∷ []) up (tt, tt) (all_weaker (λ y. R y x) _ (λ y h. (h, tt)) xs low)

pub shelf_push : (rows : List Row) (id : ℤ) (cells : Row) → IsShelf rows → AllByRecursion (λ r. value_cmp (rowid r) (Int id) ≡ Less) rows → IsShelf (rows ++ (Int id ∷ cells) ∷ [])
shelf_push rows id cells shelf low = record { rise = ascending_push _ rows (Int id ∷ cells) shelf.rise low; keyed = all-append _ rows ((Int id ∷ cells) ∷ []) shelf.keyed (refl, tt) }
