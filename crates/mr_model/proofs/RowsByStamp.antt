-- Rows in the order of stamps, of which some are left out.
use Rattle.std.proofs.Common.{◌≡◌, refl, sym, ap, ◌∙◌, subst, ℕ, zero, suc, Bool, true, false, cond, List, [], ◌∷◌, take, ◌⊎◌, inl, inr, arith}
use Rattle.std.proofs.lemmas.Bool.{cond-true, cond-false}
use Rattle.std.proofs.lemmas.Bool.Decides.{nat_tests}
use Rattle.std.specs.List.{AllByRecursion, filter}
use Rattle.mr_model.specs.Tables.{LogRow}
use Rattle.mr_model.specs.Dropped.{Has}
use Rattle.mr_model.specs.Scopes.{row_before, put_row, by_stamp}
use Rattle.mr_model.proofs.Members.{Sorted, has_all, all_has, filter_has}
use Rattle.mr_model.proofs.InScope.{has_put}

-- the second doesn't belong before the first; rows of one stamp may stand in either order
abbrev NotAfter : LogRow → LogRow → Type 0
NotAfter a b = row_before b a ≡ false

-- what is before a row is before what is not before that row
still_before : (a b c : LogRow) → row_before a b ≡ true → NotAfter b c → row_before a c ≡ true
still_before a b c e f = grind (arith, nat_tests)

before_not_after : (a b : LogRow) → row_before a b ≡ true → NotAfter a b
before_not_after a b e = grind (arith, nat_tests)

put_in_order : (x : LogRow) (rows : List LogRow) → Sorted NotAfter rows → Sorted NotAfter (put_row x rows)
put_in_order x [] s = (tt, tt)
put_in_order x (y ∷ ys) s = go (row_before x y) refl (put_in_order x ys s.1)
  where
    go : (b : Bool) → row_before x y ≡ b → Sorted NotAfter (put_row x ys) → Sorted NotAfter (cond b (x ∷ y ∷ ys) (y ∷ put_row x ys))
    go true e ih = ((before_not_after x y e, has_all (NotAfter x) ys (λ row h. before_not_after x row (still_before x y row e (all_has (NotAfter y) row ys s.0 h)))), s)
    go false e ih = (has_all (NotAfter y) (put_row x ys) (λ row h. under row (has_put x row ys h)), ih)
      where
        under : (row : LogRow) → (row ≡ x) ⊎ Has row ys → NotAfter y row
        under row (inl f) = subst (NotAfter y) (sym f) e
        under row (inr h) = all_has (NotAfter y) row ys s.0 h

by_stamp_in_order : (rows : List LogRow) → Sorted NotAfter (by_stamp rows)
by_stamp_in_order [] = tt
by_stamp_in_order (x ∷ xs) = put_in_order x (by_stamp xs) (by_stamp_in_order xs)

-- a row that is before all of them is put in front
put_first : (x : LogRow) (rows : List LogRow) → AllByRecursion (λ row. row_before x row ≡ true) rows → put_row x rows ≡ x ∷ rows
put_first x [] a = refl
put_first x (y ∷ ys) a = cond-true (row_before x y) (x ∷ y ∷ ys) (y ∷ put_row x ys) a.0

-- of rows in order those that pass are the same before and after another is put among them
passing_put : (p : LogRow → Bool) (x : LogRow) (rows : List LogRow) → Sorted NotAfter rows → filter p (put_row x rows) ≡ cond (p x) (put_row x (filter p rows)) (filter p rows)
passing_put p x [] s = refl
passing_put p x (y ∷ ys) s = go (row_before x y) refl (passing_put p x ys s.1)
  where
    before : row_before x y ≡ true → AllByRecursion (λ row. row_before x row ≡ true) (filter p (y ∷ ys))
    before e = has_all (λ row. row_before x row ≡ true) (filter p (y ∷ ys)) (λ row h. at row (filter_has p row (y ∷ ys) h).0)
      where
        at : (row : LogRow) → Has row (y ∷ ys) → row_before x row ≡ true
        at row (inl f) = ap (row_before x) f ∙ e
        at row (inr h) = still_before x y row e (all_has (NotAfter y) row ys s.0 h)

    later : row_before x y ≡ false → (c d : Bool) → cond c (y ∷ cond d (put_row x (filter p ys)) (filter p ys)) (cond d (put_row x (filter p ys)) (filter p ys))
        ≡ cond d (put_row x (cond c (y ∷ filter p ys) (filter p ys))) (cond c (y ∷ filter p ys) (filter p ys))
    later e true true = sym (cond-false (row_before x y) (x ∷ y ∷ filter p ys) (y ∷ put_row x (filter p ys)) e)
    later e true false = refl
    later e false d = refl

    go : (b : Bool) → row_before x y ≡ b → filter p (put_row x ys) ≡ cond (p x) (put_row x (filter p ys)) (filter p ys)
        → filter p (cond b (x ∷ y ∷ ys) (y ∷ put_row x ys)) ≡ cond (p x) (put_row x (filter p (y ∷ ys))) (filter p (y ∷ ys))
    go true e ih = ap (λ rows. cond (p x) rows (filter p (y ∷ ys))) (sym (put_first x (filter p (y ∷ ys)) (before e)))
    go false e ih = ap (λ rows. cond (p y) (y ∷ rows) rows) ih ∙ later e (p y) (p x)

-- so sorting and leaving out may be exchanged
pub passing_by_stamp : (p : LogRow → Bool) (rows : List LogRow) → filter p (by_stamp rows) ≡ by_stamp (filter p rows)
passing_by_stamp p [] = refl
passing_by_stamp p (x ∷ xs) = passing_put p x (by_stamp xs) (by_stamp_in_order xs) ∙ ap (λ rows. cond (p x) (put_row x rows) rows) (passing_by_stamp p xs) ∙ go (p x)
  where
    go : (b : Bool) → cond b (put_row x (by_stamp (filter p xs))) (by_stamp (filter p xs)) ≡ by_stamp (cond b (x ∷ filter p xs) (filter p xs))
    go true = refl
    go false = refl

-- the first so many, if they pass, are the first of those that pass
pub first_passing : {A : Type 0} (p : A → Bool) (k : ℕ) (xs : List A) → ((x : A) → Has x (take k xs) → p x ≡ true) → take k (filter p xs) ≡ take k xs
first_passing p zero xs f = refl
first_passing p (suc k) [] f = refl
first_passing {A} p (suc k) (x ∷ xs) f =
    ap (take (suc k)) (cond-true (p x) (x ∷ filter p xs) (filter p xs) (f x (inl refl)))
    ∙ ap (λ (ys : List A). x ∷ ys) (first_passing p k xs (λ y h. f y (inr h)))
